-- A list of blocks and names numbers the rows.
use Rattle.storage_assoc.specs.Naming.{index_by}
use Rattle.storage_assoc.proofs.NamingLemmas as naming
use Rattle.storage_assoc.proofs.laws.lists_serve.Goals as goal

pub returns : goal.returns
returns c = λ r find blocks dims sizes count rows ready listed. (rows, index_by find blocks, naming.is_table r find blocks dims sizes count rows ready listed)
