-- The law is a lemma of Lists.
use Rattle.format_io.proofs.Lists as lists
use Rattle.format_io.proofs.laws.editing_is_its_list.Goals as goal

pub returns : goal.returns
returns c = lists.runs_list
