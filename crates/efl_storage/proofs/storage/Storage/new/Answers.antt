-- No variable was met.
use Rattle.efl_storage.proofs.CountLemmas.{counts_none}
use Rattle.efl_storage.proofs.storage.Storage.new.Goals as goal

pub returns : goal.returns
returns c = λ us long. counts_none us c.args.many c.new.result c.in_ok-places.places.items long c.new.ensures (c.in_ok-places.ensures.items_if_clones_equal (λ y e. e))
