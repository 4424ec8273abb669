-- A list that is not empty.
use Rattle.efl_places.proofs.ListLemmas.{some_are}
use Rattle.efl_places.proofs.places.are_some.Goals as goal

pub returns : goal.returns
returns c = some_are c.args.list.now c.is_empty.result c.is_empty.ensures
