-- A list that is empty.
use Rattle.efl_places.proofs.ListLemmas.{none_behind}
use Rattle.efl_places.proofs.places.are_none.Goals as goal

pub returns : goal.returns
returns c = none_behind c.args.steps.now c.is_empty.result c.is_empty.ensures
