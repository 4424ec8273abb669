-- The element of the first name, and the steps behind it.
use Rattle.efl_tree.specs.Views.{exprs_of}
use Rattle.efl_types.specs.Signatures.{many}
use Rattle.efl_types.specs.Types.{subscripted}
use Rattle.efl_initial_values.proofs.PlaceLemmas.{offset_none, offset_some}
use Rattle.efl_initial_values.proofs.offsets.offset.Goals as goal

pub returns-in-None : goal.returns-in-None
returns-in-None c = λ f t made. offset_none t c.args.place.now c.deref.result.now c.deref.ensures.value (c.in-None.ensures f t made)

pub returns-in-Some : goal.returns-in-Some
returns-in-Some c = λ f t made.
    let element = c.in-Some.ensures f t made in
    offset_some f c.args.structures.now.list.items t c.args.place.now c.deref.result.now c.deref-in-Some.result.now c.in-Some.reached c.deref.ensures.value c.deref-in-Some.ensures.value element c.offset_behind.result
    (c.offset_behind.ensures f (subscripted t (many (exprs_of c.deref.result.now))) element.is)
