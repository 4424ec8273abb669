-- The subscript with the number, where there is one.
use Rattle.std.proofs.Common.{refl, sym, ap, ◌∙◌}
use Rattle.efl_expressions.proofs.TypeLemmas.{one_got, none_got}
use Rattle.efl_initial_values.specs.Offsets.{steps_if}
use Rattle.efl_initial_values.proofs.subscripts.steps_at.Goals as goal

pub returns-in-None : goal.returns-in-None
returns-in-None c = sym (ap (steps_if c.args.bound) (none_got c.args.subscripts.now c.args.subscripts.now c.args.number refl c.in-None.ensures.lookup.3))

pub returns-in-Some : goal.returns-in-Some
returns-in-Some c =
    c.steps.ensures
    ∙ sym (ap (steps_if c.args.bound) (one_got c.args.subscripts.now c.args.subscripts.now c.args.number c.in-Some.subscript.now refl c.in-Some.ensures.lookup.3.0 c.in-Some.ensures.lookup.1))
