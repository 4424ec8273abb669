-- A plus changes nothing.
use Rattle.std.proofs.Common.{sym, ap, ◌∙◌, w64, rules}
use Rattle.std.proofs.lemmas.Int.{to_z-of_z}
use Rattle.std.specs.Option.{option_and_then}
use Rattle.efl_tree.specs.Views.{expr_of}
use Rattle.efl_types.specs.Presets.{steps_to}
use Rattle.efl_initial_values.proofs.OffsetLemmas.{constant_plus}
use Rattle.efl_initial_values.proofs.subscripts.steps_on.Goals as goal

pub returns-in-None : goal.returns-in-None
returns-in-None c = ap (option_and_then (steps_to c.args.bound)) (c.in-None.ensures ∙ sym (constant_plus (expr_of c.args.inner.now)))

pub returns-in-Some : goal.returns-in-Some
returns-in-Some c = c.steps_to.ensures ∙ ap (steps_to c.args.bound) (to_z-of_z w64 c.in-Some.number (search rules)) ∙ ap (option_and_then (steps_to c.args.bound)) (c.in-Some.ensures ∙ sym (constant_plus (expr_of c.args.inner.now)))
