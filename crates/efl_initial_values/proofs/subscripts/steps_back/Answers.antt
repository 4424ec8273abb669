-- A minus turns the sign.
use Rattle.std.proofs.Common.{sym, ap, ◌∙◌, neg_ℤ, w64, rules}
use Rattle.std.proofs.lemmas.Int.{to_z-of_z}
use Rattle.std.specs.Option.{option_map, option_and_then}
use Rattle.efl_tree.specs.Views.{expr_of}
use Rattle.efl_types.specs.Presets.{steps_to}
use Rattle.efl_initial_values.proofs.OffsetLemmas.{constant_minus}
use Rattle.efl_initial_values.proofs.subscripts.steps_back.Goals as goal

pub returns-in-None : goal.returns-in-None
returns-in-None c = ap (option_and_then (steps_to c.args.bound)) (ap (option_map neg_ℤ) c.in-None.ensures ∙ sym (constant_minus (expr_of c.args.inner.now)))

pub returns-in-Some : goal.returns-in-Some
returns-in-Some c = c.steps_to_opposite.ensures ∙ ap (λ z. steps_to c.args.bound (neg_ℤ z)) (to_z-of_z w64 c.in-Some.number (search rules)) ∙ ap (option_and_then (steps_to c.args.bound)) (ap (option_map neg_ℤ) c.in-Some.ensures ∙ sym (constant_minus (expr_of c.args.inner.now)))
