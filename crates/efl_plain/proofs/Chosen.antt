-- The labels that stand in the units of a program get the first numbers, and those that are made come behind.
use Rattle.std.proofs.Common.{◌≡◌, ℕ, ◌+◌, ◌≤◌, ◌<◌, true, [], length, ap, arith}
use Rattle.std.specs.Prelude.{option_map, unwrap_or}
use Rattle.std.specs.List.{list_any}
use Rattle.std.specs.Str.{bytes_eq}
use Rattle.f66_tree.specs.Syntax.{Text}
use Rattle.efl_tree.specs.Syntax.{EflProgram}
use Rattle.efl_typed.specs.Typing.{bodies_of}
use Rattle.routes.specs.Numbered.{all_given}
use Rattle.efl_lowered.specs.Lowering.{routes_of}
use Rattle.efl_lowered.specs.Labels.{all_labels}
use Rattle.efl_lowered.proofs.Labels.{each_in}
use Rattle.efl_lowered.proofs.TypedVariables.{placed}
use Rattle.efl_naming.specs.Choice.{label_number, made_label, naming_of}
use Rattle.efl_naming.proofs.Numbers.{place_below}
use Rattle.efl_plain.proofs.Numbering.{IsWithin, all_within}

module _ (p : EflProgram) (n : ℕ) where
  -- how many labels there are in the procedure
  abbrev pub labels_in : ℕ
  labels_in = length (all_labels (bodies_of p n))

  number_within : (q : Text) → list_any (bytes_eq q) (all_labels (bodies_of p n)) ≡ true → IsWithin labels_in (label_number p n q)
  number_within q h =
      let ls = all_labels (bodies_of p n) in
      let w = placed (bytes_eq q) ls h in
      let is : label_number p n q ≡ w.0 + 1 = ap (λ o. unwrap_or (option_map (λ i. i + 1) o) 0) w.2 in
      let lt = place_below ls w.0 w.1 w.3 in (omega (is, arith), omega (is, lt, arith))

  pub chosen_within : (l : ℕ) → 1 ≤ all_given l (routes_of (naming_of p) p n) → IsWithin labels_in l
  chosen_within l some =
      let N = naming_of p in
      all_within N.home N.temp N.callee (N.label n) (N.callee n) labels_in (bodies_of p n) [] 0 l (each_in (λ q. IsWithin labels_in (label_number p n q)) (all_labels (bodies_of p n)) number_within) some

  pub made_above : (i : ℕ) → labels_in < made_label p n i
  made_above i = omega arith
