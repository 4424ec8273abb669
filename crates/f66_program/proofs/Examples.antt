-- Two units whose association is bad: A and B meet at two offsets, and B begins before the block X.
use Rattle.std.proofs.Common.{◌≡◌, ℕ, pos, [], ◌∷◌, Some, codes, refl, arith}
use Rattle.std.proofs.lemmas.Int.{ints}
use Rattle.f66_tree.specs.declared.declaration.TypeWord.TheVariants.{Integer}
use Rattle.f66_tree.specs.Syntax.{Text, Formula, Int, Ref, Item, NoFormula, AndFormula, Constant, Declared, Typed, Common, Equivalence, MainUnit, unlabelled_line, Routine}
use Rattle.f66_tree.specs.Execution.{nowhere}
use Rattle.f66_program.specs.Association.{Own, Block, by_tie, back, onward, twice, before, IsBadUnit, unit_ties}

abbrev name_a : Text
name_a = codes "A"

abbrev name_b : Text
name_b = codes "B"

abbrev of_three : Text → Declared
of_three x = record { name = x; sizes = Constant (pos 3) ∷ [] }

abbrev scalar : Text → Declared
scalar x = record { name = x; sizes = [] }

abbrev element : Text → ℕ → Formula
element x n = Item x (AndFormula (Int (pos n)) NoFormula)

-- INTEGER A(3),B(3); EQUIVALENCE (A(1),B(1)),(A(1),B(2))
abbrev twice_unit : Routine
twice_unit = record {
  header = MainUnit;
  lines = unlabelled_line nowhere (Typed Integer (of_three name_a ∷ of_three name_b ∷ []))
      ∷ unlabelled_line nowhere (Equivalence ((element name_a 1 ∷ element name_b 1 ∷ []) ∷ (element name_a 1 ∷ element name_b 2 ∷ []) ∷ [])) ∷ [];
  place = nowhere;
}

twice_ties : unit_ties 0 twice_unit ≡ record { from = Own 0 name_a; to = Own 0 name_b; by = pos 0 } ∷ record { from = Own 0 name_a; to = Own 0 name_b; by = pos 1 } ∷ []
twice_ties = refl

-- INTEGER A,B(3); COMMON /X/ A; EQUIVALENCE (A,B(2))
abbrev early_unit : Routine
early_unit = record {
  header = MainUnit;
  lines = unlabelled_line nowhere (Typed Integer (scalar name_a ∷ of_three name_b ∷ []))
      ∷ unlabelled_line nowhere (Common (record { name = Some (codes "X"); list = scalar name_a ∷ [] } ∷ []))
      ∷ unlabelled_line nowhere (Equivalence ((Ref name_a ∷ element name_b 2 ∷ []) ∷ [])) ∷ [];
  place = nowhere;
}

early_ties : unit_ties 0 early_unit ≡ record { from = Own 0 name_a; to = Block (Some (codes "X")); by = pos 0 } ∷ record { from = Own 0 name_a; to = Own 0 name_b; by = pos 1 } ∷ []
early_ties = refl

pub twice_bad : IsBadUnit twice_unit
twice_bad =
    twice {a = Own 0 name_b} {d = pos 1} (λ e. omega (arith, ints, e))
    (onward (back (by_tie (record { from = Own 0 name_a; to = Own 0 name_b; by = pos 0 }) (0, omega arith, refl))) (by_tie (record { from = Own 0 name_a; to = Own 0 name_b; by = pos 1 }) (1, omega arith, refl)))

pub early_bad : IsBadUnit early_unit
early_bad =
    before {a = Own 0 name_b} {b = Some (codes "X")} (omega (arith, ints))
    (onward (back (by_tie (record { from = Own 0 name_a; to = Own 0 name_b; by = pos 1 }) (1, omega arith, refl))) (by_tie (record { from = Own 0 name_a; to = Block (Some (codes "X")); by = pos 0 }) (0, omega arith, refl)))
