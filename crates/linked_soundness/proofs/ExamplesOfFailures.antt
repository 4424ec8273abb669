-- Programs that lack something that the law asks for and go wrong, and one that lacks what it does not ask for and ends in a trap.
use Rattle.std.proofs.Common.{◌≡◌, ℕ, true, List, [], ◌∷◌, refl}
use Rattle.std.specs.Prelude.{pos}
use Rattle.ground.specs.declared.trap.Trap.TheVariants.{Undefined}
use Rattle.f66_tree.specs.declared.declaration.TypeWord.TheVariants.{Logical}
use Rattle.f66_tree.specs.Syntax.{Text, Int, Truth, Ref, NoFormula, AndFormula, Constant, MainUnit, SubUnit, Assign, Invoke, Typed, Dimension, Routine}
use Rattle.f66_tree.specs.World.{Wrong, Trapped, End, Ended}
use Rattle.f66_tree.specs.Execution.{nowhere, f66}
use Rattle.f66_tree.specs.OneUnit.{list_number}
use Rattle.linked_soundness.proofs.Examples.{k, l, m, fill, says, of_one, adjustable, main, subroutine, function, linkage_of, lines_of}

-- each place of each unit is a storage unit of its own
abbrev apart : ℕ → Text → ℕ → ℕ
apart u x o = list_number (u ∷ o ∷ x)

abbrev ends : List Routine → End
ends rs = (f66 (linkage_of rs apart) (lines_of rs) [] 20).end

-- CALL FILL(K, N) after N = 3, and FUNCTION LAST
missing : ends (main ∷ function ∷ []) ≡ Ended Wrong
missing = refl

-- CALL FILL(K), where FILL has two dummies
abbrev short : Routine
short = record { header = MainUnit; lines = says (Dimension (record { name = k; sizes = Constant (pos 3) ∷ [] } ∷ [])) ∷ says (Invoke fill (AndFormula (Ref k) NoFormula)) ∷ []; place = nowhere }

miscounted : ends (short ∷ subroutine ∷ []) ≡ Ended Wrong
miscounted = refl

--       CALL FILL(K, .TRUE.)
abbrev logical : Routine
logical = record { header = MainUnit; lines = says (Dimension (record { name = k; sizes = Constant (pos 3) ∷ [] } ∷ [])) ∷ says (Invoke fill (AndFormula (Ref k) (AndFormula (Truth true) NoFormula))) ∷ []; place = nowhere }

--       SUBROUTINE FILL(L, M)
--       LOGICAL M
--       DIMENSION L(M)
--       L(1) = 1
abbrev unsound : Routine
unsound = record {
  header = SubUnit fill (l ∷ m ∷ []);
  lines = says (Typed Logical (record { name = m; sizes = [] } ∷ [])) ∷ says adjustable ∷ says (Assign (of_one l (Int (pos 1))) (Int (pos 1))) ∷ [];
  place = nowhere;
}

unsound_unit : ends (logical ∷ unsound ∷ []) ≡ Ended Wrong
unsound_unit = refl

--       SUBROUTINE FILL(L, M)
--       DIMENSION L(M)
--       L(1) = 1
abbrev sound : Routine
sound = record { header = SubUnit fill (l ∷ m ∷ []); lines = says adjustable ∷ says (Assign (of_one l (Int (pos 1))) (Int (pos 1))) ∷ []; place = nowhere }

-- an actual of another type than its dummy has, which is a trap
disagrees : ends (logical ∷ sound ∷ []) ≡ Ended (Trapped Undefined nowhere)
disagrees = refl
