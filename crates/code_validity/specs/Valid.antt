-- Compiled code is valid.
use Rattle.std.specs.Prelude.{◌≡◌, ℕ, ◌≤◌, max, true, List, [], ◌∷◌, length}
use Rattle.std.specs.List.{All}
use Rattle.ground.specs.Content.{Content}
use Rattle.f66_tree.specs.Syntax.{Line, Routine}
use Rattle.f66_tree.specs.Fields.{Fields}
use Rattle.f66_tree.specs.Units.{Linkage}
use Rattle.f66_check.specs.Answers.{IsSoundUnit}
use Rattle.f66_program.specs.Initial.{presets_of}
use Rattle.f66_program.specs.Linking.{Program, IsWhole}
use Rattle.stack_code.specs.ValidCode.{is_small, IsValid}
use Rattle.code_gen.specs.Layout.{Layout}
use Rattle.code_gen.specs.Statements.{units_code}
use Rattle.code_gen.specs.Coded.{top}
use Rattle.code_gen.specs.LayingOut.{layout}
use Rattle.code_gen.specs.Linked.{IsRanked}

-- initial values that constants have: integers in range, and truth values
abbrev pub AreValues : List (ℕ × Content) → Type 0
AreValues presets = All (λ p. is_small p.1 ≡ true) presets

-- such are those that the DATA of sound units gives
abbrev pub InitialAreValues : Type 0
InitialAreValues = (rs : List Routine) → All IsSoundUnit rs → All (λ q. is_small q.value ≡ true) (presets_of rs)

-- how many storage units these units of a program have, those for what they keep among them
abbrev pub storage_size : Layout → List ℕ → ℕ
storage_size y [] = 0
storage_size y (u ∷ us) = max (top y u) (storage_size y us)

-- The code of a whole program of sound units, with ranks that fall along each call, is valid for its plans and for a store that has at
-- least its storage units.
abbrev pub CompiledIsValid : Type 0
CompiledIsValid =
    (p : Program) (l : Linkage) (lines : ℕ → List Line) (plan : ℕ → ℕ → ℕ) (presets : List (ℕ × Content)) (bound : ℕ) (rank : ℕ → ℕ) (others : List ℕ) (plans : List Fields) (units : ℕ) →
    IsWhole p → IsRanked p.units l lines plan presets bound rank others plans → AreValues presets →
    storage_size (layout l lines plan presets bound rank (l.main ∷ others)) (l.main ∷ others) ≤ units →
    IsValid (units_code (layout l lines plan presets bound rank (l.main ∷ others)) (l.main ∷ others)) (length plans) units
