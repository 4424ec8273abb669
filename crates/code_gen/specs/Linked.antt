-- Programs of sound units, laid out by their ranks.
use Rattle.std.specs.Prelude.{◌≡◌, ℕ, ◌<◌, true, List, ◌∷◌, Some}
use Rattle.std.specs.List.{slice_get}
use Rattle.ground.specs.Content.{Content}
use Rattle.f66_tree.specs.Syntax.{Text, Line, Routine}
use Rattle.f66_tree.specs.Units.{Linkage, notes_of}
use Rattle.f66_tree.specs.Fields.{Fields}
use Rattle.f66_soundness.specs.SoundUnits.{finds_format}
use Rattle.f66_check.specs.Answers.{IsSoundUnit}
use Rattle.f66_program.specs.Calls.{Leads, unit_named}
use Rattle.f66_program.specs.Linking.{IsLinkage}
use Rattle.stack_code.specs.StackMachine.{empty}
use Rattle.code_gen.specs.Coded.{IsOwn, IsLaid}
use Rattle.code_gen.specs.Behaves.{HavePlans, IsAmong, filled, AreBelow, IsProgram}
use Rattle.code_gen.specs.LayingOut.{layout, AreDistinct}

-- sound units and a linkage of them; their places lie below a bound; ranks fall along each call; and these units have code
pub record IsRanked (rs : List Routine) (l : Linkage) (lines : ℕ → List Line) (plan : ℕ → ℕ → ℕ) (presets : List (ℕ × Content)) (bound : ℕ) (rank : ℕ → ℕ) (others : List ℕ) (plans : List Fields) : Type 0 where
  pub linked : IsLinkage rs l
  pub codes : (u : ℕ) (r : Routine) → slice_get rs u ≡ Some r → lines u ≡ r.lines
  pub sound : (u : ℕ) (r : Routine) → slice_get rs u ≡ Some r → IsSoundUnit r
  pub formats : (u : ℕ) (r : Routine) (i : ℕ) (s : Line) → slice_get rs u ≡ Some r → slice_get r.lines i ≡ Some s → finds_format (notes_of r.lines) s.act ≡ true
  pub there : (u : ℕ) → IsAmong u (l.main ∷ others) → (r : Routine) × (slice_get rs u ≡ Some r)
  pub distinct : AreDistinct (l.main ∷ others)
  pub called : (x : Text) (v : ℕ) → unit_named x rs ≡ Some v → IsAmong v others
  -- the name of a unit is none of its dummies
  pub results : (x : Text) (v : ℕ) → unit_named x rs ≡ Some v → IsOwn l v x
  pub ranks : (u v : ℕ) → Leads rs u v → rank v < rank u
  pub laid : (u : ℕ) → IsAmong u (l.main ∷ others) → IsLaid l u bound
  pub planned : (u : ℕ) → HavePlans (layout l lines plan presets bound rank (l.main ∷ others)) u plans
  pub below : AreBelow bound presets
  pub initial : (q : ℕ) → q < bound → l.first q ≡ filled presets empty q

-- what the law of their code asks of a program holds of them
abbrev pub RankedIsProgram : Type 0
RankedIsProgram =
    (rs : List Routine) (l : Linkage) (lines : ℕ → List Line) (plan : ℕ → ℕ → ℕ) (presets : List (ℕ × Content)) (bound : ℕ) (rank : ℕ → ℕ) (others : List ℕ) (plans : List Fields) →
    IsRanked rs l lines plan presets bound rank others plans → IsProgram (layout l lines plan presets bound rank (l.main ∷ others)) others bound plans
