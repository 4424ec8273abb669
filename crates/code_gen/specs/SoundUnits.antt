-- What soundness gives of what is asked of a unit's statements.
use Rattle.std.specs.Prelude.{◌≡◌, ℕ, true, false, Some}
use Rattle.std.specs.List.{Contains, slice_get}
use Rattle.f66_tree.specs.Syntax.{Line, Routine}
use Rattle.f66_soundness.specs.SoundUnits.{finds_format}
use Rattle.f66_check.specs.Answers.{IsSoundUnit}
use Rattle.f66_program.specs.Mentions.{context_of}
use Rattle.f66_program.specs.Calls.{Call, calls_in}
use Rattle.code_gen.specs.Layout.{Layout}
use Rattle.code_gen.specs.Coded.{LiesBelow, HasResult, CodedAll}

-- the unit is this one, each READ and WRITE finds its FORMAT, each unit that it calls lies below it, and the own name of a function
-- is none of its dummies
pub record IsPlaced (y : Layout) (u : ℕ) (r : Routine) : Type 0 where
  pub context : y.linked.context u ≡ context_of r
  pub lines : y.lines u ≡ r.lines
  pub formats : (i : ℕ) (s : Line) → slice_get r.lines i ≡ Some s → finds_format (y.linked.context u).notes s.act ≡ true
  pub below : (i : ℕ) (s : Line) (k : Call) → slice_get r.lines i ≡ Some s → Contains (calls_in (y.linked.context u) s.act) k → LiesBelow y u k.name
  pub results : (i : ℕ) (s : Line) (k : Call) → slice_get r.lines i ≡ Some s → Contains (calls_in (y.linked.context u) s.act) k → k.by_call ≡ false → HasResult y k.name

-- the statements of a sound unit of any kind are coded
abbrev pub SoundIsCoded : Type 0
SoundIsCoded = (y : Layout) (u : ℕ) (r : Routine) → IsSoundUnit r → IsPlaced y u r → CodedAll y u (y.lines u)
