-- What a program of sound units never does (X3.9-1966, sections 5 to 10).
use Rattle.std.specs.Prelude.{◌≡◌, ◌≢◌, ℕ, true, List, Some}
use Rattle.std.specs.List.{All, slice_get}
use Rattle.ground.specs.declared.fault.FaultKind.TheVariants.{MissingUnit, WrongCount}
use Rattle.f66_tree.specs.Syntax.{Text, Line, Routine}
use Rattle.f66_tree.specs.World.{Record, Wrong, Ended}
use Rattle.f66_tree.specs.Units.{is_main, Linkage}
use Rattle.f66_tree.specs.Execution.{f66}
use Rattle.f66_check.specs.Answers.{IsSoundUnit}
use Rattle.f66_program.specs.Mentions.{context_of}
use Rattle.f66_program.specs.Calls.{unit_named}
use Rattle.f66_program.specs.Linking.{Program, Part, Breaks, IsWhole, IsLinkage}

-- each unit that is called is there, and has as many dummies as the call has actuals
pub record IsComplete (p : Program) : Type 0 where
  pub there : (q : Part) → ¬ Breaks MissingUnit p q
  pub counted : (q : Part) → ¬ Breaks WrongCount p q

-- the statements of each unit, by its number
abbrev pub AreCodes : List Routine → (ℕ → List Line) → Type 0
AreCodes rs codes = (u : ℕ) (r : Routine) → slice_get rs u ≡ Some r → codes u ≡ r.lines

-- What a run of units goes by, but for the numbers of places and the contents at first, which may be any: names mean in each unit
-- what it says of them, a call leads to the first unit of its name, and the run begins in a main.
pub record IsCallLinkage (rs : List Routine) (l : Linkage) : Type 0 where
  pub contexts : (u : ℕ) (r : Routine) → slice_get rs u ≡ Some r → l.context u ≡ context_of r
  pub finds : (x : Text) → l.find x ≡ unit_named x rs
  pub main : (r : Routine) × (slice_get rs l.main ≡ Some r) × (is_main r.header ≡ true)

-- no run goes wrong, on any input and at any bound
abbrev pub NeverEndsWrong : Linkage → (ℕ → List Line) → Type 0
NeverEndsWrong l codes = (input : List Record) (n : ℕ) → (f66 l codes input n).end ≢ Ended Wrong

-- A program of a main, subroutines, functions and BLOCK DATA, each sound, whose calls are complete: however its places are
-- associated and numbered, no run of it ends Wrong. Where an actual and its dummy, a function and its reference, or two blocks do
-- not agree, a run may end in a trap, but not Wrong.
abbrev pub CompleteNeverWrong : Type 0
CompleteNeverWrong =
    (p : Program) → All IsSoundUnit p.units → IsComplete p → (l : Linkage) → IsCallLinkage p.units l → (codes : ℕ → List Line) → AreCodes p.units codes → NeverEndsWrong l codes

-- so a whole program of sound units never goes wrong
abbrev pub LinkedNeverWrong : Type 0
LinkedNeverWrong =
    (p : Program) → All IsSoundUnit p.units → IsWhole p → (l : Linkage) → IsLinkage p.units l → (codes : ℕ → List Line) → AreCodes p.units codes → NeverEndsWrong l codes
