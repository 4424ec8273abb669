-- Laws of runs.
use Rattle.std.specs.Prelude.{◌≡◌, ◌≢◌, ◌++◌, ℕ, ◌≤◌, List, map}
use Rattle.ground.specs.declared.place.Place.{Place}
use Rattle.ground.specs.declared.trap.Trap.TheVariants.{EndOfInput}
use Rattle.f66_tree.specs.Syntax.{Line}
use Rattle.f66_tree.specs.World.{Record, Shown, Finish, Trapped, End, Ended, IsPrefix}
use Rattle.f66_tree.specs.Units.{Linkage}
use Rattle.f66_tree.specs.Execution.{nowhere, f66}

-- A run at a greater bound: where the first has ended it shows the same, and else its records begin with those of the first.
pub record Extends (s t : Shown) : Type 0 where
  pub over : (f : Finish) → s.end ≡ Ended f → s ≡ t
  pub grows : IsPrefix s.records t.records

-- a run of linked units that has ended at a bound is the same at every greater one
abbrev pub RunsExtend : Type 0
RunsExtend = (l : Linkage) (codes : ℕ → List Line) (input : List Record) (a b : ℕ) → a ≤ b → Extends (f66 l codes input a) (f66 l codes input b)

-- a statement without its place, and what a run shows without the place of its trap
abbrev pub placeless : Line → Line
placeless s = record { label = s.label; place = nowhere; act = s.act }

abbrev pub end_placeless : End → End
end_placeless (Ended (Trapped t p)) = Ended (Trapped t nowhere)
end_placeless e = e

abbrev pub shown_placeless : Shown → Shown
shown_placeless s = record { records = s.records; end = end_placeless s.end; work = s.work }

-- units that differ in places alone have runs that differ in the trap's place alone
abbrev pub PlacesTellTrapsAlone : Type 0
PlacesTellTrapsAlone =
    (l : Linkage) (codes1 codes2 : ℕ → List Line) → ((v : ℕ) → map placeless (codes1 v) ≡ map placeless (codes2 v)) → (input : List Record) (n : ℕ) → shown_placeless (f66 l codes1 input n) ≡ shown_placeless (f66 l codes2 input n)

-- records that a run does not ask for don't change it: it asks for one that is not there only where it ends so
abbrev pub UnaskedChangeNothing : Type 0
UnaskedChangeNothing =
    (l : Linkage) (codes : ℕ → List Line) (input more : List Record) (n : ℕ) → ((p : Place) → (f66 l codes input n).end ≢ Ended (Trapped EndOfInput p)) → f66 l codes (input ++ more) n ≡ f66 l codes input n
