-- Laws of what EFL programs mean.
use Rattle.std.specs.Prelude.{◌≡◌, ◌≢◌, ◌++◌, ℕ, ◌≤◌, List}
use Rattle.ground.specs.declared.place.Place.{Place}
use Rattle.ground.specs.declared.trap.Trap.TheVariants.{EndOfInput}
use Rattle.f66_tree.specs.World.{Record, Trapped, Ended, Lost}
use Rattle.f66_tree.specs.Execution.{nowhere}
use Rattle.f66_tree.specs.Laws.{Extends, shown_placeless}
use Rattle.efl_program.specs.Typed.{Stmts}
use Rattle.efl_program.specs.Setting.{Linkage}
use Rattle.efl_program.specs.Relocated.{all_relocated}
use Rattle.efl_program.specs.Meaning.{efl}
use Rattle.efl_program.specs.Scoping.{Scoping}

-- a program whose jumps have where to go, and whose calls go down, means something at each bound
abbrev pub ScopedNeverLost : Type 0
ScopedNeverLost = (l : Linkage) (bodies : ℕ → Stmts) → Scoping l bodies → (b : ℕ) (input : List Record) → (efl l bodies b input).end ≢ Lost

-- a program that has ended at a bound shows the same at every greater one
abbrev pub EflMeaningsExtend : Type 0
EflMeaningsExtend = (l : Linkage) (bodies : ℕ → Stmts) (input : List Record) (a b : ℕ) → a ≤ b → Extends (efl l bodies a input) (efl l bodies b input)

-- a body without its places
abbrev pub stmts_placeless : Stmts → Stmts
stmts_placeless ss = all_relocated (λ p. nowhere) ss

-- programs that differ in places alone have meanings that differ in the trap's place alone
abbrev pub EflPlacesTellTrapsAlone : Type 0
EflPlacesTellTrapsAlone =
    (l : Linkage) (bodies1 bodies2 : ℕ → Stmts) → ((v : ℕ) → stmts_placeless (bodies1 v) ≡ stmts_placeless (bodies2 v)) → (input : List Record) (b : ℕ) → shown_placeless (efl l bodies1 b input) ≡ shown_placeless (efl l bodies2 b input)

-- records that a program does not ask for don't change it: it asks for one that is not there only where it ends so
abbrev pub EflUnaskedChangeNothing : Type 0
EflUnaskedChangeNothing =
    (l : Linkage) (bodies : ℕ → Stmts) (input more : List Record) (b : ℕ) → ((p : Place) → (efl l bodies b input).end ≢ Ended (Trapped EndOfInput p)) → efl l bodies b (input ++ more) ≡ efl l bodies b input
