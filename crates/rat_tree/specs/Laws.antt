-- Laws of what programs mean.
use Rattle.std.specs.Prelude.{◌≡◌, ◌≢◌, ◌++◌, ℕ, ◌≤◌, List}
use Rattle.ground.specs.declared.place.Place.{Place}
use Rattle.ground.specs.declared.trap.Trap.TheVariants.{EndOfInput}
use Rattle.f66_tree.specs.World.{Record, Trapped, Ended}
use Rattle.f66_tree.specs.Units.{Linkage}
use Rattle.f66_tree.specs.Execution.{nowhere}
use Rattle.f66_tree.specs.Laws.{Extends, shown_placeless}
use Rattle.rat_tree.specs.Meaning.{Body, ratfor}
use Rattle.rat_tree.specs.Places.{body_placed}

-- a program that has ended at a bound shows the same at every greater one
abbrev pub MeaningsExtend : Type 0
MeaningsExtend = (l : Linkage) (bodies : ℕ → Body) (input : List Record) (a b : ℕ) → a ≤ b → Extends (ratfor l bodies a input) (ratfor l bodies b input)

-- a body without its places
abbrev pub body_placeless : Body → Body
body_placeless body = body_placed (λ p. nowhere) body

-- programs that differ in places alone have meanings that differ in the trap's place alone
abbrev pub RatforPlacesTellTrapsAlone : Type 0
RatforPlacesTellTrapsAlone =
    (l : Linkage) (bodies1 bodies2 : ℕ → Body) → ((v : ℕ) → body_placeless (bodies1 v) ≡ body_placeless (bodies2 v)) → (input : List Record) (b : ℕ) → shown_placeless (ratfor l bodies1 b input) ≡ shown_placeless (ratfor l bodies2 b input)

-- records that a program does not ask for don't change it: it asks for one that is not there only where it ends so
abbrev pub RatforUnaskedChangeNothing : Type 0
RatforUnaskedChangeNothing =
    (l : Linkage) (bodies : ℕ → Body) (input more : List Record) (b : ℕ) → ((p : Place) → (ratfor l bodies b input).end ≢ Ended (Trapped EndOfInput p)) → ratfor l bodies b (input ++ more) ≡ ratfor l bodies b input
