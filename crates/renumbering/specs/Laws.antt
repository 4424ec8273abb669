-- What the numbers of storage units do not matter to (X3.9-1966, sections 7.2.1 and 10.2.1).
use Rattle.std.specs.Prelude.{◌≡◌, ℕ, List}
use Rattle.std.specs.List.{All}
use Rattle.ground.specs.declared.fault.FaultKind.TheVariants.{MainCount, TypeClash}
use Rattle.f66_tree.specs.Syntax.{Line}
use Rattle.f66_tree.specs.World.{Record}
use Rattle.f66_tree.specs.Units.{Linkage}
use Rattle.f66_tree.specs.Execution.{f66}
use Rattle.f66_check.specs.Answers.{IsSoundUnit}
use Rattle.f66_program.specs.Linking.{Program, Part, Breaks, IsWhole, IsLinkage}
use Rattle.linked_soundness.specs.Laws.{AreCodes}
use Rattle.rat_tree.specs.Meaning.{Body, Theirs, ratfor}
use Rattle.renumbering.specs.Bodies.{AreNamed}
use Rattle.renumbering.specs.Placed.{IsPlaced}

-- there is one main, and a reference leads to a function, as the rules 22 MainCount and 12 TypeClash of a program ask
pub record IsMatched (p : Program) : Type 0 where
  pub one_main : (q : Part) → ¬ Breaks MainCount p q
  pub agree : (q : Part) → ¬ Breaks TypeClash p q

-- a whole program is such a one
abbrev pub WholeIsMatched : Type 0
WholeIsMatched = (p : Program) → IsWhole p → IsMatched p

-- Two runs of a program of sound units show the same, whatever numbers its places have, where two have the same one exactly
-- where they are one storage unit: the same records, the same end with its place, and the same count of statements.
abbrev pub NumbersAlone : Type 0
NumbersAlone =
    (p : Program) → All IsSoundUnit p.units → IsMatched p → (l m : Linkage) → IsLinkage p.units l → IsLinkage p.units m → (codes : ℕ → List Line) → AreCodes p.units codes → (input : List Record) (n : ℕ) → f66 l codes input n ≡ f66 m codes input n

-- The same of what a program of Ratfor means whose units stand for units of FORTRAN with the same names, of which nothing is asked but
-- their places: whatever the numbers, it shows the same records, the same end with its place, and the same work.
abbrev pub RatforNumbersAlone : Type 0
RatforNumbersAlone =
    (p : Program) → All IsPlaced p.units → IsMatched p → (l m : Linkage) → IsLinkage p.units l → IsLinkage p.units m → (bodies : ℕ → Body) → AreNamed p.units bodies → (b : ℕ) (input : List Record) → ratfor l bodies b input ≡ ratfor m bodies b input

-- the names that such units of a program use by themselves stand for something there, as is asked of bodies
abbrev pub OwnAreNamed : Type 0
OwnAreNamed = (p : Program) → All IsPlaced p.units → IsMatched p → (codes : ℕ → List Line) → AreCodes p.units codes → AreNamed p.units (λ u. Theirs (codes u))
