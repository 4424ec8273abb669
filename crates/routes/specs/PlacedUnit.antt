-- A unit of FORTRAN whose lines are declarations and those of routes: what holds of it, and the units that such ones are together.
use Rattle.std.specs.Prelude.{◌≡◌, ℕ, ◌+◌, Bool, true, false, List, [], ◌∷◌, Some, None, ⊤}
use Rattle.ground.specs.declared.place.Place.{Place}
use Rattle.f66_tree.specs.Syntax.{Act, Loop, Format, Line}
use Rattle.f66_tree.specs.Units.{is_note, is_main, Note, Linkage}
use Rattle.f66_tree.specs.Execution.{runnable, closers}
use Rattle.routes.specs.Routes.{Route, Plain, BreakIf, Break, Ring, Cycle, Block, InTurn, Labelled, Transfer, Routes, NoRoute, AndRoute}
use Rattle.routes.specs.Code.{labels, all_labels, all_code}
use Rattle.routes.specs.Placed.{AllPlaced}
use Rattle.routes.specs.Units.{ending, Units}

-- statements that are not executed, without labels
abbrev pub AreDeclarations : List Line → Type 0
AreDeclarations [] = ⊤
AreDeclarations (s ∷ rest) = (s.label ≡ None) × (is_note s.act ≡ true) × AreDeclarations rest

abbrev pub is_do : Act → Bool
is_do (Loop m x a b c) = true
is_do _ = false

-- statements without labels, and no DO among them
abbrev pub AreUnlabelled : List Line → Type 0
AreUnlabelled [] = ⊤
AreUnlabelled (s ∷ rest) = (s.label ≡ None) × (is_do s.act ≡ false) × AreUnlabelled rest

-- the formats of routes, in their order, before others
module _ (made : ℕ → ℕ) where
  abbrev mutual
    pub formats : Route → ℕ → List Note → List Note
    formats (Plain p a) n others = others
    formats (BreakIf p e k) n others = others
    formats (Break p k) n others = others
    formats (Ring p rs) n others = all_formats rs (n + 1) others
    formats (Cycle p top rest) n others = all_formats top (n + 2) (all_formats rest (n + 2 + all_labels top) others)
    formats (Block rs) n others = all_formats rs n others
    formats (InTurn rs) n others = all_formats rs n others
    formats (Labelled m p r) n others = formats r n others
    formats (Transfer p way u fs es) n others = record { label = Some (made n); act = Format fs } ∷ others

    pub all_formats : Routes → ℕ → List Note → List Note
    all_formats NoRoute n others = others
    all_formats (AndRoute r rs) n others = formats r n (all_formats rs (n + labels r) others)

-- a unit with these notes and lines is that of routes, which these lines end
pub record IsPlacedUnit (made : ℕ → ℕ) (rs : Routes) (next : List Line) (notes : List Note) (code : List Line) : Type 0 where
  -- nothing is executed before the lines of the routes
  pub executed : runnable code ≡ runnable (all_code made rs 0 [] next)
  -- each label leads to its place, and each format is that of its label
  pub placed : AllPlaced made notes code rs 0 [] next
  pub no_do : (m : ℕ) → closers m code ≡ []

-- units each of which is placed
abbrev pub units_of : (l : Linkage) (codes : ℕ → List Line) (bodies : ℕ → Routes) (made : ℕ → ℕ → ℕ) (last : ℕ → Place) →
    ((u : ℕ) → IsPlacedUnit (made u) (bodies u) (ending (is_main (l.context u).header) (last u)) (l.context u).notes (codes u)) → Units
units_of l codes bodies made last placed = record {
  linked = l;
  codes = codes;
  bodies = bodies;
  made = made;
  last = last;
  executed = λ u. (placed u).executed;
  placed = λ u. (placed u).placed;
  no_do = λ u. (placed u).no_do;
}
