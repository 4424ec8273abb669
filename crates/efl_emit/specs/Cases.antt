-- The constants of a clause.
use Rattle.std.specs.Prelude.{◌≡◌, ℤ, ℕ, List, [], ◌∷◌, ◌++◌}
use Rattle.ground.specs.declared.place.Place.{Place}
use Rattle.f66_tree.specs.declared.expression.Operator.TheVariants.{Eq}
use Rattle.f66_tree.specs.Syntax.{Formula, Pair, When, Goto, Line, unlabelled_line}
use Rattle.routes.specs.Routes.{Ring, Routes, AndRoute}
use Rattle.efl_routes.specs.Statements.{signed, case_routes}
use Rattle.efl_emit.specs.declared.naming.Naming.{Naming}
use Rattle.efl_emit.specs.Names.{home_of, temp_of, callee_of, label_of, own_of}
use Rattle.efl_emit.specs.Emitted.{Emission}

abbrev pub tests_of : Naming → Place → Formula → List ℤ → Routes
tests_of s p v cs = case_routes (home_of s) temp_of (callee_of s) (label_of s) (own_of s) p v cs

-- the ring that is left where one of the constants is the value
abbrev pub ring_of_cases : Naming → Place → Formula → List ℤ → Routes → Routes
ring_of_cases s p v cs = AndRoute (Ring p (tests_of s p v cs))

-- a jump for each constant, before other statements
abbrev pub tests_before : Place → Formula → List ℤ → ℕ → List Line → List Line
tests_before p v [] l next = next
tests_before p v (c ∷ cs) l next = unlabelled_line p (When (Pair Eq v (signed c)) (Goto l)) ∷ tests_before p v cs l next

-- they were added
pub record Tests (p : Place) (v : Formula) (cs : List ℤ) (l : ℕ) (before after : Emission) : Type 0 where
  pub made : after.made ≡ before.made
  pub lines : (next : List Line) → before.lines ++ tests_before p v cs l next ≡ after.lines ++ next
