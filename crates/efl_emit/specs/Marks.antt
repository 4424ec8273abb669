-- The labels of the source before a statement.
use Rattle.std.specs.Prelude.{◌≡◌, List, [], ◌∷◌, ◌++◌}
use Rattle.ground.specs.declared.place.Place.{Place}
use Rattle.f66_tree.specs.Syntax.{Text, Line}
use Rattle.routes.specs.Code.{here}
use Rattle.efl_emit.specs.declared.naming.Naming.{Naming}
use Rattle.efl_emit.specs.Emitted.{Emission}
use Rattle.efl_emit.specs.Names.{label_of}

-- a CONTINUE for each label, before other statements
abbrev pub marked : Naming → Place → List Text → List Line → List Line
marked s p [] next = next
marked s p (l ∷ ls) next = here (label_of s l) p ∷ marked s p ls next

-- they were added
pub record Marks (s : Naming) (p : Place) (ls : List Text) (before after : Emission) : Type 0 where
  pub made : after.made ≡ before.made
  pub lines : (next : List Line) → before.lines ++ marked s p ls next ≡ after.lines ++ next
