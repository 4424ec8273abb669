-- The loops around a statement, and what its label puts before it.
use Rattle.std.specs.Prelude.{ℕ, List, [], ◌∷◌, Option, Some, None}
use Rattle.ground.specs.declared.place.Place.{Place}
use Rattle.f66_tree.specs.Syntax.{Line}
use Rattle.rat_lower.specs.declared.around.Around.{Around}
use Rattle.rat_lower.specs.declared.around.Around.TheVariants.{Outside, Loop'}
use Rattle.rat_tree.specs.declared.program.RatKind.{RatKind}
use Rattle.rat_tree.specs.declared.program.RatKind.TheVariants.{Plain}
use Rattle.rat_lower.specs.Code.{Rings, here}

abbrev pub rings_of : Around → Rings
rings_of Outside = []
rings_of (Loop' behind again p outside) = (behind, again) ∷ rings_of outside

-- the label of a statement that is not plain stands before it
abbrev pub behind_label : Option ℕ → Place → List Line → List Line
behind_label None p next = next
behind_label (Some l) p next = here l p ∷ next

abbrev pub behind_mark : Option ℕ → Place → RatKind → List Line → List Line
behind_mark l p (Plain a) next = next
behind_mark l p _ next = behind_label l p next
