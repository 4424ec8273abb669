-- The statements that a unit becomes cost no more than its commands.
use Rattle.std.proofs.Common.{◌≤◌, ℕ, ◌+◌, refl}
use Rattle.ground.specs.declared.place.Place.{Place}
use Rattle.f66_tree.specs.Syntax.{Text, Header}
use Rattle.rat_tree.specs.Syntax.{Commands}
use Rattle.rat_lower.specs.Code.{unit_code}
use Rattle.rat_room.proofs.Weights.{total}
use Rattle.rat_room.proofs.CodeWeights.{unit_weighs}
use Rattle.deck_room.proofs.Costs.{line_cost, act_cost, commands_cost}

-- the declaration of the spare name and the last statement are two more
pub unit_costs : (made : ℕ → ℕ) (spare : Text) (h : Header) (first last : Place) (ss : Commands) → total line_cost (unit_code made spare h first last ss) ≤ commands_cost ss + 1060
unit_costs made spare h first last ss =
    unit_weighs act_cost (record { jumps = λ l. refl; guards = λ e l. refl; tests = λ x e l. refl; stores = λ x e. refl; loops = λ l x a b c. refl }) made spare h first last ss
