-- Those that are left stand behind the others.
use Rattle.std.proofs.Common.{◌≡◌, ◌-◌, ◌∷◌, ◌++◌}
use Rattle.code_layout.specs.Order.{others_from, others_of}
use Rattle.code_layout.proofs.order.order_of.Given as goal

abbrev pub invariant-loop-unit : goal.invariant-loop-unit
invariant-loop-unit l = l.order.items ++ others_from l.main l.unit (l.units - l.unit) ≡ l.main ∷ others_of l.main l.units
