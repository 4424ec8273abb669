-- Those before are added.
use Rattle.std.proofs.Common.{◌≡◌, ◌++◌, map, drop}
use Rattle.f66_tree.specs.Views.{formula_of}
use Rattle.unit_rules.proofs.listed.add_places.Given as goal

abbrev pub invariant-loop-e : goal.invariant-loop-e
invariant-loop-e l = map (λ e. formula_of e.now) l.all.items ++ map formula_of (drop l.e-index l.list) ≡ map (λ e. formula_of e.now) l.initial.all.items ++ map formula_of l.list
