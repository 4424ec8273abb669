-- Those before are added.
use Rattle.std.proofs.Common.{◌≡◌, ◌++◌, map, drop}
use Rattle.f66_tree.specs.Views.{declared_of}
use Rattle.unit_rules.proofs.listed.add_declared.Given as goal

abbrev pub invariant-loop-declared : goal.invariant-loop-declared
invariant-loop-declared l = map (λ d. declared_of d.now) l.all.items ++ map declared_of (drop l.declared-index l.list) ≡ map (λ d. declared_of d.now) l.initial.all.items ++ map declared_of l.list
