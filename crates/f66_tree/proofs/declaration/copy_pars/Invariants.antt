-- The parameters before are copied.
use Rattle.std.proofs.Common.{◌≡◌, map, take}
use Rattle.f66_tree.specs.Views.{par_of}
use Rattle.f66_tree.proofs.declaration.copy_pars.Given as goal

abbrev pub invariant-loop-par : goal.invariant-loop-par
invariant-loop-par l = map par_of l.copies.items ≡ map par_of (take l.par-index l.list)
