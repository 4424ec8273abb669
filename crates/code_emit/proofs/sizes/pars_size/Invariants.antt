-- Those before are counted.
use Rattle.std.proofs.Common.{◌≡◌, ◌+◌, map, drop}
use Rattle.f66_tree.specs.Views.{par_of}
use Rattle.code_emit.specs.Sizes.{pars_size}
use Rattle.code_emit.proofs.sizes.pars_size.Given as goal

abbrev pub invariant-loop-par : goal.invariant-loop-par
invariant-loop-par l = l.sum + pars_size (map par_of (drop l.par-index l.pars)) ≡ pars_size (map par_of l.pars)
