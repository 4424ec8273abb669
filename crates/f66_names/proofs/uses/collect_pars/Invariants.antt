-- Those before have given their uses.
use Rattle.std.proofs.Common.{◌≡◌, ◌++◌, map, drop}
use Rattle.std.specs.List.{flat_map}
use Rattle.f66_tree.specs.Views.{par_of}
use Rattle.f66_names.specs.Uses.{uses_of_par}
use Rattle.f66_names.specs.UseViews.{use_of}
use Rattle.f66_names.proofs.uses.collect_pars.Given as goal

abbrev pub invariant-loop-par : goal.invariant-loop-par
invariant-loop-par l = map use_of l.uses.items ++ flat_map uses_of_par (map par_of (drop l.par-index l.list)) ≡ map use_of l.initial.uses.items ++ flat_map uses_of_par (map par_of l.list)
