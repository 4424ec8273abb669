-- Those before have given their names.
use Rattle.std.proofs.Common.{◌≡◌, ◌++◌, map, drop}
use Rattle.std.specs.List.{flat_map}
use Rattle.f66_tree.specs.Views.{par_of}
use Rattle.f66_program.specs.Mentions.{mentions_of_par}
use Rattle.f66_mentions.specs.UnitViews.{mention_of}
use Rattle.f66_mentions.proofs.mentions.collect_pars.Given as goal

abbrev pub invariant-loop-par : goal.invariant-loop-par
invariant-loop-par l = map mention_of l.mentions.items ++ flat_map mentions_of_par (map par_of (drop l.par-index l.list)) ≡ map mention_of l.initial.mentions.items ++ flat_map mentions_of_par (map par_of l.list)
