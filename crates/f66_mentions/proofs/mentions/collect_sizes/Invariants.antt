-- Those before have given their names.
use Rattle.std.proofs.Common.{◌≡◌, ◌++◌, map, drop}
use Rattle.f66_tree.specs.Views.{declared_of}
use Rattle.f66_program.specs.Mentions.{mentions_of_sizes}
use Rattle.f66_mentions.specs.UnitViews.{mention_of}
use Rattle.f66_mentions.proofs.mentions.collect_sizes.Given as goal

abbrev pub invariant-loop-declared : goal.invariant-loop-declared
invariant-loop-declared l = map mention_of l.mentions.items ++ mentions_of_sizes (map declared_of (drop l.declared-index l.list)) ≡ map mention_of l.initial.mentions.items ++ mentions_of_sizes (map declared_of l.list)
