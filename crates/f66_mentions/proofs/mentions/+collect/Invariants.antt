-- Those before have given their names.
use Rattle.std.proofs.Common.{◌≡◌, ◌++◌, map, drop}
use Rattle.f66_tree.specs.Views.{formulas_of}
use Rattle.f66_program.specs.Mentions.{mentions_of_all}
use Rattle.f66_mentions.specs.UnitViews.{context_in, mention_of}
use Rattle.f66_mentions.proofs.mentions.+collect.Given as goal

abbrev pub invariant-collect_all-loop-e : goal.invariant-collect_all-loop-e
invariant-collect_all-loop-e l = map mention_of l.mentions.items ++ mentions_of_all (context_in l.names) (formulas_of (drop l.e-index l.list)) ≡ map mention_of l.initial.mentions.items ++ mentions_of_all (context_in l.names) (formulas_of l.list)
