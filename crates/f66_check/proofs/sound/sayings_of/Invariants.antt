-- What holds at each turn of the loops of `sayings_of`.
use Rattle.std.proofs.Common.{◌≡◌, map, take}
use Rattle.f66_tree.specs.Views.{act_of}
use Rattle.f66_names.specs.ActViews.{acts_of}
use Rattle.f66_check.proofs.sound.sayings_of.Given as goal

abbrev pub invariant-loop-statement : goal.invariant-loop-statement
invariant-loop-statement l = acts_of l.sayings.items ≡ map (λ s. act_of s.kind) (take l.statement-index l.statements)
