-- Each call goes to a smaller part; those left say whether a switch stands in the list.
use Rattle.std.proofs.Common.{◌≡◌, drop, ◌+◌, ◌*◌}
use Rattle.rat_tree.specs.Views.{command, commands}
use Rattle.rat_lower.specs.Code.{have_switch}
use Rattle.rat_lower.proofs.Emitting.Sizes.{size_of, size_of_all}
use Rattle.rat_lower.proofs.switches.+switch.Given as goal

abbrev pub decreases-have_switch : goal.decreases-have_switch
decreases-have_switch l = 2 * size_of_all (commands l.list.now) + 1

abbrev pub decreases-has_switch : goal.decreases-has_switch
decreases-has_switch l = 2 * size_of (command l.statement.now)

abbrev pub invariant-have_switch-loop-statement : goal.invariant-have_switch-loop-statement
invariant-have_switch-loop-statement l = have_switch (commands (drop l.statement-index l.list)) ≡ have_switch (commands l.list)
