-- The rules of those before, and of those to come.
use Rattle.std.proofs.Common.{◌≡◌, ◌+◌, drop}
use Rattle.rule_table.specs.FaultRules.{first_rule, lesser}
use Rattle.f66_names.specs.ActViews.{acts_of}
use Rattle.f66_names.specs.DeclarationViews.{context_in, acts_in}
use Rattle.rat_check.specs.Rules.{break_names}
use Rattle.rat_check.proofs.rules.names_rule.Given as goal

abbrev pub invariant-loop-i : goal.invariant-loop-i
invariant-loop-i l =
    lesser l.broken (first_rule (break_names (context_in l.names.declarations) (acts_in l.names.declarations) (l.n + l.i) (acts_of (drop l.i l.sayings))))
    ≡ first_rule (break_names (context_in l.names.declarations) (acts_in l.names.declarations) l.n (acts_of l.sayings))
