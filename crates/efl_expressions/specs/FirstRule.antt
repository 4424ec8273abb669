-- Of the rules that something breaks the one with the smallest number.
use Rattle.std.specs.Prelude.{nat_le, List, [], ◌∷◌, Option, Some, None, if◌then◌else◌}
use Rattle.efl_types.specs.declared.rule.TypeRule.{TypeRule}
use Rattle.efl_types.specs.TypeRules.{rule_number}

abbrev pub or_lower : Option TypeRule → Option TypeRule → Option TypeRule
or_lower None b = b
or_lower (Some r) None = Some r
or_lower (Some r) (Some s) = if nat_le (rule_number r) (rule_number s) then Some r else Some s

abbrev pub first_rule : List TypeRule → Option TypeRule
first_rule [] = None
first_rule (r ∷ rs) = or_lower (Some r) (first_rule rs)
