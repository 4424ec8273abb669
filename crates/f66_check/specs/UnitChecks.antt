-- What the parts of a unit of any kind break, its header with the number 0 and its statements from 1 on.
use Rattle.std.specs.Prelude.{ℕ, zero, suc, Bool, ◌||◌, List}
use Rattle.std.specs.List.{slice_get}
use Rattle.rule_table.specs.declared.rule.Rule.{Rule}
use Rattle.rule_table.specs.Words.{is_some_and}
use Rattle.f66_tree.specs.Syntax.{Act, Line, Routine}
use Rattle.f66_tree.specs.Units.{Context}
use Rattle.f66_flow.specs.FlowRules.{breaks_flow, header_breaks_flow}
use Rattle.f66_flow.specs.declared.scope.Scope.{Scope}
use Rattle.f66_soundness.specs.SoundUnits.{acts_in_unit}
use Rattle.unit_rules.specs.Heads.{breaks_header}
use Rattle.unit_rules.specs.UnitRules.{breaks_rule}
use Rattle.f66_check.specs.CheckRules.{context_of}

-- what the statement s with the number i, from 0, of a unit of these statements breaks
abbrev pub breaks_statement : Scope → Context → List Act → List Line → ℕ → Line → Rule → Bool
breaks_statement w c acts lines i s k = breaks_flow w c.header lines i s k || breaks_rule c acts i s.act k

-- what the header breaks, and what each statement does, where there is one
abbrev pub breaks_piece : Scope → Context → List Act → List Line → ℕ → Rule → Bool
breaks_piece w c acts lines zero k = header_breaks_flow w c.header lines k || breaks_header c k
breaks_piece w c acts lines (suc i) k = is_some_and (λ s. breaks_statement w c acts lines i s k) (slice_get lines i)

-- the part of the unit with this number breaks the rule k
abbrev pub breaks_unit : Scope → Routine → ℕ → Rule → Bool
breaks_unit w u n k = breaks_piece w (context_of u) (acts_in_unit u.lines) u.lines n k
