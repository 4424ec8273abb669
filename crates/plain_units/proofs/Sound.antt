-- Units of plain statements are sound.
use Rattle.std.proofs.lemmas.Bool.{or_from}
use Rattle.std.proofs.Common.{◌≡◌, ℕ, zero, suc, false, Option, Some, None, inl, inr, refl}
use Rattle.std.specs.List.{slice_get}
use Rattle.ground.specs.declared.value.Kind.{Kind}
use Rattle.rule_table.specs.declared.rule.Rule.{Rule}
use Rattle.rule_table.specs.Words.{is_some_and}
use Rattle.f66_tree.specs.Syntax.{Text, Line, Routine}
use Rattle.f66_flow.specs.FlowRules.{breaks_flow, header_breaks_flow}
use Rattle.f66_flow.specs.declared.scope.Scope.TheVariants.{Whole}
use Rattle.f66_soundness.specs.SoundUnits.{acts_in_unit}
use Rattle.unit_rules.specs.Heads.{breaks_header}
use Rattle.unit_rules.specs.UnitRules.{breaks_rule}
use Rattle.f66_check.specs.CheckRules.{context_of}
use Rattle.f66_check.specs.UnitChecks.{breaks_statement, breaks_unit}
use Rattle.f66_check.specs.Answers.{IsSoundUnit}
use Rattle.plain_units.specs.Units.{IsPlainUnit}
use Rattle.plain_units.specs.Known.{IsHead}
use Rattle.plain_units.proofs.Found.{item_of}
use Rattle.plain_units.proofs.Uses.{line_is}
use Rattle.plain_units.proofs.Roles.{roles_fit}
use Rattle.plain_units.proofs.Declared.{once_declared}
use Rattle.plain_units.proofs.Statements.{plain_clean, head_clean, header_clean}
use Rattle.plain_units.proofs.Flow.{flow_clean, header_flow_clean}

pub plain_is_sound : (V F : Text → Kind → Type 0) (S : Text → Type 0) (u : Routine) → IsPlainUnit V F S u → IsSoundUnit u
plain_is_sound V F S u unit = record { clean = clean }
  where
    -- a type statement, or one that is plain
    rules : (i : ℕ) (s : Line) → slice_get u.lines i ≡ Some s → (k : Rule) → breaks_rule (context_of u) (acts_in_unit u.lines) i s.act k ≡ false
    rules i s e k = elim (line_is V F S u unit i s e) [
      | inl h ↦ head_clean V F S (context_of u) unit.known (acts_in_unit u.lines) i s (item_of (λ t. IsHead V F S u.header t) unit.heads i s unit.typing h) (once_declared V F S u unit i s e) k
      | inr h ↦ plain_clean V F S (context_of u) unit.known (acts_in_unit u.lines) i s.act h (roles_fit V F S u unit i s e) k
    ]

    statement : (i : ℕ) (k : Rule) (o : Option Line) → slice_get u.lines i ≡ o →
        is_some_and (λ s. breaks_statement Whole (context_of u) (acts_in_unit u.lines) u.lines i s k) o ≡ false
    statement i k None e = refl
    statement i k (Some s) e = or_from (breaks_flow Whole u.header u.lines i s k) (breaks_rule (context_of u) (acts_in_unit u.lines) i s.act k) (flow_clean V F S u unit i s e k) (rules i s e k)

    clean : (n : ℕ) (k : Rule) → breaks_unit Whole u n k ≡ false
    clean zero k = or_from (header_breaks_flow Whole u.header u.lines k) (breaks_header (context_of u) k) (header_flow_clean V F S u unit k) (header_clean V F S (context_of u) unit.known unit.header k)
    clean (suc i) k = statement i k (slice_get u.lines i) refl
