-- No statement of a unit of plain statements breaks the rules on order, labels and DO ranges, nor does the unit as a whole.
use Rattle.std.proofs.Common.{◌≡◌, ℕ, true, false, Some, refl}
use Rattle.std.specs.List.{slice_get}
use Rattle.std.proofs.lemmas.List.Elements.{All-weaker}
use Rattle.ground.specs.declared.value.Kind.{Kind}
use Rattle.rule_table.specs.declared.rule.Rule.{Rule}
use Rattle.f66_tree.specs.Syntax.{Text, Header, MainUnit, SubUnit, FuncUnit, DataUnit, Act, Typed, Stop, Return, Line, Routine}
use Rattle.f66_flow.specs.Acts.{needs_executable}
use Rattle.f66_flow.specs.FlowRules.{breaks_flow, header_breaks_flow}
use Rattle.f66_flow.specs.declared.scope.Scope.TheVariants.{Whole}
use Rattle.plain_units.specs.Plain.{IsPlain}
use Rattle.plain_units.specs.Known.{IsPlainHeader, IsTyping, IsHead}
use Rattle.plain_units.specs.Units.{IsLast, IsPlainUnit}
use Rattle.plain_units.proofs.Forms.{IsDone, is_done, plain_done}
use Rattle.plain_units.proofs.Ordered.{IsFirst, IsEnd, AreOrdered, lines_clean, unit_clean}

is_end : (a : Act) → IsLast a → IsEnd a
is_end (Stop n) is = record { done = is_done refl refl refl; executed = refl; transfer = refl }
is_end Return is = record { done = is_done refl refl refl; executed = refl; transfer = refl }
is_end _ is = absurd is

module _ (V F : Text → Kind → Type 0) (S : Text → Type 0) where
  needs_one : (h : Header) → IsPlainHeader V F S h → needs_executable h ≡ true
  needs_one MainUnit is = refl
  needs_one (SubUnit x ds) is = refl
  needs_one (FuncUnit t x ds) is = refl
  needs_one DataUnit is = absurd is

  is_first : (h : Header) (a : Act) → IsTyping V F S h a → IsFirst a
  is_first h (Typed t ds) is = record { simple = record { no_data = refl; no_loop = refl }; executed = refl }
  is_first h _ is = absurd is

  module _ (u : Routine) (unit : IsPlainUnit V F S u) where
    ordered : AreOrdered u.lines
    ordered = record {
      heads = unit.heads;
      body = unit.body;
      last = unit.last;
      all = unit.lines;
      first = All-weaker (λ s. IsHead V F S u.header s) (λ s. IsFirst s.act) (λ s h. is_first u.header s.act h.typing) unit.heads unit.typing;
      done = All-weaker (λ s. IsPlain V F S s.act) (λ s. IsDone s.act) (λ s. plain_done V F S s.act) unit.body unit.plain;
      ends = is_end unit.last.act unit.ends;
    }

    pub flow_clean : (i : ℕ) (s : Line) → slice_get u.lines i ≡ Some s → (k : Rule) → breaks_flow Whole u.header u.lines i s k ≡ false
    flow_clean = lines_clean u.header u.lines (needs_one u.header unit.header) ordered unit.labels

    pub header_flow_clean : (k : Rule) → header_breaks_flow Whole u.header u.lines k ≡ false
    header_flow_clean = unit_clean u.header u.lines (needs_one u.header unit.header) ordered unit.labels
