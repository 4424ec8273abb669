-- Where no earlier statement breaks the rules of DO ranges, the earlier ranges are nested.
use Rattle.std.proofs.Common.{◌≡◌, ◌<◌, ◌≤◌, ℕ, true, false, Option, Some, None, List, refl, ap, ◌∙◌, sym, arith, ◌||◌, ◌&&◌, option_map}
use Rattle.std.specs.Prelude.{nat_lt}
use Rattle.std.specs.Option.{unwrap_or}
use Rattle.std.specs.List.{slice_get, list_any}
use Rattle.std.proofs.lemmas.Option.{slice_get-map, unwrap_or-slice_get}
use Rattle.rule_table.specs.declared.rule.Rule.{Rule}
use Rattle.rule_table.specs.declared.rule.Rule.TheVariants.{DoNesting}
use Rattle.rule_table.specs.Words.{is_some_and}
use Rattle.f66_tree.specs.Syntax.{Header, Line}
use Rattle.f66_flow.specs.Acts.{branches}
use Rattle.f66_flow.specs.Ranges.{end_at, holds, range_end, range_ends}
use Rattle.f66_flow.specs.Innermost.{IsNested}
use Rattle.f66_flow.specs.FlowRules.{ends_wrong, overlaps, enters, breaks_flow, breaks_flow_at}
use Rattle.f66_tree.specs.declared.statement.Stmt.{Stmt}
use Rattle.f66_tree.specs.Views.{line_of, lines_of}
use Rattle.f66_flow.specs.declared.scope.Scope.{Scope}
use Rattle.f66_flow.specs.declared.scope.Scope.TheVariants.{Whole}
use Rattle.f66_flow.proofs.NestLemmas.{or_left, or_right, and_true, each_below, held_before, false_lt}

-- where the range that a statement begins ends
pub end_of : (lines : List Line) (d : ℕ) (o : Option Line) → slice_get lines d ≡ o →
    end_at (range_ends lines) d ≡ unwrap_or (option_map (λ s. range_end lines s.act) o) 0
end_of lines d o e =
    sym (unwrap_or-slice_get (range_ends lines) d 0) ∙ ap (λ p. unwrap_or p 0) (slice_get-map (λ s. range_end lines s.act) lines d)
    ∙ ap (λ p. unwrap_or (option_map (λ s. range_end lines s.act) p) 0) e

nested_at : (h : Header) (lines : List Line) (d e : ℕ) (o : Option Line) → slice_get lines d ≡ o →
    is_some_and (λ s. breaks_flow Whole h lines d s DoNesting) o ≡ false → holds (range_ends lines) e d ≡ true →
    end_at (range_ends lines) d ≤ end_at (range_ends lines) e
nested_at h lines d e None is clean held = let none : end_at (range_ends lines) d ≡ 0 = end_of lines d None is in omega arith
nested_at h lines d e (Some s) is clean held =
    let here : end_at (range_ends lines) d ≡ range_end lines s.act = end_of lines d (Some s) is in
    let rest : (overlaps lines d s.act || list_any (enters lines d) (branches s.act)) ≡ false = or_right (ends_wrong lines d s.act) _ clean in
    let none : overlaps lines d s.act ≡ false = or_left (overlaps lines d s.act) _ rest in
    let this : (holds (range_ends lines) e d && nat_lt (end_at (range_ends lines) e) (range_end lines s.act)) ≡ false =
    each_below d e (λ k. holds (range_ends lines) k d && nat_lt (end_at (range_ends lines) k) (range_end lines s.act)) none (held_before (range_ends lines) e d held) in
    let less : range_end lines s.act ≤ end_at (range_ends lines) e =
    false_lt (end_at (range_ends lines) e) (range_end lines s.act) (and_true (holds (range_ends lines) e d) _ held this) in
    omega arith

pub nested_by : (h : Header) (lines : List Line) (i : ℕ) → ((j : ℕ) (k : Rule) → j < i → breaks_flow_at Whole h lines j k ≡ false) → IsNested (range_ends lines) i
nested_by h lines i clean = record { within = λ d e l held. nested_at h lines d e (slice_get lines d) refl (clean d DoNesting l) held }

-- what a statement in memory breaks
pub broken_at : (w : Scope) (h : Header) (all : List Stmt) (i : ℕ) (s : Stmt) → slice_get all i ≡ Some s →
    breaks_flow_at w h (lines_of all) i ≡ breaks_flow w h (lines_of all) i (line_of s)
broken_at w h all i s e =
    ap (λ o. λ k. is_some_and (λ t. breaks_flow w h (lines_of all) i t k) o) (slice_get-map line_of all i ∙ ap (option_map line_of) e)
