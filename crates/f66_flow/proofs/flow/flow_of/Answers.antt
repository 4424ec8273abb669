-- Why `flow_of` keeps its clauses.
use Rattle.std.proofs.Common.{◌≡◌, ℕ, List, map, ◌∙◌, sym, ap, arith, length}
use Rattle.std.proofs.lemmas.List.{length-map}
use Rattle.rule_table.specs.Words.{first_place, last_place}
use Rattle.f66_tree.specs.Views.{line_of, lines_of}
use Rattle.f66_flow.specs.Acts.{is_executable, is_data}
use Rattle.f66_flow.specs.Innermost.{innermost}
use Rattle.f66_flow.proofs.PlaceLemmas.{first_place-map, last_place-map, ends_by}
use Rattle.f66_flow.proofs.flow.flow_of.Goals as goal

sizes : {X : Type 0} (f : X → ℕ) (xs : List X) (ends seen : List ℕ) → ends ≡ map f xs → seen ≡ ends → length seen ≡ length xs
sizes f xs ends seen e s = ap length (s ∙ e) ∙ length-map xs f

pub invariant_of-result : goal.invariant_of-result
invariant_of-result c = record {
  first_is = c.first_executable.ensures ∙ sym (first_place-map (λ s. is_executable s.act) line_of c.args.statements.now)
      ∙ ap (λ all. first_place (λ s. is_executable s.act) (lines_of all)) (sym c.in_ok-labels.ensures);
  initial_is = c.first_data.ensures ∙ sym (first_place-map (λ s. is_data s.act) line_of c.args.statements.now)
      ∙ ap (λ all. first_place (λ s. is_data s.act) (lines_of all)) (sym c.in_ok-labels.ensures);
  last_is = c.last_executable.ensures ∙ sym (last_place-map (λ s. is_executable s.act) line_of c.args.statements.now)
      ∙ ap (λ all. last_place (λ s. is_executable s.act) (lines_of all)) (sym c.in_ok-labels.ensures);
  ends_are = c.in_ok-ends.ensures ∙ ends_by (lines_of c.in_ok-labels.labels.statements.now) c.in_ok-labels.labels.statements.now;
  around_size = c.in_ok-around.ensures.size ∙ sizes _ _ _ _ c.in_ok-ends.ensures c.deref.ensures.value;
  around_are = λ p h.
      let size : length c.deref.result.now ≡ length c.in_ok-labels.labels.statements.now = sizes _ _ _ _ c.in_ok-ends.ensures c.deref.ensures.value in
      c.in_ok-around.ensures.innermost p (omega arith) ∙ ap (λ all. innermost all p) c.deref.ensures.value;
}
