-- Statements that are not executed, then others, and a transfer at the end: the order of a unit is kept.
use Rattle.std.proofs.Common.{◌≡◌, ℕ, ◌+◌, ◌<◌, Bool, true, false, true≢false, List, [], ◌∷◌, ◌++◌, length, Some, refl, sym, ap, ◌∙◌, subst, inl, inr, ⊎_elim, ◌&&◌, ◌||◌, append_assoc}
use Rattle.std.specs.Prelude.{not, is_none}
use Rattle.std.specs.List.{All, slice_get}
use Rattle.std.proofs.lemmas.Bool.{or_from}
use Rattle.std.proofs.lemmas.List.Elements.{All-weaker}
use Rattle.rule_table.specs.declared.rule.Rule.{Rule}
use Rattle.rule_table.specs.declared.rule.Rule.TheVariants.{Syntax, BadLabel, DoNesting}
use Rattle.rule_table.specs.Words.{first_place, last_place, is_below, is_number}
use Rattle.f66_tree.specs.Syntax.{Header, DataUnit, Act, Line}
use Rattle.f66_flow.specs.Acts.{is_executable, is_specification, is_data, is_misplaced, needs_executable, is_transfer}
use Rattle.f66_flow.specs.FlowRules.{is_late, lacks_transfer, breaks_flow, header_breaks_flow}
use Rattle.f66_flow.specs.declared.scope.Scope.TheVariants.{Whole}
use Rattle.plain_units.specs.Labels.{HasLabels}
use Rattle.plain_units.proofs.Found.{item_of}
use Rattle.plain_units.proofs.Places.{part_at, only_at, at_seam, first_some, first_late, first_none, last_passes}
use Rattle.plain_units.proofs.Named.{names_well, has_good_label}
use Rattle.plain_units.proofs.Forms.{IsSimple, IsDone}
use Rattle.plain_units.proofs.Ranges.{has_an_end, nests_well}

-- a statement that is not executed, and no DATA
pub record IsFirst (a : Act) : Type 0 where
  pub simple : IsSimple a
  pub executed : is_executable a ≡ false

-- one behind which no other one comes
pub record IsEnd (a : Act) : Type 0 where
  pub done : IsDone a
  pub executed : is_executable a ≡ true
  pub transfer : is_transfer a ≡ true

-- the statements of a unit
pub record AreOrdered (lines : List Line) : Type 0 where
  pub heads : List Line
  pub body : List Line
  pub last : Line
  pub all : lines ≡ heads ++ (body ++ last ∷ [])
  pub first : All (λ s. IsFirst s.act) heads
  pub done : All (λ s. IsDone s.act) body
  pub ends : IsEnd last.act

well_placed : (h : Header) (a : Act) → needs_executable h ≡ true → is_misplaced h a ≡ false
well_placed DataUnit a is = absurd (true≢false (sym is))
well_placed _ a is = refl

and_none : (a b : Bool) → b ≡ false → (a && b) ≡ false
and_none true b h = h
and_none false b h = refl

module _ (h : Header) (lines : List Line) (needs : needs_executable h ≡ true) (are : AreOrdered lines) (labels : HasLabels lines) where
  -- those that are executed, with their FORMATs
  done_at : (j : ℕ) (s : Line) → slice_get (are.body ++ are.last ∷ []) j ≡ Some s → IsDone s.act
  done_at j s e = elim (part_at are.body (are.last ∷ []) j s e) [
    | inl h ↦ item_of (λ t. IsDone t.act) are.body j s are.done h.1
    | inr h ↦ subst (λ t. IsDone t.act) (only_at are.last s h.0 h.2) are.ends.done
  ]

  simple_at : (i : ℕ) (s : Line) → slice_get lines i ≡ Some s → IsSimple s.act
  simple_at i s e = elim (part_at are.heads (are.body ++ are.last ∷ []) i s (ap (λ l. slice_get l i) (sym are.all) ∙ e)) [
    | inl h ↦ (item_of (λ t. IsFirst t.act) are.heads i s are.first h.1).simple
    | inr h ↦ (done_at h.0 s h.2).simple
  ]

  early : (i : ℕ) (s : Line) → slice_get lines i ≡ Some s → is_late lines i s.act ≡ false
  early i s e = ⊎_elim at_head behind (part_at are.heads (are.body ++ are.last ∷ []) i s (ap (λ l. slice_get l i) (sym are.all) ∙ e))
    where
      at_head : (i < length are.heads) × (slice_get are.heads i ≡ Some s) → is_late lines i s.act ≡ false
      at_head h =
          and_none (is_specification s.act) _
          (or_from _ _
          (ap (λ l. is_below i (first_place (λ t. is_executable t.act) l)) are.all
          ∙ first_late (λ t. is_executable t.act) are.heads (are.body ++ are.last ∷ []) i (All-weaker (λ t. IsFirst t.act) (λ t. is_executable t.act ≡ false) (λ t f. f.executed) are.heads are.first) h.0)
          (ap (is_below i) (first_none (λ t. is_data t.act) lines (λ j t f. (simple_at j t f).no_data))))

      behind : (j : ℕ) × (i ≡ length are.heads + j) × (slice_get (are.body ++ are.last ∷ []) j ≡ Some s) → is_late lines i s.act ≡ false
      behind h = ap (λ b. b && (is_below i (first_place (λ t. is_executable t.act) lines) || is_below i (first_place (λ t. is_data t.act) lines))) (done_at h.0 s h.2).no_specification

  joined : lines ≡ (are.heads ++ are.body) ++ are.last ∷ []
  joined = are.all ∙ sym (append_assoc are.heads are.body (are.last ∷ []))

  transfers : (i : ℕ) (s : Line) → slice_get lines i ≡ Some s → lacks_transfer lines i s.act ≡ false
  transfers i s e =
      ap (λ l. is_number i (last_place (λ t. is_executable t.act) l) && not (is_transfer s.act)) joined
      ∙ last_passes (λ t. is_executable t.act) (λ t. is_transfer t.act) (are.heads ++ are.body) are.last i s are.ends.executed are.ends.transfer (ap (λ l. slice_get l i) (sym joined) ∙ e)

  -- no statement breaks a rule
  pub lines_clean : (i : ℕ) (s : Line) → slice_get lines i ≡ Some s → (k : Rule) → breaks_flow Whole h lines i s k ≡ false
  lines_clean i s e Syntax = or_from _ _ (well_placed h s.act needs) (or_from _ _ (early i s e) (transfers i s e))
  lines_clean i s e BadLabel = or_from _ _ (has_good_label lines labels i s e) (or_from _ _ (names_well lines labels i s e) (has_an_end lines s.act (simple_at i s e).no_loop))
  lines_clean i s e DoNesting = nests_well lines (λ j t f. (simple_at j t f).no_loop) i s.act (simple_at i s e).no_loop
  lines_clean i s e _ = refl

  -- and the unit has a statement that is executed
  pub unit_clean : (k : Rule) → header_breaks_flow Whole h lines k ≡ false
  unit_clean Syntax =
      let at : slice_get lines (length (are.heads ++ are.body)) ≡ Some are.last = ap (λ l. slice_get l (length (are.heads ++ are.body))) joined ∙ at_seam (are.heads ++ are.body) [] are.last in
      and_none (needs_executable h) _ (ap is_none (first_some (λ t. is_executable t.act) lines (length (are.heads ++ are.body)) are.last at are.ends.executed).1)
  unit_clean _ = refl
