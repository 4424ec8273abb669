-- A READ or WRITE that the rules let pass, by a FORMAT that is there, never ends Wrong, whatever its list is: items, whole arrays,
-- adjustable ones among them, and implied DOs.
use Rattle.std.proofs.Common.{◌≡◌, ℕ, zero, suc, ◌+◌, true, List, [], ◌∷◌, length, sym, subst}
use Rattle.std.specs.Prelude.{is_some, ⊤}
use Rattle.std.specs.List.{list_all}
use Rattle.std.proofs.lemmas.Bool.{and_parts, or_parts}
use Rattle.ground.specs.declared.value.Kind.{Kind}
use Rattle.ground.specs.declared.value.Kind.TheVariants.{Integer}
use Rattle.f66_tree.specs.declared.editing.Way.{Way}
use Rattle.f66_tree.specs.declared.editing.Way.TheVariants.{Reading, Writing}
use Rattle.f66_tree.specs.Syntax.{Text, Formula, Ref, Item, Par, Entry, One, Many, Entries, NoEntry, AndEntry}
use Rattle.f66_tree.specs.World.{World, Out, Gives, settle}
use Rattle.f66_tree.specs.Records.{due, put, take, closed}
use Rattle.f66_tree.specs.Units.{Context, kind_of, format_of, sizes_of, Spot, Setting, Frame, around}
use Rattle.f66_tree.specs.Evaluation.{ticked, load, par_in, pars_in, moved, locate}
use Rattle.f66_tree.specs.Statements.{LoopParameters, loop_start, loop_turn, taped, taken_content, transfer, edited, row, extent, one_or_row, item, item_turns, items, entry, on_unit, opened_by, record_by}
use Rattle.f66_tree.proofs.EditLemmas.{Awaits, due_rightly, put_rightly, take_rightly, opened_rightly, closed_rightly}
use Rattle.f66_tree.proofs.Tries.{IsOfKind}
use Rattle.f66_names.specs.Shapes.{is_item, are_items, are_some_items}
use Rattle.f66_names.specs.Sorts.{name_form, is_integer}
use Rattle.f66_names.specs.Uses.{many, uses_of_entry, uses_of_entries}
use Rattle.f66_names.specs.Kinds.{is_counting, counts, is_entry, are_entries}
use Rattle.f66_names.specs.NameRules.{miscounts}
use Rattle.f66_names.specs.StoreRules.{stores_entry, store_entries}
use Rattle.f66_soundness.specs.Rightly.{NeverWrong}
use Rattle.f66_soundness.proofs.RightlyLemmas.{bind_rightly, bind_any, settle_here, settle_rightly, choose_rightly}
use Rattle.f66_soundness.proofs.KindLemmas.{none_of_both}
use Rattle.f66_soundness.proofs.ContentLemmas.{AreWhole, asked_rightly, moved_rightly}
use Rattle.f66_soundness.proofs.ValueLemmas.{FitCounts}
use Rattle.f66_soundness.proofs.StepLemmas.{taped_rightly, unit_rightly, extent_rightly}
use Rattle.f66_soundness.proofs.FitLemmas.{some_are_items, element_fit}
use Rattle.f66_soundness.proofs.StatementLemmas.{stored_takes}
use Rattle.f66_program.specs.Mentions.{mentions_of_entry, mentions_of_entries, mentions_of_counting}
use Rattle.linked_soundness.proofs.PartLemmas.{all_parts}
use Rattle.linked_soundness.proofs.PlaceLemmas.{IsSite, store_rightly, base_rightly, par_rightly, pars_rightly}
use Rattle.linked_soundness.proofs.ValueLemmas.{IsRightly, AllCall}
use Rattle.linked_soundness.proofs.StatementLemmas.{place_rightly, start_rightly, turn_rightly}

-- ---- lists ----

-- what the run of a list rests on: in the context c the rules hold, and what it calls in the run never goes wrong
pub record FitEntries (way : Way) (s : Setting) (c d : Context) (es : Entries) : Type 0 where
  pub shapes : are_items es ≡ true
  pub kinds : are_entries way c es ≡ true
  pub stores : store_entries way c es ≡ true
  pub counts : FitCounts c (uses_of_entries es)
  pub calls : AllCall s (mentions_of_entries d es)

-- and that of one item or implied DO
record FitEntry (way : Way) (s : Setting) (c d : Context) (e : Entry) : Type 0 where
  shape : is_item e ≡ true
  kind : is_entry way c e ≡ true
  store : stores_entry way c e ≡ true
  count : FitCounts c (uses_of_entry e)
  calls : AllCall s (mentions_of_entry d e)

first_fit : (way : Way) (s : Setting) (c d : Context) (e : Entry) (es : Entries) → FitEntries way s c d (AndEntry e es) → FitEntry way s c d e
first_fit way s c d e es h = record {
  shape = (and_parts (is_item e) _ h.shapes).0;
  kind = (and_parts (is_entry way c e) _ h.kinds).0;
  store = (and_parts (stores_entry way c e) _ h.stores).0;
  count = (none_of_both (miscounts c) (uses_of_entry e) (uses_of_entries es) h.counts).0;
  calls = (all_parts (IsRightly s) (mentions_of_entry d e) (mentions_of_entries d es) h.calls).0;
}

others_fit : (way : Way) (s : Setting) (c d : Context) (e : Entry) (es : Entries) → FitEntries way s c d (AndEntry e es) → FitEntries way s c d es
others_fit way s c d e es h = record {
  shapes = (and_parts (is_item e) _ h.shapes).1;
  kinds = (and_parts (is_entry way c e) _ h.kinds).1;
  stores = (and_parts (stores_entry way c e) _ h.stores).1;
  counts = (none_of_both (miscounts c) (uses_of_entry e) (uses_of_entries es) h.counts).1;
  calls = (all_parts (IsRightly s) (mentions_of_entry d e) (mentions_of_entries d es) h.calls).1;
}

inner_fit : (way : Way) (s : Setting) (c d : Context) (es : Entries) (x : Text) (p q r : Par) → FitEntry way s c d (Many es x p q r) → FitEntries way s c d es
inner_fit way s c d es x p q r h = record {
  shapes = some_are_items es (and_parts (are_some_items es) _ h.shape).0;
  kinds = (and_parts (are_entries way c es) _ h.kind).0;
  stores = (and_parts (store_entries way c es) _ h.store).0;
  counts = (none_of_both (miscounts c) (uses_of_entries es) _ h.count).0;
  calls = (all_parts (IsRightly s) (mentions_of_entries d es) (mentions_of_counting x p q r) h.calls).0;
}

module _ (s : Setting) (f : Frame) (c : Context) (site : IsSite s f c) where
  -- ---- one place ----

  -- a content comes or goes where an edit of its type is due
  took_rightly : (k : Kind) (w : World) → Awaits k w.state.tape.hand.mark → NeverWrong (taken_content f.place take w)
  took_rightly k w h = bind_rightly (λ r _. IsOfKind k r.0) (λ _ _. ⊤) (settle f.place (take w.state.tape) w) _ (settle_rightly (λ r. IsOfKind k r.0) f.place (take w.state.tape) w (take_rightly k w.state.tape h)) (λ r w1 _. tt)

  transfer_rightly : (way : Way) (k : Kind) (p : Spot) (w : World) → Awaits k w.state.tape.hand.mark → NeverWrong (transfer s f way k p w)
  transfer_rightly Reading k p w h =
      bind_any (λ _ _. ⊤) (taken_content f.place take w) _ (took_rightly k w h) (λ v w1. store_rightly s f p v w1)
  transfer_rightly Writing k p w h =
      bind_rightly (λ v w1. IsOfKind k v × (w1 ≡ w)) (λ _ _. ⊤) (load s f k p w) _ (settle_here (IsOfKind k) f.place _ w (asked_rightly k _)) (λ v w1 i.
      taped_rightly (λ _. ⊤) f.place (put v) w1 (put_rightly k v w1.state.tape (subst (λ u. Awaits k u.state.tape.hand.mark) (sym i.1) h) i.0))

  edited_rightly : (way : Way) (k : Kind) (p : Spot) (w : World) → NeverWrong (edited s f way k p w)
  edited_rightly way k p w =
      bind_rightly (λ _ v. Awaits k v.state.tape.hand.mark) (λ _ _. ⊤) (taped f.place (due k) w) _ (taped_rightly (λ t. Awaits k t.hand.mark) f.place (due k) w (due_rightly k w.state.tape))
      (λ _ w1 h. transfer_rightly way k p w1 h)

  -- ---- a whole array ----

  row_rightly : (way : Way) (k : Kind) (p : Spot) (n i : ℕ) (w : World) → NeverWrong (row s f way k p n i w)
  row_rightly way k p zero i w = tt
  row_rightly way k p (suc n) i w =
      bind_any (λ _ _. ⊤) (settle f.place (moved s.linked p i) w) _ (settle_rightly (λ _. ⊤) f.place (moved s.linked p i) w (moved_rightly s.linked p i)) (λ q w1.
      bind_any (λ _ _. ⊤) (edited s f way k q w1) _ (edited_rightly way k q w1) (λ _ w2. row_rightly way k p n (i + 1) w2))

  one_or_row_rightly : (way : Way) (k : Kind) (ns : List Par) → list_all (is_counting c) ns ≡ true → (p : Spot) (w : World) → NeverWrong (one_or_row s f way k ns p w)
  one_or_row_rightly way k [] counting p w = edited_rightly way k p w
  one_or_row_rightly way k (n ∷ ns) counting p w =
      bind_rightly (λ ds _. AreWhole (length (n ∷ ns)) ds) (λ _ _. ⊤) (pars_in s f (n ∷ ns) w) _ (pars_rightly s f c site (n ∷ ns) counting w) (λ ds w1 h.
      bind_any (λ _ _. ⊤) (settle f.place (extent ds) w1) _ (settle_rightly (λ _. ⊤) f.place (extent ds) w1 (extent_rightly ds h.whole)) (λ count w2. row_rightly way k p count 0 w2))

  -- ---- the list ----

  item_rightly : (way : Way) (e : Formula) → FitEntry way s c (around s f) (One e) → (w : World) → NeverWrong (item s f way e w)
  item_rightly way (Ref x) h w =
      bind_any (λ _ _. ⊤) (locate s f (Ref x) w) _ (base_rightly s f c site x (ticked s w))
      (λ p w1. one_or_row_rightly way (kind_of (around s f) x) (sizes_of x (around s f).notes) (site.judged.sizes x) p w1)
  item_rightly way (Item x es) h w =
      let u = or_parts _ _ h.count in
      let q = element_fit way c x es h.kind h.store in
      bind_any (λ _ _. ⊤) (locate s f (Item x es) w) _ (place_rightly s f c site x es q.0 q.1 u.1 (stored_takes (name_form c x) (many es) q.0 u.0) h.calls.1 (ticked s w))
      (λ p w1. edited_rightly way (kind_of (around s f) x) p w1)
  item_rightly way _ h w = let e = h.shape in let q : ⊥ = cc in absurd q

  module _ (begins : (w : World) → NeverWrong (s.begin w)) where
    turns_rightly : (n : ℕ) (x : Text) (k : LoopParameters) (body : World → Out ⊤) → ((w : World) → NeverWrong (body w)) → (w : World) → NeverWrong (item_turns n s f x k body w)
    turns_rightly zero x k body h w = tt
    turns_rightly (suc n) x k body h w =
        bind_any (λ _ _. ⊤) (s.begin w) _ (begins w) (λ _ w1.
        bind_any (λ _ _. ⊤) (body w1) _ (h w1) (λ _ w2.
        bind_any (λ _ _. ⊤) (loop_turn s f x k w2) _ (turn_rightly s f c site x k w2) (λ on w3.
        choose_rightly (λ _ _. ⊤) on (item_turns n s f x k body w3) (Gives tt w3) (turns_rightly n x k body h w3) tt)))

    implied_rightly : (x : Text) (p q r : Par) → counts c x p q r ≡ true → (w : World) → NeverWrong (loop_start s f x p q r w)
    implied_rightly x p q r e w =
        let first = and_parts (is_integer (kind_of c x)) _ e in
        let second = and_parts (is_counting c p) _ first.1 in
        let third = and_parts (is_counting c q) (is_counting c r) second.1 in
        start_rightly s f c site x p q r second.0 third.0 third.1 w

    mutual
      items_rightly : (way : Way) (es : Entries) → FitEntries way s c (around s f) es → (w : World) → NeverWrong (items s f way es w)
      items_rightly way NoEntry h w = tt
      items_rightly way (AndEntry e es) h w =
          bind_any (λ _ _. ⊤) (entry s f way e (ticked s w)) _ (entry_rightly way e (first_fit way s c (around s f) e es h) (ticked s w)) (λ _ w1. items_rightly way es (others_fit way s c (around s f) e es h) w1)

      entry_rightly : (way : Way) (e : Entry) → FitEntry way s c (around s f) e → (w : World) → NeverWrong (entry s f way e w)
      entry_rightly way (One e) h w = item_rightly way e h w
      entry_rightly way (Many es x p q r) h w =
          bind_any (λ _ _. ⊤) (loop_start s f x p q r w) _ (implied_rightly x p q r (and_parts (are_entries way c es) _ h.kind).1 w)
          (λ k w1. turns_rightly s.most x k (items s f way es) (items_rightly way es (inner_fit way s c (around s f) es x p q r h)) w1)

    -- ---- the statement ----

    pub record_rightly : (way : Way) (u : Par) (l : ℕ) (es : Entries) → is_counting c u ≡ true → is_some (format_of l (around s f).notes) ≡ true → FitEntries way s c (around s f) es → (w : World) → NeverWrong (record_by s f way u l es w)
    record_rightly way u l es counting there fit w =
        bind_rightly (λ v _. IsOfKind Integer v) (λ _ _. ⊤) (par_in s f u w) _ (par_rightly s f c site u counting w) (λ v w1 h.
        bind_any (λ _ _. ⊤) (settle f.place (on_unit way v) w1) _ (settle_rightly (λ _. ⊤) f.place (on_unit way v) w1 (unit_rightly way v h)) (λ _ w2.
        bind_any (λ _ _. ⊤) (taped f.place (opened_by way (format_of l (around s f).notes)) w2) _ (taped_rightly (λ _. ⊤) f.place (opened_by way (format_of l (around s f).notes)) w2 (opened_rightly way (format_of l (around s f).notes) there w2.state.tape)) (λ _ w3.
        bind_any (λ _ _. ⊤) (items s f way es w3) _ (items_rightly way es fit w3) (λ _ w4.
        bind_any (λ _ _. ⊤) (taped f.place closed w4) _ (taped_rightly (λ _. ⊤) f.place closed w4 (closed_rightly w4.state.tape)) (λ _ w5. tt)))))
