-- In a main unit a READ or WRITE that the rules let pass, by a FORMAT that is there, never ends Wrong, whatever its list is: items,
-- whole arrays and implied DOs.
use Rattle.std.proofs.Common.{◌≡◌, ℕ, zero, suc, ◌+◌, true, List, [], ◌∷◌, length, sym, subst}
use Rattle.std.specs.Prelude.{is_some, ⊤}
use Rattle.std.proofs.lemmas.Bool.{and_parts, or_parts}
use Rattle.ground.specs.declared.value.Kind.{Kind}
use Rattle.ground.specs.declared.value.Kind.TheVariants.{Integer}
use Rattle.f66_tree.specs.declared.editing.Way.{Way}
use Rattle.f66_tree.specs.declared.editing.Way.TheVariants.{Reading, Writing}
use Rattle.f66_tree.specs.Syntax.{Text, Formula, Ref, Item, Par, Entry, One, Many, Entries, NoEntry, AndEntry}
use Rattle.f66_tree.specs.World.{World, Out, Gives, settle}
use Rattle.f66_tree.specs.Records.{due, put, take, closed}
use Rattle.f66_tree.specs.Units.{Context, kind_of, format_of, sizes_of, Spot, Held, Setting, Frame}
use Rattle.f66_tree.specs.Evaluation.{ticked, load, par_in, pars_in, moved, locate}
use Rattle.f66_tree.specs.Statements.{LoopParameters, loop_start, loop_turn, taped, taken_content, transfer, edited, row, extent, one_or_row, item, item_turns, items, entry, on_unit, opened_by, record_by}
use Rattle.f66_tree.proofs.EditLemmas.{Awaits, due_rightly, put_rightly, take_rightly, opened_rightly, closed_rightly}
use Rattle.f66_tree.proofs.Tries.{IsOfKind}
use Rattle.f66_names.specs.Sorts.{name_form, is_integer}
use Rattle.f66_names.specs.Uses.{many}
use Rattle.f66_names.specs.Kinds.{is_counting, counts, are_entries}
use Rattle.f66_soundness.specs.Rightly.{NeverWrong}
use Rattle.f66_soundness.specs.SoundUnits.{in_main}
use Rattle.f66_soundness.proofs.RightlyLemmas.{bind_rightly, bind_any, settle_here, settle_rightly, choose_rightly}
use Rattle.f66_soundness.proofs.ContentLemmas.{AreWhole, asked_rightly, moved_rightly}
use Rattle.f66_soundness.proofs.ValueLemmas.{FitSizes, Main, setting_of, pars_rightly}
use Rattle.f66_soundness.proofs.StepLemmas.{taped_rightly, unit_rightly, extent_rightly}
use Rattle.f66_soundness.proofs.FitLemmas.{FitEntries, FitEntry, first_fit, others_fit, inner_fit, element_fit}
use Rattle.f66_soundness.proofs.StatementLemmas.{stored_takes, store_rightly, par_rightly, place_rightly, start_rightly, turn_rightly}

module _ (m : Main) where
  abbrev s : Setting
  s = setting_of m

  abbrev c : Context
  c = m.context

  -- ---- one place ----

  -- a content comes or goes where an edit of its type is due
  took_rightly : (f : Frame) (k : Kind) (w : World) → Awaits k w.state.tape.hand.mark → NeverWrong (taken_content f.place take w)
  took_rightly f k w h = bind_rightly (λ r _. IsOfKind k r.0) (λ _ _. ⊤) (settle f.place (take w.state.tape) w) _ (settle_rightly (λ r. IsOfKind k r.0) f.place (take w.state.tape) w (take_rightly k w.state.tape h)) (λ r w1 _. tt)

  transfer_rightly : (f : Frame) (way : Way) (k : Kind) (p : Spot) (w : World) → Awaits k w.state.tape.hand.mark → NeverWrong (transfer s f way k p w)
  transfer_rightly f Reading k p w h =
      bind_any (λ _ _. ⊤) (taken_content f.place take w) _ (took_rightly f k w h) (λ v w1. store_rightly m f p v w1)
  transfer_rightly f Writing k p w h =
      bind_rightly (λ v w1. IsOfKind k v × (w1 ≡ w)) (λ _ _. ⊤) (load s f k p w) _ (settle_here (IsOfKind k) f.place _ w (asked_rightly k _)) (λ v w1 i.
      taped_rightly (λ _. ⊤) f.place (put v) w1 (put_rightly k v w1.state.tape (subst (λ u. Awaits k u.state.tape.hand.mark) (sym i.1) h) i.0))

  edited_rightly : (f : Frame) (way : Way) (k : Kind) (p : Spot) (w : World) → NeverWrong (edited s f way k p w)
  edited_rightly f way k p w =
      bind_rightly (λ _ v. Awaits k v.state.tape.hand.mark) (λ _ _. ⊤) (taped f.place (due k) w) _ (taped_rightly (λ t. Awaits k t.hand.mark) f.place (due k) w (due_rightly k w.state.tape))
      (λ _ w1 h. transfer_rightly f way k p w1 h)

  -- ---- a whole array ----

  row_rightly : (f : Frame) (way : Way) (k : Kind) (p : Spot) (n i : ℕ) (w : World) → NeverWrong (row s f way k p n i w)
  row_rightly f way k p zero i w = tt
  row_rightly f way k p (suc n) i w =
      bind_any (λ _ _. ⊤) (settle f.place (moved s.linked p i) w) _ (settle_rightly (λ _. ⊤) f.place (moved s.linked p i) w (moved_rightly s.linked p i)) (λ q w1.
      bind_any (λ _ _. ⊤) (edited s f way k q w1) _ (edited_rightly f way k q w1) (λ _ w2. row_rightly f way k p n (i + 1) w2))

  one_or_row_rightly : (f : Frame) (way : Way) (k : Kind) (ns : List Par) → FitSizes ns → (p : Spot) (w : World) → NeverWrong (one_or_row s f way k ns p w)
  one_or_row_rightly f way k [] fit p w = edited_rightly f way k p w
  one_or_row_rightly f way k (n ∷ ns) fit p w =
      bind_rightly (λ ds _. AreWhole (length (n ∷ ns)) ds) (λ _ _. ⊤) (pars_in s f (n ∷ ns) w) _ (pars_rightly m f (n ∷ ns) fit w) (λ ds w1 h.
      bind_any (λ _ _. ⊤) (settle f.place (extent ds) w1) _ (settle_rightly (λ _. ⊤) f.place (extent ds) w1 (extent_rightly ds h.whole)) (λ count w2. row_rightly f way k p count 0 w2))

  -- ---- the list ----

  item_rightly : (f : Frame) (way : Way) (e : Formula) → FitEntry way c (One e) → (w : World) → NeverWrong (item s f way e w)
  item_rightly f way (Ref x) h w = one_or_row_rightly f way (kind_of (in_main m.notes) x) (sizes_of x m.notes) (m.sizes x) (Held f.unit x 0) (ticked s w)
  item_rightly f way (Item x es) h w =
      let u = or_parts _ _ h.count in
      let q = element_fit way c x es h.kind h.store in
      bind_any (λ _ _. ⊤) (locate s f (Item x es) w) _ (place_rightly m f x es q.0 q.1 u.1 (stored_takes (name_form c x) (many es) q.0 u.0) (ticked s w)) (λ p w1. edited_rightly f way (kind_of (in_main m.notes) x) p w1)
  item_rightly f way _ h w = let e = h.shape in let q : ⊥ = cc in absurd q

  turns_rightly : (n : ℕ) (f : Frame) (x : Text) (k : LoopParameters) (body : World → Out ⊤) → ((w : World) → NeverWrong (body w)) → (w : World) → NeverWrong (item_turns n s f x k body w)
  turns_rightly zero f x k body h w = tt
  turns_rightly (suc n) f x k body h w =
      bind_any (λ _ _. ⊤) (s.begin w) _ (m.begins w) (λ _ w1.
      bind_any (λ _ _. ⊤) (body w1) _ (h w1) (λ _ w2.
      bind_any (λ _ _. ⊤) (loop_turn s f x k w2) _ (turn_rightly m f x k w2) (λ on w3.
      choose_rightly (λ _ _. ⊤) on (item_turns n s f x k body w3) (Gives tt w3) (turns_rightly n f x k body h w3) tt)))

  implied_rightly : (f : Frame) (x : Text) (p q r : Par) → counts c x p q r ≡ true → (w : World) → NeverWrong (loop_start s f x p q r w)
  implied_rightly f x p q r e w =
      let first = and_parts (is_integer (kind_of c x)) _ e in
      let second = and_parts (is_counting c p) _ first.1 in
      let third = and_parts (is_counting c q) (is_counting c r) second.1 in
      start_rightly m f x p q r second.0 third.0 third.1 w

  mutual
    items_rightly : (f : Frame) (way : Way) (es : Entries) → FitEntries way c es → (w : World) → NeverWrong (items s f way es w)
    items_rightly f way NoEntry h w = tt
    items_rightly f way (AndEntry e es) h w =
        bind_any (λ _ _. ⊤) (entry s f way e (ticked s w)) _ (entry_rightly f way e (first_fit way c e es h) (ticked s w)) (λ _ w1. items_rightly f way es (others_fit way c e es h) w1)

    entry_rightly : (f : Frame) (way : Way) (e : Entry) → FitEntry way c e → (w : World) → NeverWrong (entry s f way e w)
    entry_rightly f way (One e) h w = item_rightly f way e h w
    entry_rightly f way (Many es x p q r) h w =
        bind_any (λ _ _. ⊤) (loop_start s f x p q r w) _ (implied_rightly f x p q r (and_parts (are_entries way c es) _ h.kind).1 w)
        (λ k w1. turns_rightly s.most f x k (items s f way es) (items_rightly f way es (inner_fit way c es x p q r h)) w1)

  -- ---- the statement ----

  pub record_rightly : (f : Frame) (way : Way) (u : Par) (l : ℕ) (es : Entries) → is_counting c u ≡ true → is_some (format_of l m.notes) ≡ true → FitEntries way c es → (w : World) → NeverWrong (record_by s f way u l es w)
  record_rightly f way u l es counting there fit w =
      bind_rightly (λ v _. IsOfKind Integer v) (λ _ _. ⊤) (par_in s f u w) _ (par_rightly m f u counting w) (λ v w1 h.
      bind_any (λ _ _. ⊤) (settle f.place (on_unit way v) w1) _ (settle_rightly (λ _. ⊤) f.place (on_unit way v) w1 (unit_rightly way v h)) (λ _ w2.
      bind_any (λ _ _. ⊤) (taped f.place (opened_by way (format_of l m.notes)) w2) _ (taped_rightly (λ _. ⊤) f.place (opened_by way (format_of l m.notes)) w2 (opened_rightly way (format_of l m.notes) there w2.state.tape)) (λ _ w3.
      bind_any (λ _ _. ⊤) (items s f way es w3) _ (items_rightly f way es fit w3) (λ _ w4.
      bind_any (λ _ _. ⊤) (taped f.place closed w4) _ (taped_rightly (λ _. ⊤) f.place closed w4 (closed_rightly w4.state.tape)) (λ _ w5. tt)))))
