-- Plain statements that the rules let pass never end Wrong: assignments, CALL, branches, and the start and the turn of a DO.
use Rattle.std.proofs.Common.{◌≡◌, ℕ, Bool, true, false, List, length, sym, subst, ⊎_elim}
use Rattle.std.specs.Prelude.{◌+ℤ◌, int_le, not, ◌&&◌, ◌||◌, ⊤}
use Rattle.std.proofs.lemmas.Bool.{and_parts, or_parts, or_cases, eqb-true}
use Rattle.ground.specs.declared.value.Kind.{Kind}
use Rattle.ground.specs.declared.value.Kind.TheVariants.{Integer, Logical}
use Rattle.ground.specs.Content.{Content, Nothing, Whole}
use Rattle.f66_tree.specs.Syntax.{Text, Formula, Ref, Item, Formulas, Par}
use Rattle.f66_tree.specs.World.{World, Gives, bind, settle}
use Rattle.f66_tree.specs.Units.{Context, Spot, Setting, Frame, around}
use Rattle.f66_tree.specs.Evaluation.{Sort, AnArray, AnIntrinsic, AFunction, sort_of, base, ticked, load, store_at, variable_in, par_in, place_by, value_of, values_of, spots_of, locate}
use Rattle.f66_tree.specs.Statements.{Normal, To, LoopParameters, fit_loop_in, loop_start, turn_of, loop_turn, label_at, by_sign_of, invoked}
use Rattle.f66_tree.proofs.Tries.{IsOfKind, if_both}
use Rattle.f66_names.specs.Sorts.{form_by, name_form, is_array_name, is_array_form, is_counter, takes}
use Rattle.f66_names.specs.Uses.{many, uses_of, uses_of_all, uses_of_target}
use Rattle.f66_names.specs.Kinds.{are_subscripts, takes_kind, is_counting}
use Rattle.f66_names.specs.StoreRules.{is_assignable}
use Rattle.f66_soundness.specs.Rightly.{Rightly, NeverWrong}
use Rattle.f66_soundness.proofs.RightlyLemmas.{bind_rightly, bind_any, settle_rightly}
use Rattle.f66_soundness.proofs.ContentLemmas.{AreWhole}
use Rattle.f66_soundness.proofs.ValueLemmas.{FitCounts}
use Rattle.f66_soundness.proofs.StepLemmas.{label_rightly, branch_rightly, loop_fits}
use Rattle.f66_soundness.proofs.StatementLemmas.{stored_takes}
use Rattle.unit_rules.specs.Types.{fits, assigns, are_passed}
use Rattle.f66_program.specs.Mentions.{mentions_of, mentions_of_all}
use Rattle.linked_soundness.proofs.KindLemmas.{subscripts_are_integers}
use Rattle.linked_soundness.proofs.PlaceLemmas.{IsSite, AreCounting, load_rightly, store_rightly, base_rightly, counter_rightly, par_rightly, sort_counting, element_rightly}
use Rattle.linked_soundness.proofs.ValueLemmas.{CallsRightly, AllCall, value_rightly, values_rightly, spots_rightly}

module _ (s : Setting) (f : Frame) (c : Context) (site : IsSite s f c) where
  -- ---- assignments ----

  -- an element of an array
  pub place_rightly : (x : Text) (es : Formulas) → is_array_name c x ≡ true → are_subscripts c es ≡ true → FitCounts c (uses_of_all es) → takes (name_form c x) (many es) ≡ true → AllCall s (mentions_of_all (around s f) es) → (w : World) →
      NeverWrong (place_by s f x (sort_of (around s f) x) (values_of s f es) w)
  place_rightly x es e subs u n m w =
      by_sort (sort_of (around s f) x) (sort_counting s f c site x) (subst (λ o. is_array_form (form_by o) ≡ true) (site.judged.sorts x) e) (subst (λ o. takes (form_by o) (many es) ≡ true) (site.judged.sorts x) n)
    where
      by_sort : (o : Sort) → AreCounting c o → is_array_form (form_by o) ≡ true → takes (form_by o) (many es) ≡ true → NeverWrong (place_by s f x o (values_of s f es) w)
      by_sort (AnArray ns) counting e1 n1 =
          element_rightly s f c site x ns counting (values_of s f es)
          (subst (λ k. (v : World) → Rightly (λ vs _. AreWhole k vs) (values_of s f es v)) (eqb-true _ _ n1) (values_rightly s f c site es (subscripts_are_integers c es subs) u m)) w
      by_sort (AnIntrinsic g) counting e1 n1 = let q : ⊥ = cc in absurd q
      by_sort AFunction counting e1 n1 = let q : ⊥ = cc in absurd q

  target_rightly : (e : Formula) (k : Kind) → is_assignable c e ≡ true → takes_kind c e k ≡ true → FitCounts c (uses_of_target e) → AllCall s (mentions_of (around s f) e) → (w : World) → NeverWrong (locate s f e w)
  target_rightly (Ref x) k a t u m w = base_rightly s f c site x (ticked s w)
  target_rightly (Item x es) k a t u m w =
      let p = or_parts _ _ u in
      place_rightly x es a (subscripted (is_array_form (form_by (sort_of c x))) _ a t) p.1 (stored_takes (form_by (sort_of c x)) (many es) a p.0) m.1 (ticked s w)
    where
      subscripted : (b same : Bool) → b ≡ true → (not b || (are_subscripts c es && same)) ≡ true → are_subscripts c es ≡ true
      subscripted true same h t1 = (and_parts _ _ t1).0
      subscripted false same h t1 = cc
  target_rightly _ k a t u m w = let q : ⊥ = cc in absurd q

  pub assigns_rightly : (x e : Formula) → (assigns c x e Integer || assigns c x e Logical) ≡ true → is_assignable c x ≡ true → FitCounts c (uses_of_target x) → FitCounts c (uses_of e) → AllCall s (mentions_of (around s f) x) → AllCall s (mentions_of (around s f) e) → (w : World) →
      NeverWrong (bind (locate s f x w) (λ p w1. bind (value_of s f e w1) (λ v w2. bind (store_at s f p v w2) (λ _ w3. Gives Normal w3))))
  assigns_rightly x e h a u v m n w =
      ⊎_elim (λ i. of_kind Integer i) (λ i. of_kind Logical i) (or_cases (assigns c x e Integer) _ h)
    where
      of_kind : (k : Kind) → assigns c x e k ≡ true → NeverWrong (bind (locate s f x w) (λ p w1. bind (value_of s f e w1) (λ y w2. bind (store_at s f p y w2) (λ _ w3. Gives Normal w3))))
      of_kind k i =
          let q = and_parts (takes_kind c x k) (fits c e k) i in
          bind_any (λ _ _. ⊤) (locate s f x w) _ (target_rightly x k a q.0 u m w) (λ p w1.
          bind_rightly (λ y _. IsOfKind k y) (λ _ _. ⊤) (value_of s f e w1) _ (value_rightly s f c site e k q.1 v n w1) (λ y w2 _.
          bind_any (λ _ _. ⊤) (store_at s f p y w2) _ (store_rightly s f p y w2) (λ _ w3. tt)))

  -- ---- CALL ----

  pub invokes_rightly : (x : Text) (es : Formulas) → are_passed c es ≡ true → FitCounts c (uses_of_all es) → CallsRightly s x (many es) → AllCall s (mentions_of_all (around s f) es) → (w : World) → NeverWrong (invoked s (s.linked.find x) (spots_of s f es) w)
  invokes_rightly x es h u right m w =
      subst (λ o. NeverWrong (invoked s o (spots_of s f es) w)) (sym right.1)
      (bind_rightly (λ ps _. length ps ≡ many es) (λ _ _. ⊤) (spots_of s f es w) _ (spots_rightly s f c site es h u m w) (λ ps w1 as_many.
      bind_any (λ _ _. ⊤) (s.call right.0 ps w1) _ (right.2 ps as_many w1) (λ _ w2. tt)))

  -- ---- branches and DO ----

  pub selects_rightly : (ls : List ℕ) (x : Text) → is_counter c x ≡ true → (w : World) → NeverWrong (bind (variable_in s f x w) (λ v w1. bind (settle f.place (label_at ls v) w1) (λ l w2. Gives (To l) w2)))
  selects_rightly ls x h w =
      bind_rightly (λ v _. IsOfKind Integer v) (λ _ _. ⊤) (variable_in s f x w) _ (counter_rightly s f c site x h w) (λ v w1 k.
      bind_any (λ _ _. ⊤) (settle f.place (label_at ls v) w1) _ (settle_rightly (λ _. ⊤) f.place (label_at ls v) w1 (label_rightly ls v k)) (λ l w2. tt))

  pub signs_rightly : (e : Formula) (l1 l2 l3 : ℕ) → fits c e Integer ≡ true → FitCounts c (uses_of e) → AllCall s (mentions_of (around s f) e) → (w : World) → NeverWrong (bind (value_of s f e w) (λ v w1. bind (settle f.place (by_sign_of l1 l2 l3 v) w1) (λ l w2. Gives (To l) w2)))
  signs_rightly e l1 l2 l3 h u m w =
      bind_rightly (λ v _. IsOfKind Integer v) (λ _ _. ⊤) (value_of s f e w) _ (value_rightly s f c site e Integer h u m w) (λ v w1 k.
      bind_any (λ _ _. ⊤) (settle f.place (by_sign_of l1 l2 l3 v) w1) _ (settle_rightly (λ _. ⊤) f.place (by_sign_of l1 l2 l3 v) w1 (branch_rightly l1 l2 l3 v k)) (λ l w2. tt))

  pub start_rightly : (x : Text) (p q r : Par) → is_counting c p ≡ true → is_counting c q ≡ true → is_counting c r ≡ true → (w : World) → NeverWrong (loop_start s f x p q r w)
  start_rightly x p q r hp hq hr w =
      bind_any (λ _ _. ⊤) (settle f.place (base s f x) w) _ (base_rightly s f c site x w) (λ o w0.
      bind_rightly (λ v _. IsOfKind Integer v) (λ _ _. ⊤) (par_in s f p w0) _ (par_rightly s f c site p hp w0) (λ a w1 ka.
      bind_rightly (λ v _. IsOfKind Integer v) (λ _ _. ⊤) (par_in s f q w1) _ (par_rightly s f c site q hq w1) (λ b w2 kb.
      bind_rightly (λ v _. IsOfKind Integer v) (λ _ _. ⊤) (par_in s f r w2) _ (par_rightly s f c site r hr w2) (λ d w3 kd.
      bind_any (λ _ _. ⊤) (settle f.place (fit_loop_in a b d) w3) _ (settle_rightly (λ _. ⊤) f.place (fit_loop_in a b d) w3 (loop_fits a b d ka kb kd)) (λ k w4.
      bind_any (λ _ _. ⊤) (store_at s f o a w4) _ (store_rightly s f o a w4) (λ _ w5. tt))))))

  pub turn_rightly : (x : Text) (k : LoopParameters) (w : World) → NeverWrong (loop_turn s f x k w)
  turn_rightly x k w =
      bind_any (λ _ _. ⊤) (settle f.place (base s f x) w) _ (base_rightly s f c site x w) (λ p w1.
      bind_rightly (λ v _. IsOfKind Integer v) (λ _ _. ⊤) (load s f Integer p w1) _ (load_rightly s f Integer p w1) (λ v w2 h. by_value p v w2 h))
    where
      by_value : (p : Spot) (v : Content) (w2 : World) → IsOfKind Integer v → NeverWrong (turn_of s f p k v w2)
      by_value p (Whole z) w2 h =
          if_both (λ o. NeverWrong {A = Bool} o) (int_le (z +ℤ k.step) k.limit) (bind (store_at s f p (Whole (z +ℤ k.step)) w2) (λ _ w3. Gives true w3)) (bind (store_at s f p Nothing w2) (λ _ w3. Gives false w3))
          (bind_any (λ _ _. ⊤) (store_at s f p (Whole (z +ℤ k.step)) w2) _ (store_rightly s f p (Whole (z +ℤ k.step)) w2) (λ _ w3. tt))
          (bind_any (λ _ _. ⊤) (store_at s f p Nothing w2) _ (store_rightly s f p Nothing w2) (λ _ w3. tt))
      by_value p _ w2 h = absurd h
