-- In a main unit each plain statement that the rules let pass, the start and the turn of a DO among them, never ends Wrong.
use Rattle.std.proofs.Common.{◌≡◌, ℕ, Bool, true, false, List, subst, ⊎_elim}
use Rattle.std.specs.Prelude.{◌+ℤ◌, int_le, not, ◌&&◌, ◌||◌, ⊤}
use Rattle.std.proofs.lemmas.Bool.{and_parts, or_parts, or_cases, not-false, eqb-true}
use Rattle.ground.specs.declared.value.Kind.{Kind}
use Rattle.ground.specs.declared.value.Kind.TheVariants.{Integer, Logical}
use Rattle.ground.specs.Content.{Content, Nothing, Whole}
use Rattle.f66_tree.specs.Syntax.{Text, Formula, Ref, Item, Formulas, Par, Constant, Named}
use Rattle.f66_tree.specs.World.{Store, World, Gives, bind, settle}
use Rattle.f66_tree.specs.Units.{Context, kind_of, sizes_of, Spot, Held, Lent, Linkage, Setting, Frame}
use Rattle.f66_tree.specs.Evaluation.{Sort, AnArray, AnIntrinsic, AFunction, sort_of, ticked, load, store_at, stored, variable_in, par_in, place_by, value_of, values_of, locate}
use Rattle.f66_tree.specs.Statements.{Normal, To, LoopParameters, fit_loop_in, loop_start, turn_of, loop_turn, label_at, by_sign_of}
use Rattle.f66_tree.proofs.Tries.{IsOfKind, TriesRightly, if_both}
use Rattle.f66_names.specs.declared.name_form.NameForm.{NameForm}
use Rattle.f66_names.specs.declared.name_form.NameForm.TheVariants as forms
use Rattle.f66_names.specs.declared.name_form.Manner.TheVariants.{Stored}
use Rattle.f66_names.specs.Sorts.{form_by, name_form, is_array_name, is_array_form, is_counter, takes}
use Rattle.f66_names.specs.Uses.{many, uses_of, uses_of_all, uses_of_target}
use Rattle.f66_names.specs.Kinds.{fits, are_subscripts, takes_kind, assigns, is_counting}
use Rattle.f66_names.specs.NameRules.{miscounts_by}
use Rattle.f66_names.specs.StoreRules.{is_assignable}
use Rattle.f66_soundness.specs.Rightly.{Rightly, NeverWrong}
use Rattle.f66_soundness.specs.SoundUnits.{in_main}
use Rattle.f66_soundness.proofs.RightlyLemmas.{bind_rightly, bind_any, settle_rightly}
use Rattle.f66_soundness.proofs.KindLemmas.{integer_only, subscripts_whole}
use Rattle.f66_soundness.proofs.ContentLemmas.{AreWhole}
use Rattle.f66_soundness.proofs.StepLemmas.{label_rightly, branch_rightly, loop_fits}
use Rattle.f66_soundness.proofs.ValueLemmas.{FitSort, array_fit, Main, setting_of, FitCounts, load_rightly, variable_rightly, element_rightly, value_rightly, values_rightly}

stored_rightly : (l : Linkage) (p : Spot) (v : Content) (st : Store) → TriesRightly (λ _. ⊤) (stored l p v st)
stored_rightly l (Held u x o) v st = tt
stored_rightly l (Lent c) v st = tt

pub stored_takes : (form : NameForm) (n : ℕ) → is_array_form form ≡ true → miscounts_by form (Stored n) ≡ false → takes form n ≡ true
stored_takes (forms.Array k) n e h = not-false _ h
stored_takes (forms.Intrinsic a) n e h = cc
stored_takes forms.Plain n e h = cc

module _ (m : Main) where
  abbrev s : Setting
  s = setting_of m

  abbrev c : Context
  c = m.context

  pub store_rightly : (f : Frame) (p : Spot) (v : Content) (w : World) → NeverWrong (store_at s f p v w)
  store_rightly f p v w =
      bind_any (λ _ _. ⊤) (settle f.place (stored s.linked p v w.state.store) w) _ (settle_rightly (λ _. ⊤) f.place (stored s.linked p v w.state.store) w (stored_rightly s.linked p v w.state.store)) (λ st w1. tt)

  pub counter_rightly : (f : Frame) (x : Text) → is_counter c x ≡ true → (w : World) → Rightly (λ v _. IsOfKind Integer v) (variable_in s f x w)
  counter_rightly f x e w = subst (λ k. Rightly (λ v _. IsOfKind k v) (variable_in s f x w)) (integer_only (kind_of c x) (and_parts _ _ e).1) (variable_rightly m f x w)

  pub par_rightly : (f : Frame) (n : Par) → is_counting c n ≡ true → (w : World) → Rightly (λ v _. IsOfKind Integer v) (par_in s f n w)
  par_rightly f (Constant z) e w = tt
  par_rightly f (Named x) e w = counter_rightly f x e w

  -- an element of an array
  pub place_rightly : (f : Frame) (x : Text) (es : Formulas) → is_array_name c x ≡ true → are_subscripts c es ≡ true → FitCounts c (uses_of_all es) → takes (name_form c x) (many es) ≡ true → (w : World) → NeverWrong (place_by s f x (sort_of (in_main m.notes) x) (values_of s f es) w)
  place_rightly f x es e subs u n w =
      by_sort (sort_of (in_main m.notes) x) (array_fit (sizes_of x m.notes) x (m.sizes x)) (subst (λ o. is_array_form (form_by o) ≡ true) (m.sorts x) e) (subst (λ o. takes (form_by o) (many es) ≡ true) (m.sorts x) n)
    where
      by_sort : (o : Sort) → FitSort o → is_array_form (form_by o) ≡ true → takes (form_by o) (many es) ≡ true → NeverWrong (place_by s f x o (values_of s f es) w)
      by_sort (AnArray ns) fit e1 n1 = element_rightly m f x ns fit (values_of s f es) (subst (λ k. (v : World) → Rightly (λ vs _. AreWhole k vs) (values_of s f es v)) (eqb-true _ _ n1) (values_rightly m f es (subscripts_whole c es subs) u)) w
      by_sort (AnIntrinsic g) fit e1 n1 = let q : ⊥ = cc in absurd q
      by_sort AFunction fit e1 n1 = let q : ⊥ = cc in absurd q

  -- the target of an assignment
  target_rightly : (f : Frame) (e : Formula) (k : Kind) → is_assignable c e ≡ true → takes_kind c e k ≡ true → FitCounts c (uses_of_target e) → (w : World) → NeverWrong (locate s f e w)
  target_rightly f (Ref x) k a t u w = tt
  target_rightly f (Item x es) k a t u w =
      let p = or_parts _ _ u in
      place_rightly f x es a (subscripted (is_array_form (form_by (sort_of c x))) _ a t) p.1 (stored_takes (form_by (sort_of c x)) (many es) a p.0) (ticked s w)
    where
      subscripted : (b same : Bool) → b ≡ true → (not b || (are_subscripts c es && same)) ≡ true → are_subscripts c es ≡ true
      subscripted true same h t1 = (and_parts _ _ t1).0
      subscripted false same h t1 = cc
  target_rightly f _ k a t u w = let q : ⊥ = cc in absurd q

  pub assigns_rightly : (f : Frame) (x e : Formula) → (assigns c x e Integer || assigns c x e Logical) ≡ true → is_assignable c x ≡ true → FitCounts c (uses_of_target x) → FitCounts c (uses_of e) → (w : World) →
      NeverWrong (bind (locate s f x w) (λ p w1. bind (value_of s f e w1) (λ v w2. bind (store_at s f p v w2) (λ _ w3. Gives Normal w3))))
  assigns_rightly f x e h a u v w =
      ⊎_elim (λ i. of_kind Integer i) (λ i. of_kind Logical i) (or_cases (assigns c x e Integer) _ h)
    where
      of_kind : (k : Kind) → assigns c x e k ≡ true → NeverWrong (bind (locate s f x w) (λ p w1. bind (value_of s f e w1) (λ y w2. bind (store_at s f p y w2) (λ _ w3. Gives Normal w3))))
      of_kind k i =
          let q = and_parts (takes_kind c x k) (fits c e k) i in
          bind_any (λ _ _. ⊤) (locate s f x w) _ (target_rightly f x k a q.0 u w) (λ p w1.
          bind_rightly (λ y _. IsOfKind k y) (λ _ _. ⊤) (value_of s f e w1) _ (value_rightly m f e k q.1 v w1) (λ y w2 _.
          bind_any (λ _ _. ⊤) (store_at s f p y w2) _ (store_rightly f p y w2) (λ _ w3. tt)))

  pub selects_rightly : (f : Frame) (ls : List ℕ) (x : Text) → is_counter c x ≡ true → (w : World) → NeverWrong (bind (variable_in s f x w) (λ v w1. bind (settle f.place (label_at ls v) w1) (λ l w2. Gives (To l) w2)))
  selects_rightly f ls x h w =
      bind_rightly (λ v _. IsOfKind Integer v) (λ _ _. ⊤) (variable_in s f x w) _ (counter_rightly f x h w) (λ v w1 k.
      bind_any (λ _ _. ⊤) (settle f.place (label_at ls v) w1) _ (settle_rightly (λ _. ⊤) f.place (label_at ls v) w1 (label_rightly ls v k)) (λ l w2. tt))

  pub signs_rightly : (f : Frame) (e : Formula) (l1 l2 l3 : ℕ) → fits c e Integer ≡ true → FitCounts c (uses_of e) → (w : World) → NeverWrong (bind (value_of s f e w) (λ v w1. bind (settle f.place (by_sign_of l1 l2 l3 v) w1) (λ l w2. Gives (To l) w2)))
  signs_rightly f e l1 l2 l3 h u w =
      bind_rightly (λ v _. IsOfKind Integer v) (λ _ _. ⊤) (value_of s f e w) _ (value_rightly m f e Integer h u w) (λ v w1 k.
      bind_any (λ _ _. ⊤) (settle f.place (by_sign_of l1 l2 l3 v) w1) _ (settle_rightly (λ _. ⊤) f.place (by_sign_of l1 l2 l3 v) w1 (branch_rightly l1 l2 l3 v k)) (λ l w2. tt))

  -- a DO begins, and after a turn
  pub start_rightly : (f : Frame) (x : Text) (p q r : Par) → is_counting c p ≡ true → is_counting c q ≡ true → is_counting c r ≡ true → (w : World) → NeverWrong (loop_start s f x p q r w)
  start_rightly f x p q r hp hq hr w =
      bind_rightly (λ v _. IsOfKind Integer v) (λ _ _. ⊤) (par_in s f p w) _ (par_rightly f p hp w) (λ a w1 ka.
      bind_rightly (λ v _. IsOfKind Integer v) (λ _ _. ⊤) (par_in s f q w1) _ (par_rightly f q hq w1) (λ b w2 kb.
      bind_rightly (λ v _. IsOfKind Integer v) (λ _ _. ⊤) (par_in s f r w2) _ (par_rightly f r hr w2) (λ d w3 kd.
      bind_any (λ _ _. ⊤) (settle f.place (fit_loop_in a b d) w3) _ (settle_rightly (λ _. ⊤) f.place (fit_loop_in a b d) w3 (loop_fits a b d ka kb kd)) (λ k w4. tt))))

  pub turn_rightly : (f : Frame) (x : Text) (k : LoopParameters) (w : World) → NeverWrong (loop_turn s f x k w)
  turn_rightly f x k w = bind_rightly (λ v _. IsOfKind Integer v) (λ _ _. ⊤) (load s f Integer (Held f.unit x 0) w) _ (load_rightly m f Integer (Held f.unit x 0) w) (λ v w1 h. by_value v w1 h)
    where
      by_value : (v : Content) (w1 : World) → IsOfKind Integer v → NeverWrong (turn_of s f (Held f.unit x 0) k v w1)
      by_value (Whole z) w1 h =
          if_both (λ o. NeverWrong {A = Bool} o) (int_le (z +ℤ k.step) k.limit) (bind (store_at s f (Held f.unit x 0) (Whole (z +ℤ k.step)) w1) (λ _ w2. Gives true w2)) (bind (store_at s f (Held f.unit x 0) Nothing w1) (λ _ w2. Gives false w2)) tt tt
      by_value _ w1 h = absurd h
