-- An expression that has a type gives a content of that type, or ends otherwise, but never Wrong, where its calls lead to units
-- that never go wrong; and so with actuals, of which there are as many spots.
use Rattle.std.proofs.Common.{◌≡◌, ◌+◌, ℕ, Bool, true, false, true≢false, List, length, refl, sym, ◌∙◌, subst, arith, ⊎_elim}
use Rattle.std.specs.Prelude.{◌&&◌, ◌||◌, Some, ⊤}
use Rattle.std.specs.List.{AllByRecursion}
use Rattle.std.proofs.lemmas.Bool.{and_parts, or_parts, or_cases, not-false, eqb-true}
use Rattle.ground.specs.declared.value.Kind.{Kind}
use Rattle.ground.specs.declared.value.Kind.TheVariants.{Integer, Logical}
use Rattle.ground.specs.Content.{Content, Nothing, Whole, Truth}
use Rattle.f66_tree.specs.Syntax.{Text, Formula, Int, Letter, Ref, Item, Group, Plus, Minus, Not, Pair, Formulas, NoFormula, AndFormula}
use Rattle.f66_tree.specs.World.{World, Out, Try, holding, put_in}
use Rattle.f66_tree.specs.Units.{Context, kind_of, Spot, Held, Setting, Frame, around}
use Rattle.f66_tree.specs.Evaluation.{Sort, AnArray, AnIntrinsic, AFunction, sort_of, intrinsic, ticked, load, variable_in, element, called, referred, place_by, place_of, is_array, names_place, actual_of, operate, same_whole, opposite, denied, truth_in, by_sign, value_of, values_of, subscripts_of, spots_of, asks}
use Rattle.f66_tree.proofs.Tries.{IsOfKind, TriesRightly}
use Rattle.f66_names.specs.declared.name_form.Manner.TheVariants.{With}
use Rattle.f66_names.specs.Sorts.{form_by, is_foreign, is_integer}
use Rattle.f66_names.specs.Uses.{many, uses_of, uses_of_all}
use Rattle.f66_names.specs.Kinds.{same_kind, may_be, operand, outcome, are_subscripts}
use Rattle.f66_names.specs.NameRules.{miscounts, miscounts_by}
use Rattle.f66_soundness.specs.Rightly.{Rightly, NeverWrong}
use Rattle.f66_soundness.proofs.RightlyLemmas.{bind_rightly, bind_any, settle_rightly}
use Rattle.f66_soundness.proofs.KindLemmas.{same_is, none_of_both}
use Rattle.f66_soundness.proofs.ContentLemmas.{AreWhole, operate_rightly, same_rightly, opposite_rightly, denied_rightly, truth_rightly, intrinsic_rightly}
use Rattle.f66_soundness.proofs.ValueLemmas.{one_more, FitCounts}
use Rattle.unit_rules.specs.Types.{applied, fits, are_integers, are_actuals, are_passed, is_letter, is_whole, kind_seen}
use Rattle.f66_program.specs.Mentions as program
use Rattle.f66_program.specs.Mentions.{Mention, ACall, mentions_of, mentions_of_all}
use Rattle.linked_soundness.proofs.PartLemmas.{all_parts, any_rightly}
use Rattle.linked_soundness.proofs.KindLemmas.{subscripts_are_integers, actuals_are_passed}
use Rattle.linked_soundness.proofs.PlaceLemmas.{IsSite, AreCounting, no_integers, load_rightly, base_rightly, variable_rightly, sort_counting, element_rightly}
use Rattle.f66_tree.specs.Syntax as f66

-- a name calls a unit, which never goes wrong with so many actuals
abbrev pub CallsRightly : Setting → Text → ℕ → Type 0
CallsRightly s x n = (v : ℕ) × (s.linked.find x ≡ Some v) × ((ps : List Spot) → length ps ≡ n → (w : World) → NeverWrong (s.call v ps w))

abbrev pub IsRightly : Setting → Mention → Type 0
IsRightly s (ACall by_call x es) = CallsRightly s x (many es)
IsRightly s _ = ⊤

-- all calls among these names do
abbrev pub AllCall : Setting → List Mention → Type 0
AllCall s ms = AllByRecursion (IsRightly s) ms

-- the subscripts of an element are integers, and so many
abbrev has_integers : Context → Formula → Bool
has_integers c (Item x es) = are_integers c es
has_integers c _ = true

abbrev subscript_count : Formula → ℕ
subscript_count (Item x es) = many es
subscript_count _ = 0

module _ (s : Setting) (f : Frame) (c : Context) (site : IsSite s f c) where
  may_is : (x : Text) (k : Kind) → may_be c x k ≡ true → kind_of c x ≡ k
  may_is x k e = ⊎_elim (same_is (kind_of c x) k) (λ o. absurd (true≢false (sym o ∙ site.judged.own x))) (or_cases (same_kind (kind_of c x) k) (is_foreign c x) e)

  loaded_rightly : (x : Text) (k : Kind) → may_be c x k ≡ true → (p : Spot) (w : World) → Rightly (λ v _. IsOfKind k v) (load s f (kind_of (around s f) x) p w)
  loaded_rightly x k e p w =
      subst (λ j. Rightly (λ v _. IsOfKind j v) (load s f (kind_of (around s f) x) p w)) (sym (site.judged.kinds x) ∙ may_is x k e) (load_rightly s f (kind_of (around s f) x) p w)

  called_rightly : (x : Text) (k : Kind) → may_be c x k ≡ true → (n : ℕ) → CallsRightly s x n → (spots : World → Out (List Spot)) → ((w : World) → Rightly (λ ps _. length ps ≡ n) (spots w)) → (w : World) →
      Rightly (λ v _. IsOfKind k v) (called s f x (s.linked.find x) spots w)
  called_rightly x k e n right spots h w =
      subst (λ o. Rightly (λ v _. IsOfKind k v) (called s f x o spots w)) (sym right.1)
      (bind_rightly (λ ps _. length ps ≡ n) (λ v _. IsOfKind k v) (spots w) _ (h w) (λ ps w1 as_many.
      bind_any (λ v _. IsOfKind k v) (s.call right.0 ps (holding (put_in (s.linked.number right.0 x 0) Nothing w1.state.store) w1)) _ (right.2 ps as_many (holding (put_in (s.linked.number right.0 x 0) Nothing w1.state.store) w1))
      (λ _ w2. loaded_rightly x k e (Held right.0 x 0) w2)))

  -- an element, an intrinsic function's value, or that of a function that is called
  referred_rightly : (x : Text) (es : Formulas) (o : Sort) → AreCounting c o → (k : Kind) → applied (form_by o) (are_subscripts c es && may_be c x k) (is_integer (kind_of c x) && are_integers c es && same_kind Integer k) (may_be c x k && are_actuals c es) ≡ true → miscounts_by (form_by o) (With (many es)) ≡ false →
      IsRightly s (program.applied x es o) → (vals : World → Out (List Content)) → (are_integers c es ≡ true → (w : World) → Rightly (λ vs _. AreWhole (many es) vs) (vals w)) →
      (spots : World → Out (List Spot)) → (are_passed c es ≡ true → (w : World) → Rightly (λ ps _. length ps ≡ many es) (spots w)) → (w : World) → Rightly (λ v _. IsOfKind k v) (referred s f x o vals spots w)
  referred_rightly x es (AnArray ns) counting k e counts right vals h spots g w =
      let p = and_parts (are_subscripts c es) _ e in
      let same : many es ≡ length ns = eqb-true (many es) (length ns) (not-false _ counts) in
      bind_any (λ v _. IsOfKind k v) (element s f x ns vals w) _
      (element_rightly s f c site x ns counting vals (subst (λ n. (v : World) → Rightly (λ vs _. AreWhole n vs) (vals v)) same (h (subscripts_are_integers c es p.0))) w)
      (λ q w1. loaded_rightly x k p.1 q w1)
  referred_rightly x es (AnIntrinsic i) counting k e counts right vals h spots g w =
      let p = and_parts (is_integer (kind_of c x) && are_integers c es) _ e in
      let whole = (and_parts (is_integer (kind_of c x)) _ p.0).1 in
      bind_rightly (λ vs _. AreWhole (many es) vs) (λ v _. IsOfKind k v) (vals w) _ (h whole w)
      (λ vs w1 a. settle_rightly (IsOfKind k) f.place (intrinsic i vs) w1 (subst (λ j. TriesRightly (IsOfKind j) (intrinsic i vs)) (same_is Integer k p.1) (intrinsic_rightly i (many es) vs (not-false _ counts) a)))
  referred_rightly x es AFunction counting k e counts right vals h spots g w =
      let p = and_parts (may_be c x k) _ e in
      called_rightly x k p.0 (many es) right spots (g (actuals_are_passed c es p.1)) w

  sign_rightly : (op : Content → Try Content) (j k : Kind) → ((v : Content) → IsOfKind j v → TriesRightly (IsOfKind j) (op v)) → j ≡ k → (o : Out Content) → Rightly (λ v _. IsOfKind j v) o → Rightly (λ v _. IsOfKind k v) (by_sign s f op o)
  sign_rightly op j k h e o a =
      subst (λ i. Rightly (λ v _. IsOfKind i v) (by_sign s f op o)) e
      (bind_rightly (λ v _. IsOfKind j v) (λ v _. IsOfKind j v) o _ a (λ v w q. settle_rightly (IsOfKind j) f.place (op v) w (h v q)))

  -- ---- actuals ----

  letter_rightly : (e : Formula) → is_letter e ≡ true → (w : World) → NeverWrong (value_of s f e w)
  letter_rightly (Letter l) h w = tt
  letter_rightly e h w = absurd (true≢false (sym h))

  lent_rightly : (place : World → Out Spot) (val : World → Out Content) → ((w : World) → NeverWrong (val w)) → (w : World) → NeverWrong (actual_of false place val w)
  lent_rightly place val h w = bind_any (λ _ _. ⊤) (val w) _ (h w) (λ v w1. tt)

  -- a name with parentheses is an array's element, or else a value
  item_rightly : (x : Text) (es : Formulas) (o : Sort) → AreCounting c o → (k : Kind) → applied (form_by o) (are_subscripts c es && may_be c x k) (is_integer (kind_of c x) && are_integers c es && same_kind Integer k) (may_be c x k && are_actuals c es) ≡ true → miscounts_by (form_by o) (With (many es)) ≡ false →
      (subs : World → Out (List Content)) → (are_integers c es ≡ true → (w : World) → Rightly (λ vs _. AreWhole (many es) vs) (subs w)) → (val : World → Out Content) → ((w : World) → NeverWrong (val w)) → (w : World) →
      NeverWrong (actual_of (is_array o) (λ w1. place_by s f x o subs (ticked s w1)) val w)
  item_rightly x es (AnArray ns) counting k e counts subs h val g w =
      let p = and_parts (are_subscripts c es) _ e in
      let same : many es ≡ length ns = eqb-true (many es) (length ns) (not-false _ counts) in
      element_rightly s f c site x ns counting subs (subst (λ n. (v : World) → Rightly (λ vs _. AreWhole n vs) (subs v)) same (h (subscripts_are_integers c es p.0))) (ticked s w)
  item_rightly x es (AnIntrinsic i) counting k e counts subs h val g w = lent_rightly (λ w1. place_by s f x (AnIntrinsic i) subs (ticked s w1)) val g w
  item_rightly x es AFunction counting k e counts subs h val g w = lent_rightly (λ w1. place_by s f x AFunction subs (ticked s w1)) val g w

  -- an actual by what is known of its subscripts and of its value
  actual_rightly : (e : Formula) → (is_letter e || (is_whole c e || fits c e (kind_seen c e))) ≡ true → FitCounts c (uses_of e) → (subs : World → Out (List Content)) → (has_integers c e ≡ true → (w : World) → Rightly (λ vs _. AreWhole (subscript_count e) vs) (subs w)) →
      (val : World → Out Content) → (is_letter e ≡ true → (w : World) → NeverWrong (val w)) → (fits c e (kind_seen c e) ≡ true → (w : World) → NeverWrong (val w)) → (w : World) →
      NeverWrong (actual_of (names_place (around s f) e) (place_of s f e subs) val w)
  actual_rightly (Ref x) e u subs h val g k w = base_rightly s f c site x (ticked s w)
  actual_rightly (Item x es) e u subs h val g k w =
      let counts = (or_parts _ _ u).0 in
      item_rightly x es (sort_of (around s f) x) (sort_counting s f c site x) (kind_seen c (Item x es))
      (subst (λ o. applied (form_by o) (are_subscripts c es && may_be c x (kind_seen c (Item x es))) (is_integer (kind_of c x) && are_integers c es && same_kind Integer (kind_seen c (Item x es))) (may_be c x (kind_seen c (Item x es)) && are_actuals c es) ≡ true) (site.judged.sorts x) e)
      (subst (λ o. miscounts_by (form_by o) (With (many es)) ≡ false) (site.judged.sorts x) counts) subs h val (k e) w
  actual_rightly (Letter l) e u subs h val g k w = lent_rightly (place_of s f (Letter l) subs) val (g refl) w
  actual_rightly a e u subs h val g k w = lent_rightly (place_of s f a subs) val (k e) w

  mutual
    pub value_rightly : (e : Formula) (k : Kind) → fits c e k ≡ true → FitCounts c (uses_of e) → AllCall s (mentions_of (around s f) e) → (w : World) → Rightly (λ v _. IsOfKind k v) (value_of s f e w)
    value_rightly (Int z) k e u m w = subst (λ j. IsOfKind j (Whole z)) (same_is Integer k e) tt
    value_rightly (f66.Truth b) k e u m w = subst (λ j. IsOfKind j (Truth b)) (same_is Logical k e) tt
    value_rightly (Letter l) k e u m w = absurd (true≢false (sym e))
    value_rightly (Ref x) k e u m w = subst (λ j. Rightly (λ v _. IsOfKind j v) (variable_in s f x (ticked s w))) (may_is x k (and_parts _ _ e).1) (variable_rightly s f c site x (ticked s w))
    value_rightly (Item x es) k e u m w =
        let p = or_parts _ _ u in
        referred_rightly x es (sort_of (around s f) x) (sort_counting s f c site x) k
        (subst (λ o. applied (form_by o) (are_subscripts c es && may_be c x k) (is_integer (kind_of c x) && are_integers c es && same_kind Integer k) (may_be c x k && are_actuals c es) ≡ true) (site.judged.sorts x) e)
        (subst (λ o. miscounts_by (form_by o) (With (many es)) ≡ false) (site.judged.sorts x) p.0) m.0 (values_of s f es) (λ whole. values_rightly es whole p.1 m.1) (spots_of s f es) (λ passed. spots_rightly es passed p.1 m.1) (ticked s w)
    value_rightly (Group a) k e u m w = value_rightly a k e u m (ticked s w)
    value_rightly (Plus a) k e u m w =
        let p = and_parts (same_kind Integer k) _ e in
        sign_rightly same_whole Integer k same_rightly (same_is Integer k p.0) _ (value_rightly a Integer p.1 u m (ticked s w))
    value_rightly (Minus a) k e u m w =
        let p = and_parts (same_kind Integer k) _ e in
        sign_rightly opposite Integer k opposite_rightly (same_is Integer k p.0) _ (value_rightly a Integer p.1 u m (ticked s w))
    value_rightly (Not a) k e u m w =
        let p = and_parts (same_kind Logical k) _ e in
        sign_rightly denied Logical k denied_rightly (same_is Logical k p.0) _ (value_rightly a Logical p.1 u m (ticked s w))
    value_rightly (Pair op a b) k e u m w =
        let p = and_parts (same_kind (outcome op) k) _ e in
        let both = and_parts (fits c a (operand op)) _ p.1 in
        let counts = none_of_both (miscounts c) (uses_of a) (uses_of b) u in
        let calls = all_parts (IsRightly s) (mentions_of (around s f) a) (mentions_of (around s f) b) m in
        bind_rightly (λ v _. IsOfKind (operand op) v) (λ v _. IsOfKind k v) (value_of s f a (ticked s w)) _ (value_rightly a (operand op) both.0 counts.0 calls.0 (ticked s w)) (λ x w1 h.
        bind_rightly (λ v _. IsOfKind (operand op) v) (λ v _. IsOfKind k v) (value_of s f b w1) _ (value_rightly b (operand op) both.1 counts.1 calls.1 w1) (λ y w2 g.
        settle_rightly (IsOfKind k) f.place (operate op x y) w2 (subst (λ j. TriesRightly (IsOfKind j) (operate op x y)) (same_is (outcome op) k p.0) (operate_rightly op x y h g))))

    pub values_rightly : (es : Formulas) → are_integers c es ≡ true → FitCounts c (uses_of_all es) → AllCall s (mentions_of_all (around s f) es) → (w : World) → Rightly (λ vs _. AreWhole (many es) vs) (values_of s f es w)
    values_rightly NoFormula e u m w = no_integers
    values_rightly (AndFormula a es) e u m w =
        let both = and_parts (fits c a Integer) _ e in
        let counts = none_of_both (miscounts c) (uses_of a) (uses_of_all es) u in
        let calls = all_parts (IsRightly s) (mentions_of (around s f) a) (mentions_of_all (around s f) es) m in
        bind_rightly (λ v _. IsOfKind Integer v) (λ vs _. AreWhole (many es + 1) vs) (value_of s f a w) _ (value_rightly a Integer both.0 counts.0 calls.0 w) (λ v w1 h.
        bind_rightly (λ vs _. AreWhole (many es) vs) (λ vs _. AreWhole (many es + 1) vs) (values_of s f es w1) _ (values_rightly es both.1 counts.1 calls.1 w1) (λ vs w2 g. one_more (many es) v vs h g))

    subscripts_rightly : (e : Formula) → has_integers c e ≡ true → FitCounts c (uses_of e) → AllCall s (mentions_of (around s f) e) → (w : World) → Rightly (λ vs _. AreWhole (subscript_count e) vs) (subscripts_of s f e w)
    subscripts_rightly (Item x es) e u m w = values_rightly es e (or_parts _ _ u).1 m.1 w
    subscripts_rightly _ e u m w = no_integers

    pub spots_rightly : (es : Formulas) → are_passed c es ≡ true → FitCounts c (uses_of_all es) → AllCall s (mentions_of_all (around s f) es) → (w : World) → Rightly (λ ps _. length ps ≡ many es) (spots_of s f es w)
    spots_rightly NoFormula e u m w = refl
    spots_rightly (AndFormula a es) e u m w =
        let both = and_parts (is_letter a || (is_whole c a || fits c a (kind_seen c a))) _ e in
        let counts = none_of_both (miscounts c) (uses_of a) (uses_of_all es) u in
        let calls = all_parts (IsRightly s) (mentions_of (around s f) a) (mentions_of_all (around s f) es) m in
        bind_any (λ ps _. length ps ≡ many es + 1) (actual_of (names_place (around s f) a) (place_of s f a (subscripts_of s f a)) (value_of s f a) (ticked s w)) _
        (actual_rightly a both.0 counts.0 (subscripts_of s f a) (λ whole. subscripts_rightly a whole counts.0 calls.0) (value_of s f a) (letter_rightly a)
        (λ fit w1. any_rightly (λ v _. IsOfKind (kind_seen c a) v) (value_of s f a w1) (value_rightly a (kind_seen c a) fit counts.0 calls.0 w1)) (ticked s w)) (λ p w1.
        bind_rightly (λ ps _. length ps ≡ many es) (λ ps _. length ps ≡ many es + 1) (spots_of s f es w1) _ (spots_rightly es both.1 counts.1 calls.1 w1) (λ ps w2 n. omega (arith, n)))

  -- a condition
  pub asks_rightly : (e : Formula) → fits c e Logical ≡ true → FitCounts c (uses_of e) → AllCall s (mentions_of (around s f) e) → (w : World) → NeverWrong (asks s f e w)
  asks_rightly e h u m w =
      bind_rightly (λ v _. IsOfKind Logical v) (λ _ _. ⊤) (value_of s f e w) _ (value_rightly e Logical h u m w) (λ v w1 g. settle_rightly (λ _. ⊤) f.place (truth_in v) w1 (truth_rightly v g))
