-- In a main unit an expression that has a type, with as many subscripts and arguments as its names take, gives a content of
-- that type, or ends otherwise, but never Wrong.
use Rattle.std.proofs.Common.{◌≡◌, ◌+◌, ℕ, Bool, true, false, true≢false, List, [], ◌∷◌, length, refl, sym, ◌∙◌, subst, arith, ⊎_elim}
use Rattle.std.specs.Prelude.{pos, int_le, ◌&&◌, if◌then◌else◌, ⊤}
use Rattle.std.specs.List.{list_any}
use Rattle.std.proofs.lemmas.Bool.{and_parts, or_parts, or_cases, not-false, eqb-true}
use Rattle.ground.specs.declared.value.Kind.{Kind}
use Rattle.ground.specs.declared.value.Kind.TheVariants.{Integer, Logical}
use Rattle.ground.specs.Content.{Content, Whole, Truth}
use Rattle.f66_tree.specs.Syntax.{Text, Formula, Int, Letter, Ref, Item, Group, Plus, Minus, Not, Pair, Formulas, NoFormula, AndFormula, Par, Constant, Named}
use Rattle.f66_tree.specs.World.{World, Out, Try, settle}
use Rattle.f66_tree.specs.Units.{Note, Context, kind_of, sizes_of, Spot, Held, Setting, Frame}
use Rattle.f66_tree.specs.OneUnit.{one_unit}
use Rattle.f66_tree.specs.Evaluation.{Sort, AnArray, AnIntrinsic, AFunction, Intrinsic, known, intrinsics, array_or, sort_of, intrinsic, ticked, held, asked, load, variable_in, pars_in, distance, moved, element, referred, operate, same_whole, opposite, denied, truth_in, by_sign, value_of, values_of, spots_of, asks}
use Rattle.f66_names.specs.declared.name_form.Manner.TheVariants.{With}
use Rattle.f66_names.specs.Sorts.{form_by, is_foreign, is_integer}
use Rattle.f66_names.specs.Uses.{Usage, many, uses_of, uses_of_all}
use Rattle.f66_names.specs.Kinds.{same_kind, may_be, operand, outcome, applied, fits, are_subscripts, are_integers}
use Rattle.f66_names.specs.NameRules.{miscounts, miscounts_by}
use Rattle.f66_soundness.specs.SoundUnits.{in_main}
use Rattle.f66_soundness.specs.Rightly.{Rightly, NeverWrong}
use Rattle.f66_soundness.proofs.RightlyLemmas.{bind_rightly, bind_any, settle_rightly}
use Rattle.f66_soundness.proofs.KindLemmas.{same_is, none_of_both, subscripts_whole}
use Rattle.f66_soundness.proofs.ContentLemmas.{AreWhole, asked_rightly, operate_rightly, same_rightly, opposite_rightly, denied_rightly, truth_rightly, intrinsic_rightly, distance_rightly, moved_rightly}
use Rattle.f66_tree.specs.Syntax as f66
use Rattle.f66_tree.proofs.Tries.{IsOfKind, TriesRightly}

-- the dimensions of an array are constants above zero
abbrev pub is_unfit : Par → Bool
is_unfit (Constant z) = int_le z (pos 0)
is_unfit (Named x) = true

abbrev pub FitSizes : List Par → Type 0
FitSizes ns = list_any is_unfit ns ≡ false

abbrev pub FitSort : Sort → Type 0
FitSort (AnArray ns) = FitSizes ns
FitSort _ = ⊤

known_fit : (es : List (Text × Intrinsic)) (x : Text) → FitSort (known es x)
known_fit [] x = tt
known_fit (e ∷ es) x = by_name _ (known_fit es x)
  where
    by_name : (b : Bool) → FitSort (known es x) → FitSort (if b then AnIntrinsic e.1 else known es x)
    by_name true h = tt
    by_name false h = h

pub array_fit : (ns : List Par) (x : Text) → FitSizes ns → FitSort (array_or ns x)
array_fit [] x h = known_fit intrinsics x
array_fit (n ∷ ns) x h = h

pub no_integers : AreWhole 0 []
no_integers = record { number = refl; whole = tt }

pub one_more : (n : ℕ) (v : Content) (vs : List Content) → IsOfKind Integer v → AreWhole n vs → AreWhole (n + 1) (v ∷ vs)
one_more n v vs h k = let q = k.number in record { number = omega arith; whole = (h, k.whole) }

-- A main unit whose arrays have constant dimensions, the run around its statements, and the context by which its statements
-- are judged, in which names mean what they mean in the run.
pub record Main : Type 0 where
  pub notes : List Note
  pub context : Context
  pub kinds : (x : Text) → kind_of context x ≡ kind_of (in_main notes) x
  pub own : (x : Text) → is_foreign context x ≡ false
  pub sorts : (x : Text) → sort_of context x ≡ sort_of (in_main notes) x
  pub sizes : (x : Text) → FitSizes (sizes_of x notes)
  pub call : ℕ → List Spot → World → Out ⊤
  pub begin : World → Out ⊤
  pub begins : (w : World) → NeverWrong (begin w)
  pub most : ℕ
  pub tick : ℕ → ℕ

abbrev pub setting_of : Main → Setting
setting_of m = record { linked = one_unit m.notes; call = m.call; begin = m.begin; most = m.most; tick = m.tick }

-- subscripts and arguments are as many as their names take
abbrev pub FitCounts : Context → List Usage → Type 0
FitCounts c us = list_any (miscounts c) us ≡ false

module _ (m : Main) where
  abbrev s : Setting
  s = setting_of m

  abbrev c : Context
  c = m.context

  may_is : (x : Text) (k : Kind) → may_be c x k ≡ true → kind_of c x ≡ k
  may_is x k e = ⊎_elim (same_is (kind_of c x) k) (λ f. absurd (true≢false (sym f ∙ m.own x))) (or_cases (same_kind (kind_of c x) k) (is_foreign c x) e)

  pub load_rightly : (f : Frame) (k : Kind) (p : Spot) (w : World) → Rightly (λ v _. IsOfKind k v) (load s f k p w)
  load_rightly f k p w = settle_rightly (IsOfKind k) f.place (asked k (held s.linked p w.state.store)) w (asked_rightly k (held s.linked p w.state.store))

  pub variable_rightly : (f : Frame) (x : Text) (w : World) → Rightly (λ v _. IsOfKind (kind_of c x) v) (variable_in s f x w)
  variable_rightly f x w = subst (λ k. Rightly (λ v _. IsOfKind k v) (variable_in s f x w)) (sym (m.kinds x)) (load_rightly f (kind_of (in_main m.notes) x) (Held f.unit x 0) w)

  pub pars_rightly : (f : Frame) (ns : List Par) → FitSizes ns → (w : World) → Rightly (λ vs _. AreWhole (length ns) vs) (pars_in s f ns w)
  pars_rightly f [] h w = no_integers
  pars_rightly f (Constant z ∷ ns) h w =
      bind_rightly (λ vs _. AreWhole (length ns) vs) (λ vs _. AreWhole (length (Constant z ∷ ns)) vs) (pars_in s f ns w) _ (pars_rightly f ns (or_parts _ _ h).1 w)
      (λ vs w1 k. subst (λ n. AreWhole n (Whole z ∷ vs)) (omega arith) (one_more (length ns) (Whole z) vs tt k))
  pars_rightly f (Named x ∷ ns) h w = let q : ⊥ = cc in absurd q

  pub element_rightly : (f : Frame) (x : Text) (ns : List Par) → FitSizes ns → (vals : World → Out (List Content)) → ((w : World) → Rightly (λ vs _. AreWhole (length ns) vs) (vals w)) → (w : World) → NeverWrong (element s f x ns vals w)
  element_rightly f x ns fit vals h w =
      bind_rightly (λ vs _. AreWhole (length ns) vs) (λ _ _. ⊤) (vals w) _ (h w) (λ is' w1 i.
      bind_rightly (λ vs _. AreWhole (length ns) vs) (λ _ _. ⊤) (pars_in s f ns w1) _ (pars_rightly f ns fit w1) (λ ds w2 d.
      let p = i.number in let q = d.number in
      bind_any (λ _ _. ⊤) (settle f.place (distance 1 is' ds) w2) _ (settle_rightly (λ _. ⊤) f.place (distance 1 is' ds) w2 (distance_rightly 1 is' ds (omega arith) i.whole d.whole)) (λ n w3.
      settle_rightly (λ _. ⊤) f.place (moved s.linked (Held f.unit x 0) n) w3 (moved_rightly s.linked (Held f.unit x 0) n))))

  -- an element, or an intrinsic function
  applied_rightly : (f : Frame) (x : Text) (es : Formulas) (o : Sort) → FitSort o → (k : Kind) → applied (form_by o) (are_subscripts c es && may_be c x k) (is_integer (kind_of c x) && are_integers c es && same_kind Integer k) ≡ true → miscounts_by (form_by o) (With (many es)) ≡ false →
      (vals : World → Out (List Content)) → (are_integers c es ≡ true → (w : World) → Rightly (λ vs _. AreWhole (many es) vs) (vals w)) → (spots : World → Out (List Spot)) (w : World) → Rightly (λ v _. IsOfKind k v) (referred s f x o vals spots w)
  applied_rightly f x es (AnArray ns) fit k e counts vals h spots w =
      let p = and_parts (are_subscripts c es) _ e in
      let same : many es ≡ length ns = eqb-true (many es) (length ns) (not-false _ counts) in
      bind_any (λ v _. IsOfKind k v) (element s f x ns vals w) _
      (element_rightly f x ns fit vals (subst (λ n. (v : World) → Rightly (λ vs _. AreWhole n vs) (vals v)) same (h (subscripts_whole c es p.0))) w)
      (λ q w1. subst (λ j. Rightly (λ v _. IsOfKind j v) (load s f (kind_of (in_main m.notes) x) q w1)) (sym (m.kinds x) ∙ may_is x k p.1) (load_rightly f (kind_of (in_main m.notes) x) q w1))
  applied_rightly f x es (AnIntrinsic g) fit k e counts vals h spots w =
      let p = and_parts (is_integer (kind_of c x) && are_integers c es) _ e in
      let whole = (and_parts (is_integer (kind_of c x)) _ p.0).1 in
      bind_rightly (λ vs _. AreWhole (many es) vs) (λ v _. IsOfKind k v) (vals w) _ (h whole w)
      (λ vs w1 i. settle_rightly (IsOfKind k) f.place (intrinsic g vs) w1 (subst (λ j. TriesRightly (IsOfKind j) (intrinsic g vs)) (same_is Integer k p.1) (intrinsic_rightly g (many es) vs (not-false _ counts) i)))
  applied_rightly f x es AFunction fit k e counts vals h spots w = absurd (true≢false (sym e))

  sign_rightly : (f : Frame) (op : Content → Try Content) (j k : Kind) → ((v : Content) → IsOfKind j v → TriesRightly (IsOfKind j) (op v)) → j ≡ k → (o : Out Content) → Rightly (λ v _. IsOfKind j v) o → Rightly (λ v _. IsOfKind k v) (by_sign s f op o)
  sign_rightly f op j k h e o a =
      subst (λ i. Rightly (λ v _. IsOfKind i v) (by_sign s f op o)) e
      (bind_rightly (λ v _. IsOfKind j v) (λ v _. IsOfKind j v) o _ a (λ v w q. settle_rightly (IsOfKind j) f.place (op v) w (h v q)))

  mutual
    pub value_rightly : (f : Frame) (e : Formula) (k : Kind) → fits c e k ≡ true → FitCounts c (uses_of e) → (w : World) → Rightly (λ v _. IsOfKind k v) (value_of s f e w)
    value_rightly f (Int z) k e u w = subst (λ j. IsOfKind j (Whole z)) (same_is Integer k e) tt
    value_rightly f (f66.Truth b) k e u w = subst (λ j. IsOfKind j (Truth b)) (same_is Logical k e) tt
    value_rightly f (Letter l) k e u w = absurd (true≢false (sym e))
    value_rightly f (Ref x) k e u w = subst (λ j. Rightly (λ v _. IsOfKind j v) (variable_in s f x (ticked s w))) (may_is x k (and_parts _ _ e).1) (variable_rightly f x (ticked s w))
    value_rightly f (Item x es) k e u w =
        let p = or_parts _ _ u in
        applied_rightly f x es (sort_of (in_main m.notes) x) (array_fit (sizes_of x m.notes) x (m.sizes x)) k
        (subst (λ o. applied (form_by o) (are_subscripts c es && may_be c x k) (is_integer (kind_of c x) && are_integers c es && same_kind Integer k) ≡ true) (m.sorts x) e) (subst (λ o. miscounts_by (form_by o) (With (many es)) ≡ false) (m.sorts x) p.0) (values_of s f es) (λ whole. values_rightly f es whole p.1) (spots_of s f es) (ticked s w)
    value_rightly f (Group a) k e u w = value_rightly f a k e u (ticked s w)
    value_rightly f (Plus a) k e u w =
        let p = and_parts (same_kind Integer k) _ e in
        sign_rightly f same_whole Integer k same_rightly (same_is Integer k p.0) _ (value_rightly f a Integer p.1 u (ticked s w))
    value_rightly f (Minus a) k e u w =
        let p = and_parts (same_kind Integer k) _ e in
        sign_rightly f opposite Integer k opposite_rightly (same_is Integer k p.0) _ (value_rightly f a Integer p.1 u (ticked s w))
    value_rightly f (Not a) k e u w =
        let p = and_parts (same_kind Logical k) _ e in
        sign_rightly f denied Logical k denied_rightly (same_is Logical k p.0) _ (value_rightly f a Logical p.1 u (ticked s w))
    value_rightly f (Pair op a b) k e u w =
        let p = and_parts (same_kind (outcome op) k) _ e in
        let both = and_parts (fits c a (operand op)) _ p.1 in
        let counts = none_of_both (miscounts c) (uses_of a) (uses_of b) u in
        bind_rightly (λ v _. IsOfKind (operand op) v) (λ v _. IsOfKind k v) (value_of s f a (ticked s w)) _ (value_rightly f a (operand op) both.0 counts.0 (ticked s w)) (λ x w1 h.
        bind_rightly (λ v _. IsOfKind (operand op) v) (λ v _. IsOfKind k v) (value_of s f b w1) _ (value_rightly f b (operand op) both.1 counts.1 w1) (λ y w2 g.
        settle_rightly (IsOfKind k) f.place (operate op x y) w2 (subst (λ j. TriesRightly (IsOfKind j) (operate op x y)) (same_is (outcome op) k p.0) (operate_rightly op x y h g))))

    pub values_rightly : (f : Frame) (es : Formulas) → are_integers c es ≡ true → FitCounts c (uses_of_all es) → (w : World) → Rightly (λ vs _. AreWhole (many es) vs) (values_of s f es w)
    values_rightly f NoFormula e u w = no_integers
    values_rightly f (AndFormula a es) e u w =
        let both = and_parts (fits c a Integer) _ e in
        let counts = none_of_both (miscounts c) (uses_of a) (uses_of_all es) u in
        bind_rightly (λ v _. IsOfKind Integer v) (λ vs _. AreWhole (many es + 1) vs) (value_of s f a w) _ (value_rightly f a Integer both.0 counts.0 w) (λ v w1 h.
        bind_rightly (λ vs _. AreWhole (many es) vs) (λ vs _. AreWhole (many es + 1) vs) (values_of s f es w1) _ (values_rightly f es both.1 counts.1 w1) (λ vs w2 g. one_more (many es) v vs h g))

  -- a condition
  pub asks_rightly : (f : Frame) (e : Formula) → fits c e Logical ≡ true → FitCounts c (uses_of e) → (w : World) → NeverWrong (asks s f e w)
  asks_rightly f e h u w =
      bind_rightly (λ v _. IsOfKind Logical v) (λ _ _. ⊤) (value_of s f e w) _ (value_rightly f e Logical h u w) (λ v w1 g. settle_rightly (λ _. ⊤) f.place (truth_in v) w1 (truth_rightly v g))
