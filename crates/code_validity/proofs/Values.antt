-- The code of an expression leaves one value of its type, and that of actuals a spot for each.
use Rattle.std.proofs.Common.{◌≡◌, ⊎_elim, ℕ, ◌+◌, ◌<◌, ◌≤◌, pos, Bool, true, false, true≢false, ◌&&◌, ◌||◌, List, [], ◌∷◌, ◌++◌, length, Some, None, refl, sym, ◌∙◌, subst, arith}
use Rattle.std.specs.List.{AllByRecursion}
use Rattle.std.proofs.lemmas.Bool.{and_parts, and_from, or_parts, or_cases, not-false, eqb-true}
use Rattle.ground.specs.declared.value.Kind.{Kind}
use Rattle.ground.specs.declared.value.Kind.TheVariants.{Integer, Logical}
use Rattle.ground.specs.Content.{Whole, Truth}
use Rattle.f66_tree.specs.Syntax.{Text, Formula, Int, Letter, Ref, Item, Group, Plus, Minus, Not, Pair, Formulas, NoFormula, AndFormula}
use Rattle.f66_tree.specs.Syntax as f66
use Rattle.f66_tree.specs.Units.{Context, kind_of}
use Rattle.f66_tree.specs.Evaluation.{Sort, AnArray, AnIntrinsic, AFunction, sort_of, is_array, names_place}
use Rattle.f66_names.specs.declared.name_form.Manner.TheVariants.{With}
use Rattle.f66_names.specs.Shapes.{stands, stand_all, are_arguments, left_level, right_level}
use Rattle.f66_names.specs.Sorts.{form_by, is_integer}
use Rattle.f66_names.specs.Uses.{many, uses_of, uses_of_all}
use Rattle.f66_names.specs.NameRules.{miscounts_by, miscounts}
use Rattle.f66_names.specs.Kinds.{are_subscripts, same_kind, may_be, operand, outcome}
use Rattle.f66_soundness.proofs.KindLemmas.{same_is, none_of_both}
use Rattle.f66_soundness.proofs.ValueLemmas.{FitCounts}
use Rattle.unit_rules.specs.Forms.{is_passed_form, are_passed_forms}
use Rattle.unit_rules.specs.Types.{applied, fits, are_integers, are_actuals, are_passed, is_letter, is_whole, kind_seen}
use Rattle.f66_program.specs.Mentions as program
use Rattle.f66_program.specs.Mentions.{Mention, mentions_of, mentions_of_all}
use Rattle.linked_soundness.proofs.PartLemmas.{all_parts}
use Rattle.linked_soundness.proofs.KindLemmas.{actuals_are_passed}
use Rattle.stack_code.specs.declared.shape.EntryKind.{EntryKind}
use Rattle.stack_code.specs.declared.shape.EntryKind.TheVariants as e
use Rattle.stack_code.specs.Instructions as i
use Rattle.stack_code.specs.Instructions.{Instruction}
use Rattle.stack_code.specs.ValidCode.{entry_kind, after, takes}
use Rattle.code_gen.specs.Layout.{Layout}
use Rattle.code_gen.specs.Expressions.{count, own_code, function_number, actual_room, applied_room, room_of, rooms_of, rooms_to_hand, element_code, called_code, applied_code, place_with, actual_code, value_code, values_code, subscripts_code, actuals_code, place_by}
use Rattle.code_validity.proofs.Plain as plain
use Rattle.code_validity.proofs.Plain.{fact, more, after_known, after_call, IsFit}
use Rattle.code_validity.proofs.Places as places
use Rattle.code_validity.proofs.Places.{Site, Leads, MayCall, HasParameters, small, small_letter, many_is, known_takes}

-- ---- forms ----

pub arguments_stand : (es : Formulas) → are_arguments es ≡ true → stand_all es ≡ true
arguments_stand NoFormula h = refl
arguments_stand (AndFormula a es) h = h

stand_passed : (a : Formula) → stands 0 a ≡ true → is_passed_form a ≡ true
stand_passed (Letter l) h = absurd (true≢false (sym h))
stand_passed a h = h

all_passed : (es : Formulas) → stand_all es ≡ true → are_passed_forms es ≡ true
all_passed NoFormula h = refl
all_passed (AndFormula a es) h = let p = and_parts (stands 0 a) _ h in and_from (is_passed_form a) _ (stand_passed a p.0) (all_passed es p.1)

-- an actual leaves room for its own code, for the others, and for itself where it is lent
rooms : (b : Bool) (s r m units : ℕ) → s + actual_room b (r + m) ≤ units → (s + r ≤ units) × (s + m ≤ units)
rooms true s r m units h = (omega arith, omega arith)
rooms false s r m units h = (omega arith, omega arith)

module _ (callee : ℕ → ℕ → Type 0) (plans units n : ℕ) (y : Layout) (u : ℕ) (c : Context) (site : Site callee plans units n y u c) where
  abbrev d : Context
  d = y.linked.context u

  abbrev Runs : List Instruction → List EntryKind → List EntryKind → Type 0
  Runs is s t = plain.Runs callee plans units is (fact n None s) (fact n None t)

  abbrev May : Mention → Type 0
  May = MayCall callee plans units y

  abbrev Room : ℕ → Type 0
  Room r = y.spare u + r ≤ units

  append : (a b : List Instruction) (s t v : List EntryKind) → Runs a s t → Runs b t v → Runs (a ++ b) s v
  append a b s t v p q = plain.runs_append callee plans units a b (fact n None s) (fact n None t) (fact n None v) p q

  one : (j : Instruction) (s t : List EntryKind) → after j (fact n None s) ≡ Some (fact n None t) → IsFit callee plans units j → Runs (j ∷ []) s t
  one j s t g h = plain.runs_one callee plans units j (fact n None s) (fact n None t) g h

  load_runs : (x : Text) (k : Kind) → may_be c x k ≡ true → (s : List EntryKind) → Runs (i.Load (kind_of d x) ∷ []) (e.Spot ∷ s) (entry_kind k ∷ s)
  load_runs x k h s =
      let same : kind_of d x ≡ k = sym (site.judged.kinds x) ∙ places.may_is callee plans units n y u c site x k h in
      subst (λ j. Runs (i.Load (kind_of d x) ∷ []) (e.Spot ∷ s) (entry_kind j ∷ s)) same (one (i.Load (kind_of d x)) (e.Spot ∷ s) (entry_kind (kind_of d x) ∷ s) refl tt)

  -- a function is called
  called_runs : (x : Text) (k : Kind) → may_be c x k ≡ true → (m : ℕ) → Leads callee plans units y false x m → (actuals : List Instruction) (s : List EntryKind) → Runs actuals s (more e.Spot m s) → Runs (called_code y u x (y.linked.find x) m actuals) s (entry_kind k ∷ s)
  called_runs x k h m to actuals s p =
      let v = to.unit in
      let own = to.result refl in
      let t = more e.Spot m s in
      let behind : Runs (own_code y v x ∷ i.Load (kind_of d x) ∷ []) s (entry_kind k ∷ s) = (fact n None (e.Spot ∷ s), refl, own, load_runs x k h s) in
      let rest : Runs (own_code y v x ∷ i.Forget ∷ i.Call (y.entry v) m ∷ own_code y v x ∷ i.Load (kind_of d x) ∷ []) t (entry_kind k ∷ s) =
      (fact n None (e.Spot ∷ t), refl, own, (fact n None t, refl, tt, (fact n None s, after_call (y.entry v) m n s, to.entered, behind))) in
      subst (λ o. Runs (called_code y u x o m actuals) s (entry_kind k ∷ s)) (sym to.found) (append actuals _ s t _ p rest)

  -- an element, an intrinsic function's value, or that of a function that is called
  applied_runs : (x : Text) (es : Formulas) (so : Sort) → HasParameters c so → (k : Kind) → applied (form_by so) (are_subscripts c es && may_be c x k) (is_integer (kind_of c x) && are_integers c es && same_kind Integer k) (may_be c x k && are_actuals c es) ≡ true →
      miscounts_by (form_by so) (With (many es)) ≡ false → May (program.applied x es so) → Room (applied_room so (rooms_of d es) (rooms_to_hand d es)) → stand_all es ≡ true → (s : List EntryKind) →
      (are_integers c es ≡ true → Room (rooms_of d es) → Runs (values_code y u es) s (more e.Int (count es) s)) → (are_passed c es ≡ true → Room (rooms_to_hand d es) → Runs (actuals_code y u es) s (more e.Spot (count es) s)) →
      Runs (applied_code y u x so (count es) (values_code y u es) (actuals_code y u es)) s (entry_kind k ∷ s)
  applied_runs x es (AnArray ns) params k h counts may room form s vals hand =
      let p = and_parts (are_subscripts c es) _ h in
      let same : count es ≡ length ns = sym (many_is es) ∙ eqb-true (many es) (length ns) (not-false _ counts) in
      append (element_code y u x ns (values_code y u es)) (i.Load (kind_of d x) ∷ []) s (e.Spot ∷ s) (entry_kind k ∷ s) (places.element_runs callee plans units n y u c site x ns es params same form p.0 None s) (load_runs x k p.1 s)
  applied_runs x es (AnIntrinsic g) params k h counts may room form s vals hand =
      let p = and_parts (is_integer (kind_of c x) && are_integers c es) _ h in
      let whole = (and_parts (is_integer (kind_of c x)) _ p.0).1 in
      let takes = subst (λ m. takes (function_number g) m ≡ true) (many_is es) (known_takes g (many es) (not-false _ counts)) in
      subst (λ j. Runs (values_code y u es ++ i.Known (function_number g) (count es) ∷ []) s (entry_kind j ∷ s)) (same_is Integer k p.1)
      (append (values_code y u es) (i.Known (function_number g) (count es) ∷ []) s _ (e.Int ∷ s) (vals whole room) (one (i.Known (function_number g) (count es)) _ _ (after_known (function_number g) (count es) n None s) takes))
  applied_runs x es AFunction params k h counts may room form s vals hand =
      let p = and_parts (may_be c x k) _ h in
      called_runs x k p.0 (count es) may (actuals_code y u es) s (hand (actuals_are_passed c es p.1) room)

  -- ---- actuals ----

  lent_runs : (k : Kind) (val : List Instruction) (q : ℕ) → q < units → (s : List EntryKind) → Runs val s (entry_kind k ∷ s) → Runs (val ++ i.Lend q ∷ []) s (e.Spot ∷ s)
  lent_runs Integer val q lt s p = append val (i.Lend q ∷ []) s (e.Int ∷ s) _ p (one (i.Lend q) (e.Int ∷ s) (e.Spot ∷ s) refl lt)
  lent_runs Logical val q lt s p = append val (i.Lend q ∷ []) s (e.Log ∷ s) _ p (one (i.Lend q) (e.Log ∷ s) (e.Spot ∷ s) refl lt)

  -- a name with parentheses is an array's element, or else a value
  item_runs : (x : Text) (es : Formulas) (so : Sort) → HasParameters c so → (k : Kind) → applied (form_by so) (are_subscripts c es && may_be c x k) (is_integer (kind_of c x) && are_integers c es && same_kind Integer k) (may_be c x k && are_actuals c es) ≡ true →
      miscounts_by (form_by so) (With (many es)) ≡ false → stand_all es ≡ true → (r m : ℕ) → Room (actual_room (is_array so) (r + m)) → (s : List EntryKind) → (val : List Instruction) → Runs val s (entry_kind k ∷ s) →
      Runs (actual_code (is_array so) (y.spare u + (r + m)) (place_by y u x so (values_code y u es)) val) s (e.Spot ∷ s)
  item_runs x es (AnArray ns) params k h counts form r m room s val p =
      let q = and_parts (are_subscripts c es) _ h in
      let same : count es ≡ length ns = sym (many_is es) ∙ eqb-true (many es) (length ns) (not-false _ counts) in
      places.element_runs callee plans units n y u c site x ns es params same form q.0 None s
  item_runs x es (AnIntrinsic g) params k h counts form r m room s val p = lent_runs k val (y.spare u + (r + m)) (omega arith) s p
  item_runs x es AFunction params k h counts form r m room s val p = lent_runs k val (y.spare u + (r + m)) (omega arith) s p

  no_whole : (a : Formula) (k : Kind) → (is_letter a || (is_whole c a || fits c a k)) ≡ true → is_letter a ≡ false → is_whole c a ≡ false → fits c a k ≡ true
  no_whole a k h l w = ⊎_elim (λ t. absurd (true≢false (sym t ∙ l))) (λ t. ⊎_elim (λ v. absurd (true≢false (sym v ∙ w))) (λ v. v) (or_cases (is_whole c a) (fits c a k) t)) (or_cases (is_letter a) (is_whole c a || fits c a k) h)

  actual_runs : (a : Formula) → is_passed_form a ≡ true → (is_letter a || (is_whole c a || fits c a (kind_seen c a))) ≡ true → FitCounts c (uses_of a) → (m : ℕ) → Room (actual_room (names_place d a) (room_of d a + m)) → (s : List EntryKind) →
      (fits c a (kind_seen c a) ≡ true → stands 0 a ≡ true → Runs (value_code y u a) s (entry_kind (kind_seen c a) ∷ s)) →
      Runs (actual_code (names_place d a) (y.spare u + (room_of d a + m)) (place_with y u a (subscripts_code y u a)) (value_code y u a)) s (e.Spot ∷ s)
  actual_runs (Ref x) g h counts m room s val = let b = places.base callee plans units n y u c site x in one _ s (e.Spot ∷ s) (b.gives None s) b.fit
  actual_runs (Item x es) g h counts m room s val =
      let k = kind_seen c (Item x es) in
      let sorts = site.judged.sorts x in
      let form = arguments_stand es (and_parts _ _ g).1 in
      item_runs x es (sort_of d x) (places.sort_parameters callee plans units n y u c site x) k
      (subst (λ o. applied (form_by o) (are_subscripts c es && may_be c x k) (is_integer (kind_of c x) && are_integers c es && same_kind Integer k) (may_be c x k && are_actuals c es) ≡ true) sorts h)
      (subst (λ o. miscounts_by (form_by o) (With (many es)) ≡ false) sorts (or_parts _ _ counts).0) form (room_of d (Item x es)) m room s (value_code y u (Item x es)) (val h g)
  actual_runs (Letter l) g h counts m room s val = lent_runs Integer (i.Push (Whole (pos l)) ∷ []) (y.spare u + (0 + m)) (omega arith) s (one (i.Push (Whole (pos l))) s (e.Int ∷ s) refl (small_letter l g))
  actual_runs a g h counts m room s val = lent_runs (kind_seen c a) (value_code y u a) (y.spare u + (room_of d a + m)) (omega arith) s (val h g)

  -- ---- values ----

  mutual
    pub value_runs : (a : Formula) (l : ℕ) (k : Kind) → stands l a ≡ true → fits c a k ≡ true → FitCounts c (uses_of a) → AllByRecursion May (mentions_of d a) → Room (room_of d a) → (s : List EntryKind) → Runs (value_code y u a) s (entry_kind k ∷ s)
    value_runs (Int z) l k g h counts may room s = subst (λ j. Runs (i.Push (Whole z) ∷ []) s (entry_kind j ∷ s)) (same_is Integer k h) (one (i.Push (Whole z)) s (e.Int ∷ s) refl (small z g))
    value_runs (f66.Truth b) l k g h counts may room s = subst (λ j. Runs (i.Push (Truth b) ∷ []) s (entry_kind j ∷ s)) (same_is Logical k h) (one (i.Push (Truth b)) s (e.Log ∷ s) refl refl)
    value_runs (Letter z) l k g h counts may room s = absurd (true≢false (sym h))
    value_runs (Ref x) l k g h counts may room s =
        subst (λ j. Runs (value_code y u (Ref x)) s (entry_kind j ∷ s)) (places.may_is callee plans units n y u c site x k (and_parts _ _ h).1) (places.variable_runs callee plans units n y u c site x None s)
    value_runs (Item x es) l k g h counts may room s =
        let p = or_parts _ _ counts in
        let sorts = site.judged.sorts x in
        let form = arguments_stand es (and_parts _ _ g).1 in
        applied_runs x es (sort_of d x) (places.sort_parameters callee plans units n y u c site x) k
        (subst (λ o. applied (form_by o) (are_subscripts c es && may_be c x k) (is_integer (kind_of c x) && are_integers c es && same_kind Integer k) (may_be c x k && are_actuals c es) ≡ true) sorts h)
        (subst (λ o. miscounts_by (form_by o) (With (many es)) ≡ false) sorts p.0) may.0 room form s (λ whole r. values_run es form whole p.1 may.1 r s) (λ passed r. actuals_run es (all_passed es form) passed p.1 may.1 r s)
    value_runs (Group a) l k g h counts may room s = value_runs a 0 k g h counts may room s
    value_runs (Plus a) l k g h counts may room s =
        let p = and_parts (same_kind Integer k) _ h in
        subst (λ j. Runs (value_code y u a) s (entry_kind j ∷ s)) (same_is Integer k p.0) (value_runs a 5 Integer (and_parts _ _ g).1 p.1 counts may room s)
    value_runs (Minus a) l k g h counts may room s =
        let p = and_parts (same_kind Integer k) _ h in
        subst (λ j. Runs (value_code y u a ++ i.Minus ∷ []) s (entry_kind j ∷ s)) (same_is Integer k p.0)
        (append (value_code y u a) (i.Minus ∷ []) s (e.Int ∷ s) (e.Int ∷ s) (value_runs a 5 Integer (and_parts _ _ g).1 p.1 counts may room s) (one i.Minus (e.Int ∷ s) (e.Int ∷ s) refl tt))
    value_runs (Not a) l k g h counts may room s =
        let p = and_parts (same_kind Logical k) _ h in
        subst (λ j. Runs (value_code y u a ++ i.Not ∷ []) s (entry_kind j ∷ s)) (same_is Logical k p.0)
        (append (value_code y u a) (i.Not ∷ []) s (e.Log ∷ s) (e.Log ∷ s) (value_runs a 3 Logical (and_parts _ _ g).1 p.1 counts may room s) (one i.Not (e.Log ∷ s) (e.Log ∷ s) refl tt))
    value_runs (Pair op a b) l k g h counts may room s =
        let p = and_parts (same_kind (outcome op) k) _ h in
        let both = and_parts (fits c a (operand op)) _ p.1 in
        let us = none_of_both (miscounts c) (uses_of a) (uses_of b) counts in
        let calls = all_parts May (mentions_of d a) (mentions_of d b) may in
        let ra : Room (room_of d a) = omega arith in
        let rb : Room (room_of d b) = omega arith in
        let form = and_parts (stands (left_level op) a) _ (and_parts _ _ g).1 in
        subst (λ j. Runs (value_code y u (Pair op a b)) s (entry_kind j ∷ s)) (same_is (outcome op) k p.0)
        (places.pair_runs callee plans units n y u c site op a b None s (value_runs a (left_level op) (operand op) form.0 both.0 us.0 calls.0 ra s) (value_runs b (right_level op) (operand op) form.1 both.1 us.1 calls.1 rb (entry_kind (operand op) ∷ s)))

    pub values_run : (es : Formulas) → stand_all es ≡ true → are_integers c es ≡ true → FitCounts c (uses_of_all es) → AllByRecursion May (mentions_of_all d es) → Room (rooms_of d es) → (s : List EntryKind) → Runs (values_code y u es) s (more e.Int (count es) s)
    values_run NoFormula g h counts may room s = refl
    values_run (AndFormula a es) g h counts may room s =
        let form = and_parts (stands 0 a) _ g in
        let both = and_parts (fits c a Integer) _ h in
        let us = none_of_both (miscounts c) (uses_of a) (uses_of_all es) counts in
        let calls = all_parts May (mentions_of d a) (mentions_of_all d es) may in
        let ra : Room (room_of d a) = omega arith in
        let rb : Room (rooms_of d es) = omega arith in
        places.then_more callee plans units n y u c site e.Int (value_code y u a) (values_code y u es) (count es) None s (value_runs a 0 Integer form.0 both.0 us.0 calls.0 ra s) (values_run es form.1 both.1 us.1 calls.1 rb (e.Int ∷ s))

    pub actuals_run : (es : Formulas) → are_passed_forms es ≡ true → are_passed c es ≡ true → FitCounts c (uses_of_all es) → AllByRecursion May (mentions_of_all d es) → Room (rooms_to_hand d es) → (s : List EntryKind) → Runs (actuals_code y u es) s (more e.Spot (count es) s)
    actuals_run NoFormula g h counts may room s = refl
    actuals_run (AndFormula a es) g h counts may room s =
        let form = and_parts (is_passed_form a) _ g in
        let both = and_parts (is_letter a || (is_whole c a || fits c a (kind_seen c a))) _ h in
        let us = none_of_both (miscounts c) (uses_of a) (uses_of_all es) counts in
        let calls = all_parts May (mentions_of d a) (mentions_of_all d es) may in
        let r = rooms (names_place d a) (y.spare u) (room_of d a) (rooms_to_hand d es) units room in
        places.then_more callee plans units n y u c site e.Spot (actual_code (names_place d a) (y.spare u + (room_of d a + rooms_to_hand d es)) (place_with y u a (subscripts_code y u a)) (value_code y u a)) (actuals_code y u es) (count es) None s
        (actual_runs a form.0 both.0 us.0 (rooms_to_hand d es) room s (λ fit stand. value_runs a 0 (kind_seen c a) stand fit us.0 calls.0 r.0 s)) (actuals_run es form.1 both.1 us.1 calls.1 r.1 (e.Spot ∷ s))
