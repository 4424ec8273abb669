-- The code of a name, of an element, and of integers that are subscripts or dimensions leaves a spot or integers.
use Rattle.std.proofs.Common.{◌≡◌, cond, ⊎_elim, ℕ, zero, suc, ◌<◌, nat_le, pos, negsuc, Bool, true, false, true≢false, ◌||◌, List, [], ◌∷◌, ◌++◌, length, Option, Some, None, IfSome, refl, sym, ap, ◌∙◌, subst, arith}
use Rattle.std.specs.Prelude.{ℤ, if◌then◌else◌}
use Rattle.std.specs.List.{list_all}
use Rattle.std.specs.Str.{bytes_eq}
use Rattle.std.proofs.lemmas.Bool.{and_parts, or_cases, lt-ltb}
use Rattle.ground.specs.declared.value.Kind.{Kind}
use Rattle.ground.specs.Content.{Whole}
use Rattle.f66_tree.specs.declared.expression.Operator.{Operator}
use Rattle.f66_tree.specs.declared.expression.Operator.TheVariants.{Add, Sub, Mul, Div, Power, Lt, Le, Eq, Ne, Ge, Gt, And, Or}
use Rattle.f66_tree.specs.Built.{is_constant, is_arithmetic}
use Rattle.f66_tree.specs.Syntax.{Text, Formula, Int, Ref, Pair, Formulas, NoFormula, AndFormula, Par, Constant, Named}
use Rattle.f66_tree.specs.Units.{Context, dummies_of, position, one_on, kind_of, sizes_of}
use Rattle.f66_tree.specs.Evaluation.{Sort, AnArray, AnIntrinsic, Intrinsic, Iabs, Mod, Isign, Idim, Max0, Min0, sort_of, known, intrinsics, array_or}
use Rattle.f66_names.specs.Shapes.{stands, stand_all, is_printed, is_parameter, level, left_level}
use Rattle.f66_names.specs.Sorts.{arity, is_foreign, is_counter, takes_many}
use Rattle.f66_names.specs.Uses.{many}
use Rattle.f66_names.specs.Kinds.{is_number, is_index, is_times, is_plus_or_minus, is_multiple, is_shifted, is_subscript, are_subscripts, same_kind, may_be, operand, outcome, is_counting}
use Rattle.f66_soundness.proofs.KindLemmas.{same_is, integer_only}
use Rattle.f66_program.specs.Mentions.{Mention, ACall}
use Rattle.linked_soundness.proofs.PlaceLemmas.{IsJudged}
use Rattle.stack_code.specs.declared.shape.EntryKind.{EntryKind}
use Rattle.stack_code.specs.declared.shape.EntryKind.TheVariants as e
use Rattle.stack_code.specs.declared.fact.Fact.{Fact}
use Rattle.stack_code.specs.Instructions as i
use Rattle.stack_code.specs.Instructions.{Instruction}
use Rattle.stack_code.specs.ValidCode.{Open, entry_kind, after, is_small}
use Rattle.stack_code.specs.ValidCode as valid
use Rattle.code_gen.specs.Layout.{Layout}
use Rattle.code_gen.specs.Expressions.{count, own_code, base_by, base_code, variable_code, par_code, pars_code, operator_code, function_number, element_code, value_code, values_code}
use Rattle.code_gen.specs.Coded.{IsOwn}
use Rattle.code_validity.proofs.Plain as plain
use Rattle.code_validity.proofs.Plain.{fact, more, more_behind, after_element, after_known, after_call, IsFit}

-- ---- constants, operators and functions ----

pub small : (z : ℤ) → is_constant z ≡ true → is_small (Whole z) ≡ true
small (pos n) h = (and_parts (nat_le 0 n) _ h).1
small (negsuc n) h = absurd (true≢false (sym h))

pub small_letter : (c : ℕ) → is_printed c ≡ true → is_small (Whole (pos c)) ≡ true
small_letter c h =
    let p = and_parts (nat_le 32 c) (nat_le c 126) h in
    grind (arith, p)

-- the operator of two operands that it asks for
record Operates (callee : ℕ → ℕ → Type 0) (plans units : ℕ) (op : Operator) : Type 0 where
  fit : IsFit callee plans units (operator_code op)
  gives : (n : ℕ) (o : Open) (s : List EntryKind) → after (operator_code op) (fact n o (entry_kind (operand op) ∷ entry_kind (operand op) ∷ s)) ≡ Some (fact n o (entry_kind (outcome op) ∷ s))

operates : (callee : ℕ → ℕ → Type 0) (plans units : ℕ) (op : Operator) → Operates callee plans units op
operates callee plans units Add = record { fit = refl; gives = λ n o s. refl }
operates callee plans units Sub = record { fit = refl; gives = λ n o s. refl }
operates callee plans units Mul = record { fit = refl; gives = λ n o s. refl }
operates callee plans units Div = record { fit = refl; gives = λ n o s. refl }
operates callee plans units Power = record { fit = refl; gives = λ n o s. refl }
operates callee plans units Lt = record { fit = refl; gives = λ n o s. refl }
operates callee plans units Le = record { fit = refl; gives = λ n o s. refl }
operates callee plans units Eq = record { fit = refl; gives = λ n o s. refl }
operates callee plans units Ne = record { fit = refl; gives = λ n o s. refl }
operates callee plans units Ge = record { fit = refl; gives = λ n o s. refl }
operates callee plans units Gt = record { fit = refl; gives = λ n o s. refl }
operates callee plans units And = record { fit = refl; gives = λ n o s. refl }
operates callee plans units Or = record { fit = refl; gives = λ n o s. refl }

pub many_is : (es : Formulas) → many es ≡ count es
many_is NoFormula = refl
many_is (AndFormula a es) = let ih = many_is es in omega arith

pub known_takes : (g : Intrinsic) (n : ℕ) → takes_many (arity g) n ≡ true → valid.takes (function_number g) n ≡ true
known_takes Iabs n h = h
known_takes Mod n h = h
known_takes Isign n h = h
known_takes Idim n h = h
known_takes Max0 n h = h
known_takes Min0 n h = h

position_within : (x : Text) (ds : List Text) → IfSome (position x ds) (λ n. n < length ds)
position_within x [] = tt
position_within x (y ∷ ys) = by_name (bytes_eq x y) (position x ys) (position_within x ys)
  where
    by_name : (b : Bool) (o : Option ℕ) → IfSome o (λ n. n < length ys) → IfSome (if b then Some zero else one_on o) (λ n. n < length (y ∷ ys))
    by_name true o h = omega arith
    by_name false None h = tt
    by_name false (Some n) h = omega (arith, h)

-- dimensions are constants of the profile or integer variables
abbrev pub AreParameters : Context → List Par → Type 0
AreParameters c ns = (list_all (is_counting c) ns ≡ true) × (list_all is_parameter ns ≡ true)

abbrev pub HasParameters : Context → Sort → Type 0
HasParameters c (AnArray ns) = AreParameters c ns
HasParameters c _ = Unit {0}

known_parameters : (c : Context) (es : List (Text × Intrinsic)) (x : Text) → HasParameters c (known es x)
known_parameters c [] x = tt
known_parameters c (p ∷ es) x = by_name (bytes_eq p.0 x) (known_parameters c es x)
  where
    by_name : (b : Bool) → HasParameters c (known es x) → HasParameters c (if b then AnIntrinsic p.1 else known es x)
    by_name true h = tt
    by_name false h = h

array_parameters : (c : Context) (ns : List Par) (x : Text) → AreParameters c ns → HasParameters c (array_or ns x)
array_parameters c [] x h = known_parameters c intrinsics x
array_parameters c (n ∷ ns) x h = h

-- A unit whose statements are judged in the context c: its names have places of the store, and its frame has a spot for each dummy.
pub record Site (callee : ℕ → ℕ → Type 0) (plans units n : ℕ) (y : Layout) (u : ℕ) (c : Context) : Type 0 where
  pub judged : IsJudged c (y.linked.context u)
  pub parameters : (x : Text) → list_all is_parameter (sizes_of x (y.linked.context u).notes) ≡ true
  pub dummies : length (dummies_of (y.linked.context u).header) ≡ n
  pub own : (x : Text) → IsOwn y.linked u x → IsFit callee plans units (own_code y u x)

-- a unit that is called has a spot for each actual, and a function's name has places of the store
pub record Leads (callee : ℕ → ℕ → Type 0) (plans units : ℕ) (y : Layout) (by_call : Bool) (x : Text) (n : ℕ) : Type 0 where
  pub unit : ℕ
  pub found : y.linked.find x ≡ Some unit
  pub entered : callee (y.entry unit) n
  pub result : by_call ≡ false → IsFit callee plans units (own_code y unit x)

abbrev pub MayCall : (ℕ → ℕ → Type 0) → ℕ → ℕ → Layout → Mention → Type 0
MayCall callee plans units y (ACall b x es) = Leads callee plans units y b x (count es)
MayCall callee plans units y _ = Unit {0}

module _ (callee : ℕ → ℕ → Type 0) (plans units n : ℕ) (y : Layout) (u : ℕ) (c : Context) (site : Site callee plans units n y u c) where
  abbrev d : Context
  d = y.linked.context u

  abbrev Runs : List Instruction → Fact → Fact → Type 0
  Runs = plain.Runs callee plans units

  abbrev IsFitHere : Instruction → Type 0
  IsFitHere = IsFit callee plans units

  -- ---- names ----

  pub sort_parameters : (x : Text) → HasParameters c (sort_of d x)
  sort_parameters x = array_parameters c (sizes_of x d.notes) x (site.judged.sizes x, site.parameters x)

  pub record Base (x : Text) : Type 0 where
    pub fit : IsFitHere (base_code y u x)
    pub gives : (o : Open) (s : List EntryKind) → after (base_code y u x) (fact n o s) ≡ Some (fact n o (e.Spot ∷ s))

  dummy_after : (m : ℕ) → m < n → (o : Open) (s : List EntryKind) → after (i.Dummy m) (fact n o s) ≡ Some (fact n o (e.Spot ∷ s))
  dummy_after m lt o s = ap (λ b. cond b (Some (fact n o (e.Spot ∷ s))) None) (lt-ltb m n lt)

  pub base : (x : Text) → Base x
  base x = by_position (position x (dummies_of d.header)) refl (position_within x (dummies_of d.header))
    where
      by_position : (p : Option ℕ) → position x (dummies_of d.header) ≡ p → IfSome p (λ m. m < length (dummies_of d.header)) → Base x
      by_position None is h =
          let same : base_code y u x ≡ own_code y u x = ap (base_by y u x) is in
          record { fit = subst IsFitHere (sym same) (site.own x is); gives = λ o s. ap (λ j. after j (fact n o s)) same }
      by_position (Some m) is h =
          let same : base_code y u x ≡ i.Dummy m = ap (base_by y u x) is in
          record {
            fit = subst IsFitHere (sym same) tt;
            gives = λ o s. ap (λ j. after j (fact n o s)) same ∙ dummy_after m (subst (λ k. m < k) site.dummies h) o s;
          }

  pub variable_runs : (x : Text) (o : Open) (s : List EntryKind) → Runs (variable_code y u x) (fact n o s) (fact n o (entry_kind (kind_of c x) ∷ s))
  variable_runs x o s =
      let b = base x in
      (fact n o (e.Spot ∷ s), b.gives o s, b.fit, (fact n o (entry_kind (kind_of d x) ∷ s), refl, tt, ap (λ k. fact n o (entry_kind k ∷ s)) (sym (site.judged.kinds x))))

  pub may_is : (x : Text) (k : Kind) → may_be c x k ≡ true → kind_of c x ≡ k
  may_is x k h = ⊎_elim (same_is (kind_of c x) k) (λ o. absurd (true≢false (sym o ∙ site.judged.own x))) (or_cases (same_kind (kind_of c x) k) (is_foreign c x) h)

  pub counter_runs : (x : Text) → is_counter c x ≡ true → (o : Open) (s : List EntryKind) → Runs (variable_code y u x) (fact n o s) (fact n o (e.Int ∷ s))
  counter_runs x h o s = subst (λ k. Runs (variable_code y u x) (fact n o s) (fact n o (entry_kind k ∷ s))) (integer_only (kind_of c x) (and_parts _ _ h).1) (variable_runs x o s)

  pub par_runs : (p : Par) → is_counting c p ≡ true → is_parameter p ≡ true → (o : Open) (s : List EntryKind) → Runs (par_code y u p) (fact n o s) (fact n o (e.Int ∷ s))
  par_runs (Constant z) h g o s = plain.runs_one callee plans units (i.Push (Whole z)) _ _ refl (small z g)
  par_runs (Named x) h g o s = counter_runs x h o s

  -- one entry of a kind, and then others
  pub then_more : (k : EntryKind) (a b : List Instruction) (m : ℕ) (o : Open) (s : List EntryKind) → Runs a (fact n o s) (fact n o (k ∷ s)) → Runs b (fact n o (k ∷ s)) (fact n o (more k m (k ∷ s))) → Runs (a ++ b) (fact n o s) (fact n o (more k (suc m) s))
  then_more k a b m o s p q = plain.runs_append callee plans units a b _ _ _ p (subst (λ t. Runs b (fact n o (k ∷ s)) (fact n o t)) (more_behind k m s) q)

  pub pars_runs : (ns : List Par) → AreParameters c ns → (o : Open) (s : List EntryKind) → Runs (pars_code y u ns) (fact n o s) (fact n o (more e.Int (length ns) s))
  pars_runs [] h o s = refl
  pars_runs (p ∷ ns) h o s =
      let a = and_parts (is_counting c p) _ h.0 in
      let b = and_parts (is_parameter p) _ h.1 in
      then_more e.Int (par_code y u p) (pars_code y u ns) (length ns) o s (par_runs p a.0 b.0 o s) (pars_runs ns (a.1, b.1) o (e.Int ∷ s))

  -- ---- subscripts ----

  number_runs : (a : Formula) (l : ℕ) → stands l a ≡ true → is_number a ≡ true → (o : Open) (s : List EntryKind) → Runs (value_code y u a) (fact n o s) (fact n o (e.Int ∷ s))
  number_runs (Int z) l g h o s = plain.runs_one callee plans units (i.Push (Whole z)) _ _ refl (small z g)
  number_runs _ l g h o s = absurd (true≢false (sym h))

  index_runs : (a : Formula) → is_index c a ≡ true → (o : Open) (s : List EntryKind) → Runs (value_code y u a) (fact n o s) (fact n o (e.Int ∷ s))
  index_runs (Ref x) h o s = counter_runs x h o s
  index_runs _ h o s = absurd (true≢false (sym h))

  -- two operands of the types that the operator asks for
  pub pair_runs : (op : Operator) (a b : Formula) (o : Open) (s : List EntryKind) → Runs (value_code y u a) (fact n o s) (fact n o (entry_kind (operand op) ∷ s)) →
      Runs (value_code y u b) (fact n o (entry_kind (operand op) ∷ s)) (fact n o (entry_kind (operand op) ∷ entry_kind (operand op) ∷ s)) → Runs (value_code y u (Pair op a b)) (fact n o s) (fact n o (entry_kind (outcome op) ∷ s))
  pair_runs op a b o s p q =
      let by = operates callee plans units op in
      let last = plain.runs_one callee plans units (operator_code op) _ _ (by.gives n o s) by.fit in
      plain.runs_append callee plans units (value_code y u a) _ _ _ _ p (plain.runs_append callee plans units (value_code y u b) (operator_code op ∷ []) _ _ _ q last)

  sum_runs : (op : Operator) (a b : Formula) → is_arithmetic op ≡ true → ((o : Open) (s : List EntryKind) → Runs (value_code y u a) (fact n o s) (fact n o (e.Int ∷ s))) →
      ((o : Open) (s : List EntryKind) → Runs (value_code y u b) (fact n o s) (fact n o (e.Int ∷ s))) → (o : Open) (s : List EntryKind) → Runs (value_code y u (Pair op a b)) (fact n o s) (fact n o (e.Int ∷ s))
  sum_runs Add a b h p q o s = pair_runs Add a b o s (p o s) (q o (e.Int ∷ s))
  sum_runs Sub a b h p q o s = pair_runs Sub a b o s (p o s) (q o (e.Int ∷ s))
  sum_runs Mul a b h p q o s = pair_runs Mul a b o s (p o s) (q o (e.Int ∷ s))
  sum_runs Div a b h p q o s = pair_runs Div a b o s (p o s) (q o (e.Int ∷ s))
  sum_runs Power a b h p q o s = pair_runs Power a b o s (p o s) (q o (e.Int ∷ s))
  sum_runs _ a b h p q o s = absurd (true≢false (sym h))

  times_arithmetic : (op : Operator) → is_times op ≡ true → is_arithmetic op ≡ true
  times_arithmetic Mul h = refl
  times_arithmetic _ h = absurd (true≢false (sym h))

  plus_arithmetic : (op : Operator) → is_plus_or_minus op ≡ true → is_arithmetic op ≡ true
  plus_arithmetic Add h = refl
  plus_arithmetic Sub h = refl
  plus_arithmetic _ h = absurd (true≢false (sym h))

  pair_stands : (l : ℕ) (op : Operator) (a b : Formula) → stands l (Pair op a b) ≡ true → (k : ℕ) × (j : ℕ) × (stands k a ≡ true) × (stands j b ≡ true)
  pair_stands l op a b g = let p = and_parts (nat_le l (level op)) _ g in let q = and_parts (stands (left_level op) a) _ p.1 in (_, _, q.0, q.1)

  multiple_runs : (a : Formula) (l : ℕ) → stands l a ≡ true → is_multiple c a ≡ true → (o : Open) (s : List EntryKind) → Runs (value_code y u a) (fact n o s) (fact n o (e.Int ∷ s))
  multiple_runs (Ref x) l g h o s = counter_runs x h o s
  multiple_runs (Pair op a b) l g h o s =
      let p = and_parts (is_times op) _ h in
      let q = and_parts (is_number a) _ p.1 in
      let t = pair_stands l op a b g in
      sum_runs op a b (times_arithmetic op p.0) (number_runs a t.0 t.2 q.0) (index_runs b q.1) o s
  multiple_runs _ l g h o s = absurd (true≢false (sym h))

  shifted_runs : (a : Formula) (l : ℕ) → stands l a ≡ true → is_shifted c a ≡ true → (o : Open) (s : List EntryKind) → Runs (value_code y u a) (fact n o s) (fact n o (e.Int ∷ s))
  shifted_runs (Pair op a b) l g h o s =
      let p = and_parts (is_plus_or_minus op) _ h in
      let q = and_parts (is_multiple c a) _ p.1 in
      let t = pair_stands l op a b g in
      sum_runs op a b (plus_arithmetic op p.0) (multiple_runs a t.0 t.2 q.0) (number_runs b t.1 t.3 q.1) o s
  shifted_runs _ l g h o s = absurd (true≢false (sym h))

  subscript_runs : (a : Formula) (l : ℕ) → stands l a ≡ true → is_subscript c a ≡ true → (o : Open) (s : List EntryKind) → Runs (value_code y u a) (fact n o s) (fact n o (e.Int ∷ s))
  subscript_runs a l g h o s =
      ⊎_elim (λ t. number_runs a l g t o s) (λ t. ⊎_elim (λ v. multiple_runs a l g v o s) (λ v. shifted_runs a l g v o s) (or_cases (is_multiple c a) (is_shifted c a) t))
      (or_cases (is_number a) (is_multiple c a || is_shifted c a) h)

  pub subscripts_run : (es : Formulas) → stand_all es ≡ true → are_subscripts c es ≡ true → (o : Open) (s : List EntryKind) → Runs (values_code y u es) (fact n o s) (fact n o (more e.Int (count es) s))
  subscripts_run NoFormula g h o s = refl
  subscripts_run (AndFormula a es) g h o s =
      let p = and_parts (stands 0 a) _ g in
      let q = and_parts (is_subscript c a) _ h in
      then_more e.Int (value_code y u a) (values_code y u es) (count es) o s (subscript_runs a 0 p.0 q.0 o s) (subscripts_run es p.1 q.1 o (e.Int ∷ s))

  -- an element with as many subscripts as dimensions
  pub element_runs : (x : Text) (ns : List Par) (es : Formulas) → AreParameters c ns → count es ≡ length ns → stand_all es ≡ true → are_subscripts c es ≡ true → (o : Open) (s : List EntryKind) →
      Runs (element_code y u x ns (values_code y u es)) (fact n o s) (fact n o (e.Spot ∷ s))
  element_runs x ns es h same g k o s =
      let b = base x in
      let t = e.Spot ∷ s in
      let subs = subst (λ m. Runs (values_code y u es) (fact n o t) (fact n o (more e.Int m t))) same (subscripts_run es g k o t) in
      let last = plain.runs_one callee plans units (i.Element (length ns)) _ _ (after_element (length ns) n o s) tt in (
        fact n o t,
        b.gives o s,
        b.fit,
        plain.runs_append callee plans units (values_code y u es) _ _ _ _ subs (plain.runs_append callee plans units (pars_code y u ns) (i.Element (length ns) ∷ []) _ _ _ (pars_runs ns h o (more e.Int (length ns) t)) last),
      )
