-- The values, tests, actuals and lists of plain statements stand in the grammar, have the types that are asked for, and use names that
-- break no rule.
use Rattle.std.proofs.Common.{◌≡◌, ℕ, ◌<◌, Bool, true, false, true≢false, List, [], ◌∷◌, ◌++◌, refl, sym, ap, ◌∙◌, inl, inr, arith, ◌||◌, ◌&&◌, not}
use Rattle.std.specs.Prelude.{nat_le}
use Rattle.std.specs.List.{All, list_any}
use Rattle.std.proofs.lemmas.Bool.{and_from, or_right, le-leb}
use Rattle.std.proofs.lemmas.List.Elements.{All-nil, All-cons, All-append, All-weaker}
use Rattle.std.proofs.lemmas.List.Folds.{list_any_none}
use Rattle.ground.specs.declared.value.Kind.{Kind}
use Rattle.ground.specs.declared.value.Kind.TheVariants.{Integer, Logical}
use Rattle.f66_tree.specs.declared.editing.Way.{Way}
use Rattle.f66_tree.specs.declared.editing.Way.TheVariants.{Reading, Writing}
use Rattle.f66_tree.specs.declared.expression.Operator.{Operator}
use Rattle.f66_tree.specs.declared.expression.Operator.TheVariants.{Eq}
use Rattle.f66_tree.specs.Syntax.{Text, Formula, Int, Truth, Ref, Item, Group, Plus, Minus, Not, Pair, Formulas, NoFormula, AndFormula, Par, Constant, Named, One, Entries, NoEntry, AndEntry}
use Rattle.f66_tree.specs.Units.{Context, kind_of}
use Rattle.f66_tree.specs.Evaluation.{Intrinsic, Iabs, Mod, Isign, Idim, Max0, Min0}
use Rattle.f66_names.specs.declared.name_form.Arity.{Arity}
use Rattle.f66_names.specs.declared.name_form.Arity.TheVariants as arities
use Rattle.f66_names.specs.declared.name_form.NameForm.{NameForm}
use Rattle.f66_names.specs.declared.name_form.NameForm.TheVariants as forms
use Rattle.f66_names.specs.declared.name_form.Manner.TheVariants.{Alone, With}
use Rattle.f66_names.specs.Kinds.{same_kind, may_be, operand, outcome, are_entries, is_counting}
use Rattle.f66_names.specs.NameRules.{is_long, miscounts, miscounts_by}
use Rattle.f66_names.specs.Shapes.{is_name, level, left_level, right_level, stands, stand_all, are_arguments, is_parameter, are_items}
use Rattle.f66_names.specs.Sorts.{name_form, form_by, is_array_form, is_array_name, is_foreign, is_real_by_letter, is_integer, arity, takes_many}
use Rattle.f66_names.specs.StoreRules.{store_entries}
use Rattle.f66_names.specs.Uses.{Usage, usage, many, uses_of, uses_of_all, uses_of_par, uses_of_entries}
use Rattle.unit_rules.specs.Forms.{is_passed_form, are_passed_forms}
use Rattle.unit_rules.specs.Judged.{judged_of_entries}
use Rattle.unit_rules.specs.Types.{applied, kind_seen, is_whole, is_letter, fits, are_integers, are_actuals, are_passed}
use Rattle.plain_units.specs.Plain.{name_of, IsSigned, IsLeaf, AreLeaves, IsPassed, ArePassed, IsIntrinsic, IsFunction, IsValue, IsTest, IsUnit, AreListed}
use Rattle.plain_units.specs.Known.{IsTyped, AreKnown}

-- ---- uses of names ----

-- the name is short and its type is of the profile, and it stands with as many values as it takes
pub record IsFine (c : Context) (u : Usage) : Type 0 where
  pub short : is_long u.name ≡ false
  pub declared : is_real_by_letter c u.name ≡ false
  pub counted : miscounts c u ≡ false

abbrev pub AreFine : Context → List Usage → Type 0
AreFine c us = All (λ u. IsFine c u) us

module _ (c : Context) where
  pub none_long : (us : List Usage) → AreFine c us → list_any (λ u. is_long u.name) us ≡ false
  none_long us h = list_any_none (λ u. is_long u.name) us (All-weaker (λ u. IsFine c u) (λ u. is_long u.name ≡ false) (λ u f. f.short) us h)

  pub none_real : (us : List Usage) → AreFine c us → list_any (λ u. is_real_by_letter c u.name) us ≡ false
  none_real us h = list_any_none (λ u. is_real_by_letter c u.name) us (All-weaker (λ u. IsFine c u) (λ u. is_real_by_letter c u.name ≡ false) (λ u f. f.declared) us h)

  pub none_miscounted : (us : List Usage) → AreFine c us → list_any (miscounts c) us ≡ false
  none_miscounted us h = list_any_none (miscounts c) us (All-weaker (λ u. IsFine c u) (λ u. miscounts c u ≡ false) (λ u f. f.counted) us h)

  pub no_uses : AreFine c []
  no_uses = All-nil (λ u. IsFine c u)

  pub one_use : (u : Usage) (us : List Usage) → IsFine c u → AreFine c us → AreFine c (u ∷ us)
  one_use u us f h = All-cons (λ u. IsFine c u) u us f h

  pub more_uses : (us vs : List Usage) → AreFine c us → AreFine c vs → AreFine c (us ++ vs)
  more_uses us vs h k = All-append (λ u. IsFine c u) us vs h k

-- ---- types, levels and counts ----

alike : (k : Kind) → same_kind k k ≡ true
alike Integer = refl
alike Logical = refl

same_as : (k j : Kind) → j ≡ k → same_kind k j ≡ true
same_as k j e = ap (same_kind k) e ∙ alike k

lowest : (n : ℕ) → nat_le 0 n ≡ true
lowest n = le-leb 0 n (omega arith)

pub named_so : (g : Intrinsic) → is_name (name_of g) ≡ true
named_so Iabs = refl
named_so Mod = refl
named_so Isign = refl
named_so Idim = refl
named_so Max0 = refl
named_so Min0 = refl

short_so : (g : Intrinsic) → is_long (name_of g) ≡ false
short_so Iabs = refl
short_so Mod = refl
short_so Isign = refl
short_so Idim = refl
short_so Max0 = refl
short_so Min0 = refl

takes_some : (a : Arity) → takes_many a 0 ≡ false
takes_some arities.One = refl
takes_some arities.Two = refl
takes_some arities.More = refl

-- of a name with parentheses
applied_intrinsic : (f : NameForm) (a : Arity) (p q r : Bool) → f ≡ forms.Intrinsic a → q ≡ true → applied f p q r ≡ true
applied_intrinsic f a p q r e h = ap (λ g. applied g p q r) e ∙ h

applied_function : (f : NameForm) (p q r : Bool) → f ≡ forms.Plain → r ≡ true → applied f p q r ≡ true
applied_function f p q r e h = ap (λ g. applied g p q r) e ∙ h

module _ (c : Context) where
  pub no_array : (x : Text) → name_form c x ≡ forms.Plain → is_array_name c x ≡ false
  no_array x e = ap is_array_form e

  pub is_of : (x : Text) (k : Kind) → kind_of c x ≡ k → may_be c x k ≡ true
  is_of x k e = ap (λ b. b || is_foreign c x) (ap (λ j. same_kind j k) e ∙ alike k)

  pub named_fits : (x : Text) (k : Kind) → name_form c x ≡ forms.Plain → kind_of c x ≡ k → fits c (Ref x) k ≡ true
  named_fits x k f e = and_from (not (is_array_name c x)) (may_be c x k) (ap not (no_array x f)) (is_of x k e)

-- a constant with a sign or without
signed_stands : (e : Formula) → IsSigned e → stands 4 e ≡ true
signed_stands (Int z) h = h
signed_stands (Minus (Int z)) h = h
signed_stands e h = absurd h

signed_fits : (c : Context) (e : Formula) → IsSigned e → fits c e Integer ≡ true
signed_fits c (Int z) h = refl
signed_fits c (Minus (Int z)) h = refl
signed_fits c e h = absurd h

signed_uses : (c : Context) (e : Formula) → IsSigned e → AreFine c (uses_of e)
signed_uses c (Int z) h = no_uses c
signed_uses c (Minus (Int z)) h = no_uses c
signed_uses c e h = absurd h

module _ (V F : Text → Kind → Type 0) (S : Text → Type 0) (c : Context) (known : AreKnown V F S c) where
  -- ---- variables and constants ----

  pub typed : (x : Text) (k : Kind) → V x k → IsTyped c x k
  typed x k v = (known.variables x k v).0

  pub variable_fine : (x : Text) (k : Kind) → V x k → IsFine c (usage x Alone)
  variable_fine x k v = record { short = (typed x k v).text.short; declared = (typed x k v).declared; counted = refl }

  pub variable_use : (x : Text) (k : Kind) (us : List Usage) → V x k → AreFine c us → AreFine c (usage x Alone ∷ us)
  variable_use x k us v h = one_use c (usage x Alone) us (variable_fine x k v) h

  pub variable_fits : (x : Text) (k : Kind) → V x k → fits c (Ref x) k ≡ true
  variable_fits x k v = named_fits c x k (typed x k v).form (typed x k v).kind

  leaf_stands : (n : ℕ) (e : Formula) (k : Kind) → IsLeaf V F S e k → stands n e ≡ true
  leaf_stands n (Int z) k h = h.1
  leaf_stands n (Truth b) k h = refl
  leaf_stands n (Ref x) k h = (typed x k h).text.name
  leaf_stands n e k h = absurd h

  leaf_fits : (e : Formula) (k : Kind) → IsLeaf V F S e k → fits c e k ≡ true
  leaf_fits (Int z) k h = same_as Integer k h.0
  leaf_fits (Truth b) k h = same_as Logical k h
  leaf_fits (Ref x) k h = variable_fits x k h
  leaf_fits e k h = absurd h

  -- the type that it has where it has one
  leaf_seen : (e : Formula) (k : Kind) → IsLeaf V F S e k → kind_seen c e ≡ k
  leaf_seen (Int z) k h = sym h.0
  leaf_seen (Truth b) k h = sym h
  leaf_seen (Ref x) k h = (typed x k h).kind
  leaf_seen e k h = absurd h

  leaf_uses : (e : Formula) (k : Kind) → IsLeaf V F S e k → AreFine c (uses_of e)
  leaf_uses (Int z) k h = no_uses c
  leaf_uses (Truth b) k h = no_uses c
  leaf_uses (Ref x) k h = variable_use x k [] h (no_uses c)
  leaf_uses e k h = absurd h

  leaves_stand : (es : Formulas) (k : Kind) → AreLeaves V F S es k → stand_all es ≡ true
  leaves_stand NoFormula k h = refl
  leaves_stand (AndFormula e es) k h = and_from (stands 0 e) (stand_all es) (leaf_stands 0 e k h.0) (leaves_stand es k h.1)

  leaves_fit : (es : Formulas) → AreLeaves V F S es Integer → are_integers c es ≡ true
  leaves_fit NoFormula h = refl
  leaves_fit (AndFormula e es) h = and_from (fits c e Integer) (are_integers c es) (leaf_fits e Integer h.0) (leaves_fit es h.1)

  leaves_use : (es : Formulas) (k : Kind) → AreLeaves V F S es k → AreFine c (uses_of_all es)
  leaves_use NoFormula k h = no_uses c
  leaves_use (AndFormula e es) k h = more_uses c (uses_of e) (uses_of_all es) (leaf_uses e k h.0) (leaves_use es k h.1)

  -- ---- actuals ----

  passed_stands : (e : Formula) → IsPassed V F S e → stands 0 e ≡ true
  passed_stands (Ref x) h = (typed x h.0 h.1).text.name
  passed_stands (Int z) h = h
  passed_stands (Group e) h = leaf_stands 0 e h.0 h.1
  passed_stands e h = absurd h

  passed_form : (e : Formula) → IsPassed V F S e → is_passed_form e ≡ true
  passed_form (Ref x) h = passed_stands (Ref x) h
  passed_form (Int z) h = h
  passed_form (Group e) h = passed_stands (Group e) h
  passed_form e h = absurd h

  passed_fits : (e : Formula) → IsPassed V F S e → fits c e (kind_seen c e) ≡ true
  passed_fits (Ref x) h = named_fits c x (kind_of c x) (typed x h.0 h.1).form refl
  passed_fits (Int z) h = refl
  passed_fits (Group e) h = ap (fits c e) (leaf_seen e h.0 h.1) ∙ leaf_fits e h.0 h.1
  passed_fits e h = absurd h

  passed_uses : (e : Formula) → IsPassed V F S e → AreFine c (uses_of e)
  passed_uses (Ref x) h = variable_use x h.0 [] h.1 (no_uses c)
  passed_uses (Int z) h = no_uses c
  passed_uses (Group e) h = leaf_uses e h.0 h.1
  passed_uses e h = absurd h

  actual_fits : (e : Formula) → IsPassed V F S e → (is_whole c e || fits c e (kind_seen c e)) ≡ true
  actual_fits e h = or_right (is_whole c e) (fits c e (kind_seen c e)) (passed_fits e h)

  all_stand : (es : Formulas) → ArePassed V F S es → stand_all es ≡ true
  all_stand NoFormula h = refl
  all_stand (AndFormula e es) h = and_from (stands 0 e) (stand_all es) (passed_stands e h.0) (all_stand es h.1)

  pub all_formed : (es : Formulas) → ArePassed V F S es → are_passed_forms es ≡ true
  all_formed NoFormula h = refl
  all_formed (AndFormula e es) h = and_from (is_passed_form e) (are_passed_forms es) (passed_form e h.0) (all_formed es h.1)

  all_fit : (es : Formulas) → ArePassed V F S es → are_actuals c es ≡ true
  all_fit NoFormula h = refl
  all_fit (AndFormula e es) h = and_from (is_whole c e || fits c e (kind_seen c e)) (are_actuals c es) (actual_fits e h.0) (all_fit es h.1)

  pub all_passed : (es : Formulas) → ArePassed V F S es → are_passed c es ≡ true
  all_passed NoFormula h = refl
  all_passed (AndFormula e es) h =
      and_from (is_letter e || (is_whole c e || fits c e (kind_seen c e))) (are_passed c es) (or_right (is_letter e) (is_whole c e || fits c e (kind_seen c e)) (actual_fits e h.0)) (all_passed es h.1)

  pub all_uses : (es : Formulas) → ArePassed V F S es → AreFine c (uses_of_all es)
  all_uses NoFormula h = no_uses c
  all_uses (AndFormula e es) h = more_uses c (uses_of e) (uses_of_all es) (passed_uses e h.0) (all_uses es h.1)

  -- ---- references ----

  -- one argument or more
  some_arguments : (a : Arity) (es : Formulas) → takes_many a (many es) ≡ true → stand_all es ≡ true → are_arguments es ≡ true
  some_arguments a NoFormula t h = absurd (true≢false (sym t ∙ takes_some a))
  some_arguments a (AndFormula e es) t h = h

  some_passed : (es : Formulas) → 0 < many es → stand_all es ≡ true → are_arguments es ≡ true
  some_passed NoFormula t h = absurd (omega arith)
  some_passed (AndFormula e es) t h = h

  intrinsic_form : (x : Text) (g : Intrinsic) → x ≡ name_of g → name_form c x ≡ forms.Intrinsic (arity g)
  intrinsic_form x g e = ap (name_form c) e ∙ ap form_by (known.intrinsics g).sort

  intrinsic_stands : (x : Text) (es : Formulas) (k : Kind) → IsIntrinsic V F S x es k → stands 0 (Item x es) ≡ true
  intrinsic_stands x es k h =
      and_from (is_name x) (are_arguments es) (ap is_name h.name ∙ named_so h.intrinsic) (some_arguments (arity h.intrinsic) es h.takes (leaves_stand es Integer h.leaves))

  intrinsic_fits : (x : Text) (es : Formulas) (k : Kind) → IsIntrinsic V F S x es k → fits c (Item x es) k ≡ true
  intrinsic_fits x es k h =
      let whole : is_integer (kind_of c x) ≡ true = ap (λ y. is_integer (kind_of c y)) h.name ∙ ap is_integer (known.intrinsics h.intrinsic).kind in
      let all : are_integers c es ≡ true = leaves_fit es h.leaves in
      let same : same_kind Integer k ≡ true = same_as Integer k h.gives in
      applied_intrinsic (name_form c x) (arity h.intrinsic) _ _ (may_be c x k && are_actuals c es) (intrinsic_form x h.intrinsic h.name)
      (and_from (is_integer (kind_of c x) && are_integers c es) (same_kind Integer k) (and_from (is_integer (kind_of c x)) (are_integers c es) whole all) same)

  intrinsic_uses : (x : Text) (es : Formulas) (k : Kind) → IsIntrinsic V F S x es k → AreFine c (uses_of (Item x es))
  intrinsic_uses x es k h = one_use c (usage x (With (many es))) (uses_of_all es) fine (leaves_use es Integer h.leaves)
    where
      fine : IsFine c (usage x (With (many es)))
      fine = record {
        short = ap is_long h.name ∙ short_so h.intrinsic;
        declared = ap (is_real_by_letter c) h.name ∙ (known.intrinsics h.intrinsic).declared;
        counted = ap (λ f. miscounts_by f (With (many es))) (intrinsic_form x h.intrinsic h.name) ∙ ap not h.takes;
      }

  function_typed : (x : Text) (k : Kind) → F x k → IsTyped c x k
  function_typed x k v = (known.functions x k v).0

  function_stands : (x : Text) (es : Formulas) (k : Kind) → IsFunction V F S x es k → stands 0 (Item x es) ≡ true
  function_stands x es k h = and_from (is_name x) (are_arguments es) (function_typed x k h.gives).text.name (some_passed es h.some (all_stand es h.passed))

  function_fits : (x : Text) (es : Formulas) (k : Kind) → IsFunction V F S x es k → fits c (Item x es) k ≡ true
  function_fits x es k h =
      applied_function (name_form c x) _ _ _ (function_typed x k h.gives).form (and_from (may_be c x k) (are_actuals c es) (is_of c x k (function_typed x k h.gives).kind) (all_fit es h.passed))

  function_uses : (x : Text) (es : Formulas) (k : Kind) → IsFunction V F S x es k → AreFine c (uses_of (Item x es))
  function_uses x es k h = one_use c (usage x (With (many es))) (uses_of_all es) fine (all_uses es h.passed)
    where
      fine : IsFine c (usage x (With (many es)))
      fine = record {
        short = (function_typed x k h.gives).text.short;
        declared = (function_typed x k h.gives).declared;
        counted = ap (λ f. miscounts_by f (With (many es))) (function_typed x k h.gives).form;
      }

  -- ---- values ----

  pub value_stands : (e : Formula) (k : Kind) → IsValue V F S e k → stands 0 e ≡ true
  value_stands (Plus a) k h = leaf_stands 5 a Integer h.1
  value_stands (Minus a) k h = leaf_stands 5 a Integer h.1
  value_stands (Not a) k h = leaf_stands 3 a Logical h.1
  value_stands (Pair op a b) k h =
      and_from (nat_le 0 (level op)) (stands (left_level op) a && stands (right_level op) b) (lowest (level op))
      (and_from (stands (left_level op) a) (stands (right_level op) b) (leaf_stands (left_level op) a (operand op) h.1) (leaf_stands (right_level op) b (operand op) h.2))
  value_stands (Item x es) k (inl h) = intrinsic_stands x es k h
  value_stands (Item x es) k (inr h) = function_stands x es k h
  value_stands (Int z) k h = leaf_stands 0 (Int z) k h
  value_stands (Truth b) k h = refl
  value_stands (Ref x) k h = leaf_stands 0 (Ref x) k h
  value_stands e k h = absurd h

  pub value_fits : (e : Formula) (k : Kind) → IsValue V F S e k → fits c e k ≡ true
  value_fits (Plus a) k h = and_from (same_kind Integer k) (fits c a Integer) (same_as Integer k h.0) (leaf_fits a Integer h.1)
  value_fits (Minus a) k h = and_from (same_kind Integer k) (fits c a Integer) (same_as Integer k h.0) (leaf_fits a Integer h.1)
  value_fits (Not a) k h = and_from (same_kind Logical k) (fits c a Logical) (same_as Logical k h.0) (leaf_fits a Logical h.1)
  value_fits (Pair op a b) k h =
      and_from (same_kind (outcome op) k) (fits c a (operand op) && fits c b (operand op)) (same_as (outcome op) k h.0)
      (and_from (fits c a (operand op)) (fits c b (operand op)) (leaf_fits a (operand op) h.1) (leaf_fits b (operand op) h.2))
  value_fits (Item x es) k (inl h) = intrinsic_fits x es k h
  value_fits (Item x es) k (inr h) = function_fits x es k h
  value_fits (Int z) k h = leaf_fits (Int z) k h
  value_fits (Truth b) k h = leaf_fits (Truth b) k h
  value_fits (Ref x) k h = leaf_fits (Ref x) k h
  value_fits e k h = absurd h

  pub value_uses : (e : Formula) (k : Kind) → IsValue V F S e k → AreFine c (uses_of e)
  value_uses (Plus a) k h = leaf_uses a Integer h.1
  value_uses (Minus a) k h = leaf_uses a Integer h.1
  value_uses (Not a) k h = leaf_uses a Logical h.1
  value_uses (Pair op a b) k h = more_uses c (uses_of a) (uses_of b) (leaf_uses a (operand op) h.1) (leaf_uses b (operand op) h.2)
  value_uses (Item x es) k (inl h) = intrinsic_uses x es k h
  value_uses (Item x es) k (inr h) = function_uses x es k h
  value_uses (Int z) k h = no_uses c
  value_uses (Truth b) k h = no_uses c
  value_uses (Ref x) k h = leaf_uses (Ref x) k h
  value_uses e k h = absurd h

  -- ---- tests ----

  equal_stands : (op : Operator) (a b : Formula) → op ≡ Eq → IsLeaf V F S a Integer → IsSigned b → stands 0 (Pair op a b) ≡ true
  equal_stands op a b e h k = ap (λ o. stands 0 (Pair o a b)) e ∙ and_from (stands 4 a) (stands 4 b) (leaf_stands 4 a Integer h) (signed_stands b k)

  equal_fits : (op : Operator) (a b : Formula) → op ≡ Eq → IsLeaf V F S a Integer → IsSigned b → fits c (Pair op a b) Logical ≡ true
  equal_fits op a b e h k = ap (λ o. fits c (Pair o a b) Logical) e ∙ and_from (fits c a Integer) (fits c b Integer) (leaf_fits a Integer h) (signed_fits c b k)

  pub test_stands : (e : Formula) → IsTest V F S e → stands 0 e ≡ true
  test_stands (Truth b) h = refl
  test_stands (Ref x) h = leaf_stands 0 (Ref x) Logical h
  test_stands (Not a) h = leaf_stands 3 a Logical h
  test_stands (Pair op a b) h = equal_stands op a b h.0 h.1 h.2
  test_stands e h = absurd h

  pub test_fits : (e : Formula) → IsTest V F S e → fits c e Logical ≡ true
  test_fits (Truth b) h = refl
  test_fits (Ref x) h = leaf_fits (Ref x) Logical h
  test_fits (Not a) h = leaf_fits a Logical h
  test_fits (Pair op a b) h = equal_fits op a b h.0 h.1 h.2
  test_fits e h = absurd h

  pub test_uses : (e : Formula) → IsTest V F S e → AreFine c (uses_of e)
  test_uses (Truth b) h = no_uses c
  test_uses (Ref x) h = leaf_uses (Ref x) Logical h
  test_uses (Not a) h = leaf_uses a Logical h
  test_uses (Pair op a b) h = more_uses c (uses_of a) (uses_of b) (leaf_uses a Integer h.1) (signed_uses c b h.2)
  test_uses e h = absurd h

  -- ---- what READ and WRITE name ----

  pub unit_form : (u : Par) → IsUnit V F S u → is_parameter u ≡ true
  unit_form (Constant z) h = h
  unit_form (Named x) h = (typed x Integer h).text.name

  pub unit_counts : (u : Par) → IsUnit V F S u → is_counting c u ≡ true
  unit_counts (Constant z) h = refl
  unit_counts (Named x) h = and_from (not (is_array_name c x)) (is_integer (kind_of c x)) (ap not (no_array c x (typed x Integer h).form)) (ap is_integer (typed x Integer h).kind)

  pub unit_uses : (u : Par) → IsUnit V F S u → AreFine c (uses_of_par u)
  unit_uses (Constant z) h = no_uses c
  unit_uses (Named x) h = variable_use x Integer [] h (no_uses c)

  pub listed_form : (es : Entries) → AreListed V F S es → are_items es ≡ true
  listed_form NoEntry h = refl
  listed_form (AndEntry (One (Ref x)) es) h = and_from (is_name x) (are_items es) (typed x h.0.0 h.0.1).text.name (listed_form es h.1)
  listed_form (AndEntry e es) h = absurd h

  pub listed_types : (way : Way) (es : Entries) → AreListed V F S es → are_entries way c es ≡ true
  listed_types way NoEntry h = refl
  listed_types way (AndEntry (One (Ref x)) es) h = listed_types way es h.1
  listed_types way (AndEntry e es) h = absurd h

  pub listed_stores : (way : Way) (es : Entries) → AreListed V F S es → store_entries way c es ≡ true
  listed_stores way NoEntry h = refl
  listed_stores Reading (AndEntry (One (Ref x)) es) h = listed_stores Reading es h.1
  listed_stores Writing (AndEntry (One (Ref x)) es) h = listed_stores Writing es h.1
  listed_stores way (AndEntry e es) h = absurd h

  pub listed_uses : (es : Entries) → AreListed V F S es → AreFine c (uses_of_entries es)
  listed_uses NoEntry h = no_uses c
  listed_uses (AndEntry (One (Ref x)) es) h = variable_use x h.0.0 (uses_of_entries es) h.0.1 (listed_uses es h.1)
  listed_uses (AndEntry e es) h = absurd h

  pub listed_judged : (es : Entries) → AreListed V F S es → AreFine c (judged_of_entries c es)
  listed_judged NoEntry h = no_uses c
  listed_judged (AndEntry (One (Ref x)) es) h = variable_use x h.0.0 (judged_of_entries c es) h.0.1 (listed_judged es h.1)
  listed_judged (AndEntry e es) h = absurd h
