-- What follows where an expression has a type: the parts of its rule, and that subscripts are integers.
use Rattle.std.proofs.Common.{◌≡◌, Bool, true, false, List, Option, Some, None, refl, sym, ap, ◌∙◌, ⊎_elim}
use Rattle.std.specs.Prelude.{not, ◌&&◌, ◌||◌, ◌++◌}
use Rattle.std.specs.List.{list_any}
use Rattle.std.proofs.lemmas.Bool.{and_parts, and_from, or_parts, or_cases}
use Rattle.std.proofs.lemmas.List.Folds.{list_any-append}
use Rattle.ground.specs.declared.value.Kind.{Kind}
use Rattle.ground.specs.declared.value.Kind.TheVariants.{Integer, Logical}
use Rattle.f66_tree.specs.declared.expression.Operator.{Operator}
use Rattle.f66_tree.specs.declared.expression.Operator.TheVariants.{Add, Sub, Mul, Div, Power}
use Rattle.f66_tree.specs.Syntax.{Text, Formula, Int, Ref, Pair, Formulas, NoFormula, AndFormula}
use Rattle.f66_tree.specs.Units.{Context, kind_of}
use Rattle.f66_tree.specs.Built.{is_arithmetic}
use Rattle.f66_names.specs.Sorts.{is_array_name, is_foreign, is_counter, is_integer}
use Rattle.f66_names.specs.Kinds.{is_number, is_index, is_times, is_plus_or_minus, is_multiple, is_shifted, is_subscript, are_subscripts, same_kind, operand, outcome, fits, are_integers}

pub no_some : {A : Type 0} {a : A} (P : Type 0) → None ≡ Some a → P
no_some P e = let q : ⊥ = cc in absurd q

pub some_same : {A : Type 0} {a b : A} → Some a ≡ Some b → a ≡ b
some_same e = cc

pub same_is : (j k : Kind) → same_kind j k ≡ true → j ≡ k
same_is Integer Integer e = refl
same_is Logical Logical e = refl
same_is Integer Logical e = cc
same_is Logical Integer e = cc

pub integer_only : (k : Kind) → is_integer k ≡ true → k ≡ Integer
integer_only Integer e = refl
integer_only Logical e = cc

-- no part of a list passes a test where the whole has none
pub none_of_both : {X : Type 0} (test : X → Bool) (xs ys : List X) → list_any test (xs ++ ys) ≡ false → (list_any test xs ≡ false) × (list_any test ys ≡ false)
none_of_both test xs ys e = or_parts _ _ (sym (list_any-append test xs ys) ∙ e)

module _ (c : Context) where
  pub counter_kind : (x : Text) → is_counter c x ≡ true → fits c (Ref x) Integer ≡ true
  counter_kind x e = by_parts (is_array_name c x) (kind_of c x) e
    where
      by_parts : (b : Bool) (k : Kind) → (not b && is_integer k) ≡ true → (not b && (same_kind k Integer || is_foreign c x)) ≡ true
      by_parts true k h = cc
      by_parts false Integer h = refl
      by_parts false Logical h = cc

  number_kind : (e : Formula) → is_number e ≡ true → fits c e Integer ≡ true
  number_kind (Int z) h = refl
  number_kind _ h = cc

  index_kind : (e : Formula) → is_index c e ≡ true → fits c e Integer ≡ true
  index_kind (Ref x) h = counter_kind x h
  index_kind _ h = cc

  pub joined_kind : (op : Operator) (a b : Formula) → is_arithmetic op ≡ true → fits c a Integer ≡ true → fits c b Integer ≡ true → fits c (Pair op a b) Integer ≡ true
  joined_kind op a b e p q =
      let by = by_operator op e in
      ap (λ k. same_kind (outcome op) Integer && (fits c a k && fits c b k)) by.1 ∙ and_from (same_kind (outcome op) Integer) _ by.0 (and_from (fits c a Integer) _ p q)
    where
      by_operator : (o : Operator) → is_arithmetic o ≡ true → (same_kind (outcome o) Integer ≡ true) × (operand o ≡ Integer)
      by_operator Add h = (refl, refl)
      by_operator Sub h = (refl, refl)
      by_operator Mul h = (refl, refl)
      by_operator Div h = (refl, refl)
      by_operator Power h = (refl, refl)
      by_operator _ h = cc

  times_arithmetic : (op : Operator) → is_times op ≡ true → is_arithmetic op ≡ true
  times_arithmetic Mul h = refl
  times_arithmetic _ h = cc

  plus_arithmetic : (op : Operator) → is_plus_or_minus op ≡ true → is_arithmetic op ≡ true
  plus_arithmetic Add h = refl
  plus_arithmetic Sub h = refl
  plus_arithmetic _ h = cc

  multiple_kind : (e : Formula) → is_multiple c e ≡ true → fits c e Integer ≡ true
  multiple_kind (Ref x) h = counter_kind x h
  multiple_kind (Pair op a b) h =
      let p = and_parts (is_times op) _ h in
      let q = and_parts (is_number a) _ p.1 in
      joined_kind op a b (times_arithmetic op p.0) (number_kind a q.0) (index_kind b q.1)
  multiple_kind _ h = cc

  shifted_kind : (e : Formula) → is_shifted c e ≡ true → fits c e Integer ≡ true
  shifted_kind (Pair op a b) h =
      let p = and_parts (is_plus_or_minus op) _ h in
      let q = and_parts (is_multiple c a) _ p.1 in
      joined_kind op a b (plus_arithmetic op p.0) (multiple_kind a q.0) (number_kind b q.1)
  shifted_kind _ h = cc

  subscript_kind : (e : Formula) → is_subscript c e ≡ true → fits c e Integer ≡ true
  subscript_kind e h = ⊎_elim (number_kind e) (λ k. ⊎_elim (multiple_kind e) (shifted_kind e) (or_cases (is_multiple c e) (is_shifted c e) k)) (or_cases (is_number e) _ h)

  -- subscripts are integers
  pub subscripts_whole : (es : Formulas) → are_subscripts c es ≡ true → are_integers c es ≡ true
  subscripts_whole NoFormula h = refl
  subscripts_whole (AndFormula e es) h =
      let p = and_parts (is_subscript c e) _ h in
      and_from (fits c e Integer) _ (subscript_kind e p.0) (subscripts_whole es p.1)
