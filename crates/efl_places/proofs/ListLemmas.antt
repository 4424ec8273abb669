-- What lists of expressions break, one by one.
use Rattle.std.proofs.Common.{◌≡◌, ◌≢◌, ℕ, zero, suc, ◌+◌, Bool, true, false, not, ◌&&◌, List, [], ◌∷◌, ◌++◌, Option, None, length, drop, nat_eq, refl, sym, ap, ◌∙◌, arith}
use Rattle.std.specs.List.{slice_get}
use Rattle.std.proofs.Math.Seq.{drop-nil}
use Rattle.ground.specs.declared.value.Kind.{Kind}
use Rattle.efl_tree.specs.declared.expression.EflExpr as exprs
use Rattle.efl_tree.specs.declared.expression.EflExpr.TheBlock as e
use Rattle.efl_tree.specs.declared.expression.EflStep as steps
use Rattle.efl_tree.specs.Syntax.{EflExpr, EflExprs, NoExpr, AndExpr}
use Rattle.efl_tree.specs.Views.{exprs_of, steps_of}
use Rattle.efl_scope.specs.DataTypes.{DataType}
use Rattle.efl_types.specs.declared.rule.TypeRule.{TypeRule}
use Rattle.efl_types.specs.declared.rule.TypeRule.TheVariants.{TypeClash}
use Rattle.efl_types.specs.Signatures.{Names, many}
use Rattle.efl_types.specs.Expressions.{when, wants, all_want, has_subscripts, take_actuals, faults, faults_of_all}
use Rattle.efl_types.specs.Statements.{value_faults}
use Rattle.efl_types.specs.Types.{ends}
use Rattle.efl_expressions.specs.declared.types.DataType as types
use Rattle.efl_expressions.specs.declared.types.Structure.{Structure}
use Rattle.efl_expressions.specs.FirstRule.{or_lower, first_rule}
use Rattle.efl_expressions.proofs.RuleLemmas.{first_of_both}
use Rattle.efl_scoped.specs.Numbers.{Table}
use Rattle.efl_names.specs.NameViews.{IsTypeIfAny, AreTypes}
use Rattle.efl_places.specs.Checks.{takes_if}
use Rattle.efl_places.proofs.RuleLemmas.{first_of_pairs, clash_of_both}

-- ---- counts ----

pub many_are : (all : List exprs.EflExpr) → many (exprs_of all) ≡ length all
many_are [] = refl
many_are (a ∷ all) = let e : many (exprs_of all) ≡ length all = many_are all in omega (arith, e)

never_none : (m : ℕ) → nat_eq (suc m) 0 ≡ false
never_none m = grind arith

pub some_are : (all : List exprs.EflExpr) (empty : Bool) → empty ≡ nat_eq (length all) 0 → has_subscripts (exprs_of all) ≡ not empty
some_are [] empty is = sym (ap not is)
some_are (a ∷ all) empty is = sym (ap not (is ∙ never_none (length all)))

-- ---- integers ----

abbrev pub integers_rule : Names → Kind → EflExprs → Option TypeRule
integers_rule n k es = first_rule (all_want n k es ++ faults_of_all n es)

pub integers_next : (n : Names) (k : Kind) (e : EflExpr) (es : EflExprs) →
    integers_rule n k (AndExpr e es) ≡ or_lower (first_rule (value_faults n k e)) (integers_rule n k es)
integers_next n k e es = first_of_pairs (wants n k e) (all_want n k es) (faults n e) (faults_of_all n es)

-- ---- actuals ----

abbrev pub actuals_rule : Names → List DataType → EflExprs → Option TypeRule
actuals_rule n ts es = first_rule (when (not (take_actuals n ts es)) TypeClash ++ faults_of_all n es)

abbrev pub actual_rule : Names → Option DataType → EflExpr → Option TypeRule
actual_rule n o e = first_rule (when (not (takes_if n o e)) TypeClash ++ faults n e)

pub take_none : (n : Names) (es : EflExprs) → take_actuals n [] es ≡ true
take_none n NoExpr = refl
take_none n (AndExpr e es) = refl

-- an actual of its formal, where there is one, and the rest
take_next : (n : Names) (ts : List DataType) (i : ℕ) (e : EflExpr) (es : EflExprs) →
    take_actuals n (drop i ts) (AndExpr e es) ≡ (takes_if n (slice_get ts i) e && take_actuals n (drop (suc i) ts) es)
take_next n [] i e es = ap (λ (ts : List DataType). take_actuals n ts (AndExpr e es)) (drop-nil i) ∙ sym (ap (λ (ts : List DataType). take_actuals n ts es) (drop-nil (suc i)) ∙ take_none n es)
take_next n (t ∷ ts) zero e es = refl
take_next n (t ∷ ts) (suc i) e es = take_next n ts i e es

pub actuals_next : (n : Names) (ts : List DataType) (i : ℕ) (e : EflExpr) (es : EflExprs) →
    actuals_rule n (drop i ts) (AndExpr e es) ≡ or_lower (actual_rule n (slice_get ts i) e) (actuals_rule n (drop (i + 1) ts) es)
actuals_next n ts i e es =
    let next : suc i ≡ i + 1 = omega arith in
    let one = takes_if n (slice_get ts i) e in
    let more = take_actuals n (drop (i + 1) ts) es in
    let clash : first_rule (when (not (take_actuals n (drop i ts) (AndExpr e es))) TypeClash) ≡ first_rule (when (not one) TypeClash ++ when (not more) TypeClash) =
    ap (λ b. first_rule (when (not b) TypeClash)) (take_next n ts i e es ∙ ap (λ m. one && take_actuals n (drop m ts) es) next)
    ∙ clash_of_both one more ∙ sym (first_of_both (when (not one) TypeClash) (when (not more) TypeClash)) in
    let all = faults n e ++ faults_of_all n es in
    first_of_both (when (not (take_actuals n (drop i ts) (AndExpr e es))) TypeClash) all ∙ ap (λ x. or_lower x (first_rule all)) clash
    ∙ sym (first_of_both (when (not one) TypeClash ++ when (not more) TypeClash) all)
    ∙ first_of_pairs (when (not one) TypeClash) (when (not more) TypeClash) (faults n e) (faults_of_all n es)

pub type_at : (f : Table) (ss : List Structure) (ts : List DataType) (ds : List types.DataType) (i : ℕ) → AreTypes f ss ts ds → IsTypeIfAny f ss (slice_get ts i) (slice_get ds i)
type_at f ss [] [] i are = tt
type_at f ss [] (d ∷ ds) i are = absurd are
type_at f ss (t ∷ ts) [] i are = absurd are
type_at f ss (t ∷ ts) (d ∷ ds) zero are = are.0
type_at f ss (t ∷ ts) (d ∷ ds) (suc i) are = type_at f ss ts ds i are.1

pub many_types : (f : Table) (ss : List Structure) (ts : List DataType) (ds : List types.DataType) → AreTypes f ss ts ds → length ts ≡ length ds
many_types f ss [] [] are = refl
many_types f ss [] (d ∷ ds) are = absurd are
many_types f ss (t ∷ ts) [] are = absurd are
many_types f ss (t ∷ ts) (d ∷ ds) are = ap suc (many_types f ss ts ds are.1)

pub some_many : (es : EflExprs) (count : ℕ) → count ≡ many es → not (nat_eq count 0) ≡ has_subscripts es
some_many NoExpr count is = ap (λ m. not (nat_eq m 0)) is
some_many (AndExpr e es) count is = ap (λ m. not (nat_eq m 0)) is ∙ some (many es)
  where
    some : (m : ℕ) → not (nat_eq (m + 1) 0) ≡ true
    some m = let none : nat_eq (m + 1) 0 ≡ false = grind arith in ap not none

pub none_many : (es : EflExprs) (count : ℕ) → count ≡ many es → count ≡ 0 → has_subscripts es ≡ false
none_many NoExpr count is none = refl
none_many (AndExpr e es) count is none = absurd (let a : count ≡ many es + 1 = is in omega arith)

pub any_many : (es : EflExprs) (count : ℕ) → count ≡ many es → count ≢ 0 → has_subscripts es ≡ true
any_many NoExpr count is some = absurd (some is)
any_many (AndExpr e es) count is some = refl

pub any_listed : (all : List exprs.EflExpr) (empty : Bool) → empty ≡ nat_eq (length all) 0 → empty ≡ false → exprs_of all ≢ NoExpr
any_listed [] empty is some none = absurd (let d : true ≡ false = sym is ∙ some in cc)
any_listed (a ∷ all) empty is some none = absurd cc

pub none_listed : (all : List exprs.EflExpr) (empty : Bool) → empty ≡ nat_eq (length all) 0 → empty ≡ true → exprs_of all ≡ NoExpr
none_listed [] empty is none = refl
none_listed (a ∷ all) empty is none = absurd (let d : true ≡ false = sym none ∙ is ∙ never_none (length all) in cc)

pub none_behind : (all : List steps.EflStep) (empty : Bool) → empty ≡ nat_eq (length all) 0 → ends (steps_of all) ≡ empty
none_behind [] empty is = sym is
none_behind (e.Member' x n row ∷ all) empty is = sym (is ∙ never_none (length all))
none_behind (e.Overlay x ∷ all) empty is = sym (is ∙ never_none (length all))

pub none_taken : (n : Names) (ts : List DataType) → actuals_rule n ts NoExpr ≡ None
none_taken n [] = refl
none_taken n (t ∷ ts) = refl
