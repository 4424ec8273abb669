-- What the uses of a tree in memory are made of.
use Rattle.std.proofs.Common.{◌≡◌, Bool, true, false, ◌||◌, List, [], ◌∷◌, ◌++◌, Option, Vec, Box, Global, refl, sym, ap, ◌∙◌}
use Rattle.std.proofs.lemmas.Grind.{common_steps}
use Rattle.std.proofs.lemmas.List.{append-nil}
use Rattle.std.proofs.lemmas.List.Folds.{list_any-append}
use Rattle.std.specs.List.{list_any}
use Rattle.efl_tree.specs.declared.expression.EflExpr.{EflExpr}
use Rattle.efl_tree.specs.declared.expression.EflExpr.TheVariants as v
use Rattle.efl_tree.specs.declared.expression.EflOperator.{EflOperator}
use Rattle.efl_tree.specs.declared.expression.EflPlace.{EflPlace}
use Rattle.efl_tree.specs.declared.expression.EflStep.{EflStep}
use Rattle.efl_tree.specs.declared.expression.EflStep.TheVariants as steps
use Rattle.efl_tree.specs.declared.expression.EflExpr.TheBlock as e
use Rattle.efl_tree.specs.Syntax.{Text, EflExprs, NoExpr, AndExpr, EflSteps, NoStep}
use Rattle.efl_tree.specs.Views.{expr_of, exprs_of, step_then, place_of}
use Rattle.efl_tree.proofs.Rows.{at_expr, up_expr, down_expr, call_expr, assign_expr, member_step}
use Rattle.efl_scope.specs.declared.uses.Flaw.{Flaw}
use Rattle.efl_scope.specs.declared.uses.Flaw.TheVariants.{LaidOver, Misused}
use Rattle.efl_scope.specs.Uses.{Use, Named, Applied, Laid, named, uses_of, uses_of_all, uses_at, uses_behind}
use Rattle.efl_scope.specs.ScopeRules.{Names}
use Rattle.efl_scope.specs.UseViews.{is_flawed}

-- with arguments or without, a name is misused alike
pub named_alike : (flaw : Flaw) (known : Names) (x : Text) (es : EflExprs) → is_flawed flaw known (named x es) ≡ is_flawed flaw known (Named x)
named_alike LaidOver known x NoExpr = refl
named_alike LaidOver known x (AndExpr a es) = refl
named_alike Misused known x NoExpr = refl
named_alike Misused known x (AndExpr a es) = refl

pub applied_alike : (flaw : Flaw) (known : Names) (x : Text) → is_flawed flaw known (Applied x) ≡ is_flawed flaw known (Named x)
applied_alike LaidOver known x = refl
applied_alike Misused known x = refl

pub nothing_more : (test : Use → Bool) (us : List Use) → list_any test (us ++ []) ≡ list_any test us
nothing_more test us = ap (list_any test) (append-nil us)

-- a step, and those behind it
pub step_behind : (test : Use → Bool) (s : EflStep) (rest : EflSteps) → list_any test (uses_behind (step_then s rest)) ≡ (list_any test (uses_behind (step_then s NoStep)) || list_any test (uses_behind rest))
step_behind test (e.Member' x n all) rest =
    list_any-append test _ (uses_behind rest) ∙ ap (λ b. b || list_any test (uses_behind rest)) (sym (nothing_more test _))
step_behind test (e.Overlay x) rest = by (test (Laid x))
  where
    by : (b : Bool) → (b || list_any test (uses_behind rest)) ≡ ((b || list_any test []) || list_any test (uses_behind rest))
    by b = elim b as (λ v. (v || list_any test (uses_behind rest)) ≡ ((v || list_any test []) || list_any test (uses_behind rest))) [ true ↦ refl | false ↦ refl ]

pub ruleset use_steps = (common_steps, list_any-append, named_alike, applied_alike, step_behind)

-- ---- expressions in memory ----

pub at_uses : (a : EflExpr) (p : EflPlace) → a ≡ v.At p → uses_at (place_of p) ≡ uses_of (expr_of a)
at_uses a p is = sym (ap (λ x. uses_of (expr_of x)) is ∙ ap uses_of (at_expr p))

pub up_uses : (a : EflExpr) (p : EflPlace) → a ≡ v.Up p → uses_at (place_of p) ≡ uses_of (expr_of a)
up_uses a p is = sym (ap (λ x. uses_of (expr_of x)) is ∙ ap uses_of (up_expr p))

pub down_uses : (a : EflExpr) (p : EflPlace) → a ≡ v.Down p → uses_at (place_of p) ≡ uses_of (expr_of a)
down_uses a p is = sym (ap (λ x. uses_of (expr_of x)) is ∙ ap uses_of (down_expr p))

pub call_uses : (a : EflExpr) (x : Text) (list : Vec EflExpr Global) (seen : List EflExpr) → a ≡ v.Call x list → seen ≡ list.items →
    Applied x ∷ uses_of_all (exprs_of seen) ≡ uses_of (expr_of a)
call_uses a x list seen is at = ap (λ xs. Applied x ∷ uses_of_all (exprs_of xs)) at ∙ sym (ap (λ y. uses_of (expr_of y)) is ∙ ap uses_of (call_expr x list))

pub assign_uses : (a : EflExpr) (o : Option EflOperator) (p : EflPlace) (b : Box EflExpr Global) (seen : EflExpr) → a ≡ v.Assign o p b → seen ≡ b.value →
    uses_at (place_of p) ++ uses_of (expr_of seen) ≡ uses_of (expr_of a)
assign_uses a o p b seen is at = ap (λ x. uses_at (place_of p) ++ uses_of (expr_of x)) at ∙ sym (ap (λ x. uses_of (expr_of x)) is ∙ ap uses_of (assign_expr o p b))

pub member_uses : (s : EflStep) (x : Text) (list : Vec EflExpr Global) (seen : List EflExpr) → s ≡ steps.Member x list → seen ≡ list.items →
    uses_of_all (exprs_of seen) ++ [] ≡ uses_behind (step_then s NoStep)
member_uses s x list seen is at = ap (λ xs. uses_of_all (exprs_of xs) ++ []) at ∙ sym (ap (λ y. uses_behind (step_then y NoStep)) is ∙ ap uses_behind (member_step x list NoStep))
