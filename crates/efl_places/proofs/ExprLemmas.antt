-- Expressions and steps in memory that hold others.
use Rattle.std.proofs.Common.{◌≡◌, ℤ, Bool, List, Option, Vec, Box, Global, sym, ap, ◌∙◌}
use Rattle.efl_tree.specs.declared.expression.EflExpr.{EflExpr}
use Rattle.efl_tree.specs.declared.expression.EflExpr.TheVariants as v
use Rattle.efl_tree.specs.declared.expression.EflOperator.{EflOperator}
use Rattle.efl_tree.specs.declared.expression.EflPlace.{EflPlace}
use Rattle.efl_tree.specs.declared.expression.EflStep.{EflStep}
use Rattle.efl_tree.specs.declared.expression.EflStep.TheVariants as steps
use Rattle.efl_tree.specs.Syntax.{Text, EflSteps}
use Rattle.efl_tree.specs.Syntax as efl
use Rattle.efl_tree.specs.Views.{expr_of, exprs_of, step_then, place_of}
use Rattle.efl_tree.proofs.Rows.{at_expr, up_expr, down_expr, call_expr, assign_expr, member_step}

pub int_is : (a : EflExpr) (z : ℤ) → a ≡ v.Int z → efl.Int z ≡ expr_of a
int_is a z is = sym (ap expr_of is)

pub truth_is : (a : EflExpr) (b : Bool) → a ≡ v.Truth b → efl.Truth b ≡ expr_of a
truth_is a b is = sym (ap expr_of is)

pub at_is : (a : EflExpr) (p : EflPlace) → a ≡ v.At p → efl.At (place_of p) ≡ expr_of a
at_is a p is = sym (ap expr_of is ∙ at_expr p)

pub up_is : (a : EflExpr) (p : EflPlace) → a ≡ v.Up p → efl.Up (place_of p) ≡ expr_of a
up_is a p is = sym (ap expr_of is ∙ up_expr p)

pub down_is : (a : EflExpr) (p : EflPlace) → a ≡ v.Down p → efl.Down (place_of p) ≡ expr_of a
down_is a p is = sym (ap expr_of is ∙ down_expr p)

pub call_is : (a : EflExpr) (x : Text) (list : Vec EflExpr Global) (seen : List EflExpr) → a ≡ v.Call x list → seen ≡ list.items → efl.Call x (exprs_of seen) ≡ expr_of a
call_is a x list seen is at = ap (λ xs. efl.Call x (exprs_of xs)) at ∙ sym (ap expr_of is ∙ call_expr x list)

pub group_is : (a : EflExpr) (b : Box EflExpr Global) (seen : EflExpr) → a ≡ v.Group b → seen ≡ b.value → efl.Group (expr_of seen) ≡ expr_of a
group_is a b seen is at = ap (λ x. efl.Group (expr_of x)) at ∙ sym (ap expr_of is)

pub plus_is : (a : EflExpr) (b : Box EflExpr Global) (seen : EflExpr) → a ≡ v.Plus b → seen ≡ b.value → efl.Plus (expr_of seen) ≡ expr_of a
plus_is a b seen is at = ap (λ x. efl.Plus (expr_of x)) at ∙ sym (ap expr_of is)

pub minus_is : (a : EflExpr) (b : Box EflExpr Global) (seen : EflExpr) → a ≡ v.Minus b → seen ≡ b.value → efl.Minus (expr_of seen) ≡ expr_of a
minus_is a b seen is at = ap (λ x. efl.Minus (expr_of x)) at ∙ sym (ap expr_of is)

pub not_is : (a : EflExpr) (b : Box EflExpr Global) (seen : EflExpr) → a ≡ v.Not b → seen ≡ b.value → efl.Not (expr_of seen) ≡ expr_of a
not_is a b seen is at = ap (λ x. efl.Not (expr_of x)) at ∙ sym (ap expr_of is)

pub pair_is : (a : EflExpr) (o : EflOperator) (b c : Box EflExpr Global) (left right : EflExpr) → a ≡ v.Pair o b c → left ≡ b.value → right ≡ c.value →
    efl.Pair o (expr_of left) (expr_of right) ≡ expr_of a
pair_is a o b c left right is one two =
    ap (λ x. efl.Pair o (expr_of x) (expr_of right)) one ∙ ap (λ x. efl.Pair o (expr_of b.value) (expr_of x)) two ∙ sym (ap expr_of is)

pub assign_is : (a : EflExpr) (o : Option EflOperator) (p : EflPlace) (b : Box EflExpr Global) (seen : EflExpr) → a ≡ v.Assign o p b → seen ≡ b.value →
    efl.Assign o (place_of p) (expr_of seen) ≡ expr_of a
assign_is a o p b seen is at = ap (λ x. efl.Assign o (place_of p) (expr_of x)) at ∙ sym (ap expr_of is ∙ assign_expr o p b)

pub member_is : (s : EflStep) (x : Text) (list : Vec EflExpr Global) (seen : List EflExpr) (rest : EflSteps) → s ≡ steps.Member x list → seen ≡ list.items →
    efl.Member x (exprs_of seen) rest ≡ step_then s rest
member_is s x list seen rest is at = ap (λ xs. efl.Member x (exprs_of xs) rest) at ∙ sym (ap (λ y. step_then y rest) is ∙ member_step x list rest)

pub overlay_is : (s : EflStep) (x : Text) (rest : EflSteps) → s ≡ steps.Overlay x → efl.Overlay x rest ≡ step_then s rest
overlay_is s x rest is = sym (ap (λ y. step_then y rest) is)
