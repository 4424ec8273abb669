-- The names of uses one behind the other.
use Rattle.std.proofs.Common.{◌≡◌, ◌==◌, Bool, true, false, List, [], ◌∷◌, ◌++◌, length, refl, sym, ap, ◌∙◌, append_assoc, arith}
use Rattle.std.proofs.lemmas.Grind.{common_steps}
use Rattle.std.proofs.lemmas.List.{append-nil}
use Rattle.efl_tree.specs.declared.expression.EflExpr.{EflExpr}
use Rattle.efl_tree.specs.declared.expression.EflStep.{EflStep}
use Rattle.efl_tree.specs.declared.expression.EflExpr.TheBlock as e
use Rattle.efl_tree.specs.Syntax.{Text, EflSteps, NoStep}
use Rattle.efl_tree.specs.Views.{row_exprs, exprs_of, step_then}
use Rattle.efl_scope.specs.Uses.{Use, Named, Applied, Laid, named, uses_of_all, uses_behind}
use Rattle.efl_storage.specs.Named.{named_in}

pub named_in-append : (us vs : List Use) → named_in (us ++ vs) ≡ named_in us ++ named_in vs
named_in-append [] vs = refl
named_in-append (Named x ∷ us) vs = ap (λ ys. x ∷ ys) (named_in-append us vs)
named_in-append (Applied x ∷ us) vs = named_in-append us vs
named_in-append (Laid x ∷ us) vs = named_in-append us vs

-- a step, and those behind it
pub step_behind : (s : EflStep) (rest : EflSteps) → named_in (uses_behind (step_then s rest)) ≡ named_in (uses_behind (step_then s NoStep)) ++ named_in (uses_behind rest)
step_behind (e.Member' x n all) rest =
    named_in-append (uses_of_all (row_exprs all)) (uses_behind rest) ∙ ap (λ us. named_in us ++ named_in (uses_behind rest)) (sym (append-nil (uses_of_all (row_exprs all))))
step_behind (e.Overlay x) rest = refl

-- a name without subscripts stands by itself, and one with them doesn't
pub alone_named : (x : Text) (all : List EflExpr) (b : Bool) → b ≡ (length all == 0) → b ≡ true → named_in (named x (exprs_of all) ∷ []) ≡ x ∷ []
alone_named x [] b is on = refl
alone_named x (a ∷ all) b is on = absurd (grind (arith, is, on))

pub not_alone : (x : Text) (all : List EflExpr) (b : Bool) → b ≡ (length all == 0) → b ≡ false → named_in (named x (exprs_of all) ∷ []) ≡ []
not_alone x [] b is off = absurd (let d : true ≡ false = sym is ∙ off in cc)
not_alone x (a ∷ all) b is off = refl

pub ruleset named_steps = (common_steps, named_in-append, step_behind, append_assoc)

-- the names of uses, and then those of others
pub named_joined : (old mid : List Text) (us vs : List Use) → mid ≡ old ++ named_in us → mid ++ named_in vs ≡ old ++ named_in (us ++ vs)
named_joined old mid us vs is = ap (λ ts. ts ++ named_in vs) is ∙ append_assoc old (named_in us) (named_in vs) ∙ ap (λ ts. old ++ ts) (sym (named_in-append us vs))
