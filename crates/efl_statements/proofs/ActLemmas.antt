-- What is no call breaks as an act what it breaks as a value.
use Rattle.std.proofs.Common.{◌≡◌, ◌⊎◌, inl, inr, ℤ, Bool, Option, Box, Global, refl, subst}
use Rattle.efl_tree.specs.declared.expression.EflExpr.{EflExpr}
use Rattle.efl_tree.specs.declared.expression.EflExpr.TheVariants as v
use Rattle.efl_tree.specs.declared.expression.EflOperator.{EflOperator}
use Rattle.efl_tree.specs.declared.expression.EflPlace.{EflPlace}
use Rattle.efl_tree.specs.Syntax as efl
use Rattle.efl_tree.specs.Views.{expr_of, place_of}
use Rattle.efl_types.specs.Signatures.{Names}
use Rattle.efl_types.specs.Expressions.{faults}
use Rattle.efl_types.specs.Statements.{act_faults}
use Rattle.efl_places.proofs.ExprLemmas.{int_is, truth_is, at_is, up_is, down_is, group_is, plus_is, minus_is, not_is, pair_is, assign_is}

-- all expressions but calls with empty parentheses and acts
abbrev pub IsNoCall : EflExpr → Type 0
IsNoCall a =
    ((z : ℤ) × (a ≡ v.Int z)) ⊎ (((b : Bool) × (a ≡ v.Truth b)) ⊎ (((p : EflPlace) × (a ≡ v.At p)) ⊎ (((b : Box EflExpr Global) × (a ≡ v.Group b))
    ⊎ (((b : Box EflExpr Global) × (a ≡ v.Plus b)) ⊎ (((b : Box EflExpr Global) × (a ≡ v.Minus b)) ⊎ (((b : Box EflExpr Global) × (a ≡ v.Not b))
    ⊎ (((p : EflPlace) × (a ≡ v.Up p)) ⊎ (((p : EflPlace) × (a ≡ v.Down p)) ⊎ (((o : EflOperator) × (b : Box EflExpr Global) × (d : Box EflExpr Global) × (a ≡ v.Pair o b d))
    ⊎ ((o : Option EflOperator) × (p : EflPlace) × (b : Box EflExpr Global) × (a ≡ v.Assign o p b)))))))))))

same_as : (n : Names) (x y : efl.EflExpr) → x ≡ y → act_faults n x ≡ faults n x → act_faults n y ≡ faults n y
same_as n x y is same = subst (λ e. act_faults n e ≡ faults n e) is same

pub no_call : (n : Names) (a : EflExpr) → IsNoCall a → act_faults n (expr_of a) ≡ faults n (expr_of a)
no_call n a (inl (z, is)) = same_as n (efl.Int z) (expr_of a) (int_is a z is) refl
no_call n a (inr (inl (b, is))) = same_as n (efl.Truth b) (expr_of a) (truth_is a b is) refl
no_call n a (inr (inr (inl (p, is)))) = same_as n (efl.At (place_of p)) (expr_of a) (at_is a p is) refl
no_call n a (inr (inr (inr (inl (b, is))))) = same_as n (efl.Group (expr_of b.value)) (expr_of a) (group_is a b b.value is refl) refl
no_call n a (inr (inr (inr (inr (inl (b, is)))))) = same_as n (efl.Plus (expr_of b.value)) (expr_of a) (plus_is a b b.value is refl) refl
no_call n a (inr (inr (inr (inr (inr (inl (b, is))))))) = same_as n (efl.Minus (expr_of b.value)) (expr_of a) (minus_is a b b.value is refl) refl
no_call n a (inr (inr (inr (inr (inr (inr (inl (b, is)))))))) = same_as n (efl.Not (expr_of b.value)) (expr_of a) (not_is a b b.value is refl) refl
no_call n a (inr (inr (inr (inr (inr (inr (inr (inl (p, is))))))))) = same_as n (efl.Up (place_of p)) (expr_of a) (up_is a p is) refl
no_call n a (inr (inr (inr (inr (inr (inr (inr (inr (inl (p, is)))))))))) = same_as n (efl.Down (place_of p)) (expr_of a) (down_is a p is) refl
no_call n a (inr (inr (inr (inr (inr (inr (inr (inr (inr (inl (o, b, d, is))))))))))) =
    same_as n (efl.Pair o (expr_of b.value) (expr_of d.value)) (expr_of a) (pair_is a o b d b.value d.value is refl refl) refl
no_call n a (inr (inr (inr (inr (inr (inr (inr (inr (inr (inr (o, p, b, is))))))))))) =
    same_as n (efl.Assign o (place_of p) (expr_of b.value)) (expr_of a) (assign_is a o p b b.value is refl) refl
