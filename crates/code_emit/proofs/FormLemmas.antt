-- Names with lists in memory.
use Rattle.std.proofs.Common.{◌≡◌, ◌++◌, ℕ, suc, List, [], ◌∷◌, length, Vec, Box, Global, Result, Ok, Err, IfOk, OnOk, refl, ap, ◌∙◌}
use Rattle.std.proofs.lemmas.Result.{on_ok_weaker}
use Rattle.f66_tree.specs.declared.expression.Expr.{Expr}
use Rattle.f66_tree.specs.declared.expression.Expr.TheVariants.{Item}
use Rattle.f66_tree.specs.Syntax as f66
use Rattle.f66_tree.specs.Syntax.{Text, Formula}
use Rattle.f66_tree.specs.Views.{formula_of, formulas_of}
use Rattle.f66_tree.proofs.Rows.{item_seen}
use Rattle.code_gen.specs.Expressions.{count}

-- the code of a name with a list, put behind other code
pub item_put : {A E X : Type 0} (f : Formula → List X) (result : Result A E) (old new : List X) (e : Expr) (item : Box (Text × Vec Expr Global) Global) (pair : Text × Vec Expr Global) (seen : List Expr) →
    e ≡ Item item → pair ≡ item.value → seen ≡ pair.1.items → OnOk result (new ≡ old ++ f (f66.Item pair.0 (formulas_of seen))) → OnOk result (new ≡ old ++ f (formula_of e))
item_put f result old new e item pair seen is same at put = on_ok_weaker result (λ k. k ∙ ap (λ ms. old ++ ms) (item_seen f e item pair seen is same at)) put

-- a number of a name with a list
pub item_number : {E : Type 0} (f : Formula → ℕ) (result : Result ℕ E) (e : Expr) (item : Box (Text × Vec Expr Global) Global) (pair : Text × Vec Expr Global) (seen : List Expr) →
    e ≡ Item item → pair ≡ item.value → seen ≡ pair.1.items → IfOk result (λ n. n ≡ f (f66.Item pair.0 (formulas_of seen))) → IfOk result (λ n. n ≡ f (formula_of e))
item_number f (Ok n) e item pair seen is same at k = k ∙ item_seen f e item pair seen is same at
item_number f (Err n) e item pair seen is same at k = k

pub count_length : (list : List Expr) → length list ≡ count (formulas_of list)
count_length [] = refl
count_length (e ∷ list) = ap suc (count_length list)
