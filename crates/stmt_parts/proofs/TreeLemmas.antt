-- The list in a tree is the one that the code goes over.
use Rattle.std.proofs.Common.{◌≡◌, ◌<◌, ◌≤◌, Vec, Box, Global, List, [], ◌∷◌, None, length, refl, ◌∙◌, arith}
use Rattle.f66_tree.specs.declared.expression.Expr.{Expr}
use Rattle.f66_tree.specs.declared.expression.Expr.TheVariants.{Item}
use Rattle.f66_tree.specs.Syntax.{Text, Formula}
use Rattle.f66_tree.specs.Syntax as f66
use Rattle.f66_tree.specs.Views.{formula_of, formulas_of}
use Rattle.f66_tree.proofs.Rows.{item_seen}
use Rattle.stmt_reader.specs.Declarations.{group_in, places_in}

pub item_read : {A : Type 0} (f : Formula → A) (e : Expr) (item : Box (Text × Vec Expr Global) Global) (pair : Text × Vec Expr Global) (seen : List Expr) (r : A) → e ≡ Item item → pair ≡ item.value → seen ≡ pair.1.items → r ≡ f (f66.Item pair.0 (formulas_of seen)) → r ≡ f (formula_of e)
item_read f e item pair seen r is same at found = found ∙ item_seen f e item pair seen is same at

-- a group has two places or more
pub few_places : (x : Text) (es : List Expr) → length es < 2 → None ≡ group_in (f66.Item x (formulas_of es))
few_places x [] few = refl
few_places x (a ∷ []) few = refl
few_places x (a ∷ b ∷ es) few = absurd (omega (arith, few))

pub some_places : (x : Text) (es : List Expr) → 2 ≤ length es → places_in (formulas_of es) ≡ group_in (f66.Item x (formulas_of es))
some_places x [] some = absurd (omega (arith, some))
some_places x (a ∷ []) some = absurd (omega (arith, some))
some_places x (a ∷ b ∷ es) some = refl
