-- The list in a tree is the one that the code goes over.
use Rattle.std.proofs.Common.{◌≡◌, Vec, Box, Global, List, Option, ◌∙◌}
use Rattle.f66_tree.specs.declared.expression.Expr.{Expr}
use Rattle.f66_tree.specs.declared.expression.Expr.TheVariants.{Item}
use Rattle.f66_tree.specs.Syntax.{Text, Formula, Header}
use Rattle.f66_tree.specs.Syntax as f66
use Rattle.f66_tree.specs.Views.{formula_of, formulas_of}
use Rattle.f66_tree.proofs.Rows.{item_seen}

pub item_header : (f : Formula → Option Header) (e : Expr) (item : Box (Text × Vec Expr Global) Global) (pair : Text × Vec Expr Global) (seen : List Expr) (r : Option Header) → e ≡ Item item → pair ≡ item.value → seen ≡ pair.1.items → r ≡ f (f66.Item pair.0 (formulas_of seen)) → r ≡ f (formula_of e)
item_header f e item pair seen r is same at found = found ∙ item_seen f e item pair seen is same at
