-- The lists inside trees, as the lists that their code goes over.
use Rattle.std.proofs.Common.{◌≡◌, ℕ, Vec, Global, Bool, Option, refl, ap, ◌∙◌}
use mathlib.Core.Former.{Count}
use Rattle.ground.specs.declared.place.Place.{Place}
use Rattle.f66_tree.specs.declared.expression.Expr.{Expr}
use Rattle.f66_tree.specs.Views.{formula_of, formulas_of}
use Rattle.rat_tree.specs.declared.program.RatKind.{RatKind}
use Rattle.rat_tree.specs.declared.program.RatStmt.{RatStmt}
use Rattle.rat_tree.specs.declared.program.RatCase.{RatCase, RatCase'}
use Rattle.rat_tree.specs.declared.program.RatCase as cases
use Rattle.rat_tree.specs.declared.program.RatKind.TheVariants.{Block, Block', Switch, Switch'}
use Rattle.rat_tree.specs.declared.program.RatKind.TheBlock.{Row_of-RatStmt, end_of-RatStmt, more_of-RatStmt, items-the_row-RatStmt, items_hidden-the_row-RatStmt-0, Row_of-RatCase, end_of-RatCase, more_of-RatCase, items-the_row-RatCase, items_hidden-the_row-RatCase-1}
use Rattle.rat_tree.specs.Syntax.{AndCommand, Clauses, AndClause}
use Rattle.rat_tree.specs.Views.{labelled, command_of, row_commands, commands, row_clauses, clause_then, clauses}
use Rattle.rat_tree.specs.Syntax as ratfor_tree

row_commands_are : (n : _) (row : Row_of-RatStmt n) → row_commands row ≡ commands (items-the_row-RatStmt n row)
row_commands_are n end_of-RatStmt = refl
row_commands_are n (more_of-RatStmt l p s rest) = ap (AndCommand (command_of l p s)) (row_commands_are _ rest)

row_clauses_are : (n : _) (row : Row_of-RatCase n) → row_clauses row ≡ clauses (items-the_row-RatCase n row)
row_clauses_are n end_of-RatCase = refl
row_clauses_are n (more_of-RatCase c rest) = ap (clause_then c) (row_clauses_are _ rest)

abbrev row_of : RatKind → (n : Count) × Row_of-RatStmt n
row_of (Block' shape row) = (_, row)
row_of _ = (_, end_of-RatStmt)

abbrev case_row_of : RatKind → (n : Count) × Row_of-RatCase n
case_row_of (Switch' e shape row) = (_, row)
case_row_of _ = (_, end_of-RatCase)

pub block_commands : (l : Option ℕ) (p : Place) (list : Vec RatStmt Global) → command_of l p (Block list) ≡ labelled l p (ratfor_tree.Block p (commands list.items))
block_commands l p list =
    let row = row_of (Block list) in
    ap (λ ss. labelled l p (ratfor_tree.Block p ss)) (row_commands_are row.0 row.1 ∙ ap commands (items_hidden-the_row-RatStmt-0 list))

pub switch_clauses : (l : Option ℕ) (p : Place) (e : Expr) (list : Vec RatCase Global) → command_of l p (Switch e list) ≡ labelled l p (ratfor_tree.Switch p (formula_of e) (clauses list.items))
switch_clauses l p e list =
    let row = case_row_of (Switch e list) in
    ap (λ cs. labelled l p (ratfor_tree.Switch p (formula_of e) cs)) (row_clauses_are row.0 row.1 ∙ ap clauses (items_hidden-the_row-RatCase-1 list))

abbrev body_row_of : RatCase → (n : Count) × Row_of-RatStmt n
body_row_of (RatCase' tests fallback shape row p) = (_, row)

pub case_clause : (tests : Vec Expr Global) (fallback : Bool) (body : Vec RatStmt Global) (p : Place) (rest : Clauses) →
    clause_then (cases.roll-RatCase (record { tests = tests; fallback = fallback; body = body; place = p })) rest ≡ AndClause (formulas_of tests.items) fallback (commands body.items) p rest
unfolding Rattle.rat_tree.specs.declared.program.RatKind.TheBlock.hidden-the_row-RatStmt-0 cases.roll-RatCase denote.Hole.Carrier.roll
case_clause tests fallback body p rest =
    let row = body_row_of (cases.roll-RatCase (record { tests = tests; fallback = fallback; body = body; place = p })) in
    ap (λ ss. AndClause (formulas_of tests.items) fallback ss p rest) (row_commands_are row.0 row.1 ∙ ap commands (items_hidden-the_row-RatStmt-0 body))
