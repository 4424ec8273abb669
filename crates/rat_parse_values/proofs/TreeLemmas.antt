-- A statement's label, and a clause before whatever follows it.
use Rattle.std.proofs.Common.{◌≡◌, ℕ, Vec, Global, Bool, Some, None, refl, ap, ◌∙◌}
use mathlib.Core.Former.{Count}
use Rattle.ground.specs.declared.place.Place.{Place}
use Rattle.rat_tree.specs.declared.program.RatKind.{RatKind}
use Rattle.rat_tree.specs.declared.program.RatKind.TheBlock as k
use Rattle.rat_tree.specs.declared.program.RatStmt.{RatStmt}
use Rattle.rat_tree.specs.declared.program.RatCase.{RatCase, RatCase'}
use Rattle.rat_tree.specs.declared.program.RatCase as cases
use Rattle.rat_tree.specs.Syntax.{Command, AndCommand, AndClause}
use Rattle.rat_tree.specs.Views.{command_of, row_commands, commands, clause_then}
use Rattle.f66_tree.specs.declared.expression.Expr.{Expr}
use Rattle.f66_tree.specs.Syntax.{Formula}
use Rattle.f66_tree.specs.Views.{formulas_of}
use Rattle.rat_parse_values.specs.Values.{Val}
use Rattle.rat_parse_values.specs.Values as val
use Rattle.rat_parse_values.specs.Kinds as part
use Rattle.rat_parse_values.specs.Statements.{conditional, with_own_label}
use Rattle.rat_parse_values.specs.Choices.{command_if_any, chosen}

pub marked_first : (n : ℕ) (p : Place) (s : RatKind) → command_of (Some n) p s ≡ with_own_label n p (command_of None p s)
marked_first n p (k.If' e q l p1 s k.None') = refl
marked_first n p (k.If' e q l p1 s (k.Some' q2 l2 p2 t)) = refl
marked_first n p (k.Repeat' q l p1 s None) = refl
marked_first n p (k.Repeat' q l p1 s (Some u)) = refl
marked_first n p _ = refl

-- an `if` by what its part behind `else` gives
pub choice_is : (p : Place) (f : Formula) (c : Command) (v : Val) → conditional p f c v ≡ chosen p f c (command_if_any v)
choice_is p f c (val.statement (part.command q d)) = refl
choice_is p f c _ = refl

row_commands_are : (n : _) (row : k.Row_of-RatStmt n) → row_commands row ≡ commands (k.items-the_row-RatStmt n row)
row_commands_are n k.end_of-RatStmt = refl
row_commands_are n (k.more_of-RatStmt l p s rest) = ap (AndCommand (command_of l p s)) (row_commands_are _ rest)

abbrev body_row_of : RatCase → (n : Count) × k.Row_of-RatStmt n
body_row_of (RatCase' tests fallback shape row p) = (_, row)

-- a clause, before whatever follows it
pub whole_clause : (tests : Vec Expr Global) (fallback : Bool) (body : Vec RatStmt Global) (p : Place) →
    clause_then (cases.roll-RatCase (record { tests = tests; fallback = fallback; body = body; place = p })) ≡ (λ rest. AndClause (formulas_of tests.items) fallback (commands body.items) p rest)
unfolding Rattle.rat_tree.specs.declared.program.RatKind.TheBlock.hidden-the_row-RatStmt-0 cases.roll-RatCase denote.Hole.Carrier.roll
whole_clause tests fallback body p =
    let row = body_row_of (cases.roll-RatCase (record { tests = tests; fallback = fallback; body = body; place = p })) in
    ap (λ ss rest. AndClause (formulas_of tests.items) fallback ss p rest) (row_commands_are row.0 row.1 ∙ ap commands (k.items_hidden-the_row-RatStmt-0 body))
