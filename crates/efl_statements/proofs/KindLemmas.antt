-- What statements in memory break by themselves.
use Rattle.std.proofs.Common.{◌≡◌, ◌⊎◌, inl, inr, ℕ, List, [], ◌++◌, Option, Some, None, Vec, Box, Global, refl, ap, ◌∙◌}
use Rattle.ground.specs.declared.place.Place.{Place}
use Rattle.ground.specs.declared.value.Kind.TheVariants.{Integer, Logical}
use Rattle.efl_tree.specs.declared.expression.EflExpr.{EflExpr}
use Rattle.efl_tree.specs.declared.declaration.EflDecl.{EflDecl}
use Rattle.efl_tree.specs.declared.statement.LoopKind.{LoopKind}
use Rattle.efl_tree.specs.declared.statement.EflKind.{EflKind}
use Rattle.efl_tree.specs.declared.statement.EflKind.TheVariants as k
use Rattle.efl_tree.specs.declared.statement.EflStmt.{EflStmt}
use Rattle.efl_tree.specs.declared.statement.EflCase.{EflCase}
use Rattle.efl_tree.specs.Syntax.{Text}
use Rattle.efl_tree.specs.Views.{expr_of, expr_if_any, kind_of}
use Rattle.efl_tree.proofs.Rows.{block_kind, switch_kind}
use Rattle.efl_types.specs.declared.rule.TypeRule.{TypeRule}
use Rattle.efl_types.specs.Signatures.{Names}
use Rattle.efl_types.specs.Statements.{value_faults, value_if, act_if, statement_faults}

-- what a statement in memory breaks
abbrev pub breaks : Names → EflKind → List TypeRule
breaks n a = statement_faults n (kind_of a)

if_breaks : (n : Names) (e : EflExpr) (s : Box EflStmt Global) (o : Option (Box EflStmt Global)) → breaks n (k.If e s o) ≡ value_faults n Logical (expr_of e)
if_breaks n e s None = refl
if_breaks n e s (Some t) = refl

pub if_is : (n : Names) (a : EflKind) (e : EflExpr) (s : Box EflStmt Global) (o : Option (Box EflStmt Global)) → a ≡ k.If e s o → breaks n a ≡ value_faults n Logical (expr_of e)
if_is n a e s o is = ap (breaks n) is ∙ if_breaks n e s o

pub while_is : (n : Names) (a : EflKind) (e : EflExpr) (s : Box EflStmt Global) → a ≡ k.While e s → breaks n a ≡ value_faults n Logical (expr_of e)
while_is n a e s is = ap (breaks n) is

pub for_is : (n : Names) (a : EflKind) (b e d : Option EflExpr) (s : Box EflStmt Global) → a ≡ k.For b e d s →
    breaks n a ≡ act_if n (expr_if_any b) ++ value_if n Logical (expr_if_any e) ++ act_if n (expr_if_any d)
for_is n a b e d s is = ap (breaks n) is

pub switch_is : (n : Names) (a : EflKind) (e : EflExpr) (list : Vec EflCase Global) → a ≡ k.Switch e list → breaks n a ≡ value_faults n Integer (expr_of e)
switch_is n a e list is = ap (breaks n) is ∙ ap (statement_faults n) (switch_kind e list)

-- statements that have nothing to ask
abbrev pub IsPlain : EflKind → Type 0
IsPlain a =
    (a ≡ k.Empty) ⊎ (((ds : Vec EflDecl Global) × (list : Vec EflStmt Global) × (a ≡ k.Block ds list)) ⊎ (((s : Box EflStmt Global) × (o : Option (EflExpr × Place)) × (a ≡ k.Repeat s o))
    ⊎ (((m : ℕ) × (o : Option LoopKind) × (a ≡ k.Break m o)) ⊎ (((m : ℕ) × (o : Option LoopKind) × (a ≡ k.Next m o)) ⊎ ((x : Text) × (a ≡ k.Goto x))))))

repeat_breaks : (n : Names) (s : Box EflStmt Global) (o : Option (EflExpr × Place)) → breaks n (k.Repeat s o) ≡ []
repeat_breaks n s None = refl
repeat_breaks n s (Some u) = refl

pub plain_is : (n : Names) (a : EflKind) → IsPlain a → breaks n a ≡ []
plain_is n a (inl is) = ap (breaks n) is
plain_is n a (inr (inl (ds, list, is))) = ap (breaks n) is ∙ ap (statement_faults n) (block_kind ds list)
plain_is n a (inr (inr (inl (s, o, is)))) = ap (breaks n) is ∙ repeat_breaks n s o
plain_is n a (inr (inr (inr (inl (m, o, is))))) = ap (breaks n) is
plain_is n a (inr (inr (inr (inr (inl (m, o, is)))))) = ap (breaks n) is
plain_is n a (inr (inr (inr (inr (inr (x, is)))))) = ap (breaks n) is
