-- The first word makes the text too long.
use Rattle.std.proofs.Common.{Vec, Global, ◌++◌, map, refl, codes}
use Rattle.f66_tree.specs.declared.expression.Expr.{Expr}
use Rattle.f66_tree.specs.Syntax.{Equivalence}
use Rattle.f66_tree.specs.Views.{formula_of}
use Rattle.stmt_text.specs.Texts.{act_text, commas, group_text}
use Rattle.stmt_text.proofs.ListLemmas.{emits_too_long}
use Rattle.stmt_text.proofs.declarations.push_equivalence.Goals as goal

pub returns-in_err-push_all : goal.returns-in_err-push_all
returns-in_err-push_all c =
    emits_too_long c.from_residual.result c.args.out.now.items c.push_all.new.out.items (λ k. codes "EQUIVALENCE " ++ k) (act_text (Equivalence (map (λ (group : Vec Expr Global). map formula_of group.items) c.args.groups.now)))
    (commas group_text (map (λ (group : Vec Expr Global). map formula_of group.items) c.args.groups.now)) c.from_residual.ensures (λ k. refl) c.in_err-push_all.ensures
