-- The word, the name, and the dummies.
use Rattle.std.proofs.Common.{◌≡◌, ℕ, List, ◌++◌, codes, refl, subst}
use Rattle.f66_tree.specs.Syntax.{SubUnit}
use Rattle.stmt_text.specs.Texts.{header_then, in_parentheses, name_text}
use Rattle.stmt_text.proofs.ListLemmas.{emits_after, emits_too_long}
use Rattle.stmt_text.proofs.headers.push_subroutine.Goals as goal

pub returns-in_err-push_all : goal.returns-in_err-push_all
returns-in_err-push_all c =
    emits_too_long c.from_residual.result c.args.out.now.items c.push_all.new.out.items (λ k. codes "SUBROUTINE " ++ k) (header_then (SubUnit c.args.name.now c.args.dummies.now))
    (λ k. c.args.name.now ++ in_parentheses name_text c.args.dummies.now k) c.from_residual.ensures (λ k. refl) c.in_err-push_all.ensures

pub returns : goal.returns
returns c =
    emits_after c.push_dummies.result c.args.out.now.items c.push_all.new.out.items c.push_dummies.new.out.items (λ k. codes "SUBROUTINE " ++ k) (λ k. c.args.name.now ++ in_parentheses name_text c.args.dummies.now k)
    c.in_ok-push_all.ensures
    (emits_after c.push_dummies.result c.push_all.new.out.items c.push_all-2.new.out.items c.push_dummies.new.out.items (λ k. c.args.name.now ++ k) (in_parentheses name_text c.args.dummies.now)
    (subst (λ (x : List ℕ). (k : List ℕ) → c.push_all.new.out.items ++ (x ++ k) ≡ c.push_all-2.new.out.items ++ k) c.as_bytes.ensures c.in_ok-push_all-2.ensures) c.push_dummies.ensures)
