-- Statements that are left where they are.
use Rattle.std.proofs.Common.{◌≡◌, refl, ap, ◌∙◌}
use Rattle.ground.specs.declared.place.Place.{Place}
use Rattle.efl_program.specs.Typed.{Stmt, Empty, Block, Act, If, IfElse, While, For, Repeat, RepeatUntil, Do, Switch, Break, Next, Return, Goto, Write, Read, Labelled, Stmts, NoStmt, AndStmt, Clauses, NoClause, AndClause}
use Rattle.efl_program.specs.Relocated.{relocated, all_relocated, clauses_relocated}

abbrev left : Place → Place
left p = p

mutual
  one_left : (s : Stmt) → relocated left s ≡ s
  one_left (Empty p) = refl
  one_left (Block p ss) = ap (Block p) (all_left ss)
  one_left (Act p a) = refl
  one_left (If p e s) = ap (If p e) (one_left s)
  one_left (IfElse p e s t) = ap (λ v. IfElse p e v (relocated left t)) (one_left s) ∙ ap (IfElse p e s) (one_left t)
  one_left (While p e s) = ap (While p e) (one_left s)
  one_left (For p a e b s) = ap (For p a e b) (one_left s)
  one_left (Repeat p s) = ap (Repeat p) (one_left s)
  one_left (RepeatUntil p s e q) = ap (λ v. RepeatUntil p v e q) (one_left s)
  one_left (Do p v a z d s) = ap (Do p v a z d) (one_left s)
  one_left (Switch p e cs) = ap (Switch p e) (clauses_left cs)
  one_left (Break p n o) = refl
  one_left (Next p n o) = refl
  one_left (Return p e) = refl
  one_left (Goto p l) = refl
  one_left (Write p u items) = refl
  one_left (Read p u items) = refl
  one_left (Labelled l p s) = ap (Labelled l p) (one_left s)

  pub all_left : (ss : Stmts) → all_relocated left ss ≡ ss
  all_left NoStmt = refl
  all_left (AndStmt s ss) = ap (λ v. AndStmt v (all_relocated left ss)) (one_left s) ∙ ap (AndStmt s) (all_left ss)

  clauses_left : (cs : Clauses) → clauses_relocated left cs ≡ cs
  clauses_left NoClause = refl
  clauses_left (AndClause es fallback ss p cs) = ap (λ v. AndClause es fallback v p (clauses_relocated left cs)) (all_left ss) ∙ ap (AndClause es fallback ss p) (clauses_left cs)
