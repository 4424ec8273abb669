-- Why `body` reads its nonterminal.
use Rattle.std.proofs.Common.{ap, ◌∙◌, Vec, Global}
use Rattle.rat_tree.specs.declared.program.RatStmt.{RatStmt}
use Rattle.rat_descent.proofs.Bodies.{body_end, body_line, body_more}
use Rattle.rat_descent.proofs.units.body.Goals.{in-LineEnd+in_ok-take_token-in-LineEnd, in_default+in_ok-item-in_default+in_ok-push-in_default}
use Rattle.rat_descent.proofs.units.body.Goals as goal

pub returns-in-End : goal.returns-in-End
returns-in-End c = c.more.invariant _ _ (body_end c.more.list.items c.in_ok-take_token-in-End.ensures c.in_ok-ending-in-End.ensures)

pub more-preserved : goal.more-preserved
more-preserved c = λ all s more. c.more.invariant all s (elim c.match-reader.branch [
  | in-LineEnd+in_ok-take_token-in-LineEnd w ↦
      body_line c.more.list.items c.match-reader.list.items w.in_ok-take_token-in-LineEnd.ensures w.reader-is (ap (λ (l : Vec RatStmt Global). l.items) w.list-is) more
  | in_default+in_ok-item-in_default+in_ok-push-in_default w ↦
      body_more c.more.list.items c.match-reader.list.items _ w.in_ok-item-in_default.ensures w.reader-is
      (ap (λ (l : Vec RatStmt Global). l.items) w.list-is ∙ w.in_ok-push-in_default.ensures.items) more
])
