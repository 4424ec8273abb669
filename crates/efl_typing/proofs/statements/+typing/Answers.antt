-- Statement by statement, kind by kind.
use Rattle.std.proofs.Common.{◌+◌, map, drop, refl, sym, subst, ap, ◌∙◌}
use Rattle.std.specs.Result.{IfOk}
use Rattle.std.proofs.lemmas.List.{drop_all}
use Rattle.std.proofs.lemmas.Result.{IfOk-weaker}
use Rattle.efl_tree.specs.declared.statement.EflCase.{out-EflCase}
use Rattle.efl_tree.specs.Syntax as efl
use Rattle.efl_tree.specs.Views.{expr_of, expr_if_any, decls_of, write_item_of, read_item_of, kind_of, stmt_of, stmts_of, cases_of}
use Rattle.efl_scope.proofs.TreeLemmas.{drop_next, block_is, switch_is}
use Rattle.efl_typed.specs.Typing as typing
use Rattle.efl_typing.specs.Statements.{IsStatement, IsStatementIn, IsKind, IsBlock, AreStatements}
use Rattle.efl_typing.proofs.StatementLemmas.{statement_made, within_made, StatementsLeft, statements_begun, statement_passed, statements_ended, clause_made, ClausesLeft, clauses_begun, clauses_next, clause_passed, clauses_ended}
use Rattle.efl_typing.proofs.KindLemmas.{if_made, either_made, switch_made, while_made, for_made, repeat_made, until_made, do_made, inside_made, block_made}
use Rattle.efl_typing.proofs.statements.+typing.Goals as goal

pub typed_statement-returns : goal.typed_statement-returns
typed_statement-returns t c =
    let x = c.args.statement.now in
    statement_made x.labels.items x.place (kind_of x.kind) c.args.site.now (record { labels = c.in_ok-labels.labels; place = x.place; kind = c.in_ok-kind.kind }) c.in_ok-kind.ensures
    (c.in_ok-labels.ensures ∙ c.deref.ensures.value) refl

pub typed_at-returns : goal.typed_at-returns
typed_at-returns t c =
    let x = stmt_of c.args.statement.now in
    IfOk-weaker c.typed_statement.result (IsStatement x c.into-inside.result) (IsStatementIn c.args.number x c.args.site.now)
    (λ made typed. within_made c.args.number x c.args.site.now c.into-inside.result made c.into-inside.ensures typed) c.typed_statement.ensures

-- ---- lists ----

pub typed_statements-loop-number-init : goal.typed_statements-loop-number-init
typed_statements-loop-number-init t c =
    let ss = stmts_of c.args.list.now in subst (StatementsLeft ss c.args.site.now 0 ss) (sym c.new-statements.ensures.items) (statements_begun ss c.args.site.now)

pub typed_statements-loop-number-preserved : goal.typed_statements-loop-number-preserved
typed_statements-loop-number-preserved t c =
    let l = c.loop-number in
    let list = c.args.list.now in
    let ss = stmts_of list in
    let x = c.index-list-number.result in
    let at = c.args.site.now in
    let made = c.in_ok-typed_at.field-0 in
    subst (StatementsLeft ss at (l.number + 1) (stmts_of (drop (l.number + 1) list))) (sym c.in_ok-push.ensures.items)
    (statement_passed ss at l.number (stmt_of x) (stmts_of (drop (l.number + 1) list)) l.statements.items made
    (subst (λ xs. StatementsLeft ss at l.number (stmts_of xs) l.statements.items) (drop_next list l.number x c.loop-number-test.true c.index-list-number.is) l.invariant)
    c.in_ok-typed_at.ensures)

pub typed_statements-returns : goal.typed_statements-returns
typed_statements-returns t c =
    let l = c.loop-number in
    let list = c.args.list.now in
    let ss = stmts_of list in
    statements_ended ss c.args.site.now l.number l.statements.items
    (subst (λ xs. StatementsLeft ss c.args.site.now l.number (stmts_of xs) l.statements.items) (drop_all l.number list c.loop-number-test.false) l.invariant)

pub typed_clauses-loop-number-init : goal.typed_clauses-loop-number-init
typed_clauses-loop-number-init t c =
    let cs = cases_of c.args.list.now in subst (ClausesLeft cs c.args.site.now 0 cs) (sym c.new-clauses.ensures.items) (clauses_begun cs c.args.site.now)

pub typed_clauses-loop-number-preserved : goal.typed_clauses-loop-number-preserved
typed_clauses-loop-number-preserved t c =
    let l = c.loop-number in
    let list = c.args.list.now in
    let cs = cases_of list in
    let x = c.index-list-number.result in
    let o = out-EflCase x in
    let at = c.args.site.now in
    let made = c.in_ok-typed_clause.field-0 in
    let rest = cases_of (drop (l.number + 1) list) in
    subst (ClausesLeft cs at (l.number + 1) rest) (sym c.in_ok-push.ensures.items)
    (clause_passed cs at l.number o.tests.items o.fallback (stmts_of o.body.items) o.place rest l.clauses.items made
    (subst (λ ys. ClausesLeft cs at l.number ys l.clauses.items) (clauses_next list l.number x c.loop-number-test.true c.index-list-number.is) l.invariant)
    c.in_ok-typed_clause.ensures)

pub typed_clauses-returns : goal.typed_clauses-returns
typed_clauses-returns t c =
    let l = c.loop-number in
    let list = c.args.list.now in
    let cs = cases_of list in
    clauses_ended cs c.args.site.now l.number l.clauses.items
    (subst (λ xs. ClausesLeft cs c.args.site.now l.number (cases_of xs) l.clauses.items) (drop_all l.number list c.loop-number-test.false) l.invariant)

pub typed_clause-returns : goal.typed_clause-returns
typed_clause-returns t c =
    let o = out-EflCase c.args.clause.now in
    clause_made c.args.number o.tests.items o.fallback (stmts_of o.body.items) o.place c.args.site.now c.into-inside.result c.in_ok-tests.tests c.in_ok-body.body c.into-inside.ensures
    (c.in_ok-tests.ensures ∙ c.deref.ensures.value)
    (subst (λ xs. AreStatements (stmts_of xs) c.into-inside.result c.in_ok-body.body.items) c.deref-2.ensures.value c.in_ok-body.ensures)

-- ---- kinds ----

pub typed_block-returns : goal.typed_block-returns
typed_block-returns t c =
    let ds = decls_of c.args.declarations.now in
    let ss = stmts_of c.args.list.now in
    IfOk-weaker c.typed_inside.result (IsBlock ss c.in_ok-table.table c.args.site.now) (IsKind (efl.Block ds ss) c.args.site.now) (λ made typed. typed.is ds c.in_ok-table.ensures) c.typed_inside.ensures

pub typed_inside-returns : goal.typed_inside-returns
typed_inside-returns t c =
    block_made (stmts_of c.args.list.now) c.args.site.now c.within-inner.result c.args.table.now c.in_ok-body.body
    (inside_made c.args.table.now c.args.site.now c.within-inner.result _ _ c.within-inner.ensures refl refl) c.in_ok-body.ensures

pub typed_if-returns : goal.typed_if-returns
typed_if-returns t c = if_made (expr_of c.args.e.now) (stmt_of c.args.body.now) c.args.site.now c.in_ok-test.test c.in_ok-body.body c.in_ok-test.ensures c.in_ok-body.ensures

pub typed_either-returns : goal.typed_either-returns
typed_either-returns t c =
    either_made (expr_of c.args.e.now) (stmt_of c.args.other.now) c.args.site.now c.in_ok-test.test c.args.first c.in_ok-second.second c.in_ok-test.ensures c.in_ok-second.ensures

pub typed_while-returns : goal.typed_while-returns
typed_while-returns t c = while_made (expr_of c.args.e.now) (stmt_of c.args.body.now) c.args.site.now c.in_ok-test.test c.in_ok-body.body c.in_ok-test.ensures c.in_ok-body.ensures

pub typed_for-returns : goal.typed_for-returns
typed_for-returns t c =
    for_made (expr_if_any c.args.first.now) (expr_if_any c.args.e.now) (expr_if_any c.args.step.now) (stmt_of c.args.body.now) c.args.site.now c.in_ok-first.first c.in_ok-test.test c.in_ok-step.step
    c.in_ok-body.body c.in_ok-first.ensures c.in_ok-test.ensures c.in_ok-step.ensures c.in_ok-body.ensures

pub typed_repeat-returns : goal.typed_repeat-returns
typed_repeat-returns t c = repeat_made (stmt_of c.args.body.now) c.args.site.now c.in_ok-body.body c.in_ok-body.ensures

pub typed_until-returns : goal.typed_until-returns
typed_until-returns t c =
    until_made (stmt_of c.args.body.now) (expr_of c.args.e.now) c.args.at c.args.site.now c.in_ok-body.body c.in_ok-test.test c.in_ok-body.ensures c.in_ok-test.ensures

pub typed_do-returns : goal.typed_do-returns
typed_do-returns t c =
    do_made c.args.name.now (expr_of c.args.first.now) (expr_of c.args.last.now) (expr_if_any c.args.step.now) (stmt_of c.args.body.now) c.args.site.now c.variable_number-variable.result
    c.in_ok-range.range c.in_ok-body.body (λ a here. c.variable_number-variable.ensures a here ∙ ap (typing.numbered a) c.as_bytes.ensures) c.in_ok-range.ensures c.in_ok-body.ensures

pub typed_switch-returns : goal.typed_switch-returns
typed_switch-returns t c =
    switch_made (expr_of c.args.e.now) (cases_of c.args.list.now) c.args.site.now c.in_ok-test.test c.in_ok-clauses.clauses c.in_ok-test.ensures c.in_ok-clauses.ensures

pub typed_kind-returns-in-Block : goal.typed_kind-returns-in-Block
typed_kind-returns-in-Block t c =
    subst (λ k. IfOk c.typed_block.result (IsKind k c.args.site.now))
    (block_is c.args.kind.now c.in-Block.declarations c.in-Block.list c.deref.result.now c.deref-in-Block.result.now c.in-Block.is c.deref.ensures.value c.deref-in-Block.ensures.value)
    c.typed_block.ensures

pub typed_kind-returns-in-Switch : goal.typed_kind-returns-in-Switch
typed_kind-returns-in-Switch t c =
    subst (λ k. IfOk c.typed_switch.result (IsKind k c.args.site.now))
    (switch_is c.args.kind.now c.in-Switch.e c.in-Switch.list c.deref-in-Switch.result.now c.in-Switch.is c.deref-in-Switch.ensures.value) c.typed_switch.ensures

pub typed_kind-returns-in-Write : goal.typed_kind-returns-in-Write
typed_kind-returns-in-Write t c =
    subst (λ k. IfOk c.typed_write.result (IsKind k c.args.site.now))
    (ap (λ xs. efl.Write (expr_if_any c.in-Write.unit) (map write_item_of xs)) c.deref-in-Write.ensures.value ∙ sym (ap kind_of c.in-Write.is)) c.typed_write.ensures

pub typed_kind-returns-in-Read : goal.typed_kind-returns-in-Read
typed_kind-returns-in-Read t c =
    subst (λ k. IfOk c.typed_read.result (IsKind k c.args.site.now))
    (ap (λ xs. efl.Read (expr_if_any c.in-Read.unit) (map read_item_of xs)) c.deref-in-Read.ensures.value ∙ sym (ap kind_of c.in-Read.is)) c.typed_read.ensures
