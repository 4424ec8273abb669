-- What a statement needs is the most that its parts need.
use Rattle.std.proofs.Common.{◌+◌, max, option_map, ap, sym, arith, ◌∙◌}
use Rattle.std.proofs.lemmas.Result.{IfOk-weaker}
use Rattle.efl_typed_tree.specs.declared.statement.TypedClause.{out-TypedClause}
use Rattle.efl_routes.specs.Statements.{made_if_any}
use Rattle.efl_typed_tree.specs.Views.{expr_of, stmt_of, stmts_of, clauses_of, read_items_of, write_items_of}
use Rattle.efl_lowered.specs.Needs.{needs, all_need, clauses_need, of_items, of_taken}
use Rattle.efl_room.proofs.Rows.{next_stmt, last_stmt, stmt_size, next_clause, last_clause, clause_size}
use Rattle.efl_room.proofs.Rooms as rooms
use Rattle.efl_room.proofs.Sizes.{size_of_stmts}
use Rattle.efl_room.proofs.statements.+needs.Goals as goal

-- ---- lists ----

pub list_needs-loop-statement-init : goal.list_needs-loop-statement-init
list_needs-loop-statement-init t c = rooms.begun c.args.number _ (rooms.all_above (stmts_of c.args.list.now) c.args.number)

pub list_needs-statement_needs-requires : goal.list_needs-statement_needs-requires
list_needs-statement_needs-requires t c =
    let size = stmt_size c.args.list.now c.loop-statement.statement-index c.statement-item.result c.loop-statement-test.true c.statement-item.is in
    (omega (arith, size), tt)

pub list_needs-loop-statement-preserved : goal.list_needs-loop-statement-preserved
list_needs-loop-statement-preserved t c =
    let next = next_stmt c.args.list.now c.loop-statement.statement-index c.statement-item.result c.loop-statement-test.true c.statement-item.is in
    rooms.one_more (needs (stmt_of c.statement-item.result) c.args.number) (ap (λ ss. all_need ss c.args.number) next) c.loop-statement.invariant (c.max-most.ensures ∙ ap (max c.loop-statement.most) c.in_ok-statement_needs.ensures)

pub list_needs-returns : goal.list_needs-returns
list_needs-returns t c =
    let last = last_stmt c.args.list.now c.loop-statement.statement-index c.loop-statement-test.false in
    rooms.ended (ap (λ ss. all_need ss c.args.number) last) c.loop-statement.invariant

pub clauses_need-loop-clause-init : goal.clauses_need-loop-clause-init
clauses_need-loop-clause-init t c = rooms.begun c.args.number _ (rooms.clauses_above (clauses_of c.args.list.now) c.args.number)

pub clauses_need-list_needs-requires : goal.clauses_need-list_needs-requires
clauses_need-list_needs-requires t c =
    let size = clause_size c.args.list.now c.loop-clause.clause-index c.clause-item.result c.loop-clause-test.true c.clause-item.is in
    let same = ap (λ ss. size_of_stmts (stmts_of ss)) c.deref.ensures.value in
    (omega (arith, size, same), tt)

pub clauses_need-loop-clause-preserved : goal.clauses_need-loop-clause-preserved
clauses_need-loop-clause-preserved t c =
    let next = next_clause c.args.list.now c.loop-clause.clause-index c.clause-item.result c.loop-clause-test.true c.clause-item.is in
    let one = c.in_ok-list_needs.ensures ∙ ap (λ ss. all_need (stmts_of ss) c.args.number) c.deref.ensures.value in
    rooms.one_more (all_need (stmts_of (out-TypedClause c.clause-item.result).body.items) c.args.number) (ap (λ cs. clauses_need cs c.args.number) next) c.loop-clause.invariant (c.max-most.ensures ∙ ap (max c.loop-clause.most) one)

pub clauses_need-returns : goal.clauses_need-returns
clauses_need-returns t c =
    let last = last_clause c.args.list.now c.loop-clause.clause-index c.loop-clause-test.false in
    rooms.ended (ap (λ cs. clauses_need cs c.args.number) last) c.loop-clause.invariant

-- ---- what a statement is ----

pub statement_needs-returns-in-Empty : goal.statement_needs-returns-in-Empty
statement_needs-returns-in-Empty t c = sym (rooms.kind_needs c.args.statement.now _ c.args.number c.in-Empty.is)

pub statement_needs-list_needs-requires : goal.statement_needs-list_needs-requires
statement_needs-list_needs-requires t c = let e = rooms.block_size c.args.statement.now c.in-Block.list _ c.in-Block.is c.deref.ensures.value in (omega (arith, e), tt)

pub statement_needs-returns-in-Block : goal.statement_needs-returns-in-Block
statement_needs-returns-in-Block t c =
    let e = rooms.block_needs c.args.statement.now c.args.number c.in-Block.list _ c.in-Block.is c.deref.ensures.value in
    IfOk-weaker c.list_needs.result _ _ (λ r h. h ∙ sym e) c.list_needs.ensures

pub statement_needs-returns-in-Act : goal.statement_needs-returns-in-Act
statement_needs-returns-in-Act t c =
    let e = rooms.kind_needs c.args.statement.now _ c.args.number c.in-Act.is in
    IfOk-weaker c.of_action.result _ _ (λ r h. h ∙ sym e) c.of_action.ensures

pub statement_needs-if_needs-requires : goal.statement_needs-if_needs-requires
statement_needs-if_needs-requires t c = let e = rooms.if_size c.args.statement.now c.in-If.e c.in-If.body c.in-If.other _ c.in-If.is c.deref-in-If.ensures in (omega (arith, e), tt)

pub statement_needs-returns-in-If : goal.statement_needs-returns-in-If
statement_needs-returns-in-If t c =
    let e = rooms.if_needs c.args.statement.now c.args.number c.in-If.e c.in-If.body c.in-If.other _ c.in-If.is c.deref-in-If.ensures in
    IfOk-weaker c.if_needs.result _ _ (λ r h. h ∙ sym e) c.if_needs.ensures

pub statement_needs-with_value-requires : goal.statement_needs-with_value-requires
statement_needs-with_value-requires t c = let e = rooms.while_size c.args.statement.now c.in-While.e c.in-While.body _ c.in-While.is c.deref-in-While.ensures in (omega (arith, e), tt)

pub statement_needs-returns-in-While : goal.statement_needs-returns-in-While
statement_needs-returns-in-While t c =
    let e = rooms.while_needs c.args.statement.now c.args.number c.in-While.e c.in-While.body _ c.in-While.is c.deref-in-While.ensures in
    IfOk-weaker c.with_value.result _ _ (λ r h. h ∙ sym e) c.with_value.ensures

pub statement_needs-for_needs-requires : goal.statement_needs-for_needs-requires
statement_needs-for_needs-requires t c = let e = rooms.for_size c.args.statement.now c.in-For.first c.in-For.e c.in-For.step c.in-For.body _ c.in-For.is c.deref-in-For.ensures in (omega (arith, e), tt)

pub statement_needs-returns-in-For : goal.statement_needs-returns-in-For
statement_needs-returns-in-For t c =
    let e = rooms.for_needs c.args.statement.now c.args.number c.in-For.first c.in-For.e c.in-For.step c.in-For.body _ c.in-For.is c.deref-in-For.ensures in
    IfOk-weaker c.for_needs.result _ _ (λ r h. h ∙ sym e) c.for_needs.ensures

pub statement_needs-repeat_needs-requires : goal.statement_needs-repeat_needs-requires
statement_needs-repeat_needs-requires t c = let e = rooms.repeat_size c.args.statement.now c.in-Repeat.body c.in-Repeat.until _ c.in-Repeat.is c.deref-in-Repeat.ensures in (omega (arith, e), tt)

pub statement_needs-returns-in-Repeat : goal.statement_needs-returns-in-Repeat
statement_needs-returns-in-Repeat t c =
    let e = rooms.repeat_needs c.args.statement.now c.args.number c.in-Repeat.body c.in-Repeat.until _ c.in-Repeat.is c.deref-in-Repeat.ensures in
    IfOk-weaker c.repeat_needs.result _ _ (λ r h. h ∙ sym e) c.repeat_needs.ensures

pub statement_needs-do_needs-requires : goal.statement_needs-do_needs-requires
statement_needs-do_needs-requires t c = let e = rooms.do_size c.args.statement.now c.in-Do.field-0 c.in-Do.range c.in-Do.body _ c.in-Do.is c.deref-in-Do.ensures in (omega (arith, e), tt)

pub statement_needs-returns-in-Do : goal.statement_needs-returns-in-Do
statement_needs-returns-in-Do t c =
    let e = rooms.do_needs c.args.statement.now c.args.number c.in-Do.field-0 c.in-Do.range c.in-Do.body _ c.in-Do.is c.deref-in-Do.ensures in
    IfOk-weaker c.do_needs.result _ _ (λ r h. h ∙ sym e) c.do_needs.ensures

pub statement_needs-switch_needs-requires : goal.statement_needs-switch_needs-requires
statement_needs-switch_needs-requires t c = let e = rooms.switch_size c.args.statement.now c.in-Switch.e c.in-Switch.list _ c.in-Switch.is c.deref-in-Switch.ensures.value in (omega (arith, e), tt)

pub statement_needs-returns-in-Switch : goal.statement_needs-returns-in-Switch
statement_needs-returns-in-Switch t c =
    let e = rooms.switch_needs c.args.statement.now c.args.number c.in-Switch.e c.in-Switch.list _ c.in-Switch.is c.deref-in-Switch.ensures.value in
    IfOk-weaker c.switch_needs.result _ _ (λ r h. h ∙ sym e) c.switch_needs.ensures

pub statement_needs-returns-in-Break : goal.statement_needs-returns-in-Break
statement_needs-returns-in-Break t c = sym (rooms.kind_needs c.args.statement.now _ c.args.number c.in-Break.is)

pub statement_needs-returns-in-Next : goal.statement_needs-returns-in-Next
statement_needs-returns-in-Next t c = sym (rooms.kind_needs c.args.statement.now _ c.args.number c.in-Next.is)

pub statement_needs-returns-in-Goto : goal.statement_needs-returns-in-Goto
statement_needs-returns-in-Goto t c = sym (rooms.kind_needs c.args.statement.now _ c.args.number c.in-Goto.is)

pub statement_needs-returns-in-Return : goal.statement_needs-returns-in-Return
statement_needs-returns-in-Return t c =
    let e = rooms.kind_needs c.args.statement.now _ c.args.number c.in-Return.is in
    IfOk-weaker c.of_if_any.result _ _ (λ r h. h ∙ sym e) c.of_if_any.ensures

pub statement_needs-returns-in_ok-of_if_any-in-Write : goal.statement_needs-returns-in_ok-of_if_any-in-Write
statement_needs-returns-in_ok-of_if_any-in-Write t c =
    let e = rooms.kind_needs c.args.statement.now _ c.args.number c.in-Write.is in
    let unit = ap (of_items (write_items_of c.deref-in-Write.result.now)) c.in_ok-of_if_any-in-Write.ensures in
    let seen = ap (λ all. of_items (write_items_of all) (c.args.number + made_if_any (option_map expr_of c.in-Write.unit))) c.deref-in-Write.ensures.value in
    IfOk-weaker c.of_items.result _ _ (λ r h. h ∙ unit ∙ seen ∙ sym e) c.of_items.ensures

pub statement_needs-returns-in_ok-of_if_any-in-Read : goal.statement_needs-returns-in_ok-of_if_any-in-Read
statement_needs-returns-in_ok-of_if_any-in-Read t c =
    let e = rooms.kind_needs c.args.statement.now _ c.args.number c.in-Read.is in
    let unit = ap (of_taken (read_items_of c.deref-in-Read.result.now)) c.in_ok-of_if_any-in-Read.ensures in
    let seen = ap (λ all. of_taken (read_items_of all) (c.args.number + made_if_any (option_map expr_of c.in-Read.unit))) c.deref-in-Read.ensures.value in
    IfOk-weaker c.of_taken.result _ _ (λ r h. h ∙ unit ∙ seen ∙ sym e) c.of_taken.ensures
