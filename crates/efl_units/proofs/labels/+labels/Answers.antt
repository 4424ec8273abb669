-- The labels of a statement are those before it, and those of its parts.
use Rattle.std.proofs.Common.{◌++◌, ◌∙◌, refl, ap, sym, arith}
use Rattle.std.proofs.lemmas.List.{append-nil}
use Rattle.std.proofs.lemmas.Result.{on_ok_weaker}
use Rattle.efl_typed_tree.specs.Views.{stmt_of, stmts_of}
use Rattle.efl_lowered.specs.Labels.{labels_of, all_labels}
use Rattle.efl_room.proofs.Rows.{next_stmt, last_stmt, stmt_size, next_clause, last_clause, clause_size}
use Rattle.efl_room.proofs.Rooms as rooms
use Rattle.efl_room.proofs.Sizes.{size_of_stmts}
use Rattle.efl_units.specs.Numbered.{adding_all, numbered_of, other_labels}
use Rattle.efl_units.proofs.LabelLemmas.{adding_both, kind_added, block_added, if_added, repeat_added, switch_added, stmts_more, stmts_over, clauses_more, clauses_over}
use Rattle.efl_units.proofs.labels.+labels.Goals as goal

-- ---- lists ----

pub add_list-add_statement-requires : goal.add_list-add_statement-requires
add_list-add_statement-requires t c =
    let size = stmt_size c.args.list.now c.loop-statement.statement-index c.statement-item.result c.loop-statement-test.true c.statement-item.is in
    (omega (arith, size), tt)

pub add_list-loop-statement-preserved : goal.add_list-loop-statement-preserved
add_list-loop-statement-preserved t c =
    let next = next_stmt c.args.list.now c.loop-statement.statement-index c.statement-item.result c.loop-statement-test.true c.statement-item.is in
    stmts_more _ _ _ _ _ next c.in_ok-add_statement.ensures ∙ c.loop-statement.invariant

pub add_list-returns : goal.add_list-returns
add_list-returns t c = sym (stmts_over _ _ (last_stmt c.args.list.now c.loop-statement.statement-index c.loop-statement-test.false)) ∙ c.loop-statement.invariant

pub add_clauses-add_list-requires : goal.add_clauses-add_list-requires
add_clauses-add_list-requires t c =
    let size = clause_size c.args.list.now c.loop-clause.clause-index c.clause-item.result c.loop-clause-test.true c.clause-item.is in
    let same = ap (λ ss. size_of_stmts (stmts_of ss)) c.deref.ensures.value in
    (omega (arith, size, same), tt)

pub add_clauses-loop-clause-preserved : goal.add_clauses-loop-clause-preserved
add_clauses-loop-clause-preserved t c =
    let next = next_clause c.args.list.now c.loop-clause.clause-index c.clause-item.result c.loop-clause-test.true c.clause-item.is in
    let one = c.in_ok-add_list.ensures ∙ ap (λ ss. adding_all (all_labels (stmts_of ss)) (numbered_of c.loop-clause.labels)) c.deref.ensures.value in
    clauses_more _ _ _ _ _ _ _ _ next one ∙ c.loop-clause.invariant

pub add_clauses-returns : goal.add_clauses-returns
add_clauses-returns t c = sym (clauses_over _ _ (last_clause c.args.list.now c.loop-clause.clause-index c.loop-clause-test.false)) ∙ c.loop-clause.invariant

pub add_if-returns-in-None : goal.add_if-returns-in-None
add_if-returns-in-None t c =
    c.in_ok-add_statement.ensures ∙ ap (λ ls. adding_all ls (numbered_of c.args.labels.now)) (sym (append-nil (labels_of (stmt_of c.args.body.now))))
    ∙ ap (λ o. adding_all (labels_of (stmt_of c.args.body.now) ++ other_labels o) (numbered_of c.args.labels.now)) (sym c.in-None.is)

pub add_if-returns-in-Some : goal.add_if-returns-in-Some
add_if-returns-in-Some t c =
    let body = labels_of (stmt_of c.args.body.now) in
    let old = numbered_of c.args.labels.now in
    on_ok_weaker c.add_statement-in-Some.result
    (λ h. h ∙ ap (λ s. adding_all (labels_of (stmt_of s)) (numbered_of c.add_statement.new.labels)) c.deref.ensures ∙ ap (adding_all (labels_of (stmt_of c.in-Some.other.value))) c.in_ok-add_statement.ensures
    ∙ sym (adding_both body (labels_of (stmt_of c.in-Some.other.value)) old) ∙ ap (λ o. adding_all (body ++ other_labels o) old) (sym c.in-Some.is)) c.add_statement-in-Some.ensures

-- ---- what a statement is ----

pub add_statement-returns-in-Empty : goal.add_statement-returns-in-Empty
add_statement-returns-in-Empty t c = kind_added c.args.statement.now _ _ _ _ _ c.in-Empty.is c.deref.ensures.value c.in_ok-add_each.ensures refl

pub add_statement-add_list-requires : goal.add_statement-add_list-requires
add_statement-add_list-requires t c = let e = rooms.block_size c.args.statement.now _ _ c.in-Block.is c.deref-in-Block.ensures.value in (omega (arith, e), tt)

pub add_statement-returns-in-Block : goal.add_statement-returns-in-Block
add_statement-returns-in-Block t c = on_ok_weaker c.add_list.result (λ h. block_added c.args.statement.now _ _ _ _ _ _ c.in-Block.is c.deref-in-Block.ensures.value c.deref.ensures.value c.in_ok-add_each.ensures h) c.add_list.ensures

pub add_statement-returns-in-Act : goal.add_statement-returns-in-Act
add_statement-returns-in-Act t c = kind_added c.args.statement.now _ _ _ _ _ c.in-Act.is c.deref.ensures.value c.in_ok-add_each.ensures refl

pub add_statement-add_if-requires : goal.add_statement-add_if-requires
add_statement-add_if-requires t c = let e = rooms.if_size c.args.statement.now _ _ _ _ c.in-If.is c.deref-in-If.ensures in (omega (arith, e), tt)

pub add_statement-returns-in-If : goal.add_statement-returns-in-If
add_statement-returns-in-If t c = on_ok_weaker c.add_if.result (λ h. if_added c.args.statement.now _ _ _ _ _ _ _ _ c.in-If.is c.deref-in-If.ensures c.deref.ensures.value c.in_ok-add_each.ensures h) c.add_if.ensures

pub add_statement-add_statement-requires : goal.add_statement-add_statement-requires
add_statement-add_statement-requires t c = let e = rooms.while_size c.args.statement.now _ _ _ c.in-While.is c.deref-in-While.ensures in (omega (arith, e), tt)

pub add_statement-returns-in-While : goal.add_statement-returns-in-While
add_statement-returns-in-While t c =
    let seen = ap (λ s. adding_all (labels_of (stmt_of s)) (numbered_of c.add_each.new.labels)) c.deref-in-While.ensures in
    on_ok_weaker c.add_statement.result (λ h. kind_added c.args.statement.now _ _ _ _ _ c.in-While.is c.deref.ensures.value c.in_ok-add_each.ensures (h ∙ seen)) c.add_statement.ensures

pub add_statement-add_statement-requires-in-For : goal.add_statement-add_statement-requires-in-For
add_statement-add_statement-requires-in-For t c = let e = rooms.for_size c.args.statement.now _ _ _ _ _ c.in-For.is c.deref-in-For.ensures in (omega (arith, e), tt)

pub add_statement-returns-in-For : goal.add_statement-returns-in-For
add_statement-returns-in-For t c =
    let seen = ap (λ s. adding_all (labels_of (stmt_of s)) (numbered_of c.add_each.new.labels)) c.deref-in-For.ensures in
    on_ok_weaker c.add_statement-in-For.result (λ h. kind_added c.args.statement.now _ _ _ _ _ c.in-For.is c.deref.ensures.value c.in_ok-add_each.ensures (h ∙ seen)) c.add_statement-in-For.ensures

pub add_statement-add_statement-requires-in-Repeat : goal.add_statement-add_statement-requires-in-Repeat
add_statement-add_statement-requires-in-Repeat t c = let e = rooms.repeat_size c.args.statement.now _ _ _ c.in-Repeat.is c.deref-in-Repeat.ensures in (omega (arith, e), tt)

pub add_statement-returns-in-Repeat : goal.add_statement-returns-in-Repeat
add_statement-returns-in-Repeat t c = on_ok_weaker c.add_statement-in-Repeat.result (λ h. repeat_added c.args.statement.now _ _ _ _ _ _ _ c.in-Repeat.is c.deref-in-Repeat.ensures c.deref.ensures.value c.in_ok-add_each.ensures h) c.add_statement-in-Repeat.ensures

pub add_statement-add_statement-requires-in-Do : goal.add_statement-add_statement-requires-in-Do
add_statement-add_statement-requires-in-Do t c = let e = rooms.do_size c.args.statement.now _ _ _ _ c.in-Do.is c.deref-in-Do.ensures in (omega (arith, e), tt)

pub add_statement-returns-in-Do : goal.add_statement-returns-in-Do
add_statement-returns-in-Do t c =
    let seen = ap (λ s. adding_all (labels_of (stmt_of s)) (numbered_of c.add_each.new.labels)) c.deref-in-Do.ensures in
    on_ok_weaker c.add_statement-in-Do.result (λ h. kind_added c.args.statement.now _ _ _ _ _ c.in-Do.is c.deref.ensures.value c.in_ok-add_each.ensures (h ∙ seen)) c.add_statement-in-Do.ensures

pub add_statement-add_clauses-requires : goal.add_statement-add_clauses-requires
add_statement-add_clauses-requires t c = let e = rooms.switch_size c.args.statement.now _ _ _ c.in-Switch.is c.deref-in-Switch.ensures.value in (omega (arith, e), tt)

pub add_statement-returns-in-Switch : goal.add_statement-returns-in-Switch
add_statement-returns-in-Switch t c = on_ok_weaker c.add_clauses.result (λ h. switch_added c.args.statement.now _ _ _ _ _ _ _ c.in-Switch.is c.deref-in-Switch.ensures.value c.deref.ensures.value c.in_ok-add_each.ensures h) c.add_clauses.ensures

pub add_statement-returns-in-Break : goal.add_statement-returns-in-Break
add_statement-returns-in-Break t c = kind_added c.args.statement.now _ _ _ _ _ c.in-Break.is c.deref.ensures.value c.in_ok-add_each.ensures refl

pub add_statement-returns-in-Next : goal.add_statement-returns-in-Next
add_statement-returns-in-Next t c = kind_added c.args.statement.now _ _ _ _ _ c.in-Next.is c.deref.ensures.value c.in_ok-add_each.ensures refl

pub add_statement-returns-in-Return : goal.add_statement-returns-in-Return
add_statement-returns-in-Return t c = kind_added c.args.statement.now _ _ _ _ _ c.in-Return.is c.deref.ensures.value c.in_ok-add_each.ensures refl

pub add_statement-returns-in-Goto : goal.add_statement-returns-in-Goto
add_statement-returns-in-Goto t c = on_ok_weaker c.add.result (λ h. kind_added c.args.statement.now _ _ _ _ _ c.in-Goto.is c.deref.ensures.value c.in_ok-add_each.ensures h) c.add.ensures

pub add_statement-returns-in-Write : goal.add_statement-returns-in-Write
add_statement-returns-in-Write t c = kind_added c.args.statement.now _ _ _ _ _ c.in-Write.is c.deref.ensures.value c.in_ok-add_each.ensures refl

pub add_statement-returns-in-Read : goal.add_statement-returns-in-Read
add_statement-returns-in-Read t c = kind_added c.args.statement.now _ _ _ _ _ c.in-Read.is c.deref.ensures.value c.in_ok-add_each.ensures refl
