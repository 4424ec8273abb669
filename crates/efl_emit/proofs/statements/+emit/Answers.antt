-- The statements of FORTRAN that a statement becomes are those of its parts, in their order.
use Rattle.std.proofs.Common.{◌∷◌, ◌∙◌, ap, sym, subst, arith, option_map}
use Rattle.efl_typed_tree.specs.declared.statement.TypedClause.{out-TypedClause}
use Rattle.std.proofs.lemmas.Result.{on_ok_weaker}
use Rattle.routes.specs.Routes.{AndRoute}
use Rattle.efl_program.specs.Typed.{Do}
use Rattle.efl_typed_tree.specs.Views.{action_of, clauses_of, expr_of, kind_of, read_items_of, stmt_of, stmts_of, write_items_of}
use Rattle.efl_emit.specs.Emitted.{EmittedIn}
use Rattle.efl_emit.specs.Names.{emission_of, made_of, operand_of}
use Rattle.efl_emit.specs.Rings.{around_of, behind_of}
use Rattle.efl_emit.specs.Statements.{route_of, block_of, clauses_before, default_before, have_none}
use Rattle.efl_emit.specs.Cases.{ring_of_cases}
use Rattle.efl_emit.specs.Marks.{Marks}
use Rattle.efl_emit.specs.Words.{LeavesOne, act_of}
use Rattle.efl_routes.specs.Statements.{Other}
use Rattle.efl_emit.specs.Turns.{top_of, bottom_of}
use Rattle.efl_room.proofs.Rows.{next_stmt, last_stmt, stmt_size, from_block, from_switch, from_do, from_write, from_read, clauses_first}
use Rattle.efl_room.proofs.Sizes.{size_of_stmt, size_of_stmts, size_of_clauses, labelled_size}
use Rattle.efl_emit.proofs.Emitting.{in_turn}
use Rattle.efl_emit.proofs.Forms.{marks_done, if_done, first_done, either_done, turn_done, loop_done, for_done, do_done, switch_done, clause_done, tested_done, block_done, list_more, list_over, return_within, write_within, read_within, with_constants, without_constants, default_here, default_behind}
use Rattle.efl_emit.proofs.statements.+emit.Goals as goal

pub emit_statement-returns : goal.emit_statement-returns
emit_statement-returns t c =
    let x = c.args.statement.now in
    let marks = subst (λ v. Marks c.args.naming.now x.place v (emission_of c.args.out.now) (emission_of c.put_marks.new.out)) c.deref.ensures.value c.in_ok-put_marks.ensures in
    on_ok_weaker c.emit_kind.result (λ h. marks_done (around_of c.args.rings.now) c.args.number x.place (kind_of x.place x.kind) x.labels.items _ _ _ marks h) c.emit_kind.ensures

pub emit_list-loop-statement-preserved : goal.emit_list-loop-statement-preserved
emit_list-loop-statement-preserved t c =
    let next = next_stmt c.args.list.now c.loop-statement.statement-index c.statement-item.result c.loop-statement-test.true c.statement-item.is in
    list_more c.args.naming.now (around_of c.args.rings.now) c.args.number (stmts_of c.args.list.now) next c.loop-statement.invariant c.in_ok-emit_statement.ensures

pub emit_list-returns : goal.emit_list-returns
emit_list-returns t c = list_over c.args.naming.now (around_of c.args.rings.now) c.args.number (stmts_of c.args.list.now) (last_stmt c.args.list.now c.loop-statement.statement-index c.loop-statement-test.false) c.loop-statement.invariant

pub emit_list-emit_statement-requires : goal.emit_list-emit_statement-requires
emit_list-emit_statement-requires t c =
    let size = stmt_size c.args.list.now c.loop-statement.statement-index c.statement-item.result c.loop-statement-test.true c.statement-item.is in
    (omega (arith, size), tt)

pub emit_statement-emit_kind-requires : goal.emit_statement-emit_kind-requires
emit_statement-emit_kind-requires t c =
    let size = labelled_size c.args.statement.now.labels.items c.args.statement.now.place (kind_of c.args.statement.now.place c.args.statement.now.kind) in
    (omega (arith, size), tt)

pub emit_block-returns : goal.emit_block-returns
emit_block-returns t c = on_ok_weaker c.emit_list.result (λ h. block_done c.args.naming.now (around_of c.args.rings.now) c.args.number (stmts_of c.args.list.now) h) c.emit_list.ensures

pub emit_if-returns : goal.emit_if-returns
emit_if-returns t c = on_ok_weaker c.put_here.result (λ h. if_done (around_of c.args.rings.now) (stmt_of c.args.body.now) c.in_ok-value.ensures c.in_ok-behind.ensures c.in_ok-test.ensures c.in_ok-put_choice.ensures c.in_ok-emit_statement.ensures h) c.put_here.ensures

pub emit_first-returns : goal.emit_first-returns
emit_first-returns t c = on_ok_weaker c.put_here.result (λ h. first_done c.args.naming.now (around_of c.args.rings.now) (stmt_of c.args.body.now) c.args.number c.requires c.in_ok-otherwise.ensures c.in_ok-test.ensures c.in_ok-put_choice.ensures c.in_ok-emit_statement.ensures c.in_ok-put_jump.ensures h) c.put_here.ensures

pub emit_either-returns : goal.emit_either-returns
emit_either-returns t c = on_ok_weaker c.put_here.result (λ h. either_done (around_of c.args.rings.now) (stmt_of c.args.body.now) (stmt_of c.args.other.now) c.in_ok-value.ensures c.in_ok-behind.ensures c.in_ok-emit_first.ensures c.in_ok-emit_statement.ensures h) c.put_here.ensures

pub emit_turn-returns : goal.emit_turn-returns
emit_turn-returns t c = on_ok_weaker c.put_here.result (λ h. turn_done c.args.naming.now (around_of c.args.rings.now) (stmt_of c.args.body.now) c.args.kind c.args.number c.in_ok-next.ensures c.in_ok-emit_statement.ensures h) c.put_here.ensures

pub emit_loop-returns : goal.emit_loop-returns
emit_loop-returns t c =
    on_ok_weaker c.put_here-2.result
    (λ h. loop_done c.args.naming.now (around_of c.args.rings.now) (stmt_of c.args.body.now) c.args.kind c.args.number (top_of c.args.naming.now c.args.place c.args.turn c.args.number) (bottom_of c.args.naming.now c.args.place c.args.turn c.args.number) c.in_ok-head.ensures c.in_ok-behind.ensures c.in_ok-put_here.ensures
    c.in_ok-emit_top.ensures c.in_ok-emit_turn.ensures c.in_ok-emit_bottom.ensures c.in_ok-put_jump.ensures h) c.put_here-2.ensures

pub emit_for-returns : goal.emit_for-returns
emit_for-returns t c =
    on_ok_weaker c.emit_loop.result (λ h. for_done c.args.naming.now (around_of c.args.rings.now) (option_map action_of c.args.first.now) (option_map action_of c.args.step.now) (option_map expr_of c.args.e.now) (stmt_of c.args.body.now) c.args.number c.in_ok-emit_action_if_any.ensures h) c.emit_loop.ensures

pub emit_do-returns : goal.emit_do-returns
emit_do-returns t c = on_ok_weaker c.emit_loop.result (λ h. do_done (around_of c.args.rings.now) (stmt_of c.args.body.now) c.in_ok-start.ensures h) c.emit_loop.ensures

pub emit_switch-returns : goal.emit_switch-returns
emit_switch-returns t c = on_ok_weaker c.put_here.result (λ h. switch_done (around_of c.args.rings.now) (clauses_of c.args.list.now) c.in_ok-value.ensures c.in_ok-behind.ensures c.in_ok-emit_clauses.ensures h) c.put_here.ensures

pub emit_clause-returns : goal.emit_clause-returns
emit_clause-returns t c =
    on_ok_weaker c.put_here.result
    (λ h. clause_done c.args.naming.now (around_of c.args.rings.now) (operand_of c.args.value.operand) (out-TypedClause c.args.clause.now).tests.items (stmts_of (out-TypedClause c.args.clause.now).body.items) (clauses_of c.args.others.now) (clauses_of c.args.all.now) c.args.value.next c.in_ok-behind.ensures c.in_ok-emit_tested.ensures c.in_ok-emit_clauses.ensures h) c.put_here.ensures

pub emit_tested-returns : goal.emit_tested-returns
emit_tested-returns t c =
    let x = out-TypedClause c.args.clause.now in
    let v = operand_of c.args.value.operand in
    let ls = c.in_ok-others.others ∷ behind_of c.args.rings.now in
    let cases =
    subst (λ zs. LeavesOne (made_of c.args.naming.now) (ring_of_cases c.args.naming.now c.args.place v zs) c.in_ok-others.others (emission_of c.fresh_label.new.self) (emission_of c.emit_cases.new.out)) c.deref.ensures.value c.in_ok-emit_cases.ensures in
    let body =
    subst (λ ss. EmittedIn (made_of c.args.naming.now) (block_of c.args.naming.now (stmts_of ss) (Other ∷ around_of c.args.rings.now) c.args.value.next) ls (emission_of c.emit_cases.new.out) (emission_of c.emit_block.new.out)) c.deref-2.ensures.value
    c.in_ok-emit_block.ensures in
    on_ok_weaker c.put_here.result
    (λ h. tested_done c.args.naming.now (around_of c.args.rings.now) v x.tests.items (stmts_of x.body.items) c.args.value.next c.requires c.in_ok-others.ensures cases body c.in_ok-put_jump.ensures h) c.put_here.ensures

pub emit_kind-returns-in-Block : goal.emit_kind-returns-in-Block
emit_kind-returns-in-Block t c =
    let P = λ (v : _). EmittedIn (made_of c.args.naming.now) (AndRoute (route_of c.args.naming.now v (around_of c.args.rings.now) c.args.number)) (behind_of c.args.rings.now) (emission_of c.args.out.now) (emission_of c.emit_block.new.out) in
    on_ok_weaker c.emit_block.result (λ h. subst P (sym (from_block c.args.place _ _ _ c.in-Block.is c.deref.ensures.value)) h) c.emit_block.ensures

pub emit_kind-emit_block-requires : goal.emit_kind-emit_block-requires
emit_kind-emit_block-requires t c = let e = ap size_of_stmt (from_block c.args.place _ _ _ c.in-Block.is c.deref.ensures.value) in (omega (arith, e), tt)

pub emit_kind-returns-in-Switch : goal.emit_kind-returns-in-Switch
emit_kind-returns-in-Switch t c =
    let P = λ (v : _). EmittedIn (made_of c.args.naming.now) (AndRoute (route_of c.args.naming.now v (around_of c.args.rings.now) c.args.number)) (behind_of c.args.rings.now) (emission_of c.args.out.now) (emission_of c.emit_switch.new.out) in
    on_ok_weaker c.emit_switch.result (λ h. subst P (sym (from_switch c.args.place _ _ _ _ c.in-Switch.is c.deref-in-Switch.ensures.value)) h) c.emit_switch.ensures

pub emit_kind-emit_switch-requires : goal.emit_kind-emit_switch-requires
emit_kind-emit_switch-requires t c = let e = ap size_of_stmt (from_switch c.args.place _ _ _ _ c.in-Switch.is c.deref-in-Switch.ensures.value) in (omega (arith, e), tt)

pub emit_kind-returns-in-Act : goal.emit_kind-returns-in-Act
emit_kind-returns-in-Act t c =
    let P = λ (v : _). EmittedIn (made_of c.args.naming.now) (AndRoute (route_of c.args.naming.now (kind_of c.args.place v) (around_of c.args.rings.now) c.args.number)) (behind_of c.args.rings.now) (emission_of c.args.out.now) (emission_of c.emit_action.new.out) in
    on_ok_weaker c.emit_action.result (λ h. subst P (sym c.in-Act.is) (in_turn (act_of c.args.naming.now c.args.place (action_of c.in-Act.action) c.args.number) (h.within (behind_of c.args.rings.now)))) c.emit_action.ensures

pub emit_kind-returns-in-Do : goal.emit_kind-returns-in-Do
emit_kind-returns-in-Do t c =
    let P = λ (v : _). EmittedIn (made_of c.args.naming.now) (AndRoute (route_of c.args.naming.now v (around_of c.args.rings.now) c.args.number)) (behind_of c.args.rings.now) (emission_of c.args.out.now) (emission_of c.emit_do.new.out) in
    let e = from_do c.args.place _ _ _ _ c.in-Do.is ∙ ap (λ x. Do c.args.place c.in-Do.variable (expr_of c.in-Do.range.first) (expr_of c.in-Do.range.last) (option_map expr_of c.in-Do.range.step) (stmt_of x)) (sym c.deref-in-Do.ensures) in
    on_ok_weaker c.emit_do.result (λ h. subst P (sym e) h) c.emit_do.ensures

pub emit_kind-returns-in-Return : goal.emit_kind-returns-in-Return
emit_kind-returns-in-Return t c =
    let P = λ (v : _). EmittedIn (made_of c.args.naming.now) (AndRoute (route_of c.args.naming.now (kind_of c.args.place v) (around_of c.args.rings.now) c.args.number)) (behind_of c.args.rings.now) (emission_of c.args.out.now) (emission_of c.emit_return.new.out) in
    on_ok_weaker c.emit_return.result (λ h. subst P (sym c.in-Return.is) (return_within c.args.naming.now (around_of c.args.rings.now) (behind_of c.args.rings.now) c.args.place (option_map expr_of c.in-Return.e) c.args.number h)) c.emit_return.ensures

pub emit_kind-returns-in-Write : goal.emit_kind-returns-in-Write
emit_kind-returns-in-Write t c =
    let P = λ (v : _). EmittedIn (made_of c.args.naming.now) (AndRoute (route_of c.args.naming.now v (around_of c.args.rings.now) c.args.number)) (behind_of c.args.rings.now) (emission_of c.args.out.now) (emission_of c.emit_write.new.out) in
    let e = from_write c.args.place _ _ _ _ c.in-Write.is c.deref-in-Write.ensures.value in
    on_ok_weaker c.emit_write.result (λ h. subst P (sym e) (write_within c.args.naming.now (around_of c.args.rings.now) (behind_of c.args.rings.now) c.args.place (option_map expr_of c.in-Write.unit) (write_items_of c.deref-in-Write.result.now) c.args.number h)) c.emit_write.ensures

pub emit_kind-returns-in-Read : goal.emit_kind-returns-in-Read
emit_kind-returns-in-Read t c =
    let P = λ (v : _). EmittedIn (made_of c.args.naming.now) (AndRoute (route_of c.args.naming.now v (around_of c.args.rings.now) c.args.number)) (behind_of c.args.rings.now) (emission_of c.args.out.now) (emission_of c.emit_read.new.out) in
    let e = from_read c.args.place _ _ _ _ c.in-Read.is c.deref-in-Read.ensures.value in
    on_ok_weaker c.emit_read.result (λ h. subst P (sym e) (read_within c.args.naming.now (around_of c.args.rings.now) (behind_of c.args.rings.now) c.args.place (option_map expr_of c.in-Read.unit) (read_items_of c.deref-in-Read.result.now) c.args.number h)) c.emit_read.ensures

pub emit_clauses-returns-then-have_none : goal.emit_clauses-returns-then-have_none
emit_clauses-returns-then-have_none t c =
    let o = out-TypedClause c.in-Some.clause.now in
    let e = clauses_first _ _ _ c.in-Some.ensures.cases.0 in
    let none = ap have_none (sym c.deref.ensures.value) ∙ sym c.have_none.ensures ∙ c.if-have_none.true in
    let P = λ (v : _). EmittedIn (made_of c.args.naming.now) (clauses_before c.args.naming.now c.args.place (operand_of c.args.value.operand) v (clauses_of c.args.all.now) (around_of c.args.rings.now) c.args.value.next) (behind_of c.args.rings.now) (emission_of c.args.out.now) (emission_of c.emit_clauses.new.out) in
    on_ok_weaker c.emit_clauses.result (λ h. subst P (sym e) (without_constants c.args.naming.now (around_of c.args.rings.now) c.args.place (operand_of c.args.value.operand) (stmts_of o.body.items) o.fallback o.place (clauses_of c.in-Some.others.now) (clauses_of c.args.all.now) c.args.value.next o.tests.items none h)) c.emit_clauses.ensures

pub emit_clauses-returns-else-have_none : goal.emit_clauses-returns-else-have_none
emit_clauses-returns-else-have_none t c =
    let o = out-TypedClause c.in-Some.clause.now in
    let e = clauses_first _ _ _ c.in-Some.ensures.cases.0 in
    let some = ap have_none (sym c.deref.ensures.value) ∙ sym c.have_none.ensures ∙ c.if-have_none.false in
    let P = λ (v : _). EmittedIn (made_of c.args.naming.now) (clauses_before c.args.naming.now c.args.place (operand_of c.args.value.operand) v (clauses_of c.args.all.now) (around_of c.args.rings.now) c.args.value.next) (behind_of c.args.rings.now) (emission_of c.args.out.now) (emission_of c.emit_clause.new.out) in
    on_ok_weaker c.emit_clause.result (λ h. subst P (sym e) (with_constants c.args.naming.now (around_of c.args.rings.now) (operand_of c.args.value.operand) (stmts_of o.body.items) o.fallback o.place (clauses_of c.in-Some.others.now) (clauses_of c.args.all.now) c.args.value.next o.tests.items some h)) c.emit_clause.ensures

pub emit_clauses-emit_clauses-requires : goal.emit_clauses-emit_clauses-requires
emit_clauses-emit_clauses-requires t c = let e = ap size_of_clauses (clauses_first _ _ _ c.in-Some.ensures.cases.0) in (omega (arith, e), tt)

pub emit_clauses-emit_clause-requires : goal.emit_clauses-emit_clause-requires
emit_clauses-emit_clause-requires t c = let e = ap size_of_clauses (clauses_first _ _ _ c.in-Some.ensures.cases.0) in (omega (arith, e), tt)

pub emit_default-returns-then-clause : goal.emit_default-returns-then-clause
emit_default-returns-then-clause t c =
    let o = out-TypedClause c.in-Some.clause.now in
    let e = clauses_first _ _ _ c.in-Some.ensures.cases.0 in
    let P = λ (v : _). EmittedIn (made_of c.args.naming.now) (default_before c.args.naming.now v (around_of c.args.rings.now) c.args.number) (behind_of c.args.rings.now) (emission_of c.args.out.now) (emission_of c.emit_block.new.out) in
    let B = λ (ss : _). EmittedIn (made_of c.args.naming.now) (block_of c.args.naming.now (stmts_of ss) (around_of c.args.rings.now) c.args.number) (behind_of c.args.rings.now) (emission_of c.args.out.now) (emission_of c.emit_block.new.out) in
    on_ok_weaker c.emit_block.result
    (λ h. subst P (sym e) (default_here c.args.naming.now (around_of c.args.rings.now) o.tests.items o.fallback (stmts_of o.body.items) o.place (clauses_of c.in-Some.others.now) c.args.number c.if-clause.true (subst B c.deref.ensures.value h))) c.emit_block.ensures

pub emit_default-returns-else-clause : goal.emit_default-returns-else-clause
emit_default-returns-else-clause t c =
    let o = out-TypedClause c.in-Some.clause.now in
    let e = clauses_first _ _ _ c.in-Some.ensures.cases.0 in
    let P = λ (v : _). EmittedIn (made_of c.args.naming.now) (default_before c.args.naming.now v (around_of c.args.rings.now) c.args.number) (behind_of c.args.rings.now) (emission_of c.args.out.now) (emission_of c.emit_default.new.out) in
    on_ok_weaker c.emit_default.result
    (λ h. subst P (sym e) (default_behind c.args.naming.now (around_of c.args.rings.now) o.tests.items o.fallback (stmts_of o.body.items) o.place (clauses_of c.in-Some.others.now) c.args.number c.if-clause.false h)) c.emit_default.ensures

pub emit_default-emit_block-requires : goal.emit_default-emit_block-requires
emit_default-emit_block-requires t c =
    let e = ap size_of_clauses (clauses_first _ _ _ c.in-Some.ensures.cases.0) in
    let same = ap (λ ss. size_of_stmts (stmts_of ss)) c.deref.ensures.value in
    (omega (arith, e, same), tt)

pub emit_default-emit_default-requires : goal.emit_default-emit_default-requires
emit_default-emit_default-requires t c = let e = ap size_of_clauses (clauses_first _ _ _ c.in-Some.ensures.cases.0) in (omega (arith, e), tt)
