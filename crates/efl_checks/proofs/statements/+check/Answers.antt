-- Statement by statement.
use Rattle.std.proofs.Common.{◌≡◌, ◌+◌, ℤ, Bool, ◌||◌, false, List, [], ◌∷◌, ◌++◌, drop, refl, sym, subst}
use Rattle.std.proofs.lemmas.List.{drop_all}
use Rattle.std.specs.Result.{OnOk}
use Rattle.std.proofs.lemmas.Result.{on_ok_weaker}
use Rattle.efl_tree.specs.declared.statement.LoopKind.TheVariants as loops
use Rattle.efl_tree.specs.declared.statement.EflCase.{out-EflCase}
use Rattle.efl_tree.specs.Views.{stmt_of, kind_of, stmts_of, decls_of, cases_of}
use Rattle.efl_scope.specs.Parts.{part, States, into, in_list, in_loop, parts_of, parts_within, parts_in, clauses_in}
use Rattle.efl_scope.proofs.TreeLemmas.{drop_next, block_is, switch_is}
use Rattle.efl_types.specs.Statements.{clause_faults}
use Rattle.efl_expressions.specs.FirstRule.{first_rule}
use Rattle.efl_statements.specs.Clauses.{AreChosen}
use Rattle.efl_checks.specs.Walks.{IsFit, KindFits, AllFit, CasesFit, OtherFits, IsListed, Reads, first_parts, other_parts}
use Rattle.efl_checks.proofs.WalkLemmas.{reads_one, reads_none, reads_on, reads_fit, into_read, at_read, list_read, loop_read, ReadsKind, until_read, branches_read, plain_read, PartsLeft, parts_begun, parts_ended, statement_passed, ClausesLeft, clauses_begun, clause_passed, clauses_ended, clauses_next}
use Rattle.efl_checks.proofs.BlockLemmas.{inside_read, block_read}
use Rattle.efl_checks.proofs.statements.+check.Goals as goal

pub check_at-returns : goal.check_at-returns
check_at-returns t c =
    let x = stmt_of c.args.statement.now in
    on_ok_weaker c.check_statement.result
    (at_read c.args.types.now c.check_statement.new.types c.args.site.now c.site_at-inside.result c.args.walk.now c.check_statement.new.walk (IsFit x) c.args.number _ (λ a. parts_of a x)
    c.site_at-inside.ensures refl)
    c.check_statement.ensures

pub check_body-returns : goal.check_body-returns
check_body-returns t c =
    let y = c.args.types.now in
    let z = c.check_statements.new.types in
    let s = c.site_at-inside.result in
    let p = c.args.walk.now in
    let q = c.check_statements.new.walk in
    let ss = stmts_of c.args.list.now in
    on_ok_weaker c.check_statements.result
    (λ reads. into_read y z c.args.site.now s p q (AllFit ss) c.args.number _ (λ a. parts_in 0 (in_list ss a) ss) c.site_at-inside.ensures refl (list_read y z s p q (AllFit ss) ss reads))
    c.check_statements.ensures

pub check_inside-returns : goal.check_inside-returns
check_inside-returns t c =
    on_ok_weaker c.check_statements.result
    (inside_read c.args.types.now c.check_statements.new.types c.args.site.now c.site_at-inside.result c.args.known.now _ _ c.args.walk.now c.check_statements.new.walk (stmts_of c.args.list.now)
    c.site_at-inside.ensures (λ x. refl) (λ x. refl))
    c.check_statements.ensures

pub check_block-returns : goal.check_block-returns
check_block-returns t c =
    on_ok_weaker c.check_inside.result
    (block_read c.args.types.now c.open_block.new.types c.check_declarations.new.types c.check_inside.new.types c.args.site.now c.site_at-inner.result c.in_ok-known.known c.check_declarations.new.known
    c.args.walk.now c.check_declarations.new.walk c.check_inside.new.walk (decls_of c.args.declarations.now) (stmts_of c.args.list.now) c.site_at-inner.ensures c.in_ok-known.ensures
    c.in_ok-check_declarations.ensures)
    c.check_inside.ensures

pub check_first-returns-in-None : goal.check_first-returns-in-None
check_first-returns-in-None t c =
    let x = stmt_of c.args.body.now in
    let s = c.args.site.now in
    subst (λ o. OnOk c.check_statement.result (Reads c.args.types.now s c.args.walk.now (IsFit x × IsListed s.position.now) (first_parts x o) c.check_statement.new.types c.check_statement.new.walk))
    (sym c.in-None.is) c.check_statement.ensures

pub check_first-returns-in-Some : goal.check_first-returns-in-Some
check_first-returns-in-Some t c =
    let x = stmt_of c.args.body.now in
    let s = c.args.site.now in
    let y = c.args.types.now in
    let z = c.check_at.new.types in
    let p = c.args.walk.now in
    let q = c.check_at.new.walk in
    subst (λ o. OnOk c.check_at.result (Reads y s p (IsFit x × IsListed s.position.now) (first_parts x o) z q)) (sym c.in-Some.is)
    (on_ok_weaker c.check_at.result (reads_fit y z s p q (IsFit x) (IsFit x × IsListed s.position.now) (λ a. parts_of (into 0 a) x) (λ fit. fit.0)) c.check_at.ensures)

pub check_other-returns-in-None : goal.check_other-returns-in-None
check_other-returns-in-None t c =
    subst (λ o. Reads c.args.types.now c.args.site.now c.args.walk.now (OtherFits o) (other_parts o) c.args.types.now c.args.walk.now) (sym c.in-None.is)
    (reads_none c.args.types.now c.args.site.now c.args.walk.now (Unit {0}))

pub check_other-returns-in-Some : goal.check_other-returns-in-Some
check_other-returns-in-Some t c =
    let s = c.args.site.now in
    let y = c.args.types.now in
    let z = c.check_at.new.types in
    let p = c.args.walk.now in
    let q = c.check_at.new.walk in
    subst (λ o. OnOk c.check_at.result (Reads y s p (OtherFits o) (other_parts o) z q)) (sym c.in-Some.is)
    (subst (λ v. OnOk c.check_at.result (Reads y s p (IsFit (stmt_of v)) (λ a. parts_of (into 1 a) (stmt_of v)) z q)) c.deref.ensures c.check_at.ensures)

pub check_statement-returns : goal.check_statement-returns
check_statement-returns t c =
    let x = c.args.statement.now in
    let y = c.args.types.now in
    let s = c.args.site.now in
    let p = c.args.walk.now in
    let m = c.note_statement.new.walk in
    let k = kind_of x.kind in
    let Fit = KindFits k × IsListed s.position.now in
    on_ok_weaker c.check_within.result
    (reads_on y y c.check_within.new.types s p m c.check_within.new.walk Fit (λ a. part a x.place (States x.labels.items k) ∷ []) (λ a. parts_within a k)
    (reads_one y s p m Fit (λ a. part a x.place (States x.labels.items k) ∷ []) (c.in_ok-note_statement.ensures x.labels.items)))
    c.check_within.ensures

pub check_statements-loop-number-init : goal.check_statements-loop-number-init
check_statements-loop-number-init t c =
    let ss = stmts_of c.args.list.now in parts_begun c.args.types.now c.args.site.now c.args.walk.now (AllFit ss) (λ a. parts_in 0 a ss)

pub check_statements-loop-number-preserved : goal.check_statements-loop-number-preserved
check_statements-loop-number-preserved t c =
    let l = c.loop-number in
    let list = c.args.list.now in
    let ss = stmts_of list in
    let x = c.index-list-number.result in
    let y = c.args.types.now in
    let s = c.args.site.now in
    let p = c.args.walk.now in
    statement_passed y l.types c.check_at.new.types s p l.walk c.check_at.new.walk ss l.number (stmt_of x) (stmts_of (drop (l.number + 1) list))
    (subst (λ xs. PartsLeft y s p (AllFit ss) (λ a. parts_in 0 a ss) l.types l.walk (AllFit (stmts_of xs)) (λ a. parts_in l.number a (stmts_of xs)))
    (drop_next list l.number x c.loop-number-test.true c.index-list-number.is) l.invariant)
    c.in_ok-check_at.ensures

pub check_statements-returns : goal.check_statements-returns
check_statements-returns t c =
    let l = c.loop-number in
    let list = c.args.list.now in
    let ss = stmts_of list in
    let y = c.args.types.now in
    let s = c.args.site.now in
    let p = c.args.walk.now in
    parts_ended y l.types s p l.walk (AllFit ss) (Unit {0}) (λ a. parts_in 0 a ss)
    (subst (λ xs. PartsLeft y s p (AllFit ss) (λ a. parts_in 0 a ss) l.types l.walk (AllFit (stmts_of xs)) (λ a. parts_in l.number a (stmts_of xs))) (drop_all l.number list c.loop-number-test.false)
    l.invariant)

pub check_clauses-loop-number-init : goal.check_clauses-loop-number-init
check_clauses-loop-number-init t c = clauses_begun c.args.types.now c.args.site.now c.args.walk.now (cases_of c.args.list.now) c.new-chosen.result c.new-chosen.ensures

pub check_clauses-loop-number-preserved : goal.check_clauses-loop-number-preserved
check_clauses-loop-number-preserved t c =
    let l = c.loop-number in
    let list = c.args.list.now in
    let x = c.index-list-number.result in
    let o = out-EflCase x in
    let y = c.args.types.now in
    let s = c.args.site.now in
    let p = c.args.walk.now in
    let new = c.clause_rule.new.chosen in
    let m = record l.walk { progress = c.note.new.self } in
    let rule = c.in_ok-rule.rule in
    let w = c.check_body.new.types in
    let r = c.check_body.new.walk in
    clause_passed y l.types w s p l.walk m r (cases_of list) l.chosen new l.number o.tests.items o.fallback (stmts_of o.body.items) o.place (cases_of (drop (l.number + 1) list)) rule
    (subst (ClausesLeft y s p (cases_of list) l.types l.walk l.chosen l.number) (clauses_next list l.number x c.loop-number-test.true c.index-list-number.is) l.invariant)
    (subst (λ zs. (before : List ℤ) (seen : Bool) → AreChosen before seen l.chosen → rule ≡ first_rule (clause_faults zs o.fallback before seen)) c.deref.ensures.value c.in_ok-rule.ensures.first)
    (subst (λ zs. (before : List ℤ) (seen : Bool) → AreChosen before seen l.chosen → AreChosen (before ++ zs) (seen || o.fallback) new) c.deref.ensures.value c.in_ok-rule.ensures.chosen)
    c.note.ensures refl refl
    (subst (λ xs. Reads l.types s m (AllFit (stmts_of xs)) (λ a. parts_in 0 (in_list (stmts_of xs) (into l.number a)) (stmts_of xs)) w r) c.deref-in-loop-number.ensures.value c.in_ok-check_body.ensures)

pub check_clauses-returns : goal.check_clauses-returns
check_clauses-returns t c =
    let l = c.loop-number in
    let list = c.args.list.now in
    clauses_ended c.args.types.now l.types c.args.site.now c.args.walk.now l.walk (cases_of list) l.chosen l.number
    (subst (λ xs. ClausesLeft c.args.types.now c.args.site.now c.args.walk.now (cases_of list) l.types l.walk l.chosen l.number (cases_of xs)) (drop_all l.number list c.loop-number-test.false) l.invariant)

pub check_within-returns-in-Block : goal.check_within-returns-in-Block
check_within-returns-in-Block t c =
    subst (λ k. OnOk c.check_block.result (ReadsKind c.args.types.now c.args.site.now c.args.walk.now k c.check_block.new.types c.check_block.new.walk))
    (block_is c.args.kind.now c.in-Block.declarations c.in-Block.list c.deref.result.now c.deref-in-Block.result.now c.in-Block.is c.deref.ensures.value c.deref-in-Block.ensures.value)
    c.check_block.ensures

pub check_within-returns-in_ok-check_first-in-If : goal.check_within-returns-in_ok-check_first-in-If
check_within-returns-in_ok-check_first-in-If t c =
    let y = c.args.types.now in
    let z = c.check_first.new.types in
    let w = c.check_other.new.types in
    let s = c.args.site.now in
    let p = c.args.walk.now in
    let q = c.check_first.new.walk in
    let r = c.check_other.new.walk in
    let o = c.in-If.other in
    subst (λ k. OnOk c.check_other.result (ReadsKind y s p (kind_of k) w r)) (sym c.in-If.is)
    (on_ok_weaker c.check_other.result
    (branches_read y z w s p q r c.in-If.field-0 c.in-If.body o
    (subst (λ v. Reads y s p (IsFit (stmt_of v) × IsListed s.position.now) (first_parts (stmt_of v) o) z q) c.deref-in-If.ensures c.in_ok-check_first-in-If.ensures))
    c.check_other.ensures)

pub check_within-returns-in-While : goal.check_within-returns-in-While
check_within-returns-in-While t c =
    let y = c.args.types.now in
    let z = c.check_statement.new.types in
    let s = c.args.site.now in
    let p = c.args.walk.now in
    let q = c.check_statement.new.walk in
    let x = stmt_of c.in-While.body.value in
    subst (λ k. OnOk c.check_statement.result (ReadsKind y s p (kind_of k) z q)) (sym c.in-While.is)
    (on_ok_weaker c.check_statement.result (loop_read loops.While y z s p q (IsFit x × IsListed s.position.now) (λ a. parts_of a x))
    (subst (λ v. OnOk c.check_statement.result (Reads y s p (IsFit (stmt_of v) × IsListed s.position.now) (λ a. parts_of a (stmt_of v)) z q)) c.deref-in-While.ensures c.check_statement.ensures))

pub check_within-returns-in-For : goal.check_within-returns-in-For
check_within-returns-in-For t c =
    let y = c.args.types.now in
    let z = c.check_statement-in-For.new.types in
    let s = c.args.site.now in
    let p = c.args.walk.now in
    let q = c.check_statement-in-For.new.walk in
    let x = stmt_of c.in-For.body.value in
    subst (λ k. OnOk c.check_statement-in-For.result (ReadsKind y s p (kind_of k) z q)) (sym c.in-For.is)
    (on_ok_weaker c.check_statement-in-For.result (loop_read loops.For y z s p q (IsFit x × IsListed s.position.now) (λ a. parts_of a x))
    (subst (λ v. OnOk c.check_statement-in-For.result (Reads y s p (IsFit (stmt_of v) × IsListed s.position.now) (λ a. parts_of a (stmt_of v)) z q)) c.deref-in-For.ensures c.check_statement-in-For.ensures))

pub check_within-returns-in_ok-check_statement-in-Repeat : goal.check_within-returns-in_ok-check_statement-in-Repeat
check_within-returns-in_ok-check_statement-in-Repeat t c =
    let y = c.args.types.now in
    let z = c.check_statement-in-Repeat.new.types in
    let s = c.args.site.now in
    let p = c.args.walk.now in
    let q = c.check_statement-in-Repeat.new.walk in
    let r = c.note_until.new.walk in
    let x = c.in-Repeat.body in
    subst (λ k. OnOk c.note_until.result (ReadsKind y s p (kind_of k) z r)) (sym c.in-Repeat.is)
    (on_ok_weaker c.note_until.result
    (until_read y z s p q r (stmt_of x.value) c.in-Repeat.until
    (subst (λ v. Reads y s p (IsFit (stmt_of v) × IsListed s.position.now) (λ a. parts_of a (stmt_of v)) z q) c.deref-in-Repeat.ensures c.in_ok-check_statement-in-Repeat.ensures))
    c.note_until.ensures)

pub check_within-returns-in-Do : goal.check_within-returns-in-Do
check_within-returns-in-Do t c =
    let y = c.args.types.now in
    let z = c.check_statement-in-Do.new.types in
    let s = c.args.site.now in
    let p = c.args.walk.now in
    let q = c.check_statement-in-Do.new.walk in
    let x = stmt_of c.in-Do.body.value in
    subst (λ k. OnOk c.check_statement-in-Do.result (ReadsKind y s p (kind_of k) z q)) (sym c.in-Do.is)
    (on_ok_weaker c.check_statement-in-Do.result (loop_read loops.Do y z s p q (IsFit x × IsListed s.position.now) (λ a. parts_of a x))
    (subst (λ v. OnOk c.check_statement-in-Do.result (Reads y s p (IsFit (stmt_of v) × IsListed s.position.now) (λ a. parts_of a (stmt_of v)) z q)) c.deref-in-Do.ensures c.check_statement-in-Do.ensures))

pub check_within-returns-in-Switch : goal.check_within-returns-in-Switch
check_within-returns-in-Switch t c =
    let y = c.args.types.now in
    let z = c.check_clauses.new.types in
    let s = c.args.site.now in
    let p = c.args.walk.now in
    let q = c.check_clauses.new.walk in
    let cs = cases_of c.deref-in-Switch.result.now in
    subst (λ k. OnOk c.check_clauses.result (ReadsKind y s p k z q)) (switch_is c.args.kind.now c.in-Switch.field-0 c.in-Switch.list c.deref-in-Switch.result.now c.in-Switch.is c.deref-in-Switch.ensures.value)
    (on_ok_weaker c.check_clauses.result
    (λ reads. reads_fit y z s p q (CasesFit cs) (CasesFit cs × IsListed s.position.now) (λ a. clauses_in 0 (in_loop loops.Switch a) [] false cs) (λ fit. fit.0)
    (loop_read loops.Switch y z s p q (CasesFit cs) (λ a. clauses_in 0 a [] false cs) reads))
    c.check_clauses.ensures)

pub check_within-returns-in-Empty : goal.check_within-returns-in-Empty
check_within-returns-in-Empty t c = plain_read c.args.types.now c.args.site.now c.args.walk.now c.args.kind.now c.in-Empty.is
