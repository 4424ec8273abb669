-- Why the functions of statements read their nonterminals.
use Rattle.std.proofs.Common.{refl, sym, ap, ◌∙◌, map, true, false, ⊎_elim, Vec, Global}
use Rattle.f66_tree.specs.Syntax.{NoFormula}
use Rattle.f66_tree.specs.Views.{formula_of, formulas_of, chained}
use Rattle.rat_tree.specs.declared.program.RatStmt.{RatStmt}
use Rattle.rat_tree.specs.Syntax.{Block, Do, Switch, AndClause}
use Rattle.rat_tree.specs.Views.{command as command_seen, commands as commands_of, clauses as clauses_of}
use Rattle.rat_parse_table.specs.declared.table.Nonterminal.TheVariants as nonterminals
use Rattle.rat_parse_table.specs.ParseTable.{predict_at}
use Rattle.rat_parse_table.specs.declared.table.Production.TheVariants as productions
use Rattle.rat_parse_values.specs.Values.{command, range_of, clause as clause_value}
use Rattle.rat_parse_values.specs.Parts.{as_exprs, as_statements}
use Rattle.rat_parse_values.specs.Choices.{chosen}
use Rattle.rat_parse_values.specs.Statements.{labelled_value}
use Rattle.rat_parse_values.proofs.TreeLemmas.{choice_is}
use Rattle.descent.specs.Reading.{done, next}
use Rattle.rat_descent.specs.Statements.{stated, unlabelled, repeated_so}
use Rattle.rat_descent.proofs.Productions.{production, nothing, otherwise, as_value, lengthens_nothing, lengthens_more, viewed_more}
use Rattle.rat_descent.proofs.ListItems.{behind_first}
use Rattle.rat_descent.proofs.StatementLists.{statements_more, statements_line, statements_none, statements_all, clauses_more, clauses_none, clauses_all, statements_moved, for_value, for_head, repetition_is}
use Rattle.rat_descent.proofs.statements.+statement.Goals.{statements-in-LineEnd+in_ok-take_token-in-LineEnd, statements-in_default-seen+in_ok-item-in_default-seen+in_ok-push-in_default-seen}
use Rattle.rat_descent.proofs.statements.+statement.Goals as goal

pub item-returns-in_ok-place-in-Octal : goal.item-returns-in_ok-place-in-Octal
item-returns-in_ok-place-in-Octal t c =
    as_value (ap (λ n. labelled_value n (unlabelled c.in_ok-place-in-Octal.place c.in_ok-place-in-Octal.kind)) (sym c.number_of-label.ensures) ∙ sym c.marked.ensures)
    (production productions.Marked refl refl refl refl (next c.in_ok-number_token-in-Octal.ensures (next c.in_ok-place-in-Octal.ensures done)))

pub item-returns-in_ok-place-in-Type : goal.item-returns-in_ok-place-in-Type
item-returns-in_ok-place-in-Type t c = as_value (sym c.unmarked.ensures) (production productions.Unmarked refl refl refl refl (next c.in_ok-place-in-Type.ensures done))

pub item-returns-in_ok-place-in_default : goal.item-returns-in_ok-place-in_default
item-returns-in_ok-place-in_default t c =
    as_value (sym c.unmarked-in_default.ensures) (production productions.Unmarked refl refl refl refl
    (next (production productions.UntypedBare refl refl refl refl (next c.in_ok-place-in_default.ensures done)) done))

pub bare-returns-in_ok-untyped-in_default : goal.bare-returns-in_ok-untyped-in_default
bare-returns-in_ok-untyped-in_default t c = production productions.UntypedBare refl refl refl refl (next c.in_ok-untyped-in_default.ensures done)

pub untyped-returns-in_ok-take_token-in-Semicolon : goal.untyped-returns-in_ok-take_token-in-Semicolon
untyped-returns-in_ok-take_token-in-Semicolon t c = production productions.Empty refl refl refl refl (next c.in_ok-take_token-in-Semicolon.ensures done)

pub untyped-returns-in_ok-ending-in_default : goal.untyped-returns-in_ok-ending-in_default
untyped-returns-in_ok-ending-in_default t c =
    production productions.PlainStatement refl refl refl refl (next c.in_ok-place-in_default.ensures (next c.in_ok-ending-in_default.ensures.reads done))

pub statement-returns-then-not-is_at : goal.statement-returns-then-not-is_at
statement-returns-then-not-is_at t c =
    as_value (ap stated (sym c.in_ok-new.ensures.ok))
    (c.more.invariant (stated c.in_ok-statement.statement) c.item.new.reader (production productions.StatementItem refl refl refl refl (next c.in_ok-statement.ensures done)))

pub statement-more-preserved : goal.statement-more-preserved
statement-more-preserved t c = λ v s more. c.more.invariant v s (production productions.StatementLine refl refl refl refl (next c.in_ok-take_token.ensures (next more done)))

pub statements-returns-in-CloseBrace : goal.statements-returns-in-CloseBrace
statements-returns-in-CloseBrace t c =
    statements_all c.new-list.ensures.items (c.more.invariant (commands_of c.more.list.items) c.more.reader (statements_none c.more.list.items
    (⊎_elim (λ e. ap (predict_at nonterminals.Statements) e)
    (⊎_elim (λ e. ap (predict_at nonterminals.Statements) e) (λ e. ap (predict_at nonterminals.Statements) e)) c.in-CloseBrace.is)))

pub statements-more-preserved : goal.statements-more-preserved
statements-more-preserved t c = λ all s more. c.more.invariant all s (elim c.match-reader.branch [
  | statements-in-LineEnd+in_ok-take_token-in-LineEnd w ↦
      statements_line c.more.list.items w.in_ok-take_token-in-LineEnd.ensures (statements_moved w.reader-is (ap (λ (l : Vec RatStmt Global). l.items) w.list-is) more)
  | statements-in_default-seen+in_ok-item-in_default-seen+in_ok-push-in_default-seen w ↦
      statements_more c.more.list.items w.in_ok-item-in_default-seen.field-0 w.in_ok-item-in_default-seen.ensures
      (ap (λ (l : Vec RatStmt Global). l.items) w.list-is ∙ w.in_ok-push-in_default-seen.ensures.items) (statements_moved w.reader-is refl more)
])

pub block-returns : goal.block-returns
block-returns t c =
    let p = c.in_ok-place.field-0.now.place in
    let list = c.in_ok-list.ensures in
    as_value (ap (λ ss. command p (Block p ss)) list.is ∙ sym c.block.ensures)
    (production productions.Braces refl refl c.open_production.ensures c.close_production.ensures (next c.in_ok-place.ensures (next list.reads (next c.in_ok-take_token.ensures done))))

pub conditional-returns : goal.conditional-returns
conditional-returns t c =
    let p = c.in_ok-place.field-0.now.place in
    let f = formula_of c.in_ok-test.test in
    let body = command_seen c.in_ok-body.body.value in
    let other = c.in_ok-other.ensures in
    as_value (ap (command p) (choice_is p f body other.value ∙ ap (chosen p f body) other.is) ∙ sym c.choose.ensures)
    (production productions.IfStatement refl refl c.open_production.ensures c.close_production.ensures
    (next c.in_ok-place.ensures (next c.in_ok-test.ensures (next c.in_ok-body.ensures (next other.reads done)))))

pub else_part-returns-in-Else : goal.else_part-returns-in-Else
else_part-returns-in-Else t c = record {
  value = stated c.in_ok-statement-in-Else.field-0.value;
  reads = c.more.invariant (stated c.in_ok-statement-in-Else.field-0.value) c.statement.new.reader
      (production productions.ElseBody refl refl refl refl (next c.in_ok-take_token-in-Else.ensures (next c.in_ok-statement-in-Else.ensures done)));
  is = refl;
}

pub else_part-returns-then-is_predicted : goal.else_part-returns-then-is_predicted
else_part-returns-then-is_predicted t c = record {
  value = _;
  reads = c.more.invariant _ c.more.reader (nothing productions.NoElse refl refl (c.is_predicted.ensures c.if-is_predicted.true));
  is = refl;
}

pub else_part-more-preserved : goal.else_part-more-preserved
else_part-more-preserved t c = λ v s more. c.more.invariant v s (production productions.ElseLine refl refl refl refl (next c.in_ok-take_token-in-LineEnd.ensures (next more done)))

pub while_loop-returns : goal.while_loop-returns
while_loop-returns t c =
    production productions.WhileStatement refl refl c.open_production.ensures c.close_production.ensures
    (next c.in_ok-place.ensures (next c.in_ok-test.ensures (next c.in_ok-body.ensures done)))

pub for_loop-returns : goal.for_loop-returns
for_loop-returns t c =
    let p = c.in_ok-place.field-0.now.place in
    let first = c.in_ok-first.ensures in
    let test = c.in_ok-test.ensures in
    let step = c.in_ok-step.ensures in
    let body = command_seen c.in_ok-body.body.value in
    as_value (ap (command p) (for_value p body first.is test.is step.is ∙ for_head p body (sym c.in_ok-head.ensures.ok)))
    (production productions.ForStatement refl refl c.open_production.ensures c.close_production.ensures (next c.in_ok-place.ensures (next c.in_ok-take_token.ensures
    (next first.reads (next c.in_ok-take_token-2.ensures (next test.reads (next c.in_ok-take_token-3.ensures (next step.reads
    (next c.in_ok-take_token-4.ensures (next c.in_ok-body.ensures done))))))))))

pub repeat_loop-returns : goal.repeat_loop-returns
repeat_loop-returns t c =
    let p = c.in_ok-place.field-0.now.place in
    let body = command_seen c.in_ok-body.body.value in
    let until = c.in_ok-until.ensures in
    as_value (ap (command p) (repetition_is p body until.value ∙ ap (repeated_so p body) until.is) ∙ sym c.repeat.ensures)
    (production productions.RepeatStatement refl refl c.open_production.ensures c.close_production.ensures
    (next c.in_ok-place.ensures (next c.in_ok-body.ensures (next until.reads done))))

pub do_loop-returns : goal.do_loop-returns
do_loop-returns t c =
    let p = c.in_ok-place.field-0.now.place in
    let r = range_of c.in_ok-range.range in
    as_value (ap (λ x. command p (Do p x r.first r.last r.step (command_seen c.in_ok-body.body.value))) (sym c.in_ok-variable.ensures) ∙ sym c.in_ok-count.ensures)
    (production productions.DoStatement refl refl c.open_production.ensures c.close_production.ensures (next c.in_ok-place.ensures (next c.in_ok-name_token.ensures
    (next c.in_ok-take_token.ensures (next c.in_ok-range.ensures (next c.in_ok-body.ensures done))))))

pub switch-returns : goal.switch-returns
switch-returns t c =
    let p = c.in_ok-place.field-0.now.place in
    let list = c.in_ok-list.ensures in
    as_value (ap (λ cs. command p (Switch p (formula_of c.in_ok-test.test) cs)) list.is ∙ sym c.switch_by.ensures)
    (production productions.SwitchStatement refl refl c.open_production.ensures c.close_production.ensures (next c.in_ok-place.ensures (next c.in_ok-test.ensures
    (next c.in_ok-lines.ensures.reads (next c.in_ok-take_token.ensures (next c.in_ok-lines-2.ensures.reads (next list.reads (next c.in_ok-take_token-2.ensures done))))))))

pub clauses-returns-in-CloseBrace : goal.clauses-returns-in-CloseBrace
clauses-returns-in-CloseBrace t c =
    clauses_all c.new-list.ensures.items (c.more.invariant (clauses_of c.more.list.items) c.more.reader
    (clauses_none c.more.list.items (ap (predict_at nonterminals.Clauses) c.in-CloseBrace.is)))

pub clauses-more-preserved : goal.clauses-more-preserved
clauses-more-preserved t c = λ all s more. c.more.invariant all s
    (clauses_more c.more.list.items c.in_ok-clause-in-Case.field-0 c.in_ok-clause-in-Case.ensures c.in_ok-push-in-Case.ensures.items more)

pub clause-returns : goal.clause-returns
clause-returns t c =
    let p = c.in_ok-place.field-0.now.place in
    let body = c.in_ok-body.ensures in
    as_value (ap (λ ss. clause_value (AndClause NoFormula true ss p)) body.is ∙ ap clause_value (sym c.untested.ensures))
    (production productions.DefaultClause refl refl refl refl (next c.in_ok-place.ensures (next c.in_ok-take_token.ensures (next body.reads done))))

pub case-returns-then-not-is_at : goal.case-returns-then-not-is_at
case-returns-then-not-is_at t c =
    let p = c.in_ok-place.field-0.now.place in
    let body = c.in_ok-body.ensures in
    let rest = c.more.invariant (map formula_of c.more.tests.items) c.more.reader
    (lengthens_nothing productions.NoMoreExpr as_exprs refl refl refl (otherwise _ _ _ (sym c.is_at.ensures ∙ c.if-not-is_at.true))) in
    as_value (ap (λ fs. clause_value (AndClause (chained fs) false (as_statements body.value) p))
    (behind_first formula_of c.in_ok-expression.field-0 c.new-tests.ensures.items c.in_ok-push.ensures.items rest.is)
    ∙ ap (λ ss. clause_value (AndClause (formulas_of c.more.tests.items) false ss p)) body.is ∙ ap clause_value (sym c.tested.ensures))
    (production productions.CaseClause refl refl refl refl (next c.in_ok-place.ensures (next c.in_ok-expression.ensures (next rest.reads
    (next c.in_ok-take_token.ensures (next body.reads done))))))

pub case-more-preserved : goal.case-more-preserved
case-more-preserved t c = λ all s more. c.more.invariant all s
    (lengthens_more as_exprs (map formula_of c.more.tests.items) {v = more.value}
    (production productions.MoreExpr refl refl refl refl (next c.in_ok-take_token-2.ensures (next c.in_ok-expression-2.ensures (next more.reads done))))
    refl (viewed_more formula_of c.more.tests.items c.in_ok-expression-2.field-0 c.in_ok-push-2.ensures.items) more.is)
