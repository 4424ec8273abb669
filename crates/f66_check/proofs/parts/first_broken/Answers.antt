-- Why `first_broken` keeps its clauses.
use Rattle.std.proofs.Common.{◌≡◌, ◌∙◌, Some, List, refl, sym}
use Rattle.std.specs.List.{slice_get}
use Rattle.std.proofs.lemmas.Option.{slice_get_read}
use Rattle.f66_tree.specs.declared.statement.Stmt.{Stmt}
use Rattle.f66_names.specs.DeclarationViews.{context_in, acts_in}
use Rattle.f66_flow.specs.Under.{lines_under}
use Rattle.f66_check.specs.UnitChecks.{breaks_piece}
use Rattle.f66_check.proofs.PartLemmas.{header_first, header_clean, statement_first, statement_clean, flow_before, all_clean}
use Rattle.f66_check.proofs.parts.first_broken.Goals as goal

pub returns-in-Some-clause-first : goal.returns-in-Some-clause-first
returns-in-Some-clause-first c =
    let names = c.args.names.now.declarations in
    header_first (breaks_piece c.args.scope (context_in names) (acts_in names) (lines_under c.args.flow.now)) c.in-Some.rule (sym c.in-Some.is ∙ c.in_ok-of_header.ensures)

pub loop-i-init : goal.loop-i-init
loop-i-init c =
    let names = c.args.names.now.declarations in
    header_clean (breaks_piece c.args.scope (context_in names) (acts_in names) (lines_under c.args.flow.now)) (sym c.in_default.is ∙ c.in_ok-of_header.ensures)

pub broken_rule-requires-clause-earlier : goal.broken_rule-requires-clause-earlier
broken_rule-requires-clause-earlier c =
    let names = c.args.names.now.declarations in
    flow_before c.args.scope (context_in names) (acts_in names) (lines_under c.args.flow.now) c.loop-i.i c.loop-i.invariant

pub returns-in-Some-broken-clause-first : goal.returns-in-Some-broken-clause-first
returns-in-Some-broken-clause-first c =
    let names = c.args.names.now.declarations in
    let all : List Stmt = c.args.flow.now.labels.statements.now in
    let at : slice_get all c.loop-i.i ≡ Some c.statement-item.result = slice_get_read all _ c.loop-i.i c.statement-item.result refl c.loop-i-test.true c.statement-item.is in
    statement_first c.args.scope (context_in names) (acts_in names) all c.loop-i.i c.statement-item.result c.in-Some-broken.rule at
    (sym c.in-Some-broken.is ∙ c.in_ok-broken.ensures) c.loop-i.invariant

pub loop-i-preserved : goal.loop-i-preserved
loop-i-preserved c =
    let names = c.args.names.now.declarations in
    let all : List Stmt = c.args.flow.now.labels.statements.now in
    let at : slice_get all c.loop-i.i ≡ Some c.statement-item.result = slice_get_read all _ c.loop-i.i c.statement-item.result refl c.loop-i-test.true c.statement-item.is in
    statement_clean c.args.scope (context_in names) (acts_in names) all c.loop-i.i c.statement-item.result at
    (sym c.in_default-broken.is ∙ c.in_ok-broken.ensures) c.loop-i.invariant

pub returns-clause-first : goal.returns-clause-first
returns-clause-first c =
    let names = c.args.names.now.declarations in
    all_clean c.args.scope (context_in names) (acts_in names) c.args.flow.now.labels.statements.now c.loop-i.i c.loop-i-test.false c.loop-i.invariant
