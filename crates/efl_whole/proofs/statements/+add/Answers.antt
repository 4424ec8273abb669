-- Blocks, switches and clauses.
use Rattle.std.proofs.Common.{ap, ◌∙◌}
use Rattle.std.proofs.lemmas.Result.{on_ok_weaker}
use Rattle.efl_tree.specs.Views.{stmts_of, decls_of}
use Rattle.efl_scope.proofs.TreeLemmas.{block_is, switch_is}
use Rattle.efl_whole.specs.RoleViews.{roles_of, listed_of}
use Rattle.efl_whole.specs.Calls.{within_calls, statements_calls}
use Rattle.efl_whole.specs.CallViews.{calls_of, site_of}
use Rattle.efl_whole.proofs.UseLemmas.{clause_passed, block_passed}
use Rattle.efl_whole.proofs.statements.+add.Goals as goal

pub add_clauses-loop-clause-preserved : goal.add_clauses-loop-clause-preserved
add_clauses-loop-clause-preserved t c =
    let l = c.loop-clause in
    let s = site_of c.args.site.now in
    clause_passed s c.args.list.now l.clause-index c.clause-item.result (calls_of l.calls) (calls_of c.add_statements.new.calls) c.loop-clause-test.true c.clause-item.is
    (c.in_ok-add_statements.ensures ∙ ap (λ ss. statements_calls s (stmts_of ss) (calls_of l.calls)) c.deref.ensures.value)
    ∙ l.invariant

pub add_within-returns-in-Block : goal.add_within-returns-in-Block
add_within-returns-in-Block t c =
    on_ok_weaker c.add_block.result
    (λ e. e ∙ ap (λ k. within_calls (site_of c.args.site.now) k (calls_of c.args.calls.now))
    (block_is c.args.kind.now c.in-Block.declarations c.in-Block.list c.deref.result.now c.deref-in-Block.result.now c.in-Block.is c.deref.ensures.value c.deref-in-Block.ensures.value))
    c.add_block.ensures

pub add_within-returns-in-Switch : goal.add_within-returns-in-Switch
add_within-returns-in-Switch t c =
    on_ok_weaker c.add_clauses.result
    (λ e. e ∙ ap (λ k. within_calls (site_of c.args.site.now) k (calls_of c.args.calls.now))
    (switch_is c.args.kind.now c.in-Switch.field-0 c.in-Switch.list c.deref-in-Switch.result.now c.in-Switch.is c.deref-in-Switch.ensures.value))
    c.add_clauses.ensures

pub add_block-returns : goal.add_block-returns
add_block-returns t c =
    on_ok_weaker c.add_inside.result
    (block_passed (site_of c.args.site.now) (decls_of c.args.declarations.now) (stmts_of c.args.list.now) (listed_of c.in_ok-block.block) (roles_of c.add_declarations.new.own) (calls_of c.args.calls.now)
    (calls_of c.add_declarations.new.calls) (calls_of c.add_inside.new.calls) c.in_ok-block.ensures c.in_ok-add_declarations.ensures.names c.in_ok-add_declarations.ensures.calls)
    c.add_inside.ensures
