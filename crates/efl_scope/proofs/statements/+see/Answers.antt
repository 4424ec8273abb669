-- Blocks, switches and clauses.
use Rattle.std.proofs.Common.{ap, ◌∙◌}
use Rattle.std.proofs.lemmas.Result.{on_ok_weaker}
use Rattle.efl_tree.specs.declared.statement.LoopKind.TheVariants.{Switch}
use Rattle.efl_tree.specs.Views.{stmts_of}
use Rattle.efl_scope.specs.Sights.{in_loop, reaching, within_seen, statements_seen}
use Rattle.efl_scope.specs.AreaViews.{agreeing_of}
use Rattle.efl_scope.specs.WalkViews.{walk_of}
use Rattle.efl_scope.specs.SettingViews.{setting_of}
use Rattle.efl_scope.proofs.TreeLemmas.{block_is, switch_is, clause_passed}
use Rattle.efl_scope.proofs.statements.+see.Goals as goal

pub see_clauses-loop-clause-preserved : goal.see_clauses-loop-clause-preserved
see_clauses-loop-clause-preserved t c =
    let l = c.loop-clause in
    let agreeing = agreeing_of c.args.agreeing.now in
    let a = in_loop Switch (setting_of c.args.setting.now) in
    clause_passed agreeing a c.args.list.now l.clause-index c.clause-item.result (walk_of l.walk) (walk_of c.see_list_of.new.walk) c.loop-clause-test.true c.clause-item.is
    (c.in_ok-see_list_of.ensures ∙ ap (λ ss. statements_seen agreeing (reaching (stmts_of ss) a) (stmts_of ss) (walk_of l.walk)) c.deref.ensures.value)
    ∙ l.invariant

pub see_within-returns-in-Block : goal.see_within-returns-in-Block
see_within-returns-in-Block t c =
    on_ok_weaker c.see_block.result
    (λ e. e ∙ ap (λ k. within_seen (agreeing_of c.args.agreeing.now) (setting_of c.args.setting.now) k (walk_of c.args.walk.now))
    (block_is c.args.kind.now c.in-Block.declarations c.in-Block.list c.deref.result.now c.deref-in-Block.result.now c.in-Block.is c.deref.ensures.value c.deref-in-Block.ensures.value))
    c.see_block.ensures

pub see_within-returns-in-Switch : goal.see_within-returns-in-Switch
see_within-returns-in-Switch t c =
    on_ok_weaker c.see_clauses.result
    (λ e. e ∙ ap (λ k. within_seen (agreeing_of c.args.agreeing.now) (setting_of c.args.setting.now) k (walk_of c.args.walk.now))
    (switch_is c.args.kind.now c.in-Switch.field-0 c.in-Switch.list c.deref-in-Switch.result.now c.in-Switch.is c.deref-in-Switch.ensures.value))
    c.see_clauses.ensures
