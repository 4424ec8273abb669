-- One statement more, and the end.
use Rattle.std.proofs.Common.{◌++◌, List, ap, refl, sym, subst, ◌∙◌}
use Rattle.f66_tree.specs.Syntax.{Line}
use Rattle.f66_tree.specs.Views.{lines_of}
use Rattle.code_emit.specs.Plans.{formats_in}
use Rattle.code_emit.proofs.FormatLemmas.{AreShallow, statement_shallow, statements_shallow, formats_next, formats_end}
use Rattle.code_emit.proofs.formats.put_plans.Goals as goal

pub loop-statement-init : goal.loop-statement-init
loop-statement-init g c = record {
  shallow = subst (λ (ls : List Line). AreShallow (formats_in ls)) (sym c.statements-statements.ensures) c.requires;
  put = refl;
}

pub put_plan-requires : goal.put_plan-requires
put_plan-requires g c =
    let l = c.loop-statement in
    statement_shallow c.statements-statements.result.now l.statement-index c.statement-item.result c.loop-statement-test.true c.statement-item.is l.invariant.shallow

pub loop-statement-preserved : goal.loop-statement-preserved
loop-statement-preserved g c =
    let l = c.loop-statement in
    let all = c.statements-statements.result.now in
    record {
      shallow = statements_shallow all l.statement-index c.statement-item.result c.loop-statement-test.true c.statement-item.is l.invariant.shallow;
      put = formats_next all l.statement-index c.statement-item.result c.loop-statement-test.true c.statement-item.is l.plans.items c.put_plan.new.plans.items (c.args.plans.now.items ++ formats_in (lines_of all)) c.in_ok-put_plan.ensures l.invariant.put;
    }

pub returns : goal.returns
returns g c =
    let l = c.loop-statement in
    let all = c.statements-statements.result.now in
    formats_end all l.statement-index l.plans.items (c.args.plans.now.items ++ formats_in (lines_of all)) c.loop-statement-test.false l.invariant.put
    ∙ ap (λ ls. c.args.plans.now.items ++ formats_in ls) c.statements-statements.ensures
