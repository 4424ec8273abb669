-- Item by item.
use Rattle.std.proofs.Common.{◌+◌, drop, map, refl, sym, ap, ◌∙◌}
use Rattle.std.proofs.lemmas.List.{drop_all}
use Rattle.efl_tree.specs.Views.{write_item_of}
use Rattle.efl_scope.proofs.TreeLemmas.{drop_next}
use Rattle.efl_types.specs.Statements.{written_faults}
use Rattle.efl_expressions.specs.FirstRule.{or_lower}
use Rattle.efl_places.proofs.RuleLemmas.{passed, ended}
use Rattle.efl_statements.proofs.WidthLemmas.{all_rule, all_next}
use Rattle.efl_statements.proofs.items.written_rules.Goals as goal

pub loop-item-init : goal.loop-item-init
loop-item-init c = λ f n stands. refl

pub loop-item-preserved : goal.loop-item-preserved
loop-item-preserved c = λ f n stands.
    let l = c.loop-item in
    let list = c.args.list.now in
    let x = c.item-item.result in
    let rest = map write_item_of (drop (l.item-index + 1) list) in
    passed l.rule c.lower-rule.result c.written_rule.result (all_rule (written_faults n) (map write_item_of (drop l.item-index list))) (all_rule (written_faults n) rest) (all_rule (written_faults n) (map write_item_of list))
    (ap (λ xs. all_rule (written_faults n) (map write_item_of xs)) (drop_next list l.item-index x c.loop-item-test.true c.item-item.is) ∙ all_next (written_faults n) (write_item_of x) rest
    ∙ ap (λ o. or_lower o (all_rule (written_faults n) rest)) (sym (c.written_rule.ensures f n stands)))
    c.lower-rule.ensures (l.invariant f n stands)

pub returns : goal.returns
returns c = λ f n stands.
    let l = c.loop-item in
    let list = c.args.list.now in
    ended l.rule (all_rule (written_faults n) (map write_item_of (drop l.item-index list))) (all_rule (written_faults n) (map write_item_of list))
    (ap (λ xs. all_rule (written_faults n) (map write_item_of xs)) (drop_all l.item-index list c.loop-item-test.false)) (l.invariant f n stands)
