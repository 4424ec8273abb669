-- One subscript more is counted.
use Rattle.std.proofs.Common.{◌≡◌, ◌<◌, ◌≤◌, length, rules, arith}
use Rattle.efl_tree.specs.Views.{exprs_of}
use Rattle.efl_types.specs.Presets.{elements_before}
use Rattle.efl_initial_values.proofs.OffsetLemmas.{on_from_zero, elements_next, elements_none, elements_done, other_lengths, same_lengths}
use Rattle.efl_initial_values.proofs.subscripts.elements_before.Goals as goal

pub returns-then-not-are_as_many : goal.returns-then-not-are_as_many
returns-then-not-are_as_many c = other_lengths c.args.bounds.now c.args.subscripts.now c.are_as_many.result c.are_as_many.ensures c.if-not-are_as_many.true

pub loop-number-init : goal.loop-number-init
loop-number-init c = on_from_zero (elements_before 1 c.args.bounds.now (exprs_of c.args.subscripts.now))

pub returns-in-None : goal.returns-in-None
returns-in-None c =
    let l = c.loop-number in
    let bs = c.args.bounds.now in
    let es = c.args.subscripts.now in
    let same : length bs ≡ length es = same_lengths (length bs) (length es) c.are_as_many.result c.are_as_many.ensures c.if-not-are_as_many.false in
    let within : l.number < length bs = search rules in
    elements_none bs es l.number l.before l.step c.bound_at-bound.result _ within (omega (arith, within, same)) c.bound_at-bound.ensures c.in-None.ensures l.invariant

pub loop-number-preserved : goal.loop-number-preserved
loop-number-preserved c =
    let l = c.loop-number in
    let bs = c.args.bounds.now in
    let es = c.args.subscripts.now in
    let same : length bs ≡ length es = same_lengths (length bs) (length es) c.are_as_many.result c.are_as_many.ensures c.if-not-are_as_many.false in
    let within : l.number < length bs = search rules in
    elements_next bs es l.number l.before l.step c.in-Some.steps c.multiply-product.result c.add-before.result c.many.result c.multiply-step.result c.bound_at-bound.result _ within (omega (arith, within, same)) c.bound_at-bound.ensures
    c.in-Some.ensures c.multiply-product.ensures c.add-before.ensures c.many.ensures c.multiply-step.ensures l.invariant

pub returns : goal.returns
returns c =
    let l = c.loop-number in
    let bs = c.args.bounds.now in
    let es = c.args.subscripts.now in
    let past : length bs ≤ l.number = search rules in
    elements_done bs es l.number l.before l.step c.min.result _ past (same_lengths (length bs) (length es) c.are_as_many.result c.are_as_many.ensures c.if-not-are_as_many.false) (omega (arith, c.min.ensures)) l.invariant
