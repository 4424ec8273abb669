-- The first part that gives a name once more, or one part more that does not.
use Rattle.std.proofs.Common.{◌≤◌, ◌∙◌, length, map, sym, arith}
use Rattle.std.proofs.lemmas.List.{length-map}
use Rattle.f66_tree.specs.Views.{line_of, routine_of}
use Rattle.linker.specs.CallViews.{units_in}
use Rattle.linker.proofs.PartLemmas.{got_mapped}
use Rattle.linker.proofs.RepeatLemmas.{first_line, parts_more, parts_all}
use Rattle.linker.proofs.duplicates.first_in_unit.Goals as goal

pub returns-then-repeats_block : goal.returns-then-repeats_block
returns-then-repeats_block c =
    let xs = c.args.unit.now.statements.items in
    let n = c.loop-statement.statement-index in
    let s = c.statement-item.result in
    let here = got_mapped line_of xs n s (rw c.deref-statement-items.ensures.value at c.loop-statement-test.true) (rw c.deref-statement-items.ensures.value at c.statement-item.is) in
    first_line (units_in c.args.calls.now) c.args.number (routine_of c.args.unit.now) n c.loop-statement.invariant (line_of s) here (sym c.repeats_block.ensures ∙ c.if-repeats_block.true)

pub loop-statement-preserved : goal.loop-statement-preserved
loop-statement-preserved c =
    let xs = c.args.unit.now.statements.items in
    let n = c.loop-statement.statement-index in
    let s = c.statement-item.result in
    let here = got_mapped line_of xs n s (rw c.deref-statement-items.ensures.value at c.loop-statement-test.true) (rw c.deref-statement-items.ensures.value at c.statement-item.is) in
    parts_more (units_in c.args.calls.now) c.args.number (routine_of c.args.unit.now) n c.loop-statement.invariant (line_of s) here (sym c.repeats_block.ensures ∙ c.if-repeats_block.false)

pub returns : goal.returns
returns c =
    let xs = c.args.unit.now.statements.items in
    let n = c.loop-statement.statement-index in
    let past : length (map line_of xs) ≤ n = grind (arith, length-map, c.deref-statement-items.ensures.value, c.loop-statement-test.false) in
    parts_all (units_in c.args.calls.now) c.args.number (routine_of c.args.unit.now) n c.loop-statement.invariant past
