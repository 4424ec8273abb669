-- A part that is dropped, one that joins a line, and one more character.
use Rattle.std.proofs.Common.{◌≡◌, ◌+◌, ◌≤◌, get_or, drop, length, arith}
use Rattle.std.proofs.lemmas.Grind.{common_steps}
use Rattle.free_scan.specs.declared.lines.Part.TheVariants.{Dropped, Joined, Kept}
use Rattle.free_scan.specs.Lines.{part}
use Rattle.free_scan.proofs.LineLemmas.{read-dropped, read-joined, read-kept}
use Rattle.free_scan.proofs.lines.read_line.Goals as goal

pub loop-at-preserved-in-Dropped : goal.loop-at-preserved-in-Dropped
loop-at-preserved-in-Dropped c =
    let text = c.args.text.now in
    let at = c.loop-at.at in
    let is : part c.args.dialect (get_or text at 0) (drop (at + 1) text) ≡ Dropped c.in-Dropped.more = grind (arith, common_steps, c.in-Dropped.ensures.part) in
    let fits : c.in-Dropped.more + (at + 1) ≤ length text = grind (arith, common_steps, c.in-Dropped.ensures.in_range) in
    read-dropped c.args.dialect text c.args.start c.args.number at c.loop-at.line c.loop-at.characters.items c.loop-at.invariant c.loop-at-test.true c.in-Dropped.more is fits

pub loop-at-preserved-in-Joined : goal.loop-at-preserved-in-Joined
loop-at-preserved-in-Joined c =
    let text = c.args.text.now in
    let at = c.loop-at.at in
    let is : part c.args.dialect (get_or text at 0) (drop (at + 1) text) ≡ Joined c.in-Joined.more = grind (arith, common_steps, c.in-Joined.ensures.part) in
    let fits : c.in-Joined.more + (at + 1) ≤ length text = grind (arith, common_steps, c.in-Joined.ensures.in_range) in
    read-joined c.args.dialect text c.args.start c.args.number at c.loop-at.line c.loop-at.characters.items c.loop-at.invariant c.loop-at-test.true c.in-Joined.more is fits

pub loop-at-preserved : goal.loop-at-preserved
loop-at-preserved c =
    let text = c.args.text.now in
    let at = c.loop-at.at in
    let is : part c.args.dialect (get_or text at 0) (drop (at + 1) text) ≡ Kept c.in-Kept.more = grind (arith, common_steps, c.in-Kept.ensures.part) in
    let fits : c.in-Kept.more + (at + 1) ≤ length text = grind (arith, common_steps, c.in-Kept.ensures.in_range) in
    let read = read-kept c.args.dialect text c.args.start c.args.number at c.loop-at.line c.loop-at.characters.items c.loop-at.invariant c.loop-at-test.true c.in-Kept.more is fits in
    rw c.in_ok-push-in-Kept.ensures.items read
