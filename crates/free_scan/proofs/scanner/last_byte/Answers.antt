-- The last of the first so many characters is the one that isn't blank, or it doesn't count.
use Rattle.std.proofs.Common.{arith}
use Rattle.std.proofs.lemmas.Grind.{common_steps}
use Rattle.free_scan.specs.declared.lines.Character.{Character}
use Rattle.free_scan.proofs.LineLemmas.{last_byte_take}
use Rattle.free_scan.proofs.scanner.last_byte.Goals as goal

pub returns-then-not-is_blank : goal.returns-then-not-is_blank
returns-then-not-is_blank c =
    let cs = c.args.characters.now in
    let n = c.loop-count.count in
    let other : Character = record { byte = 0; line = 0; next = 0 } in
    grind (arith, common_steps, c.loop-count.invariant.0, c.is_blank.ensures, c.if-not-is_blank.true, last_byte_take cs n other (omega arith) c.loop-count.invariant.1)

pub loop-count-preserved : goal.loop-count-preserved
loop-count-preserved c =
    let cs = c.args.characters.now in
    let n = c.loop-count.count in
    let other : Character = record { byte = 0; line = 0; next = 0 } in (
      grind (arith, common_steps, c.loop-count.invariant.0, c.is_blank.ensures, c.if-not-is_blank.false, last_byte_take cs n other (omega arith) c.loop-count.invariant.1),
      omega (arith, c.loop-count.invariant.1),
    )
