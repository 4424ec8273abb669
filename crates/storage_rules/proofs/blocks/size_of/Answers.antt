-- The end of the block's class stands behind its first place, or no place does.
use Rattle.std.proofs.Common.{◌<◌, ◌^◌, ℕ, None, length, slice_index, slice_index_or, rules}
use Rattle.std.proofs.lemmas.Int.{to_z-of_z}
use Rattle.std.specs.Prelude.{FitsSigned}
use mir.Syntax.{w128}
use Rattle.offset_classes.specs.Links.{class_in}
use Rattle.storage_rules.proofs.ReachLemmas.{reach_gap, end_near}
use Rattle.storage_rules.proofs.blocks.size_of.Goals as goal

pub gap_of-requires-clause-end_high : goal.gap_of-requires-clause-end_high
gap_of-requires-clause-end_high c =
    let seats = c.args.seats.now in
    let small : (x : ℕ) → x < length seats → slice_index c.args.sizes.now x < 2 ^ 16 = λ x lt. c.requires.small x 0 (rw c.requires.many lt) in
    end_near seats c.args.sizes.now c.args.block (slice_index_or c.args.ends.now (class_in seats c.args.block) None) c.requires.near small (c.requires.ends (class_in seats c.args.block))

pub returns : goal.returns
returns c =
    let fits : FitsSigned w128 c.gap_of.result = search rules in
    let seats = c.args.seats.now in
    rw (to_z-of_z w128 c.gap_of.result fits)
    (reach_gap seats c.args.sizes.now c.args.block (slice_index_or c.args.ends.now (class_in seats c.args.block) None) c.gap_of.result (c.requires.ends (class_in seats c.args.block)) c.gap_of.ensures)
