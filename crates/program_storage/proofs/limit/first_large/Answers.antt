-- The half that is kept holds the first unit up to which there are too many.
use Rattle.std.proofs.Common.{◌≡◌, ◌≤◌, ◌+◌, ◌-◌, ◌/◌, length, map, arith}
use Rattle.std.proofs.lemmas.List.{length-map}
use Rattle.std.proofs.lemmas.List.Elements.{All-map}
use Rattle.std.specs.List.{All}
use Rattle.f66_tree.specs.Views.{routine_of}
use Rattle.f66_program.specs.Association.{IsBadUnit}
use Rattle.program_storage.specs.Limits.{IsSmallAt}
use Rattle.program_storage.proofs.LimitLemmas.{small_earlier}
use Rattle.program_storage.proofs.limit.first_large.Goals as goal

pub loop-low-preserved : goal.loop-low-preserved
loop-low-preserved c =
    let v = c.loop-low.invariant in
    let units = c.args.units.now in
    let rs = map routine_of units in
    let middle = c.loop-low.low + (c.loop-low.high - c.loop-low.low) / 2 in
    let well : All (λ r. ¬ IsBadUnit r) rs = All-map (λ r. ¬ IsBadUnit r) routine_of units c.requires.well in
    let small : IsSmallAt c.args.most rs middle = rw c.if-branch.false at c.in_ok-is_large.ensures in
    record {
      order = (let d = c.loop-low-test.true in omega arith);
      inside = v.inside;
      large = v.large;
      earlier = λ i i_in. (let le : i ≤ middle = omega arith in small_earlier c.args.most rs well i middle le small);
    }

pub returns : goal.returns
returns c =
    let v = c.loop-low.invariant in
    let units = c.args.units.now in
    let many : length (map routine_of units) ≡ length units = length-map units routine_of in
    record { inside = (let l = v.inside in omega (arith, l, many)); large = v.large; earlier = λ i i_in. v.earlier i (omega arith) }
