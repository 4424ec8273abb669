-- One name more is listed.
use Rattle.std.proofs.Common.{◌∙◌, sym, ap}
use Rattle.std.specs.List.{enumerate_from}
use Rattle.std.proofs.Math.ListN.{drop_of_length-le}
use Rattle.efl_whole.specs.CallViews.{numbers_of}
use Rattle.efl_room.proofs.Rows.{next_member}
use Rattle.efl_units.specs.Homes.{home_in}
use Rattle.efl_units.proofs.Mapped.{mapped_more, mapped_over}
use Rattle.efl_units.proofs.choice.homes.Goals as goal

pub loop-number-preserved : goal.loop-number-preserved
loop-number-preserved c =
    let i = c.loop-number.number in
    let next = ap (enumerate_from i) (next_member c.args.variables.now i c.index-variables-number.result c.loop-number-test.true c.index-variables-number.is) in
    mapped_more (λ x. home_in (numbers_of c.args.numbers.now) x.0 x.1) _ _ _ _ _ _ next c.in_ok-push.ensures.items c.in_ok-name.ensures ∙ c.loop-number.invariant

pub returns : goal.returns
returns c =
    let last = ap (enumerate_from c.loop-number.number) (drop_of_length-le c.args.variables.now c.loop-number-test.false) in
    sym (mapped_over (λ x. home_in (numbers_of c.args.numbers.now) x.0 x.1) _ _ last) ∙ c.loop-number.invariant
