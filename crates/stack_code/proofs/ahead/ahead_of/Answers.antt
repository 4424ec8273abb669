-- Each to which the instruction leads is in the code.
use Rattle.std.proofs.Common.{◌≡◌, arith, ◌∙◌, subst, slice_get, get_or, Some}
use Rattle.std.proofs.lemmas.Option.{slice_get-get_or}
use Rattle.stack_code.specs.ValidCode.{IsIn}
use Rattle.stack_code.proofs.ahead.ahead_of.Goals as goal

pub ahead_at-requires : goal.ahead_at-requires
ahead_at-requires c =
    let n = c.loop-to.to-index in
    let all = c.deref-to-items.result.now in
    let to = get_or all n 0 in
    let here : slice_get all n ≡ Some to = slice_get-get_or all n 0 (omega (arith, c.loop-to-test.true)) in
    record { within = c.requires.targets.ways to (subst (IsIn to) (c.deref-to-items.ensures.value ∙ c.in_ok-ways.ensures) (record { index = n; is = here })) }
