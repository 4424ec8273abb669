-- The temporaries of a call are those of its list, and one more.
use Rattle.std.proofs.Common.{◌+◌, ap, sym, arith, ◌∙◌}
use Rattle.std.proofs.lemmas.Result.{IfOk-weaker}
use Rattle.efl_routes.specs.Expressions.{made}
use Rattle.efl_room.proofs.Rows.{from_call, from_known, expr_size}
use Rattle.efl_room.proofs.Sizes.{size_of}
use Rattle.efl_room.proofs.counts.+count.Goals as goal

pub made-made_for-requires : goal.made-made_for-requires
made-made_for-requires t c =
    let e = ap size_of (from_call _ _ _ _ _ c.in-Call.is c.deref.ensures.value) in
    (omega (arith, e), tt)

pub made-made_in-requires : goal.made-made_in-requires
made-made_in-requires t c =
    let e = ap size_of (from_known _ _ _ _ c.in-Known.is c.deref-in-Known.ensures.value) in
    (omega (arith, e), tt)

pub made-returns-in_ok-made_for-in-Call : goal.made-returns-in_ok-made_for-in-Call
made-returns-in_ok-made_for-in-Call t c =
    let e = from_call _ _ _ _ _ c.in-Call.is c.deref.ensures.value in
    IfOk-weaker c.plus.result _ _ (λ r h. h ∙ ap (λ m. m + 1) c.in_ok-made_for-in-Call.ensures ∙ sym (ap made e)) c.plus.ensures

pub made-returns-in_ok-made_in-in-Known : goal.made-returns-in_ok-made_in-in-Known
made-returns-in_ok-made_in-in-Known t c =
    let e = from_known _ _ _ _ c.in-Known.is c.deref-in-Known.ensures.value in
    IfOk-weaker c.plus-in-Known.result _ _ (λ r h. h ∙ ap (λ m. m + 1) c.in_ok-made_in-in-Known.ensures ∙ sym (ap made e)) c.plus-in-Known.ensures

pub made_in-made-requires : goal.made_in-made-requires
made_in-made-requires t c =
    let size = expr_size c.args.list.now c.loop-e.e-index c.e-item.result c.loop-e-test.true c.e-item.is in
    (omega (arith, size), tt)

pub made_for-made-requires : goal.made_for-made-requires
made_for-made-requires t c =
    let size = expr_size c.args.list.now c.loop-e.e-index c.e-item.result c.loop-e-test.true c.e-item.is in
    (omega (arith, size), tt)
