-- Behind the blanks stands a plus sign, a minus sign or none, and then the digits.
use Rattle.std.proofs.Common.{arith, sym, ◌∙◌, ap, false}
use Rattle.f66_tree.specs.Fielded.{sign_of, field, ranged, digits_of}
use Rattle.format_io.proofs.FieldFacts.{sign_plus, sign_minus, sign_none, found_at, field_drop}
use Rattle.format_io.proofs.input.Input.whole.Goals as goal

pub returns-then-sign-eq43 : goal.returns-then-sign-eq43
returns-then-sign-eq43 c =
    c.value.ensures ∙ sign_plus (field c.args.width c.args.self.now) _ _ (found_at _ c.args.self.now c.mark-start.result (let w = c.mark-start.ensures.within in let n = c.if-start-width.false in omega (arith, w, n)) c.mark-start.ensures.rest)
    (sym c.at-sign.ensures ∙ c.if-sign-eq43.true)

pub returns-then-sign-eq45 : goal.returns-then-sign-eq45
returns-then-sign-eq45 c =
    c.value-then-sign-eq45.ensures ∙ sign_minus (field c.args.width c.args.self.now) _ _ (found_at _ c.args.self.now c.mark-start.result (let w = c.mark-start.ensures.within in let n = c.if-start-width.false in omega (arith, w, n)) c.mark-start.ensures.rest)
    (sym c.at-sign.ensures ∙ c.if-sign-eq45.true)

pub returns : goal.returns
returns c =
    c.value-2.ensures ∙ ap (λ v. ranged (sign_of false) (digits_of v)) (field_drop _ c.args.self.now c.mark-start.result (let w = c.mark-start.ensures.within in let n = c.if-start-width.false in omega (arith, w, n)))
    ∙ sign_none (field c.args.width c.args.self.now) _ _ (found_at _ c.args.self.now c.mark-start.result (let w = c.mark-start.ensures.within in let n = c.if-start-width.false in omega (arith, w, n)) c.mark-start.ensures.rest)
    (λ e. c.if-sign-eq43.false (c.at-sign.ensures ∙ e)) (λ e. c.if-sign-eq45.false (c.at-sign.ensures ∙ e))
