-- The digits of the number are at first all to come, and then one less.
use Rattle.std.proofs.Common.{sym, ap, ◌∙◌, ◌-◌, ◌/◌, drop, length-set, arith, false}
use Rattle.std.proofs.lemmas.List.{drop_all}
use Rattle.std.specs.Fmt.{digits_onto}
use Rattle.eft_top.proofs.OctalDigits.{all_digits, last_digit, next_digit, in_front}
use Rattle.eft_top.proofs.octal.octal_digits.Goals as goal

pub loop-at-init : goal.loop-at-init
loop-at-init c = (omega arith, c.told-buffer, ap (digits_onto 64 8 false c.args.number) (drop_all 64 c.args.buffer.now (omega (arith, c.told-buffer))) ∙ all_digits c.args.number)

pub loop-at-preserved : goal.loop-at-preserved
loop-at-preserved c =
    let l = c.loop-at in (
      omega arith,
      length-set l.buffer (l.at - 1) _ ∙ l.invariant.1,
      ap (digits_onto (l.at - 1) 8 false (l.rest / 8)) (in_front l.buffer l.at _ c.loop-at-test.true (omega arith))
          ∙ sym (next_digit l.rest (drop l.at l.buffer) l.at c.loop-at-test.true c.if-rest-eq0.false) ∙ l.invariant.2,
    )

pub returns-then-rest-eq0 : goal.returns-then-rest-eq0
returns-then-rest-eq0 c =
    let l = c.loop-at in
    record {
      within = omega arith;
      digits = in_front l.buffer l.at _ c.loop-at-test.true (omega arith) ∙ sym (last_digit l.rest (drop l.at l.buffer) l.at c.loop-at-test.true c.if-rest-eq0.true) ∙ l.invariant.2;
    }
