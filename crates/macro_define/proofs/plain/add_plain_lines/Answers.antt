-- A line more was passed.
use Rattle.std.proofs.Common.{◌≤◌, ◌++◌, List, length, refl, ap, ◌∙◌, subst}
use Rattle.ground.specs.declared.token.Token.{Token}
use Rattle.macro_define.specs.Made.{made}
use Rattle.macro_define.specs.Plain.{ArePlain, begins_behind}
use Rattle.macro_define.specs.Uses.{table}
use Rattle.macro_define.proofs.PlainLemmas.{more_passed}
use Rattle.macro_define.proofs.plain.add_plain_lines.Goals as goal

pub loop-dialect-preserved : goal.loop-dialect-preserved
loop-dialect-preserved c =
    let d = c.args.dialect in
    let macros = table c.args.macros.now in
    let now = c.loop-dialect in
    let line : List Token = now.line.items in
    let next : List Token = c.take_line-in-loop-dialect.new.line.items ++ c.take_line-in-loop-dialect.new.self.tokens in
    let plain : ArePlain d macros now.later line = subst (ArePlain d macros now.later) c.deref.ensures.value (c.loop-dialect-test.ensures.plain refl) in
    let few : length line ≤ now.output.left = subst (λ (ts : List Token). length ts ≤ now.output.left) c.deref.ensures.value (c.loop-dialect-test.ensures.few refl) in (
      more_passed d macros c.args.begins c.args.tokens.now.tokens (made c.args.output.now) line now.tokens.tokens next (made now.output) (made c.put_all.new.self) now.later c.is_line_next-later.result
          now.invariant.0 plain few c.in_ok-put_all.ensures.put c.in_ok-take_line-2.ensures.tokens
          (c.is_line_next-later.ensures ∙ ap (begins_behind now.later) c.deref-in-loop-dialect.ensures.value),
      c.in_ok-take_line-2.ensures.fault ∙ now.invariant.1,
    )
