-- The last token tells it.
use Rattle.std.proofs.Common.{ap, sym, ◌∙◌}
use Rattle.ground.specs.declared.token.Token.{Token}
use Rattle.macro_define.specs.Defines.{ends_line}
use Rattle.macro_define.proofs.PlainLemmas.{begins_last}
use Rattle.macro_define.proofs.plain.is_line_next.Goals as goal

pub returns-in-len1-up : goal.returns-in-len1-up
returns-in-len1-up c =
    c.ends_line.ensures ∙ ap (λ (t : Token). ends_line t.kind) c.last-item.is ∙ sym (begins_last c.args.begins c.args.line.now _ c.in-len1-up.len_at_least)
