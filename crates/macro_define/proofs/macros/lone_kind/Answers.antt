-- The text has one token, which is the one that is told.
use Rattle.std.proofs.Common.{sym, ◌∙◌}
use Rattle.macro_define.proofs.LoneLemmas.{one_item}
use Rattle.macro_define.proofs.macros.lone_kind.Goals as goal

pub returns-in-len1 : goal.returns-in-len1
returns-in-len1 c = record {
  text = sym c.in_ok-text_at.ensures ∙ one_item c.in_ok-text_at.field-0.now c.kind-item.result c.in-len1.len_at_least c.in-len1.len_below c.kind-item.is;
  unnamed = c.may_name_macro.ensures c.if-not-may_name_macro.true;
}
