-- The table with the definition is the old one with the name and its text.
use Rattle.std.proofs.Common.{ap, ◌∙◌, map}
use Rattle.macro_define.proofs.TableLemmas.{table-insert}
use Rattle.macro_define.proofs.defines.keep.Goals as goal

pub returns : goal.returns
returns c = ap (map (λ e. (e.0.items, e.1.items))) c.in_ok-insert.ensures.entries ∙ table-insert c.args.macros.now.entries c.args.name c.args.text
