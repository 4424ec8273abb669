-- The number of a macro is the place of its key.
use Rattle.std.proofs.Common.{sym, ◌∙◌}
use Rattle.macro_define.proofs.TableLemmas.{number_of_key}
use Rattle.macro_define.proofs.macros.number_of.Goals as goal

pub returns-clause-number : goal.returns-clause-number
returns-clause-number c = c.get_index_of.ensures.index ∙ sym (number_of_key c.args.macros.now.entries c.args.key.now)
