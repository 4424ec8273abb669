-- Why `width` keeps its clauses.
use Rattle.std.proofs.Common.{arith}
use Rattle.std.proofs.lemmas.Grind.{common_steps}
use Rattle.rat_parse_values.proofs.FieldLemmas.{width_over}
use Rattle.rat_parse_values.proofs.fields.width.Goals as goal

pub returns-then-longer-gt65535 : goal.returns-then-longer-gt65535
returns-then-longer-gt65535 c = grind (arith, common_steps, width_over)
