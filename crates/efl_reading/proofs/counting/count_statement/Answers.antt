-- The part is counted by what it sees.
use Rattle.std.proofs.Common.{sym, ◌∙◌}
use Rattle.std.proofs.lemmas.Result.{on_ok_weaker}
use Rattle.efl_scoped.specs.Seen.{table_of}
use Rattle.efl_reading.proofs.counting.count_statement.Goals as goal

pub returns : goal.returns
returns c =
    on_ok_weaker c.take_statement.result
    (λ takes y labels us u a p vs is known.
    takes labels (table_of y.numbers) y.structures.list.items us u a p vs (c.sight_of.ensures.sees y us u a is) (is.unit ∙ sym c.sight_of.ensures.unit) known)
    c.take_statement.ensures
