-- Nothing is known behind no parts.
use Rattle.std.proofs.Common.{refl}
use Rattle.efl_scoped.specs.Seen.{table_of}
use Rattle.efl_initial_values.specs.Owners.{owner_code}
use Rattle.efl_reading.proofs.progress.Progress.new.Goals as goal

pub returns : goal.returns
returns c = λ us. record {
  tells = refl;
  filled = λ none. c.new.ensures (owner_code (table_of c.new-2.result));
  counted = λ none. refl;
}
