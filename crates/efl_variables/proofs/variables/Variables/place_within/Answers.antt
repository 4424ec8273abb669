-- The place has the number of a pair.
use Rattle.std.proofs.Common.{refl}
use Rattle.std.proofs.lemmas.Result.{on_ok_weaker}
use Rattle.efl_scoped.specs.Seen.{table_of}
use Rattle.efl_variables.proofs.KeyLemmas.{list_grows}
use Rattle.efl_variables.proofs.VariableLemmas.{variables_grow, place_numbered}
use Rattle.efl_variables.proofs.variables.Variables.place_within.Goals as goal

pub returns-clause-known : goal.returns-clause-known
returns-clause-known c =
    let old = c.args.self.now in
    on_ok_weaker c.number.result (λ grows xs known. variables_grow xs old (record old { numbers = c.number.new.self }) grows (λ n. refl) refl known) c.number.ensures.kept

pub returns-clause-numbered : goal.returns-clause-numbered
returns-clause-numbered c = place_numbered (table_of c.args.self.now.numbers) (table_of c.number.new.self) c.args.step c.args.outside c.number.result c.number.ensures.numbered c.number.ensures.kept

pub returns-clause-kept : goal.returns-clause-kept
returns-clause-kept c = on_ok_weaker c.number.result (λ grows. list_grows (table_of c.args.self.now.numbers) (table_of c.number.new.self) grows) c.number.ensures.kept
