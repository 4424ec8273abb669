-- By its number the variable is found, and without one it is none of them.
use Rattle.std.proofs.Common.{sym, ◌∙◌}
use Rattle.efl_scoped.specs.Seen.{table_of}
use Rattle.efl_variables.proofs.FindLemmas.{key_nowhere}
use Rattle.efl_variables.proofs.KeyLemmas.{key_named}
use Rattle.efl_variables.proofs.VariableLemmas.{place_is, place_none}
use Rattle.efl_variables.proofs.variables.Variables.number.Goals as goal

pub returns-in_err-home : goal.returns-in_err-home
returns-in_err-home c = λ xs x known unit home name.
    let f = table_of c.args.self.now.numbers in
    c.from_residual.ensures ∙ place_none f x (key_nowhere f x.unit x.variable.home x.variable.name (home ∙ c.in_err-home.was)) xs known.numbered

pub returns-in_err-number : goal.returns-in_err-number
returns-in_err-number c = λ xs x known unit home name.
    let f = table_of c.args.self.now.numbers in
    c.from_residual-in_err-number.ensures
    ∙ place_none f x (key_named f x c.args.unit c.args.name.now unit name ∙ sym (c.find_key.ensures x.variable.home (home ∙ c.in_ok-home.was)) ∙ c.in_err-number.was) xs known.numbered

pub returns : goal.returns
returns c = λ xs x known unit home name.
    let p = c.args.self.now.numbers in
    let f = table_of p in
    c.copied.ensures ∙ c.get.ensures.value ∙ known.found c.in_ok-number.number
    ∙ place_is f p.distinct p.above x c.in_ok-number.number
    (key_named f x c.args.unit c.args.name.now unit name ∙ sym (c.find_key.ensures x.variable.home (home ∙ c.in_ok-home.was)) ∙ c.in_ok-number.was) xs known.numbered
