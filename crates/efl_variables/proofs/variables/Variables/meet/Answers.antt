-- The variable was met before, or it is the last one.
use Rattle.std.proofs.Common.{refl, sym, ◌∙◌}
use Rattle.efl_scoped.specs.Seen.{table_of}
use Rattle.efl_variables.proofs.KeyLemmas.{list_grows, key_is}
use Rattle.efl_variables.proofs.VariableLemmas.{variables_grow, met_again, nowhere, met_first}
use Rattle.efl_variables.proofs.variables.Variables.meet.Goals as goal

pub returns : goal.returns
returns c = λ xs x unit home name kind known.
    let old = c.args.self.now in
    let mid = record old { numbers = c.key.new.numbers } in
    let f = table_of old.numbers in
    let g = table_of mid.numbers in
    let k = c.in_ok-number.number in
    let given = c.in_ok-number.ensures in
    let is = key_is f g x c.args.unit c.args.home k c.args.name.now unit home name given in
    let also = variables_grow xs old mid given.grows (λ n. refl) refl known in
    let absent = sym c.contains_key.ensures ∙ c.if-contains_key.false in
    met_first xs x k mid is absent also c.add.new.self
    (c.in_ok-add.ensures xs x is (nowhere xs x k mid is absent also)
    (record {
      unit = sym unit;
      home = list_grows f g given.grows x.variable.home c.args.home home;
      name = c.in_ok-name.ensures ∙ sym name;
      kind = sym kind;
    })
    also)

pub returns-then-contains_key : goal.returns-then-contains_key
returns-then-contains_key c = λ xs x unit home name kind known.
    let old = c.args.self.now in
    let mid = record old { numbers = c.key.new.numbers } in
    let k = c.in_ok-number.number in
    let given = c.in_ok-number.ensures in
    met_again xs x k mid (key_is (table_of old.numbers) (table_of mid.numbers) x c.args.unit c.args.home k c.args.name.now unit home name given)
    (sym c.contains_key.ensures ∙ c.if-contains_key.true) (variables_grow xs old mid given.grows (λ n. refl) refl known)
