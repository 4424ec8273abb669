-- The tables are those of the units, and what a name calls is one of these.
use Rattle.std.proofs.Common.{◌≡◌, ◌<◌, ◌^◌, ◌∙◌, map, arith, rules}
use Rattle.code_layout.proofs.TableLemmas.{as_many, tables_same, found_below, number_below}
use Rattle.code_layout.proofs.tabling.tables_of_program.Goals as goal

pub invariant_of-result : goal.invariant_of-result
invariant_of-result c =
    let l = c.args.linked.now in
    let items = c.in_ok-units.units.items in
    let us = l.calls.units.now in
    let are : map (λ t. t.unit.now) items ≡ us = c.in_ok-units.ensures ∙ c.units-all.ensures in
    let few : l.storage.total < 2 ^ 32 = search rules in
    record {
      many = as_many items us are;
      same = tables_same items us are;
      found = λ x v e. (let a = found_below l c.requires x v e in let b = as_many items us are in omega (arith, a, b));
      small = number_below l c.requires (2 ^ 32) few;
    }
