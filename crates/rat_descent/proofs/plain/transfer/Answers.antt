-- Why `transfer` reads its nonterminal.
use Rattle.std.proofs.Common.{refl, ap, sym, ◌∙◌}
use Rattle.f66_tree.specs.Views.{par_of, listed}
use Rattle.rat_parse_values.specs.Plain.{transfer as transferred}
use Rattle.rat_parse_values.specs.Values.{deed, tok}
use Rattle.rat_parse_values.specs.Parts.{as_entries}
use Rattle.rat_parse_table.specs.declared.table.Production.TheVariants as productions
use Rattle.descent.specs.Reading.{done, next}
use Rattle.rat_descent.proofs.Productions.{production, as_value}
use Rattle.rat_descent.proofs.plain.transfer.Goals as goal

pub returns : goal.returns
returns c =
    let list = c.in_ok-list.ensures in
    let word = c.in_ok-word.word.now in
    as_value (ap (λ n. deed word.place (transferred (tok word) (par_of c.in_ok-unit.unit) n (listed (as_entries list.value)))) (sym c.number_of-format.ensures)
    ∙ ap (λ es. deed word.place (transferred (tok word) (par_of c.in_ok-unit.unit) c.number_of-format.result (listed es))) list.is ∙ ap (deed word.place) (sym c.transfer_kind.ensures))
    (production productions.TransferPlain refl refl refl refl (next c.in_ok-word.ensures (next c.in_ok-take_token.ensures (next c.in_ok-unit.ensures
    (next c.in_ok-take_token-2.ensures (next c.in_ok-number_token.ensures (next c.in_ok-take_token-3.ensures (next list.reads done))))))))
