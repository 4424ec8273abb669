-- What the table says of the name is what the statements say.
use Rattle.std.proofs.Common.{◌≡◌, Some, None, unwrap_or, map, ap, sym, ◌∙◌, arith}
use Rattle.rule_table.specs.Words.{find_map}
use Rattle.f66_tree.specs.Units.{by_header}
use Rattle.f66_tree.specs.Views.{act_of, header_of}
use Rattle.linker.specs.Types.{type_given}
use Rattle.linker.proofs.TypeLemmas.{type_in-given}
use Rattle.code_layout.proofs.unit_tables.UnitTables.word.Goals as goal

pub returns-in-Some : goal.returns-in-Some
returns-in-Some c =
    let x = c.args.name.now in
    let unit = c.args.self.now.unit.now in
    let unsaid = by_header x (header_of unit.header) in
    let found : Some c.in-Some.word.now ≡ find_map (type_given x) (map (λ s. act_of s.kind) unit.statements.items) = grind (arith, c.in-Some.ensures.value, c.as_bytes.ensures, c.args.self.now.words_are x) in
    ap (λ o. unwrap_or o unsaid) found ∙ sym (type_in-given x unit.statements.items unsaid)

pub returns-in-None : goal.returns-in-None
returns-in-None c =
    let x = c.args.name.now in
    let unit = c.args.self.now.unit.now in
    let unsaid = by_header x (header_of unit.header) in
    let found : None ≡ find_map (type_given x) (map (λ s. act_of s.kind) unit.statements.items) = grind (arith, c.in-None.ensures.value, c.as_bytes.ensures, c.args.self.now.words_are x) in
    c.by_header.ensures ∙ ap (λ o. unwrap_or o unsaid) found ∙ sym (type_in-given x unit.statements.items unsaid)
