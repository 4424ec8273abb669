-- What the table has of the name is what the statements give.
use Rattle.std.proofs.Common.{◌≡◌, [], Some, None, option_map, map, unwrap_or, ap, sym, ◌∙◌, arith}
use Rattle.std.specs.HashMap.{get_by}
use Rattle.std.specs.Str.{bytes_eq}
use Rattle.rule_table.specs.Words.{find_map}
use Rattle.f66_tree.specs.Units.{places_of}
use Rattle.f66_tree.specs.Views.{act_of, par_of}
use Rattle.f66_mentions.specs.Dimensions.{dims_in}
use Rattle.f66_mentions.proofs.DimensionLemmas.{sizes_given}
use Rattle.code_layout.proofs.unit_tables.UnitTables.places.Goals as goal

pub returns-in-Some : goal.returns-in-Some
returns-in-Some c =
    let x = c.args.name.now in
    let all = c.args.self.now.unit.now.statements.items in
    let there : Some c.in-Some.extent.now ≡ get_by (λ k. bytes_eq x k.now) c.args.self.now.extents = grind (arith, c.in-Some.ensures.value, c.as_bytes.ensures) in
    let found : Some (map par_of c.in-Some.extent.now.sizes.now) ≡ find_map (dims_in x) (map (λ s. act_of s.kind) all) = ap (option_map (λ e. map par_of e.sizes.now)) there ∙ c.args.self.now.extents_are x in
    c.in-Some.extent.now.placed ∙ ap (λ o. places_of (unwrap_or o [])) found ∙ sym (ap places_of (sizes_given x all))

pub returns-in-None : goal.returns-in-None
returns-in-None c =
    let x = c.args.name.now in
    let all = c.args.self.now.unit.now.statements.items in
    let found : None ≡ find_map (dims_in x) (map (λ s. act_of s.kind) all) = grind (arith, c.in-None.ensures.value, c.as_bytes.ensures, c.args.self.now.extents_are x) in
    ap (λ o. places_of (unwrap_or o [])) found ∙ sym (ap places_of (sizes_given x all))
