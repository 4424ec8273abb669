-- What the table has of the name is what the statements give.
use Rattle.std.proofs.Common.{◌≡◌, [], Some, None, option_map, map, unwrap_or, ap, sym, ◌∙◌}
use Rattle.rule_table.specs.Words.{find_map}
use Rattle.f66_tree.specs.Views.{act_of, par_of}
use Rattle.f66_mentions.specs.Dimensions.{dims_in}
use Rattle.f66_mentions.proofs.DimensionLemmas.{sizes_given}
use Rattle.f66_mentions.proofs.names.sizes_of.Goals as goal

pub returns-in-Some : goal.returns-in-Some
returns-in-Some c =
    let x = c.args.name.now in
    let all = c.args.names.now.unit.now.statements.items in
    let found : Some (map par_of c.in-Some.sizes.now.now) ≡ find_map (dims_in x) (map (λ s. act_of s.kind) all) =
    ap (option_map (λ ps. map par_of ps.now)) c.in-Some.ensures.value ∙ c.args.names.now.dims_are x in
    ap (λ o. unwrap_or o []) found ∙ sym (sizes_given x all)

pub returns-in-None : goal.returns-in-None
returns-in-None c =
    let x = c.args.name.now in
    let all = c.args.names.now.unit.now.statements.items in
    let found : None ≡ find_map (dims_in x) (map (λ s. act_of s.kind) all) =
    ap (option_map (λ ps. map par_of ps.now)) c.in-None.ensures.value ∙ c.args.names.now.dims_are x in
    ap (λ o. unwrap_or o []) found ∙ sym (sizes_given x all)
