-- What the table says of the name is what the statements say.
use Rattle.std.proofs.Common.{[], unwrap_or, ap, sym, ◌∙◌}
use Rattle.f66_names.specs.DeclarationViews.{acts_in}
use Rattle.unit_rules.proofs.SizeLemmas.{sizes_of-given}
use Rattle.unit_rules.proofs.presets.sizes_of.Goals as goal

pub returns : goal.returns
returns c =
    let names = c.args.names.now in
    let x = c.args.name.now in
    c.noted_sizes.ensures ∙ ap (λ o. unwrap_or o []) (names.sizes_are x) ∙ sym (sizes_of-given x (acts_in names.declarations))
