-- By the block that declares it, if any.
use Rattle.std.proofs.Common.{sym, ap, ◌∙◌}
use Rattle.std.specs.Option.{option_map}
use Rattle.efl_types.specs.Presets.{may_begin}
use Rattle.efl_blocks.specs.HomeViews.{position_of}
use Rattle.efl_initial_values.proofs.VariableLemmas.{home_found, begins_anyhow}
use Rattle.efl_initial_values.proofs.variables.may_begin.Goals as goal

pub returns-in-None : goal.returns-in-None
returns-in-None c = λ u bs are areas formals. begins_anyhow u bs c.args.homes.now c.args.name.now c.args.is_outer are (sym (ap (option_map (λ p. position_of p.now)) c.in-None.is) ∙ c.home_of.ensures)

pub returns-in-Some : goal.returns-in-Some
returns-in-Some c = λ u bs are areas formals.
    let f = home_found u bs c.args.homes.now c.args.areas.now c.args.name.now (position_of c.in-Some.home.now) are areas (sym (ap (option_map (λ p. position_of p.now)) c.in-Some.is) ∙ c.home_of.ensures) in
    ap (may_begin u c.args.is_outer) f.is ∙ c.may_begin_at.ensures u f.variable f.at formals
