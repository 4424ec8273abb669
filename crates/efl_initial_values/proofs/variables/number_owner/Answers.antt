-- By the block that declares it, if any.
use Rattle.std.proofs.Common.{sym, ap, subst, ◌∙◌, []}
use Rattle.std.specs.Option.{option_map}
use Rattle.std.proofs.lemmas.Result.{IfOk-weaker}
use Rattle.efl_tree.specs.Syntax.{EflProcedure}
use Rattle.efl_scope.specs.Scopes.{Variable, Blocks, meaning}
use Rattle.efl_types.specs.Presets.{Own, area_if_outer, by_area, owner_by}
use Rattle.efl_scoped.specs.Seen.{table_of}
use Rattle.efl_blocks.specs.HomeViews.{position_of, AreHomes}
use Rattle.efl_initial_values.specs.Owners.{AreAreas, IsAt, Codes}
use Rattle.efl_initial_values.proofs.VariableLemmas.{home_found, owned_anyhow}
use Rattle.efl_initial_values.proofs.variables.number_owner.Goals as goal

pub returns-in-None : goal.returns-in-None
returns-in-None c =
    let f = table_of c.args.numbers.now in
    let g = table_of c.number_own.new.numbers in
    let k = c.args.unit in
    let x = c.args.name.now in
    IfOk-weaker c.number_own.result (λ n. Codes f (Own k [] x) g n)
    (λ n. (u : EflProcedure) (bs : Blocks) → AreHomes u bs c.args.homes.now → AreAreas u c.args.areas.now → Codes f (owner_by k u x (meaning bs x)) g n)
    (λ n codes u bs are areas. subst (λ o. Codes f o g n) (sym (owned_anyhow k u bs c.args.homes.now x are (sym (ap (option_map (λ p. position_of p.now)) c.in-None.is) ∙ c.home_of.ensures))) codes)
    c.number_own.ensures

pub returns-in-Some : goal.returns-in-Some
returns-in-Some c =
    let f = table_of c.args.numbers.now in
    let g = table_of c.number_at.new.numbers in
    let k = c.args.unit in
    let x = c.args.name.now in
    let h = position_of c.in-Some.home.now in
    IfOk-weaker c.number_at.result (λ n. (u : EflProcedure) (v : Variable) → IsAt u c.args.areas.now x h v → Codes f (by_area k u v (area_if_outer v)) g n)
    (λ n. (u : EflProcedure) (bs : Blocks) → AreHomes u bs c.args.homes.now → AreAreas u c.args.areas.now → Codes f (owner_by k u x (meaning bs x)) g n)
    (λ n codes u bs are areas.
    let m = home_found u bs c.args.homes.now c.args.areas.now x h are areas (sym (ap (option_map (λ p. position_of p.now)) c.in-Some.is) ∙ c.home_of.ensures) in
    subst (λ o. Codes f o g n) (sym (ap (owner_by k u x) m.is)) (codes u m.variable m.at))
    c.number_at.ensures
