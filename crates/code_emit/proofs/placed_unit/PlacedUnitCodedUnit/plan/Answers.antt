-- The plan is noted, or there is none.
use Rattle.std.proofs.Common.{rules, ◌≡◌, ◌∙◌, ap, sym, nat_eq, unwrap_or, Some, None}
use Rattle.std.specs.HashMap.{get}
use Rattle.code_emit.proofs.placed_unit.PlacedUnitCodedUnit.plan.Goals as goal

pub returns-in-Some : goal.returns-in-Some
returns-in-Some g c =
    let s = c.args.self.now in
    let found : get nat_eq s.plans.numbers c.args.label ≡ Some c.in-Some.plan.now = search rules in
    ap (λ o. unwrap_or o 0) (sym found) ∙ s.planned c.args.label

pub returns-in-None : goal.returns-in-None
returns-in-None g c =
    let s = c.args.self.now in
    let found : get nat_eq s.plans.numbers c.args.label ≡ None = search rules in
    ap (λ o. unwrap_or o 0) (sym found) ∙ s.planned c.args.label
