-- The fault is that of the first unit that has one.
use Rattle.std.proofs.Common.{rules, ◌≡◌, Err, map, ◌∷◌, ◌++◌, sym, ap, ◌∙◌, subst}
use Rattle.std.specs.Prelude.{IfErr}
use Rattle.f66_tree.specs.Views.{routine_of}
use Rattle.deck_link.specs.Units.{AreRefusedUnits}
use Rattle.deck_link.proofs.CheckLemmas.{first_refused}
use Rattle.deck_link.proofs.checking.check_units.Goals as goal

pub returns-in_err-unit-clause-refused : goal.returns-in_err-unit-clause-refused
returns-in_err-unit-clause-refused c =
    let gone : c.from_residual.result ≡ Err c.in_err-unit.field-0.0 = search rules in
    let next : c.loop-unit.unit-iterator.rest.items ≡ c.in-Some.unit ∷ c.next.new.self.rest.items = search rules in
    let splits = c.loop-unit.invariant.2 ∙ ap (λ v. c.loop-unit.yielded ++ v) next in
    subst (λ r. IfErr r (AreRefusedUnits (map routine_of c.args.units.items))) (sym gone)
    (first_refused c.args.units.items c.loop-unit.yielded c.next.new.self.rest.items c.in-Some.unit splits c.loop-unit.invariant.4 c.in_err-unit.field-0.0 c.in_err-unit.ensures.refused)
