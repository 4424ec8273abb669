-- The next value fits its places, or does not.
use Rattle.std.proofs.Common.{map, drop, ap, sym, refl, ◌∙◌, ◌+◌}
use Rattle.std.specs.Prelude.{not, ◌||◌}
use Rattle.std.specs.List.{list_any}
use Rattle.f66_tree.specs.Views.{formula_of, initial_of}
use Rattle.f66_names.specs.DeclarationViews.{context_in}
use Rattle.f66_names.specs.Kinds.{takes_kind}
use Rattle.unit_rules.specs.Storage.{has_misfit}
use Rattle.unit_rules.proofs.MisfitLemmas.{misfit_on}
use Rattle.unit_rules.proofs.constants.has_misfit.Goals as goal

pub returns-then-refuse_some : goal.returns-then-refuse_some
returns-then-refuse_some c =
    let around = context_in c.args.declarations.now in
    let v = c.value-item.result in
    let i = c.loop-value.value-index in
    let rest = c.loop-value.rest.now in
    let behind = has_misfit around (map formula_of (drop v.0 rest)) (map initial_of (drop (i + 1) c.args.values.now)) in
    let any = sym c.if-refuse_some.true ∙ c.refuse_some.ensures ∙ ap (λ k. list_any (λ p. not (takes_kind around (formula_of p) k)) c.front.result.now) c.kind_seen.ensures in
    ap (λ b. b || behind) any ∙ sym (misfit_on around rest c.front.result.now (drop v.0 rest) c.args.values.now i v c.loop-value-test.true c.value-item.is c.front.ensures refl) ∙ c.loop-value.invariant

pub loop-value-preserved : goal.loop-value-preserved
loop-value-preserved c =
    let around = context_in c.args.declarations.now in
    let v = c.value-item.result in
    let i = c.loop-value.value-index in
    let rest = c.loop-value.rest.now in
    let later = c.behind-rest.result.now in
    let behind = has_misfit around (map formula_of later) (map initial_of (drop (i + 1) c.args.values.now)) in
    let none = sym c.if-refuse_some.false ∙ c.refuse_some.ensures ∙ ap (λ k. list_any (λ p. not (takes_kind around (formula_of p) k)) c.front.result.now) c.kind_seen.ensures in
    ap (λ b. b || behind) none ∙ sym (misfit_on around rest c.front.result.now later c.args.values.now i v c.loop-value-test.true c.value-item.is c.front.ensures c.behind-rest.ensures) ∙ c.loop-value.invariant
