-- The name is declared, or it is a variable of the outer block.
use Rattle.std.proofs.Common.{sym, subst}
use Rattle.std.proofs.lemmas.Result.{on_ok_weaker}
use Rattle.efl_scope.specs.Scopes.{meaning}
use Rattle.efl_expressions.specs.NameViews.{IsMeaningIfAny}
use Rattle.efl_storage.proofs.PartLemmas.{name_declared, name_met}
use Rattle.efl_storage.proofs.met.meet_name.Goals as goal

pub returns-in-Some : goal.returns-in-Some
returns-in-Some c =
    let x = c.args.name.now in
    name_declared c.args.sight.now x c.args.storage.now c.look_up.result _ c.in-Some.is (λ f ss us u bs sees. subst (IsMeaningIfAny f ss (meaning bs x)) (sym c.look_up.ensures) (sees.blocks_known x))

pub returns-in-None : goal.returns-in-None
returns-in-None c =
    let x = c.args.name.now in
    on_ok_weaker c.meet_named.result
    (name_met c.args.sight.now x c.implicit_kind-kind.result c.places-places.result c.args.storage.now c.meet_named.new.self c.look_up.result c.in-None.is
    (λ f ss us u bs sees. subst (IsMeaningIfAny f ss (meaning bs x)) (sym c.look_up.ensures) (sees.blocks_known x)) c.implicit_kind-kind.ensures c.places-places.ensures)
    c.meet_named.ensures
