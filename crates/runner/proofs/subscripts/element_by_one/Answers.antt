-- The spot of an element by one subscript.
use Rattle.std.proofs.Common.{◌∙◌, rules, w32, w64, subst, Some, None}
use mir.Val.{SFits}
use Rattle.std.proofs.lemmas.Int.{to_z-of_z}
use Rattle.runner.specs.Subscripted.{IsPlacedBy}
use Rattle.runner.proofs.SubscriptArms.{one_same, one_unplaced, one_placed}
use Rattle.runner.proofs.subscripts.element_by_one.Goals as goal

pub returns-in-None-clause-works : goal.returns-in-None-clause-works
returns-in-None-clause-works c = λ buffer l plans s w st fine. let v0 : SFits w32 c.args.subscript.value = search rules in let d0 : SFits w32 c.whole.result.value = search rules in let e0 : SFits w64 c.args.extent = search rules in one_unplaced c.args.first c.args.size c.args.subscript c.args.extent c.args.stack.now c.args.top buffer l plans s w st fine (subst (λ o. IsPlacedBy c.args.first c.args.size o None) (one_same (to_z-of_z w32 c.args.subscript.value v0) (to_z-of_z w32 c.whole.result.value d0 ∙ c.whole.ensures.value ∙ to_z-of_z w64 c.args.extent e0)) c.in-None.ensures)

pub returns-in-Some-clause-works : goal.returns-in-Some-clause-works
returns-in-Some-clause-works c = λ buffer l plans s w st fine. let v0 : SFits w32 c.args.subscript.value = search rules in let d0 : SFits w32 c.whole.result.value = search rules in let e0 : SFits w64 c.args.extent = search rules in one_placed c.args.first c.args.size c.args.subscript c.args.extent c.args.stack.now c.args.top buffer l plans s w st fine c.in-Some.word _ (subst (λ o. IsPlacedBy c.args.first c.args.size o (Some c.in-Some.word)) (one_same (to_z-of_z w32 c.args.subscript.value v0) (to_z-of_z w32 c.whole.result.value d0 ∙ c.whole.ensures.value ∙ to_z-of_z w64 c.args.extent e0)) c.in-Some.ensures) c.push.ensures
