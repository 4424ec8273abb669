-- The spot of an element by two subscripts.
use Rattle.std.proofs.Common.{◌∙◌, rules, w32, w64, subst, Some, None}
use mir.Val.{SFits}
use Rattle.std.proofs.lemmas.Int.{to_z-of_z}
use Rattle.runner.specs.Subscripted.{IsPlacedBy}
use Rattle.runner.proofs.SubscriptArms.{two_same, two_unplaced, two_placed}
use Rattle.runner.proofs.subscripts.element_by_two.Goals as goal

pub returns-in-None-clause-works : goal.returns-in-None-clause-works
returns-in-None-clause-works c = λ buffer l plans s w st fine. let v0 : SFits w32 c.args.one.value = search rules in let v1 : SFits w32 c.args.two.value = search rules in let d0 : SFits w32 c.whole.result.value = search rules in let e0 : SFits w64 c.args.rows = search rules in let d1 : SFits w32 c.whole-2.result.value = search rules in let e1 : SFits w64 c.args.columns = search rules in two_unplaced c.args.first c.args.size c.args.one c.args.two c.args.rows c.args.columns c.args.stack.now c.args.top buffer l plans s w st fine (subst (λ o. IsPlacedBy c.args.first c.args.size o None) (two_same (to_z-of_z w32 c.args.one.value v0) (to_z-of_z w32 c.args.two.value v1) (to_z-of_z w32 c.whole.result.value d0 ∙ c.whole.ensures.value ∙ to_z-of_z w64 c.args.rows e0) (to_z-of_z w32 c.whole-2.result.value d1 ∙ c.whole-2.ensures.value ∙ to_z-of_z w64 c.args.columns e1)) c.in-None.ensures)

pub returns-in-Some-clause-works : goal.returns-in-Some-clause-works
returns-in-Some-clause-works c = λ buffer l plans s w st fine. let v0 : SFits w32 c.args.one.value = search rules in let v1 : SFits w32 c.args.two.value = search rules in let d0 : SFits w32 c.whole.result.value = search rules in let e0 : SFits w64 c.args.rows = search rules in let d1 : SFits w32 c.whole-2.result.value = search rules in let e1 : SFits w64 c.args.columns = search rules in two_placed c.args.first c.args.size c.args.one c.args.two c.args.rows c.args.columns c.args.stack.now c.args.top buffer l plans s w st fine c.in-Some.word _ (subst (λ o. IsPlacedBy c.args.first c.args.size o (Some c.in-Some.word)) (two_same (to_z-of_z w32 c.args.one.value v0) (to_z-of_z w32 c.args.two.value v1) (to_z-of_z w32 c.whole.result.value d0 ∙ c.whole.ensures.value ∙ to_z-of_z w64 c.args.rows e0) (to_z-of_z w32 c.whole-2.result.value d1 ∙ c.whole-2.ensures.value ∙ to_z-of_z w64 c.args.columns e1)) c.in-Some.ensures) c.push.ensures
