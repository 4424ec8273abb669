-- A DO begins.
use Rattle.std.proofs.Common.{◌≡◌, ◌∷◌, true, false, ap, ◌∙◌, rules, arith, w32}
use mir.Val.{SFits}
use Rattle.std.proofs.lemmas.Int.{to_z-of_z}
use Rattle.ground.specs.Content.{Whole}
use Rattle.runner.specs.Work.{fits}
use Rattle.runner.proofs.LoopArms.{start_tall, start_told, start_there, start_unfit, start_lent, start_works}
use Rattle.runner.proofs.loops.loop_start.Goals as goal

pub two_at-requires-clause-some : goal.two_at-requires-clause-some
two_at-requires-clause-some c = let tall = start_tall c.args.limit c.args.step c.args.stack.now c.args.top c.args.cells.now c.requires.hold in omega arith

pub two_at-requires-2-clause-some : goal.two_at-requires-2-clause-some
two_at-requires-2-clause-some c = let tall = start_tall c.args.limit c.args.step c.args.stack.now c.args.top c.args.cells.now c.requires.hold in omega arith

pub unit_of-requires : goal.unit_of-requires
unit_of-requires c = start_told c.args.limit c.args.step c.args.stack.now c.args.top c.args.cells.now c.requires.hold _ (c.two_at-2.result.1) c.two_at.result.0 c.two_at.result.1 c.two_at-2.result.0 (c.two_at.ensures ∙ ap (λ l. c.two_at.result.1 ∷ c.two_at.result.0 ∷ l) c.two_at-2.ensures)

pub keep-requires : goal.keep-requires
keep-requires c = start_there c.args.limit c.args.step c.args.stack.now c.args.top c.args.cells.now c.requires.hold _ (c.two_at-2.result.1) c.two_at.result.0 c.two_at.result.1 c.two_at-2.result.0 (c.two_at.ensures ∙ ap (λ l. c.two_at.result.1 ∷ c.two_at.result.0 ∷ l) c.two_at-2.ensures) _ c.unit_of.ensures

pub returns-then-not-fit-clause-works : goal.returns-then-not-fit-clause-works
returns-then-not-fit-clause-works c = λ plans s w st a fine. let no : fits c.two_at-2.result.1.value c.two_at.result.0.value c.two_at.result.1.value ≡ false = search rules in start_unfit c.args.limit c.args.step _ _ (c.two_at-2.result.1) c.two_at.result.0 c.two_at.result.1 c.two_at-2.result.0 (c.two_at.ensures ∙ ap (λ l. c.two_at.result.1 ∷ c.two_at.result.0 ∷ l) c.two_at-2.ensures) plans s w st fine no

pub returns-then-spot-eq0-clause-works : goal.returns-then-spot-eq0-clause-works
returns-then-spot-eq0-clause-works c = λ plans s w st a fine. let yes : fits c.two_at-2.result.1.value c.two_at.result.0.value c.two_at.result.1.value ≡ true = search rules in start_lent c.args.limit c.args.step _ _ (c.two_at-2.result.1) c.two_at.result.0 c.two_at.result.1 c.two_at-2.result.0 (c.two_at.ensures ∙ ap (λ l. c.two_at.result.1 ∷ c.two_at.result.0 ∷ l) c.two_at-2.ensures) plans s w st fine yes c.if-spot-eq0.true

pub returns-clause-works : goal.returns-clause-works
returns-clause-works c = λ plans s w st a fine. let yes : fits c.two_at-2.result.1.value c.two_at.result.0.value c.two_at.result.1.value ≡ true = search rules in let first : SFits w32 c.two_at-2.result.1.value = search rules in let last : SFits w32 c.two_at.result.0.value = search rules in let by : SFits w32 c.two_at.result.1.value = search rules in start_works c.args.limit c.args.step _ _ (c.two_at-2.result.1) c.two_at.result.0 c.two_at.result.1 c.two_at-2.result.0 (c.two_at.ensures ∙ ap (λ l. c.two_at.result.1 ∷ c.two_at.result.0 ∷ l) c.two_at-2.ensures) plans s w st fine c.args.cells.now _ _ _ _ _ _ _ (ap Whole (to_z-of_z w32 c.two_at-2.result.1.value first)) (ap Whole (to_z-of_z w32 c.two_at.result.0.value last)) (ap Whole (to_z-of_z w32 c.two_at.result.1.value by)) a c.unit_of.ensures yes c.if-spot-eq0.false c.keep.ensures c.keep-2.ensures c.keep-3.ensures
