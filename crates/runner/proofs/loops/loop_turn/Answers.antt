-- A turn of a DO ends.
use Rattle.std.proofs.Common.{◌≡◌, Some, None, refl, sym, ap, subst, rules, w32}
use mir.Val.{SFits}
use Rattle.std.proofs.lemmas.Int.{to_z-of_z}
use Rattle.ground.specs.Arithmetic.{IsInRange}
use Rattle.ground.specs.Content.{Whole}
use Rattle.stack_code.specs.Instructions as i
use Rattle.runner.specs.Work.{next_in}
use Rattle.runner.proofs.PlaceArms.{spot_tall, spot_told, spot_there}
use Rattle.runner.proofs.LoopArms.{turn_small, cell_small, turn_undefined, turn_lent, turn_on, turn_past}
use Rattle.runner.proofs.loops.loop_turn.Goals as goal

pub word_at-spot-requires-clause-some : goal.word_at-spot-requires-clause-some
word_at-spot-requires-clause-some c = spot_tall (i.LoopTurn c.args.limit c.args.step c.args.to) c.args.stack.now c.args.top c.args.cells.now c.requires.hold _ refl

pub unit_of-unit-requires : goal.unit_of-unit-requires
unit_of-unit-requires c = spot_told (i.LoopTurn c.args.limit c.args.step c.args.to) c.args.stack.now c.args.top c.args.cells.now c.requires.hold _ refl _ _ c.word_at-spot.ensures

pub cell_at-requires : goal.cell_at-requires
cell_at-requires c = spot_there (i.LoopTurn c.args.limit c.args.step c.args.to) c.args.stack.now c.args.top c.args.cells.now c.requires.hold _ refl _ _ _ c.word_at-spot.ensures c.unit_of-unit.ensures

pub next_value-requires-clause-value : goal.next_value-requires-clause-value
next_value-requires-clause-value c = let fits : SFits w32 c.in-Some.value = search rules in subst IsInRange (sym (to_z-of_z w32 c.in-Some.value fits)) (turn_small c.args.cells.now _ c.requires.hold.agrees _ _ c.cell_at.ensures _ c.in-Some.ensures)

pub next_value-requires-clause-limit : goal.next_value-requires-clause-limit
next_value-requires-clause-limit c = cell_small c.args.cells.now _ c.requires.hold.agrees _ _ c.cell_at-in-Some.ensures

pub next_value-requires-clause-step : goal.next_value-requires-clause-step
next_value-requires-clause-step c = cell_small c.args.cells.now _ c.requires.hold.agrees _ _ c.cell_at-in-Some-2.ensures

pub returns-in-None-clause-leaps : goal.returns-in-None-clause-leaps
returns-in-None-clause-leaps c = λ plans s w here st a fine. turn_undefined c.args.limit c.args.step c.args.to _ _ _ c.word_at-spot.ensures c.args.cells.now _ c.unit_of-unit.ensures _ c.cell_at.ensures plans s w st a fine c.in-None.ensures

pub returns-then-spot-eq0-clause-leaps : goal.returns-then-spot-eq0-clause-leaps
returns-then-spot-eq0-clause-leaps c = λ plans s w here st a fine. turn_lent c.args.limit c.args.step c.args.to _ _ _ c.word_at-spot.ensures c.args.cells.now _ c.unit_of-unit.ensures _ c.cell_at.ensures plans s w st a fine c.in-Some.value c.in-Some.ensures c.if-spot-eq0.true

pub returns-in-Some-next_value-clause-leaps : goal.returns-in-Some-next_value-clause-leaps
returns-in-Some-next_value-clause-leaps c = λ plans s w here st a fine. let fits : SFits w32 c.in-Some.value = search rules in let fits1 : SFits w32 c.in-Some-next_value.next = search rules in turn_on c.args.limit c.args.step c.args.to _ _ _ c.word_at-spot.ensures c.args.cells.now _ c.unit_of-unit.ensures _ c.cell_at.ensures plans s w st a fine c.in-Some.value c.in-Some.ensures _ _ c.cell_at-in-Some.ensures c.cell_at-in-Some-2.ensures c.in-Some-next_value.next _ _ (ap Whole (to_z-of_z w32 c.in-Some-next_value.next fits1)) (subst (λ z. next_in z c.cell_at-in-Some.result c.cell_at-in-Some-2.result ≡ Some c.in-Some-next_value.next) (to_z-of_z w32 c.in-Some.value fits) (sym c.in-Some-next_value.ensures.is)) c.if-spot-eq0.false c.in-Some-next_value.ensures.range c.keep.ensures

pub returns-in-None-next_value-clause-leaps : goal.returns-in-None-next_value-clause-leaps
returns-in-None-next_value-clause-leaps c = λ plans s w here st a fine. let fits : SFits w32 c.in-Some.value = search rules in turn_past c.args.limit c.args.step c.args.to _ _ _ c.word_at-spot.ensures c.args.cells.now _ c.unit_of-unit.ensures _ c.cell_at.ensures plans s w st a fine c.in-Some.value c.in-Some.ensures _ _ c.cell_at-in-Some.ensures c.cell_at-in-Some-2.ensures _ (subst (λ z. next_in z c.cell_at-in-Some.result c.cell_at-in-Some-2.result ≡ None) (to_z-of_z w32 c.in-Some.value fits) (sym c.in-None-next_value.ensures.is)) c.if-spot-eq0.false c.keep-in-None-next_value.ensures c.args.pc here

pub returns-in-Some-next_value-clause-way : goal.returns-in-Some-next_value-clause-way
returns-in-Some-next_value-clause-way c = record { index = 1; is = refl }

pub returns-in-None-next_value-clause-way : goal.returns-in-None-next_value-clause-way
returns-in-None-next_value-clause-way c = record { index = 0; is = refl }
