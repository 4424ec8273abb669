-- A turn of a DO ends, and its variable's spot is not written.
use Rattle.std.proofs.Common.{◌≡◌, Some, None, refl, sym, ap, subst, rules, arith, w32, ◌+◌}
use mir.Val.{SFits}
use Rattle.std.proofs.lemmas.Int.{to_z-of_z}
use Rattle.ground.specs.Arithmetic.{IsInRange}
use Rattle.ground.specs.Content.{Whole}
use Rattle.stack_code.specs.Instructions as i
use Rattle.stack_code.specs.StackMachine.{act}
use Rattle.runner.specs.Work.{next_in, GoesOver}
use Rattle.runner.specs.Words.{spot_word}
use Rattle.runner.proofs.Piles.{pile_push, pile_above}
use Rattle.runner.proofs.LoopArms.{turn_small, cell_small, turn_undefined, turn_on, turn_past}
use Rattle.runner.proofs.loops.variable_turn.Goals as goal

pub next_value-requires-clause-value : goal.next_value-requires-clause-value
next_value-requires-clause-value c = let fits : SFits w32 c.in-Some.value = search rules in subst IsInRange (sym (to_z-of_z w32 c.in-Some.value fits)) (turn_small c.args.cells.now _ c.requires.agrees.1 _ _ c.cell_at.ensures _ c.in-Some.ensures)

pub next_value-requires-clause-limit : goal.next_value-requires-clause-limit
next_value-requires-clause-limit c = cell_small c.args.cells.now _ c.requires.agrees.1 _ _ c.cell_at-in-Some.ensures

pub next_value-requires-clause-step : goal.next_value-requires-clause-step
next_value-requires-clause-step c = cell_small c.args.cells.now _ c.requires.agrees.1 _ _ c.cell_at-in-Some-2.ensures

pub returns-in-None-clause-leaps : goal.returns-in-None-clause-leaps
returns-in-None-clause-leaps c = λ buffer size room some plans s w here st a fine. turn_undefined c.args.limit c.args.step c.args.to _ _ _ (pile_push buffer c.args.top (spot_word c.args.first size) room) c.args.cells.now _ refl _ c.cell_at.ensures plans s w st a fine c.in-None.ensures

pub returns-in-Some-next_value-clause-leaps : goal.returns-in-Some-next_value-clause-leaps
returns-in-Some-next_value-clause-leaps c = λ buffer size room some plans s w here st a fine. let fits : SFits w32 c.in-Some.value = search rules in let fits1 : SFits w32 c.in-Some-next_value.next = search rules in subst (λ pile. GoesOver (act plans (Some (i.LoopTurn c.args.limit c.args.step c.args.to)) s w) s w c.args.to pile c.keep.new.cells) (sym (pile_above buffer c.args.top c.args.top (spot_word c.args.first size) (omega arith))) (turn_on c.args.limit c.args.step c.args.to _ _ _ (pile_push buffer c.args.top (spot_word c.args.first size) room) c.args.cells.now _ refl _ c.cell_at.ensures plans s w st a fine c.in-Some.value c.in-Some.ensures _ _ c.cell_at-in-Some.ensures c.cell_at-in-Some-2.ensures c.in-Some-next_value.next _ _ (ap Whole (to_z-of_z w32 c.in-Some-next_value.next fits1)) (subst (λ z. next_in z c.cell_at-in-Some.result c.cell_at-in-Some-2.result ≡ Some c.in-Some-next_value.next) (to_z-of_z w32 c.in-Some.value fits) (sym c.in-Some-next_value.ensures.is)) (λ e. omega (arith, e, some)) c.in-Some-next_value.ensures.range c.keep.ensures)

pub returns-in-None-next_value-clause-leaps : goal.returns-in-None-next_value-clause-leaps
returns-in-None-next_value-clause-leaps c = λ buffer size room some plans s w here st a fine. let fits : SFits w32 c.in-Some.value = search rules in subst (λ pile. GoesOver (act plans (Some (i.LoopTurn c.args.limit c.args.step c.args.to)) s w) s w (c.args.pc + 1) pile c.keep-in-None-next_value.new.cells) (sym (pile_above buffer c.args.top c.args.top (spot_word c.args.first size) (omega arith))) (turn_past c.args.limit c.args.step c.args.to _ _ _ (pile_push buffer c.args.top (spot_word c.args.first size) room) c.args.cells.now _ refl _ c.cell_at.ensures plans s w st a fine c.in-Some.value c.in-Some.ensures _ _ c.cell_at-in-Some.ensures c.cell_at-in-Some-2.ensures _ (subst (λ z. next_in z c.cell_at-in-Some.result c.cell_at-in-Some-2.result ≡ None) (to_z-of_z w32 c.in-Some.value fits) (sym c.in-None-next_value.ensures.is)) (λ e. omega (arith, e, some)) c.keep-in-None-next_value.ensures c.args.pc here)

pub returns-in-Some-next_value-clause-way : goal.returns-in-Some-next_value-clause-way
returns-in-Some-next_value-clause-way c = record { index = 1; is = refl }

pub returns-in-None-next_value-clause-way : goal.returns-in-None-next_value-clause-way
returns-in-None-next_value-clause-way c = record { index = 0; is = refl }
