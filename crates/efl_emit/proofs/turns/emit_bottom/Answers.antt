-- What is done at a turn of each loop.
use Rattle.std.proofs.Common.{sym, subst}
use Rattle.std.proofs.lemmas.Result.{on_ok_weaker}
use Rattle.efl_emit.specs.Names.{emission_of, made_of}
use Rattle.efl_emit.specs.Turns.{bottom_of}
use Rattle.efl_emit.specs.Words.{LeavesOne}
use Rattle.efl_emit.proofs.Forms.{leaves_none}
use Rattle.efl_emit.proofs.turns.emit_bottom.Goals as goal

pub returns-in-For : goal.returns-in-For
returns-in-For c =
    let P = λ (x : _). LeavesOne (made_of c.args.naming.now) (bottom_of c.args.naming.now c.args.place x c.args.number) c.args.label (emission_of c.args.out.now) (emission_of c.emit_action_if_any.new.out) in
    on_ok_weaker c.emit_action_if_any.result (λ h. subst P (sym c.in-For.is) (leaves_none h)) c.emit_action_if_any.ensures

pub returns-in-Until : goal.returns-in-Until
returns-in-Until c =
    let P = λ (x : _). LeavesOne (made_of c.args.naming.now) (bottom_of c.args.naming.now c.args.place x c.args.number) c.args.label (emission_of c.args.out.now) (emission_of c.emit_where.new.out) in
    on_ok_weaker c.emit_where.result (λ h. subst P (sym c.in-Until.is) (h)) c.emit_where.ensures

pub returns-in-Do : goal.returns-in-Do
returns-in-Do c =
    let P = λ (x : _). LeavesOne (made_of c.args.naming.now) (bottom_of c.args.naming.now c.args.place x c.args.number) c.args.label (emission_of c.args.out.now) (emission_of c.emit_step.new.out) in
    on_ok_weaker c.emit_step.result (λ h. subst P (sym c.in-Do.is) (leaves_none h)) c.emit_step.ensures
