-- What is done at a turn of each loop.
use Rattle.std.proofs.Common.{sym, subst}
use Rattle.std.proofs.lemmas.Result.{on_ok_weaker}
use Rattle.efl_emit.specs.Names.{emission_of, made_of}
use Rattle.efl_emit.specs.Turns.{top_of}
use Rattle.efl_emit.specs.Words.{LeavesOne}
use Rattle.efl_emit.proofs.turns.emit_top.Goals as goal

pub returns-in-While : goal.returns-in-While
returns-in-While c =
    let P = λ (x : _). LeavesOne (made_of c.args.naming.now) (top_of c.args.naming.now c.args.place x c.args.number) c.args.label (emission_of c.args.out.now) (emission_of c.emit_unless.new.out) in
    on_ok_weaker c.emit_unless.result (λ h. subst P (sym c.in-While.is) (h)) c.emit_unless.ensures

pub returns-in-For : goal.returns-in-For
returns-in-For c =
    let P = λ (x : _). LeavesOne (made_of c.args.naming.now) (top_of c.args.naming.now c.args.place x c.args.number) c.args.label (emission_of c.args.out.now) (emission_of c.emit_unless_any.new.out) in
    on_ok_weaker c.emit_unless_any.result (λ h. subst P (sym c.in-For.is) (h)) c.emit_unless_any.ensures

pub returns-in-Do : goal.returns-in-Do
returns-in-Do c =
    let P = λ (x : _). LeavesOne (made_of c.args.naming.now) (top_of c.args.naming.now c.args.place x c.args.number) c.args.label (emission_of c.args.out.now) (emission_of c.emit_limit.new.out) in
    on_ok_weaker c.emit_limit.result (λ h. subst P (sym c.in-Do.is) (h)) c.emit_limit.ensures
