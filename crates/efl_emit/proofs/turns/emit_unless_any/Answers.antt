-- A condition that is there.
use Rattle.std.proofs.Common.{sym, subst, option_map}
use Rattle.std.proofs.lemmas.Result.{on_ok_weaker}
use Rattle.efl_typed_tree.specs.Views.{expr_of}
use Rattle.efl_emit.specs.Names.{emission_of, made_of}
use Rattle.efl_emit.specs.Turns.{unless_any_of}
use Rattle.efl_emit.specs.Words.{LeavesOne}
use Rattle.efl_emit.proofs.turns.emit_unless_any.Goals as goal

pub returns-in-Some : goal.returns-in-Some
returns-in-Some c =
    let P = λ (o : _). LeavesOne (made_of c.args.naming.now) (unless_any_of c.args.naming.now c.args.place (option_map expr_of o) c.args.number) c.args.label (emission_of c.args.out.now) (emission_of c.emit_unless.new.out) in
    on_ok_weaker c.emit_unless.result (λ h. subst P (sym c.in-Some.is) h) c.emit_unless.ensures
