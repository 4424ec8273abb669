-- An action that is there.
use Rattle.std.proofs.Common.{sym, subst, option_map}
use Rattle.std.proofs.lemmas.Result.{on_ok_weaker}
use Rattle.efl_typed_tree.specs.Views.{action_of}
use Rattle.efl_emit.specs.Emitted.{Emitted}
use Rattle.efl_emit.specs.Names.{emission_of, made_of}
use Rattle.efl_emit.specs.Words.{act_if_any}
use Rattle.efl_emit.proofs.actions.emit_action_if_any.Goals as goal

pub returns-in-Some : goal.returns-in-Some
returns-in-Some c =
    let P = λ (o : _). Emitted (made_of c.args.naming.now) (act_if_any c.args.naming.now c.args.place (option_map action_of o) c.args.number) (emission_of c.args.out.now) (emission_of c.emit_action.new.out) in
    on_ok_weaker c.emit_action.result (λ h. subst P (sym c.in-Some.is) h) c.emit_action.ensures
