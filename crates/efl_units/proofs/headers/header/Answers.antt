-- The header of a procedure that has a name.
use Rattle.std.proofs.Common.{◌∙◌, sym, ap}
use Rattle.std.specs.Prelude.{if◌then◌else◌}
use Rattle.std.proofs.lemmas.Result.{IfOk-weaker}
use Rattle.f66_tree.specs.Syntax.{MainUnit}
use Rattle.efl_tree.specs.Views.{procedure_of}
use Rattle.efl_types.specs.Signatures.{result_of}
use Rattle.efl_lowered.specs.Lowering.{dummies, named_header}
use Rattle.efl_units.specs.NamesSeen.{naming_in}
use Rattle.efl_units.proofs.HeaderLemmas.{named_is}
use Rattle.efl_units.proofs.headers.header.Goals as goal

pub returns : goal.returns
returns c =
    let u = procedure_of c.args.procedure.now in
    let names = naming_in c.args.naming.now c.args.room in
    IfOk-weaker c.named_header.result _ _
    (λ h named xs are.
    named (result_of u.result) (sym c.given_kind.ensures) ∙ ap (named_header names c.args.unit (result_of u.result)) (c.in_ok-list.ensures xs u are (sym c.deref.ensures.value))
    ∙ ap (λ b. if b then MainUnit else named_header names c.args.unit (result_of u.result) (dummies names xs c.args.unit u)) (named_is c.args.procedure.now.name c.if-is_none.ensures)) c.named_header.ensures
