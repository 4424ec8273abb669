-- The bodies of its procedures are those of the program.
use Rattle.std.proofs.Common.{◌≡◌, true, map, subst}
use Rattle.std.proofs.lemmas.Result.{IfOk-weaker}
use Rattle.efl_tree.specs.Views.{procedure_of, program_of}
use Rattle.efl_scope.specs.Parts.{program_parts}
use Rattle.efl_scope.specs.Marks.{program_variables}
use Rattle.efl_built.specs.Unbuilt.{are_built}
use Rattle.efl_variables.specs.Numbered.{AreVariables}
use Rattle.efl_bindings.specs.Bindings.{AreProcedures}
use Rattle.efl_typing.specs.Bodies.{AreBodies, AreEach}
use Rattle.efl_typing.proofs.BodyLemmas.{bodies_made}
use Rattle.efl_typing.proofs.bodies.typed_bodies.Goals as goal

pub returns : goal.returns
returns c =
    let p = program_of c.args.program.now in
    let known = c.in_ok-procedures.procedures in
    let all = c.args.variables.now in
    IfOk-weaker c.typed_each.result (λ bodies. AreEach (map procedure_of c.deref-2.result.now) known all bodies.items)
    (λ bodies. are_built (program_parts p) ≡ true → AreVariables (program_variables p) all → AreBodies p bodies.items)
    (λ bodies each built are. bodies_made p known all bodies.items (subst (λ us. AreEach (map procedure_of us) known all bodies.items) c.deref-2.ensures.value each)
    (subst (λ us. AreProcedures (map procedure_of us) known) c.deref.ensures.value c.in_ok-procedures.ensures) built are)
    c.typed_each.ensures
