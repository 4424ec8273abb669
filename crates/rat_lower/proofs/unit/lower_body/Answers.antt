-- The labels that are made are those that the source lacks.
use Rattle.std.proofs.lemmas.Result.{IfOk-weaker}
use Rattle.name_alloc.specs.MadeNames.{next_name}
use Rattle.f66_tree.specs.Views.{header_of, lines_of}
use Rattle.rat_tree.specs.Syntax.{RatRoutine}
use Rattle.rat_tree.specs.Views.{commands}
use Rattle.rat_lower.specs.Emitted.{labels_past}
use Rattle.rat_lower.specs.Lowered.{IsUnitCode}
use Rattle.rat_lower.proofs.Emitting.Units.{made_alike}
use Rattle.rat_lower.proofs.unit.lower_body.Goals as goal

pub returns-clause-code : goal.returns-clause-code
returns-clause-code c =
    let u : RatRoutine = record { header = header_of c.args.header.now; body = commands c.args.body.items; place = c.args.place } in
    let m = c.in_ok-maker.maker in
    IfOk-weaker c.unit_code.result (λ code. IsUnitCode (labels_past m.taken) m.spare u c.args.finish (lines_of code.items)) (λ code. IsUnitCode (labels_past c.args.taken.now) (next_name c.args.names) u c.args.finish (lines_of code.items))
    (λ code h. made_alike u m.taken c.args.taken.now m.spare (next_name c.args.names) c.args.finish (lines_of code.items) c.in_ok-maker.ensures.labels c.in_ok-maker.ensures.spare h) c.unit_code.ensures.code
