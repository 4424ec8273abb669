-- Both are as the program has them.
use Rattle.std.proofs.Common.{◌≡◌, ◌∙◌, ◌∷◌, List, ap}
use Rattle.f66_tree.specs.Fields.{Fields}
use Rattle.stack_code.specs.Instructions.{Instruction}
use Rattle.stack_code.specs.StackMachine.{Program}
use Rattle.code_gen.specs.Statements.{units_code}
use Rattle.code_emit.specs.Plans.{all_formats}
use Rattle.code_emit.proofs.planned.code_program.Goals as goal

both : (code1 code2 : List Instruction) (plans1 plans2 : List Fields) → code1 ≡ code2 → plans1 ≡ plans2 → (let p : Program = record { code = code1; plans = plans1 } in p) ≡ (let p : Program = record { code = code2; plans = plans2 } in p)
both code1 code2 plans1 plans2 codes plans = ap (λ c. (let p : Program = record { code = c; plans = plans1 } in p)) codes ∙ ap (λ fs. (let p : Program = record { code = code2; plans = fs } in p)) plans

pub returns : goal.returns
returns g c y others same are =
    both _ (units_code y (y.linked.main ∷ others)) _ (all_formats y.lines (y.linked.main ∷ others)) (c.in_ok-ops.ensures y same ∙ ap (units_code y) are) (c.in_ok-plans.ensures y same ∙ ap (all_formats y.lines) are)
