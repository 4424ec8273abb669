-- A unit more has no fault, or tells the first one.
use Rattle.std.proofs.Common.{arith, ◌≡◌, ◌<◌, ℕ, List, length, get_or, sym, ◌∙◌, subst}
use Rattle.std.specs.Prelude.{Err, Vec}
use Rattle.std.specs.Global.{Global}
use Rattle.rat_tree.specs.declared.program.RatUnit.{RatUnit}
use Rattle.rat_check.specs.FirstFault.{Tells}
use Rattle.rat_lower.proofs.Serving.{fault_after, fault_told}
use Rattle.rat_lower.proofs.program.check_units.Goals as goal

pub returns-in-Err : goal.returns-in-Err
returns-in-Err c =
    let all : List RatUnit = c.args.units.now in
    let i : ℕ = c.loop-unit.unit-index in
    let u : RatUnit = c.unit-item.result in
    let within : i < length all = omega arith in
    let here : u ≡ get_or all i u = cc in
    subst (λ o. Tells {A = Unit {0}} (Err c.in-Err.refusal) o) (sym c.loop-unit.invariant) (fault_told (Vec ℕ Global) (Unit {0}) all i u c.in-Err.refusal within here c.in-Err.ensures.fault)

pub loop-unit-preserved : goal.loop-unit-preserved
loop-unit-preserved c =
    let all : List RatUnit = c.args.units.now in
    let i : ℕ = c.loop-unit.unit-index in
    let u : RatUnit = c.unit-item.result in
    let within : i < length all = omega arith in
    let here : u ≡ get_or all i u = cc in
    c.loop-unit.invariant ∙ fault_after all i u within here c.in-Ok.ensures.fault
