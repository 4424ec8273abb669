-- The checks tell the fault, and without one the units serve.
use Rattle.std.proofs.Common.{List, map, ap, sym, ◌∙◌, subst}
use Rattle.std.specs.Prelude.{Err, Vec}
use Rattle.std.specs.Global.{Global}
use Rattle.f66_tree.specs.declared.unit.Unit.{Unit as AUnit}
use Rattle.rat_tree.specs.declared.program.RatUnit.{RatUnit}
use Rattle.rat_tree.specs.Views.{rat_routine_of}
use Rattle.rat_check.specs.FirstFault.{Tells, first_fault_of}
use Rattle.rat_lower.proofs.Serving.{told_as}
use Rattle.rat_lower.proofs.program.lower.Goals as goal

pub lower_accepted-requires : goal.lower_accepted-requires
lower_accepted-requires c = record {
  room = c.requires.room;
  accepted = ap (λ (us : List RatUnit). first_fault_of (map rat_routine_of us)) (sym c.deref.ensures.value) ∙ c.in-Ok.ensures;
}

pub returns-in-Err-clause-fault : goal.returns-in-Err-clause-fault
returns-in-Err-clause-fault c =
    let told = told_as (Unit {0}) (Vec AUnit Global) c.in-Err.refusal _ c.in-Err.ensures in
    subst (λ (us : List RatUnit). Tells {A = Vec AUnit Global} (Err c.in-Err.refusal) (first_fault_of (map rat_routine_of us))) c.deref.ensures.value told
