-- So far the units of the procedures before are listed.
use Rattle.std.proofs.Common.{◌≡◌, ◌++◌, drop, map}
use Rattle.std.specs.List.{enumerate_from}
use Rattle.f66_tree.specs.Views.{routine_of}
use Rattle.efl_tree.specs.Views.{procedure_of, program_of}
use Rattle.efl_scope.specs.Marks.{program_variables}
use Rattle.efl_variables.specs.Numbered.{AreVariables}
use Rattle.efl_lowered.specs.Lowering.{unit_of, units_of}
use Rattle.efl_naming.specs.Choice.{naming_of}
use Rattle.efl_typing.specs.Bodies.{AreBodies}
use Rattle.efl_units.specs.Units.{HasNames}
use Rattle.efl_units.proofs.program.units.Given as goal

abbrev pub invariant-loop-number : goal.invariant-loop-number
invariant-loop-number l =
    let p = program_of l.program in
    AreVariables (program_variables p) l.variables → AreBodies p l.bodies → record {
      names : HasNames p l.naming;
      listed : map routine_of l.units.items ++ map (λ x. unit_of (naming_of p) p x.0 x.1) (enumerate_from l.number (map procedure_of (drop l.number l.program.procedures.items))) ≡ units_of (naming_of p) p;
    }
