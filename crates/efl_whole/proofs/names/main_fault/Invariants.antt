-- What is told of the mains is that of those behind, by whether one stands before.
use Rattle.std.proofs.Common.{◌≡◌, drop, map}
use Rattle.efl_tree.specs.Views.{procedure_of}
use Rattle.efl_types.specs.Whole.{mains, main_fault}
use Rattle.efl_whole.specs.Names.{main_behind}
use Rattle.efl_whole.proofs.names.main_fault.Given as goal

abbrev pub invariant-loop-procedure : goal.invariant-loop-procedure
invariant-loop-procedure l =
    main_behind l.found l.finish (mains (map procedure_of (drop l.procedure-index l.procedures)))
    ≡ main_fault l.finish (mains (map procedure_of l.procedures))
