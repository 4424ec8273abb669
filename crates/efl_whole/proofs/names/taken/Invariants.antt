-- The names of the procedures before are their own.
use Rattle.std.proofs.Common.{◌≡◌, drop, map}
use Rattle.efl_tree.specs.Views.{procedure_of}
use Rattle.efl_whole.specs.CallViews.{numbers_of}
use Rattle.efl_whole.specs.Names.{taken_from}
use Rattle.efl_whole.proofs.names.taken.Given as goal

abbrev pub invariant-loop-number : goal.invariant-loop-number
invariant-loop-number l =
    taken_from (numbers_of l.numbers) l.number (map procedure_of (drop l.number l.procedures))
    ≡ taken_from (numbers_of l.numbers) 0 (map procedure_of l.procedures)
