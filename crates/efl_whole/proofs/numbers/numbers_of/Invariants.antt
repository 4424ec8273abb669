-- The procedures before have their numbers.
use Rattle.std.proofs.Common.{◌≡◌, take, map}
use Rattle.efl_tree.specs.Syntax.{Text}
use Rattle.efl_tree.specs.Views.{procedure_of}
use Rattle.efl_types.specs.Whole.{number_of}
use Rattle.efl_whole.specs.CallViews.{numbers_of}
use Rattle.efl_whole.proofs.numbers.numbers_of.Given as goal

abbrev pub invariant-loop-number : goal.invariant-loop-number
invariant-loop-number l = (x : Text) → numbers_of l.numbers x ≡ number_of (map procedure_of (take l.number l.procedures)) x
