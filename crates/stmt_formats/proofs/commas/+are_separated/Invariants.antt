-- Commas stood right before.
use Rattle.std.proofs.Common.{◌≡◌, drop}
use Rattle.stmt_reader.specs.Formats.{Nothing, is_separated}
use Rattle.stmt_formats.specs.States.{before_of, items_of}
use Rattle.stmt_formats.proofs.commas.+are_separated.Given as goal

abbrev pub invariant-are_separated-loop-item : goal.invariant-are_separated-loop-item
invariant-are_separated-loop-item l = is_separated (before_of l.before) (items_of (drop l.item-index l.items)) ≡ is_separated Nothing (items_of l.items)
