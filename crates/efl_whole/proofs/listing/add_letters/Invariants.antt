-- The ranges before have come.
use Rattle.std.proofs.Common.{◌≡◌, drop}
use Rattle.efl_whole.specs.Roles.{with_letters}
use Rattle.efl_whole.specs.RoleViews.{letters_of}
use Rattle.efl_whole.proofs.listing.add_letters.Given as goal

abbrev pub invariant-loop-range : goal.invariant-loop-range
invariant-loop-range l =
    with_letters l.role (drop l.range-index l.ranges) (letters_of l.letters)
    ≡ with_letters l.role l.ranges (letters_of l.initial.letters)
