-- Of the ranges before the last one counts.
use Rattle.std.proofs.Common.{◌≡◌, drop}
use Rattle.efl_whole.specs.declared.roles.Role.TheVariants.{Single}
use Rattle.efl_whole.specs.RoleViews.{letter_from}
use Rattle.efl_whole.proofs.listing.by_letter.Given as goal

abbrev pub invariant-loop-range : goal.invariant-loop-range
invariant-loop-range l =
    letter_from (drop l.range-index l.letters.list.items) l.role l.letter
    ≡ letter_from l.letters.list.items Single l.letter
