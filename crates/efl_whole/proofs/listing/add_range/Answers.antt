-- One range more counts before those that came.
use Rattle.std.proofs.Common.{ap, ◌∙◌}
use Rattle.efl_whole.specs.declared.roles.Role.TheVariants.{Single}
use Rattle.efl_whole.specs.RoleViews.{letter_from}
use Rattle.efl_whole.proofs.NumberLemmas.{range_pushed}
use Rattle.efl_whole.proofs.listing.add_range.Goals as goal

pub returns : goal.returns
returns c =
    ap (λ xs x. letter_from xs Single x) c.in_ok-push.ensures.items
    ∙ range_pushed c.args.letters.now.list.items (record { first = c.args.range.now.0; last = c.args.range.now.1; role = c.args.role })
