-- By the site.
use Rattle.efl_checks.specs.Walks.{names_around}
use Rattle.efl_checks.proofs.sites.names_at.Goals as goal

pub returns : goal.returns
returns c = λ us u a is.
    c.names_within.ensures (names_around us u a)
    (record { blocks_known = is.blocks; rules = is.procedure.letters; procedures = is.procedure.units; gives = is.procedure.gives })
