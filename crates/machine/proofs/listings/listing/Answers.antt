-- The listing is that of the units' code.
use Rattle.machine.proofs.UnitRuns.{if_ok}
use Rattle.machine.proofs.listings.listing.Goals as goal

pub returns : goal.returns
returns c = if_ok (λ text is. record { code = c.in_ok-code.code; codes = c.in_ok-code.ensures; is = is }) c.list_code.result c.list_code.ensures
