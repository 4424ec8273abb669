-- The places that are passed over go before.
use Rattle.std.proofs.Common.{refl}
use Rattle.efl_initial_values.proofs.KindLemmas.{pass_none, pass_some}
use Rattle.efl_initial_values.proofs.values.pass.Goals as goal

pub returns-in-None : goal.returns-in-None
returns-in-None c = pass_none c.args.values.now c.args.from c.args.kind c.args.count c.min-skipped.result _ c.min-skipped.ensures refl c.in-None.ensures

pub returns-in-Some : goal.returns-in-Some
returns-in-Some c = pass_some c.args.values.now c.args.from _ c.args.kind c.args.count c.min-skipped.result _ c.in-Some.next c.min-skipped.ensures refl refl refl c.in-Some.ensures
