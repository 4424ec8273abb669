-- Structures are no deeper than there are some.
use Rattle.std.proofs.Common.{arith}
use Rattle.efl_initial_values.proofs.PassLemmas.{misfits_all, fits_all}
use Rattle.efl_initial_values.proofs.values.misfits.Goals as goal

pub returns-in-None : goal.returns-in-None
returns-in-None c = λ f t made small.
    misfits_all f c.args.structures.now.list.items t c.args.kind.now c.args.from c.args.values.now c.len-depth.result made small (omega (arith, c.len-depth.ensures, c.args.structures.now.list.ok.0)) (λ u n one deep total few. c.in-None.ensures f u n one deep total few)

pub returns-in-Some : goal.returns-in-Some
returns-in-Some c = λ f t made small.
    fits_all f c.args.structures.now.list.items t c.args.kind.now c.args.from c.args.values.now c.len-depth.result c.in-Some._passed made small (omega (arith, c.len-depth.ensures, c.args.structures.now.list.ok.0)) (λ u n one deep total few. c.in-Some.ensures f u n one deep total few)
