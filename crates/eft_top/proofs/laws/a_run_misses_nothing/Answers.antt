-- Why `a_run_misses_nothing` keeps its clause.
use Rattle.eft_top.proofs.Runs.{run_misses_nothing}
use Rattle.eft_top.proofs.laws.a_run_misses_nothing.Goals as goal

pub returns : goal.returns
returns g c = λ input rest out shown diag told. run_misses_nothing _ _ _ c.one_verdict.ensures c.runs_extend.ensures
