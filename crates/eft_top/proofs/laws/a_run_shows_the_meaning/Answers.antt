-- Why `a_run_shows_the_meaning` keeps its clause.
use Rattle.eft_top.proofs.Runs.{run_shows_meaning}
use Rattle.eft_top.proofs.laws.a_run_shows_the_meaning.Goals as goal

pub returns : goal.returns
returns g c = λ input rest out shown diag told. run_shows_meaning _ _ _ c.one_verdict.ensures
