-- The first fault of types, and else of the limit.
use Rattle.std.proofs.Common.{sym, ap, ◌∙◌}
use Rattle.std.specs.Option.{option_or}
use Rattle.efl_types.specs.Storage.{storage_fault}
use Rattle.efl_checks.proofs.checking.walked_fault.Goals as goal

pub returns-in-Some : goal.returns-in-Some
returns-in-Some c = λ p are read. ap (λ o. option_or o (storage_fault p)) (sym c.in-Some.is ∙ read.tells.tells)

pub returns-in-None : goal.returns-in-None
returns-in-None c = λ p are read. c.fault.ensures p are read.counts ∙ ap (λ o. option_or o (storage_fault p)) (sym c.in-None.is ∙ read.tells.tells)
