-- A byte behind the line.
use Rattle.std.proofs.Common.{ap, ◌∙◌, ◌++◌, ◌∷◌, [], List, ℕ, arith}
use Rattle.std.proofs.lemmas.List.{take_more_set}
use Rattle.record_flow.proofs.flow.lay.Goals as goal

pub returns-clause-front : goal.returns-clause-front
returns-clause-front c = take_more_set c.copy_front.new.buffer _ 10 (omega arith) ∙ ap (λ (l : List ℕ). l ++ 10 ∷ []) c.copy_front.ensures.front
