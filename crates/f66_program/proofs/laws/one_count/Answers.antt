-- Two numberings have as many numbers each.
use Rattle.f66_program.proofs.CountLemmas as counting
use Rattle.f66_program.proofs.laws.one_count.Goals as goal

pub returns : goal.returns
returns c = λ rs m n one other. counting.one_count rs one.0 other.0 m n one.1 other.1
