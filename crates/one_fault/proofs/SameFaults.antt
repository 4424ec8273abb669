-- Faults that agree in all that they tell are the same, and so are numbers of which neither is less.
use Rattle.std.proofs.Common.{◌≡◌, ◌<◌, ℕ, arith}
use Rattle.ground.specs.declared.fault.Fault.{Fault}

pub one_number : (m n : ℕ) → ¬ (m < n) → ¬ (n < m) → m ≡ n
one_number m n below above = omega arith

pub same_fault : (f g : Fault) → f.kind ≡ g.kind → f.place ≡ g.place → f.number ≡ g.number → f ≡ g
same_fault f g kind place number = λ i. record { kind = kind i; place = place i; number = number i }
