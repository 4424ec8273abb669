-- A row begins on the last island, or begins a new one.
use Rattle.std.proofs.Common.{ℕ, arith, refl, ap}
use Rattle.std.proofs.lemmas.Int.{ints}
use Rattle.offset_classes.specs.declared.numbers.Island.{Island}
use Rattle.offset_classes.specs.Numbers.{joins}
use Rattle.offset_classes.proofs.numbers.next_number.Goals as goal

pub returns-then-is_close : goal.returns-then-is_close
returns-then-is_close c =
    let old = c.args.island.now in
    let close = c.if-is_close.ensures in
    joins c.distance-gap.result c.if-island-class.true (omega (arith, ints, c.distance-gap.ensures)) (omega (arith, ints, close))
    (ap (λ (n : ℕ). let i : Island = record { class = old.class; start = old.start; len = n; first = old.first } in i) c.max-island.ensures) refl
