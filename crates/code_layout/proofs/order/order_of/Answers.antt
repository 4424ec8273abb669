-- One unit more, or the main is passed over.
use Rattle.std.proofs.Common.{◌≡◌, ◌-◌, ◌+◌, ◌∷◌, [], ◌++◌, sym, subst, rules}
use Rattle.code_layout.specs.Order.{others_from, others_of}
use Rattle.code_layout.proofs.OrderLemmas.{passed, pushed}
use Rattle.code_layout.proofs.order.order_of.Goals as goal
use Rattle.code_layout.proofs.order.order_of.Goals.{then-unit-main+in_ok-push-2, else-unit-main}

pub loop-unit-preserved : goal.loop-unit-preserved
loop-unit-preserved c =
    let k = c.loop-unit.unit in
    let n = c.args.units in
    let main = c.args.main in
    let all = main ∷ others_of main n in
    elim c.if-unit-main.branch [
      | then-unit-main+in_ok-push-2 w ↦
          let e : c.if-unit-main.order.items ≡ c.loop-unit.order.items ++ k ∷ [] = search rules in
          subst (λ xs. xs ++ others_from main (k + 1) (n - (k + 1)) ≡ all) (sym e) (pushed main k n c.loop-unit.order.items all c.loop-unit-test.true w.if-unit-main.true c.loop-unit.invariant)
      | else-unit-main w ↦
          let e : c.if-unit-main.order.items ≡ c.loop-unit.order.items = search rules in
          subst (λ xs. xs ++ others_from main (k + 1) (n - (k + 1)) ≡ all) (sym e) (passed main k n c.loop-unit.order.items all c.loop-unit-test.true w.if-unit-main.false c.loop-unit.invariant)
    ]
