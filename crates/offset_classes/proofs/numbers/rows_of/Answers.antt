-- One seat more has its row.
use Rattle.std.proofs.Common.{◌≡◌, ◌<◌, length, arith, refl, ap, sym, subst}
use Rattle.offset_classes.specs.Numbers.{RowAt, IsRowOf}
use Rattle.offset_classes.proofs.numbers.rows_of.Goals as goal

pub returns : goal.returns
returns c =
    let v = c.loop-node.invariant in
    let seats = c.args.seats.now in
    let rows = c.loop-node.rows.items in
    let end : c.loop-node.node ≡ length seats = (let a = c.loop-node-test.false in let b = c.loop-node.auto.node-end in omega arith) in
    let many : length rows ≡ length seats = (let m = v.many in omega arith) in
    record {
      many = many;
      each = λ k k_in. (let i : k < c.loop-node.node = omega arith in let s : k < length seats = omega arith in subst (IsRowOf seats) (sym (v.each k i)) (s, refl, refl));
      all = λ x x_in. (let i : x < c.loop-node.node = omega arith in (x, omega arith, ap (λ (r : RowAt). r.2) (v.each x i)));
    }
