-- How many lie before the one that two subscripts name.
use Rattle.std.proofs.Common.{◌≡◌, ◌≤◌, false, rules, subst, sym, w32}
use mir.Val.{SFits}
use Rattle.std.specs.Prelude.{pos, int_le}
use Rattle.std.specs.Int.{cast_unsigned}
use Rattle.std.proofs.lemmas.Int.{to_z-of_z}
use Rattle.runner.proofs.Placing.{some_rows, far_over}
use Rattle.runner.proofs.subscripts.before_both.Goals as goal

pub returns-clause-second : goal.returns-clause-second
returns-clause-second c = λ h g k.
    let d0 : SFits w32 c.args.rows = search rules in
    let v1 : SFits w32 c.args.two = search rules in
    let is : c.from.result ≡ cast_unsigned w32 c.args.rows = search rules in
    let some : 1 ≤ c.from.result = subst (λ n. 1 ≤ n) (sym is) (some_rows c.args.one c.args.rows d0 h g) in
    far_over c.before-2.result c.before-3.result c.from.result some (c.before-3.ensures.unnamed (subst (λ z. int_le (pos 1) z ≡ false) (sym (to_z-of_z w32 c.args.two v1)) k))
