-- The numbers are those of units.
use Rattle.std.proofs.Common.{◌≡◌, ◌<◌, ◌∷◌, ◌∙◌, All, length, rules, sym, ap, subst}
use Rattle.code_layout.specs.Order.{others_of}
use Rattle.code_layout.proofs.CompileLemmas.{order_inside}
use Rattle.code_layout.proofs.compiling.units_of.Goals as goal

pub units_by-requires : goal.units_by-requires
units_by-requires c =
    let t = c.args.tables.now in
    let n = length t.units.items in
    let main = t.linked.now.main in
    let many : c.len.result ≡ n = search rules in
    let order : c.deref.result.now ≡ main ∷ others_of main n = c.deref.ensures.value ∙ c.in_ok-order.ensures ∙ ap (λ k. main ∷ others_of main k) many in
    subst (All (λ u. u < n)) (sym order) (order_inside main n c.requires.main)
