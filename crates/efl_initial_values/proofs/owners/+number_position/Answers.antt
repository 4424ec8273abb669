-- A number more, and then the rest.
use Rattle.std.proofs.Common.{IfOk, ◌∷◌, [], sym, subst}
use Rattle.std.proofs.lemmas.Result.{IfOk-weaker}
use Rattle.efl_scoped.specs.Seen.{table_of, Leads}
use Rattle.efl_scoped.proofs.WordLemmas.{leads_one, leads_both}
use Rattle.efl_blocks.specs.HomeViews.{position_of}
use Rattle.efl_initial_values.proofs.owners.+number_position.Goals as goal

pub returns-in_ok-next-in-Inside : goal.returns-in_ok-next-in-Inside
returns-in_ok-next-in-Inside t c =
    let f = table_of c.args.numbers.now in
    let g = table_of c.number.new.self in
    let h = table_of c.number_position.new.numbers in
    let one = c.in_ok-next-in-Inside.ensures in
    let n = c.in-Inside.number in
    let next = c.in_ok-next-in-Inside.next in
    let rest = position_of c.in-Inside.outside.now in
    subst (λ p. IfOk c.number_position.result (λ m. Leads f (position_of p) c.args.from h m)) (sym c.in-Inside.is)
    (IfOk-weaker c.number_position.result (λ m. Leads g rest next h m) (λ m. Leads f (n ∷ rest) c.args.from h m)
    (λ m at. leads_both f g h (n ∷ []) rest c.args.from next m (leads_one f g c.args.from n next one.kept one.numbered) at) c.number_position.ensures)
