-- Why `Names::fresh_name` keeps its clauses.
use Rattle.std.proofs.Common.{◌≡◌, ap, ◌∙◌, arith, subst, false, length, ◌+◌, ◌<◌}
use Rattle.name_alloc.specs.MadeNames.{Used, is_used}
use Rattle.name_alloc.proofs.Made.{made_fresh}
use Rattle.name_alloc.proofs.names.Names.fresh_name.Goals as goal

pub returns-clause-fresh : goal.returns-clause-fresh
returns-clause-fresh c =
    let i = c.self.inside in
    let v : Used = record { letter = i.letter; kept = i.kept.items; numbers = i.numbers; labels = i.labels } in
    let n = c.in_ok-number.number in
    let room = ap (λ (s : Used). length s.numbers.made + length s.kept) c.self.view_is in
    let below : n < 100000 = omega (arith, c.in_ok-number.ensures.low, c.self.invariant.1, c.self.invariant.2, c.requires, room) in
    let fresh = made_fresh v n below c.self.invariant.0 c.in_ok-number.ensures.fresh.0 c.in_ok-number.ensures.fresh.1 in
    subst (λ (s : Used). is_used s c.numbered.result ≡ false) c.self.view_is (ap (is_used v) c.numbered.ensures ∙ fresh)
