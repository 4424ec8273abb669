-- The pair gets the next number.
use Rattle.std.proofs.Common.{◌+◌, sym, ap}
use Rattle.std.proofs.lemmas.Result.{on_ok_weaker}
use Rattle.efl_scoped.specs.Numbers.{number_in}
use Rattle.efl_scoped.proofs.NumberLemmas.{still_numbered, inserted}
use Rattle.efl_scoped.proofs.numbers.Pairs.number.Goals as goal

pub invariant_of-self : goal.invariant_of-self
invariant_of-self c =
    let i = c.insert.ensures in
    let now = c.args.self.now in
    let all = inserted now.table c.insert.new.self c.args.a c.args.b (c.len-n.result + 4) (sym c.in_default.ensures.value) (ap (λ x. x + 4) c.len-n.ensures.len) now.below now.above now.distinct
    c.insert.result i.old (on_ok_weaker c.insert.result (λ u p q. u.0 (p, q)) i.updates) i.len i.err in
    record { below = all.0; above = all.1.0; distinct = all.1.1 }

pub returns-clause-kept : goal.returns-clause-kept
returns-clause-kept c =
    let old = c.args.self.now.table in
    still_numbered (number_in old) (number_in c.insert.new.self) c.args.a c.args.b (c.len-n.result + 4) (sym c.in_default.ensures.value) (λ p q. c.in_ok-insert.ensures.updates.0 (p, q))
