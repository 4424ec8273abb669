-- What the bytes at hand begin with.
use Rattle.std.proofs.Common.{◌≡◌, ◌≤◌, ◌<◌, ◌∙◌, true, false, length, take, drop, sym, ap, rules, arith, refl, length-drop}
use Rattle.std.proofs.lemmas.List.{take-take, length-take-le}
use Rattle.ports.specs.Records.{without_return}
use Rattle.record_intake.proofs.FirstRecords.{at_record, at_last, at_long, at_none}
use Rattle.record_intake.proofs.intake.Intake.at_hand.Goals as goal

pub returns-in-Some : goal.returns-in-Some
returns-in-Some c =
    let hand = c.hand-hand.result.now in
    let n = c.in-Some.at in
    let k = c.length_of.result in
    let found = c.in-Some.ensures in
    let high : n < length hand = found.0.high in
    let long = length-take-le n hand (omega arith) in
    let most = c.length_of.ensures.most in
    let few : k ≤ n = omega arith in
    let line : take k hand ≡ without_return (take n hand) = sym (take-take k n hand few) ∙ c.length_of.ensures.record in
    (at_record c.args.self.now hand c.hand-hand.ensures n k _ (omega arith) high found.0.before found.1 line few, refl)

pub returns-then-hand-eq-ROOM : goal.returns-then-hand-eq-ROOM
returns-then-hand-eq-ROOM c = (at_long c.args.self.now c.hand-hand.result.now c.hand-hand.ensures c.if-hand-eq-ROOM.true c.in-None.ensures, refl)

pub returns-then-not-self : goal.returns-then-not-self
returns-then-not-self c =
    let hand = c.hand-hand.result.now in
    let items = c.self.inside.bytes.items in
    let going : c.self.inside.ended ≡ false = search rules in
    let is : hand ≡ drop c.self.inside.first (take c.self.inside.end items) = c.hand-hand.ensures ∙ sym (ap (λ x. x.hand) c.self.view_is) in
    let inv = c.self.invariant in
    let taken = length-take-le c.self.inside.end items (omega arith) in
    let dropped = length-drop c.self.inside.first (take c.self.inside.end items) in
    let same = ap length is in
    let other = c.if-hand-eq-ROOM.false in
    at_none c.args.self.now hand c.hand-hand.ensures (sym (ap (λ x. x.ended) c.self.view_is) ∙ going) (omega arith) c.in-None.ensures

pub returns-else-is_empty : goal.returns-else-is_empty
returns-else-is_empty c =
    let hand = c.hand-hand.result.now in
    let ended : c.self.inside.ended ≡ true = search rules in
    let some : 0 < length hand = first_of (search rules, grind arith) in
    (at_last c.args.self.now hand c.hand-hand.ensures (sym (ap (λ x. x.ended) c.self.view_is) ∙ ended) some c.in-None.ensures, refl)
