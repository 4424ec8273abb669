-- The bytes that a read gave are at hand.
use Rattle.std.proofs.Common.{◌≡◌, ◌+◌, ◌∙◌, ◌++◌, List, ℕ, length, take, drop, sym, ap, rules, arith}
use Rattle.record_intake.proofs.Buffers.{put_back}
use Rattle.record_intake.proofs.intake.Intake.read.Goals as goal

pub returns-clause-more : goal.returns-clause-more
returns-clause-more g c =
    let items = c.self.inside.bytes.items in
    let long = c.self.inside.bytes.len in
    let end = c.self.inside.end in
    let first = c.self.inside.first in
    let count = c.in_ok-count.count in
    let m = c.in_ok-count.ensures.bytes in
    let low = c.settled-self-inside.result in
    let front = c.settled-self-inside.new.buffer in
    let behind = c.read_behind.new.buffer in
    let whole : c.deref_mut.result.now ≡ items = first_of (search rules, cc) in
    let all : long ≡ length items = first_of (search rules, omega arith) in
    let front_long : length front ≡ length items = first_of (search rules, omega arith) in
    let back : take long (front ++ drop (length front) items) ≡ front = put_back items front long front_long all in
    let held : c.deref_mut-2.result.now ≡ front = first_of (cc, search rules) in
    let behind_long : length behind ≡ length (take long (front ++ drop (length front) items)) = first_of (search rules, cc) in
    let again = put_back (take long (front ++ drop (length front) items)) behind long behind_long (sym (ap length back ∙ front_long ∙ sym all)) in
    let bytes : take (low + count) behind ≡ take low c.deref_mut-2.result.now ++ m.0 = m.1 in
    let settled : take low front ≡ drop first (take end items) = ap (λ k. take k front) c.settled-self-inside.ensures.end ∙ c.settled-self-inside.ensures.bytes ∙ ap (λ (l : List ℕ). drop first (take end l)) whole in
    let hand = ap (λ x. x.hand) c.self.view_is in (
      m.0,
      ap (take (low + count)) again ∙ bytes ∙ ap (λ (l : List ℕ). take low l ++ m.0) held ∙ ap (λ (l : List ℕ). l ++ m.0) (settled ∙ hand),
      m.2,
      m.3,
    )
