-- Why `Numbers::make` keeps its clauses.
use Rattle.std.proofs.Common.{refl, ◌≡◌, ap, sym, ◌∙◌, arith, length, ◌∷◌, [], ◌++◌, ◌+◌, length-append}
use Rattle.name_alloc.specs.Numbers.{Numbering, is_in, behind}
use Rattle.name_alloc.proofs.Free.{found-low, found-free, found-above, not_in_more, behind-low, behind-append}
use Rattle.name_alloc.proofs.numbers.Numbers.make.Goals as goal

pub overflow_add-self : goal.overflow_add-self
overflow_add-self c =
    let low = found-low c.self.inside.taken c.self.inside.taken c.self.inside.next c.next_free-number.result (c.self.inside.first + length c.self.inside.made.items + length c.self.inside.taken) refl c.next_free-number.ensures c.self.invariant.1 in
    let seen = ap (λ (s : Numbering). s.first + length s.made + length s.taken) c.self.view_is in
    omega (arith, low, c.requires, seen)

pub invariant_of-self-2 : goal.invariant_of-self-2
invariant_of-self-2 c =
    let low = behind-low c.self.inside.taken c.self.inside.taken c.self.inside.next c.next_free-number.result (c.self.inside.first + length c.self.inside.made.items + length c.self.inside.taken) refl c.next_free-number.ensures c.self.invariant.1 in
    let far = found-above c.self.inside.taken c.self.inside.taken c.self.inside.next c.next_free-number.result refl c.next_free-number.ensures in
    let items : c.push.new.self.items ≡ c.self.inside.made.items ++ c.next_free-number.result ∷ [] = c.in_ok-push.ensures.items in
    let counted = ap length items ∙ length-append c.self.inside.made.items (c.next_free-number.result ∷ []) in (
      sym (ap (behind c.self.inside.first) items ∙ behind-append c.self.inside.first c.next_free-number.result c.self.inside.made.items),
      omega (arith, low, counted),
      λ n above. ap (λ ms. is_in ms n) items ∙ not_in_more c.self.inside.made.items c.next_free-number.result n (c.self.invariant.2 n (omega (arith, far, above))) (omega (arith, above)),
    )

pub returns-clause-fresh : goal.returns-clause-fresh
returns-clause-fresh c =
    let far = found-above c.self.inside.taken c.self.inside.taken c.self.inside.next c.next_free-number.result refl c.next_free-number.ensures in (
      ap (λ (s : Numbering). is_in s.taken c.next_free-number.result) (sym c.self.view_is) ∙ found-free c.self.inside.taken c.self.inside.taken c.self.inside.next c.next_free-number.result refl c.next_free-number.ensures,
      ap (λ (s : Numbering). is_in s.made c.next_free-number.result) (sym c.self.view_is) ∙ c.self.invariant.2 c.next_free-number.result far,
    )

pub returns-clause-low : goal.returns-clause-low
returns-clause-low c =
    let low = found-low c.self.inside.taken c.self.inside.taken c.self.inside.next c.next_free-number.result (c.self.inside.first + length c.self.inside.made.items + length c.self.inside.taken) refl c.next_free-number.ensures c.self.invariant.1 in
    let seen = ap (λ (s : Numbering). s.first + length s.made + length s.taken) c.self.view_is in
    omega (arith, low, seen)
