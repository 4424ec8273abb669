-- Why `finish` keeps its clauses: each turn takes an item off the stack.
use Rattle.std.proofs.Common.{◌≡◌, ◌∷◌, [], length, drop, arith, ap, refl}
use Rattle.grammar.specs.Stack.{item, items, innermost, below, outer_shares}
use Rattle.grammar.proofs.ListLemmas.{nil_of, some_of, none_of}
use Rattle.grammar.proofs.StackLemmas.{popped_shares}
use Rattle.grammar.proofs.RunLemmas.{comes_to_itself, comes_closer, finishes_whole, finishes_stuck}
use Rattle.grammar.proofs.machine.finish.Goals as goal

pub loop-alloc-init : goal.loop-alloc-init
loop-alloc-init g c = comes_to_itself g.L.Language.grammar g.L.Language.certificate.predict _

pub returns-in-None : goal.returns-in-None
returns-in-None g c =
    let view = g.L.Language.view in
    let stack = c.loop-alloc.stack in
    let alone : items view stack ≡ innermost view stack ∷ [] =
    ap (λ fs. innermost view stack ∷ outer_shares fs (below view stack)) (nil_of stack.outer.items (omega (arith, stack.outer.ok.0, c.in-None.ensures.cases))) in
    finishes_whole g.L.Language.grammar g.L.Language.certificate.predict view c.in_ok-make-in-None.field-0 _ _ (innermost view stack) c.loop-alloc.invariant
    alone (none_of _ _ _ c.awaited.ensures c.loop-alloc-test.ensures) c.in_ok-make-in-None.ensures.made

pub loop-alloc-smaller : goal.loop-alloc-smaller
loop-alloc-smaller g c =
    let stack = c.loop-alloc.stack in
    let old = popped_shares stack.outer.items c.pop.new.self.items c.in-Some.next (below g.L.Language.view stack) c.in-Some.ensures.items in
    omega (arith, ap length old, ap length c.in_ok-close-in-Some.ensures)

pub loop-alloc-preserved : goal.loop-alloc-preserved
loop-alloc-preserved g c =
    let view = g.L.Language.view in
    let stack = c.loop-alloc.stack in
    let next = c.in-Some.next in
    let top = innermost view stack in
    let rest = outer_shares c.pop.new.self.items (drop next.count (below view stack)) in
    comes_closer g.L.Language.grammar g.L.Language.certificate.predict _ _ _ top (item next (below view stack)) rest c.loop-alloc.invariant
    (ap (λ fs. top ∷ fs) (popped_shares stack.outer.items c.pop.new.self.items next (below view stack) c.in-Some.ensures.items))
    c.in_ok-close-in-Some.ensures (none_of _ _ _ c.awaited.ensures c.loop-alloc-test.ensures)

pub returns : goal.returns
returns g c =
    let awaits = some_of _ _ _ c.awaited.ensures c.loop-alloc-test.ensures in
    finishes_stuck g.L.Language.grammar g.L.Language.certificate.predict g.L.Language.view _ _ (innermost g.L.Language.view c.loop-alloc.stack) _ awaits.0 c.loop-alloc.invariant refl awaits.1
