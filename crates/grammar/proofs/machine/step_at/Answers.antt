-- One step of the machine, by the item on top of its stack.
use Rattle.std.proofs.Common.{◌≡◌, ◌∷◌, [], ap, ◌∙◌, sym, subst, refl, drop, arith, None, Some, rules}
use Rattle.grammar.specs.declared.language.Symbol.TheVariants.{Terminal, Nonterminal}
use Rattle.grammar.specs.Descent.{left, behind, with_value, whole, Linked}
use Rattle.grammar.specs.Stack.{item, items, innermost, below, around, outer_shares}
use Rattle.grammar.proofs.ListLemmas.{nil_of}
use Rattle.grammar.proofs.StackLemmas.{popped_shares}
use Rattle.grammar.proofs.StepLemmas.{refuses_terminal, refuses_nonterminal, refuses_whole}
use Rattle.grammar.proofs.DistanceLemmas.{linked_with, distance_at, distance_close, distance_open}
use Rattle.grammar.proofs.LookaheadLemmas.{predicted_nonterminal, other_terminal}
use Rattle.grammar.proofs.RunLemmas.{turn_close, turn_open, take_shift, refuse}
use Rattle.grammar.proofs.machine.step_at.Goals as goal

pub returns-in_default-clause-steps : goal.returns-in_default-clause-steps
returns-in_default-clause-steps g c =
    let l = g.L.Language.grammar in
    let view = g.L.Language.view in
    let stack = c.args.stack.now in
    let top = innermost view stack in
    let alone : items view stack ≡ top ∷ [] =
    ap (λ fs. top ∷ outer_shares fs (below view stack)) (nil_of stack.outer.items (omega (arith, stack.outer.ok.0, c.in_default.ensures.cases))) in
    refuse l g.L.Language.certificate.predict g.L.Language.meter _ (top ∷ []) _ c.args.token.now alone
    (refuses_whole l g.L.Language.certificate.predict top c.args.token.now c.in-None.ensures)

pub returns-then-not-same_terminal-clause-steps : goal.returns-then-not-same_terminal-clause-steps
returns-then-not-same_terminal-clause-steps g c =
    let l = g.L.Language.grammar in
    let view = g.L.Language.view in
    let stack = c.args.stack.now in
    let top = innermost view stack in
    let next : left l top ≡ Terminal c.in-Some-Terminal.terminal ∷ behind l top = c.in-Some-Terminal.ensures ∙ ap (λ x. x ∷ behind l top) c.in-Some-Terminal.field-0-is in
    let other : l.terminal_of c.args.token.now ≡ c.in-Some-Terminal.terminal → ⊥ =
    λ e. other_terminal l g.L.Language.certificate g.met.L.Language.sound _ _ c.same_terminal.result c.same_terminal.ensures (search rules) (c.requires ∙ e) in
    refuse l g.L.Language.certificate.predict g.L.Language.meter _ (items view stack) _ c.args.token.now refl
    (refuses_terminal l g.L.Language.certificate.predict top (around view stack) c.in-Some-Terminal.terminal (behind l top) c.args.token.now next other)

pub returns-in_default-predict-clause-steps : goal.returns-in_default-predict-clause-steps
returns-in_default-predict-clause-steps g c =
    let l = g.L.Language.grammar in
    let view = g.L.Language.view in
    let stack = c.args.stack.now in
    let top = innermost view stack in
    let predicted : g.L.Language.certificate.predict c.in-Some-Nonterminal.nonterminal (l.terminal_of c.args.token.now) ≡ None =
    ap (g.L.Language.certificate.predict c.in-Some-Nonterminal.nonterminal) (sym c.requires) ∙ sym c.in_default-predict.ensures in
    let next : left l top ≡ Nonterminal c.in-Some-Nonterminal.nonterminal ∷ behind l top = c.in-Some-Nonterminal.ensures ∙ ap (λ x. x ∷ behind l top) c.in-Some-Nonterminal.field-0-is in
    refuse l g.L.Language.certificate.predict g.L.Language.meter _ (items view stack) _ c.args.token.now refl
    (refuses_nonterminal l g.L.Language.certificate.predict top (around view stack) c.in-Some-Nonterminal.nonterminal (behind l top) c.args.token.now next predicted)

pub returns-in_ok-close-in-None-clause-steps : goal.returns-in_ok-close-in-None-clause-steps
returns-in_ok-close-in-None-clause-steps g c =
    let l = g.L.Language.grammar in
    let view = g.L.Language.view in
    let stack = c.args.stack.now in
    let top = innermost view stack in
    let parent = item c.in-Some.next (below view stack) in
    let rest = outer_shares c.pop.new.self.items (drop c.in-Some.next.count (below view stack)) in
    let old : items view stack ≡ top ∷ parent ∷ rest =
    ap (λ fs. top ∷ fs) (popped_shares stack.outer.items c.pop.new.self.items c.in-Some.next (below view stack) c.in-Some.ensures.items) in
    turn_close l g.L.Language.certificate.predict g.L.Language.meter top parent rest _ _ _ _ c.args.token.now c.in-None.ensures old
    c.in_ok-close-in-None.ensures c.next_meters.ensures

pub returns-in_ok-close-in-None-clause-linked : goal.returns-in_ok-close-in-None-clause-linked
returns-in_ok-close-in-None-clause-linked g c h =
    let l = g.L.Language.grammar in
    let view = g.L.Language.view in
    let stack = c.args.stack.now in
    let top = innermost view stack in
    let parent = item c.in-Some.next (below view stack) in
    let rest = outer_shares c.pop.new.self.items (drop c.in-Some.next.count (below view stack)) in
    let old : items view stack ≡ top ∷ parent ∷ rest =
    ap (λ fs. top ∷ fs) (popped_shares stack.outer.items c.pop.new.self.items c.in-Some.next (below view stack) c.in-Some.ensures.items) in
    let was : Linked l (top ∷ parent ∷ rest) = subst (Linked l) old h in
    subst (Linked l) (sym c.in_ok-close-in-None.ensures) (linked_with l parent (whole l top) rest was.1)

pub returns-in_ok-close-in-None-clause-closer : goal.returns-in_ok-close-in-None-clause-closer
returns-in_ok-close-in-None-clause-closer g c =
    let l = g.L.Language.grammar in
    let view = g.L.Language.view in
    let stack = c.args.stack.now in
    let top = innermost view stack in
    let parent = item c.in-Some.next (below view stack) in
    let rest = outer_shares c.pop.new.self.items (drop c.in-Some.next.count (below view stack)) in
    let old : items view stack ≡ top ∷ parent ∷ rest =
    ap (λ fs. top ∷ fs) (popped_shares stack.outer.items c.pop.new.self.items c.in-Some.next (below view stack) c.in-Some.ensures.items) in
    distance_at l g.L.Language.certificate _ _ _ _ c.in_ok-close-in-None.ensures old
    (distance_close l g.L.Language.certificate top parent rest (whole l top) c.in-None.ensures)

pub returns-in_ok-push_value-in-Some-Terminal-clause-steps : goal.returns-in_ok-push_value-in-Some-Terminal-clause-steps
returns-in_ok-push_value-in-Some-Terminal-clause-steps g c =
    let l = g.L.Language.grammar in
    let view = g.L.Language.view in
    let stack = c.args.stack.now in
    let top = innermost view stack in
    let next : left l top ≡ Terminal c.in-Some-Terminal.terminal ∷ behind l top = c.in-Some-Terminal.ensures ∙ ap (λ x. x ∷ behind l top) c.in-Some-Terminal.field-0-is in
    let same : l.terminal_of c.args.token.now ≡ c.in-Some-Terminal.terminal =
    sym c.requires ∙ g.met.L.Language.sound.same_terminal.is _ _ (sym c.same_terminal.ensures ∙ (search rules)) in
    take_shift l g.L.Language.certificate.predict g.L.Language.meter top (around view stack) _ _ _ _ c.args.token.now c.in-Some-Terminal.terminal next same refl
    (c.in_ok-push_value-in-Some-Terminal.ensures ∙ ap (λ v. with_value top v ∷ around view stack) c.in_ok-value-in-Some-Terminal.ensures)
    c.next_meters-in-Some-Terminal.ensures

pub returns-in_ok-open-in-Some-Nonterminal-clause-steps : goal.returns-in_ok-open-in-Some-Nonterminal-clause-steps
returns-in_ok-open-in-Some-Nonterminal-clause-steps g c =
    let l = g.L.Language.grammar in
    let view = g.L.Language.view in
    let stack = c.args.stack.now in
    let top = innermost view stack in
    let next : left l top ≡ Nonterminal c.in-Some-Nonterminal.nonterminal ∷ behind l top = c.in-Some-Nonterminal.ensures ∙ ap (λ x. x ∷ behind l top) c.in-Some-Nonterminal.field-0-is in
    let predicted : g.L.Language.certificate.predict c.in-Some-Nonterminal.nonterminal (l.terminal_of c.args.token.now) ≡ Some c.in-Some-predict.production =
    ap (g.L.Language.certificate.predict c.in-Some-Nonterminal.nonterminal) (sym c.requires) ∙ sym c.in-Some-predict.ensures in
    turn_open l g.L.Language.certificate.predict g.L.Language.meter top (around view stack) _ _ _ _ c.args.token.now c.in-Some-Nonterminal.nonterminal c.in-Some-predict.production next predicted refl
    c.in_ok-open-in-Some-Nonterminal.ensures c.next_meters-in-Some-Nonterminal.ensures

pub returns-in_ok-open-in-Some-Nonterminal-clause-linked : goal.returns-in_ok-open-in-Some-Nonterminal-clause-linked
returns-in_ok-open-in-Some-Nonterminal-clause-linked g c h =
    let l = g.L.Language.grammar in
    let view = g.L.Language.view in
    let stack = c.args.stack.now in
    let top = innermost view stack in
    let next : left l top ≡ Nonterminal c.in-Some-Nonterminal.nonterminal ∷ behind l top = c.in-Some-Nonterminal.ensures ∙ ap (λ x. x ∷ behind l top) c.in-Some-Nonterminal.field-0-is in
    let predicted : g.L.Language.certificate.predict c.in-Some-Nonterminal.nonterminal (l.terminal_of c.args.token.now) ≡ Some c.in-Some-predict.production =
    ap (g.L.Language.certificate.predict c.in-Some-Nonterminal.nonterminal) (sym c.requires) ∙ sym c.in-Some-predict.ensures in
    let owned : l.nonterminal_of c.in-Some-predict.production ≡ c.in-Some-Nonterminal.nonterminal =
    predicted_nonterminal l g.L.Language.certificate g.met.L.Language.sound _ _ _ predicted in
    subst (Linked l) (sym c.in_ok-open-in-Some-Nonterminal.ensures) (next ∙ ap (λ n. Nonterminal n ∷ behind l top) (sym owned), h)

pub returns-in_ok-open-in-Some-Nonterminal-clause-closer : goal.returns-in_ok-open-in-Some-Nonterminal-clause-closer
returns-in_ok-open-in-Some-Nonterminal-clause-closer g c =
    let l = g.L.Language.grammar in
    let view = g.L.Language.view in
    let stack = c.args.stack.now in
    let top = innermost view stack in
    let next : left l top ≡ Nonterminal c.in-Some-Nonterminal.nonterminal ∷ behind l top = c.in-Some-Nonterminal.ensures ∙ ap (λ x. x ∷ behind l top) c.in-Some-Nonterminal.field-0-is in
    let predicted : g.L.Language.certificate.predict c.in-Some-Nonterminal.nonterminal (l.terminal_of c.args.token.now) ≡ Some c.in-Some-predict.production =
    ap (g.L.Language.certificate.predict c.in-Some-Nonterminal.nonterminal) (sym c.requires) ∙ sym c.in-Some-predict.ensures in
    let owned : l.nonterminal_of c.in-Some-predict.production ≡ c.in-Some-Nonterminal.nonterminal =
    predicted_nonterminal l g.L.Language.certificate g.met.L.Language.sound _ _ _ predicted in
    distance_at l g.L.Language.certificate _ _ (items view stack) _ c.in_ok-open-in-Some-Nonterminal.ensures refl
    (distance_open l g.L.Language.certificate g.met.L.Language.sound top (around view stack) c.in-Some-Nonterminal.nonterminal c.in-Some-predict.production next owned)
