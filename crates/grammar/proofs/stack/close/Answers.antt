-- A production that is done gives its value to the one around it.
use Rattle.std.proofs.Common.{ap, ◌∙◌, ◌∷◌, drop}
use Rattle.grammar.specs.Descent.{with_value, whole}
use Rattle.grammar.specs.Stack.{item, innermost, below, outer_shares}
use Rattle.grammar.proofs.stack.close.Goals as goal

pub returns : goal.returns
returns g c =
    let stack = c.args.stack.now in
    let next = c.args.next in
    let view = g.L.Language.view in
    let made = c.make.new.stack in
    let left = below view stack in
    let value = whole g.L.Language.grammar (innermost view stack) in
    c.in_ok-push_value.ensures
    ∙ (ap (λ vs. with_value (item next vs) (view c.in_ok-value.value) ∷ outer_shares made.outer.items (drop next.count vs)) c.in_ok-value.ensures.below
    ∙ (ap (λ v. with_value (item next left) v ∷ outer_shares made.outer.items (drop next.count left)) c.in_ok-value.ensures.made
    ∙ ap (λ fs. with_value (item next left) value ∷ outer_shares fs.items (drop next.count left)) c.in_ok-value.ensures.outer))
