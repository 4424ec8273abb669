-- A production that begins has no value yet, and shares none of those in the list.
use Rattle.std.proofs.Common.{ap, ◌∙◌, ◌∷◌, []}
use Rattle.grammar.specs.Descent.{opened}
use Rattle.grammar.specs.Stack.{piled, held, shares}
use Rattle.grammar.proofs.ListLemmas.{piled-append}
use Rattle.grammar.proofs.stack.open.Goals as goal

pub returns : goal.returns
returns g c =
    let stack = c.args.stack.now in
    let view = g.L.Language.view in
    ap (λ fs. opened c.args.production ∷ shares (piled (λ f. f) fs []) (held view stack)) c.in_ok-push.ensures.items
    ∙ ap (λ fs. opened c.args.production ∷ shares fs (held view stack)) (piled-append (λ f. f) stack.outer.items stack.top [])
