-- A value more is the innermost production's.
use Rattle.std.proofs.Common.{◌≡◌, ◌+◌, suc, length, take, drop, arith, ap, sym, ◌∙◌, ◌∷◌, []}
use Rattle.std.specs.Prelude.{min}
use Rattle.grammar.specs.Stack.{piled, held, shares}
use Rattle.grammar.proofs.ListLemmas.{piled-append, length-values, take_least, drop_least}
use Rattle.grammar.proofs.stack.push_value.Goals as goal

pub returns : goal.returns
returns g c =
    let stack = c.args.stack.now in
    let view = g.L.Language.view in
    let m = c.done-count.result in
    let least : m ≡ min stack.top.count (length (held view stack)) = c.done-count.ensures ∙ ap (min stack.top.count) (sym (length-values view stack.values.items)) in
    let more : m + 1 ≡ suc m = omega arith in
    let fuller : piled view c.push.new.self.items [] ≡ view c.args.value ∷ held view stack =
    ap (λ ws. piled view ws []) c.in_ok-push.ensures.items ∙ piled-append view stack.values.items c.args.value [] in
    ap (λ n. shares (record { production = stack.top.production; count = n } ∷ piled (λ f. f) stack.outer.items []) (piled view c.push.new.self.items [])) more
    ∙ (ap (λ vs. shares (record { production = stack.top.production; count = suc m } ∷ piled (λ f. f) stack.outer.items []) vs) fuller
    ∙ (ap (λ vs. record { production = stack.top.production; values = view c.args.value ∷ vs } ∷ shares (piled (λ f. f) stack.outer.items []) (drop m (held view stack)))
    (take_least stack.top.count m (held view stack) least)
    ∙ ap (λ vs. record { production = stack.top.production; values = view c.args.value ∷ take stack.top.count (held view stack) } ∷ shares (piled (λ f. f) stack.outer.items []) vs)
    (drop_least stack.top.count m (held view stack) least)))
