-- The values of the innermost production are the last ones in the list.
use Rattle.std.proofs.Common.{◌≡◌, length, take, arith}
use Rattle.std.proofs.lemmas.List.{length-take}
use Rattle.grammar.specs.Stack.{held}
use Rattle.grammar.proofs.ListLemmas.{found, length-values}
use Rattle.grammar.proofs.stack.awaited.Goals as goal

pub returns : goal.returns
returns g c =
    let stack = c.args.stack.now in
    let view = g.L.Language.view in
    let same : length (take stack.top.count (held view stack)) ≡ c.done.result =
    omega (arith, length-take stack.top.count (held view stack), length-values view stack.values.items, c.done.ensures) in
    found _ _ _ _ c.symbol_at.ensures same
