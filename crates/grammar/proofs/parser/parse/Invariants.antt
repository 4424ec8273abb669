-- The stack is the one that the tokens before lead to.
use Rattle.std.proofs.Common.{take}
use Rattle.grammar.specs.Stack.{items}
use Rattle.grammar.proofs.RunLemmas.{Reached}
use Rattle.grammar.proofs.parser.parse.Given as goal

abbrev pub invariant-loop-token : goal.invariant-loop-token
invariant-loop-token g l =
    Reached g.L.Language.grammar g.L.Language.certificate.predict g.L.Language.meter (take l.token-index l.tokens) (items g.L.Language.view l.stack) l.meters
