-- The values taken so far and those left are all values, in their order.
use Rattle.std.proofs.Common.{reverse}
use Rattle.grammar.specs.Stack.{IsSplit}
use Rattle.grammar.proofs.stack.take_parts.Given as goal

abbrev pub invariant-loop : goal.invariant-loop
invariant-loop g l = IsSplit l.fn.values.items l.counter l.values.items (reverse l.parts.items)
