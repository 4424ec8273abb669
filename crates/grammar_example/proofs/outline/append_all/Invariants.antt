-- The text is the one at the beginning with the texts of the values before.
use Rattle.std.proofs.Common.{◌≡◌, ◌++◌, [], take}
use Rattle.grammar.specs.Stack.{piled}
use Rattle.grammar_example.specs.Outline.{text_of, joined}
use Rattle.grammar_example.proofs.outline.append_all.Given as goal

abbrev pub invariant-loop-value : goal.invariant-loop-value
invariant-loop-value l = l.text.items ≡ l.fn.text.items ++ joined (piled text_of (take l.value-index l.values) [])
