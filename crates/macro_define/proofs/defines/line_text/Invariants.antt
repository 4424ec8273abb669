-- The text of the line from the first token on is that from here on, behind the text so far.
use Rattle.std.proofs.Common.{◌≡◌, ◌≤◌, [], length}
use Rattle.macro_define.specs.Defines.{line_text}
use Rattle.macro_define.proofs.defines.line_text.Given as goal

abbrev pub invariant-loop-text : goal.invariant-loop-text
invariant-loop-text l = (line_text [] l.initial.tokens.tokens ≡ line_text l.text.items l.tokens.tokens) × (length l.tokens.tokens ≤ length l.initial.tokens.tokens) × (l.tokens.fault ≡ l.initial.tokens.fault)

abbrev pub decreases-loop-text : goal.decreases-loop-text
decreases-loop-text l = length l.tokens.tokens
