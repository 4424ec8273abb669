-- The end of the text from the first token on is that from here on, behind the text so far.
use Rattle.std.proofs.Common.{◌≡◌, ◌≤◌, [], length}
use Rattle.macro_define.specs.Defines.{enclosed_text}
use Rattle.macro_define.proofs.defines.enclosed_text.Given as goal

abbrev pub invariant-loop-text : goal.invariant-loop-text
invariant-loop-text l = (enclosed_text 0 [] l.initial.tokens.tokens ≡ enclosed_text l.opened l.text.items l.tokens.tokens) × (l.opened ≤ length l.text.items) × (length l.tokens.tokens ≤ length l.initial.tokens.tokens) × (l.tokens.fault ≡ l.initial.tokens.fault)

abbrev pub decreases-loop-text : goal.decreases-loop-text
decreases-loop-text l = length l.tokens.tokens
