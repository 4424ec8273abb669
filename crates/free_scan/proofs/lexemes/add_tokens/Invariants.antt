-- The tokens of the whole line are those added, and then those from here.
use Rattle.std.proofs.Common.{◌≡◌, ◌-◌, ◌++◌, ◌≤◌, length, drop}
use Rattle.free_scan.specs.Lexemes.{tokens_of}
use Rattle.free_scan.proofs.lexemes.add_tokens.Given as goal

abbrev pub invariant-loop-at : goal.invariant-loop-at
invariant-loop-at l =
    (l.initial.tokens.items ++ (tokens_of l.dialect l.text l.file 0 l.characters).tokens
    ≡ l.tokens.items ++ (tokens_of l.dialect l.text l.file 0 (drop l.at l.characters)).tokens)
    × ((tokens_of l.dialect l.text l.file 0 l.characters).fault ≡ (tokens_of l.dialect l.text l.file 0 (drop l.at l.characters)).fault)
    × (l.at ≤ length l.characters)

abbrev pub decreases-loop-at : goal.decreases-loop-at
decreases-loop-at l = length l.characters - l.at
