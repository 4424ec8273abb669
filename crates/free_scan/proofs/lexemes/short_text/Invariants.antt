-- The bytes so far, and those of the characters that are left.
use Rattle.std.proofs.Common.{◌≡◌, ◌++◌, map, drop}
use Rattle.arrayvec.specs.ArrayVec.{array_vec_len}
use Rattle.free_scan.proofs.lexemes.short_text.Given as goal

abbrev pub invariant-loop-character : goal.invariant-loop-character
invariant-loop-character l = record {
  told : l.bytes.items ++ map (λ c. c.byte) (drop l.character-index l.characters) ≡ map (λ c. c.byte) l.characters;
  size : array_vec_len l.bytes ≡ l.character-index;
}
