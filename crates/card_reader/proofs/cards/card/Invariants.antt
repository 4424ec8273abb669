-- The columns so far, and those of what is left of the line.
use Rattle.std.proofs.Common.{◌≡◌, ◌-◌, ◌++◌, drop}
use Rattle.arrayvec.specs.ArrayVec.{array_vec_len}
use Rattle.card_reader.specs.Cards.{columns}
use Rattle.card_reader.proofs.cards.card.Given as goal

abbrev pub invariant-loop-i : goal.invariant-loop-i
invariant-loop-i l = record {
  told : l.columns.items ++ columns (72 - l.i) (drop l.i l.line) ≡ columns 72 l.line;
  size : array_vec_len l.columns ≡ l.i;
}
