-- What is there, and the columns of what is left, are the columns of the whole text.
use Rattle.std.proofs.Common.{◌≡◌, ◌+◌, ◌*◌, ◌≤◌, ◌++◌, drop}
use Rattle.arrayvec.specs.ArrayVec.{array_vec_len}
use Rattle.card_writer.specs.Cards.{columns}
use Rattle.card_writer.proofs.writer.push_text.Given as goal

abbrev pub invariant-loop-c : goal.invariant-loop-c
invariant-loop-c l = record {
  told : l.made.items ++ columns l.left l.next (drop l.c-index l.text) ≡ l.fn.made.items ++ columns 66 1 l.text;
  counted : l.c-index + l.left ≡ 66 * l.next;
  within : l.left ≤ 66;
  few : l.next ≤ 20;
  filled : array_vec_len l.made + 1 ≡ l.c-index + 7 * l.next;
}
