-- The units before have theirs.
use Rattle.std.proofs.Common.{◌≡◌, ◌<◌, ℕ, length, slice_index_or}
use Rattle.whole_program.specs.Linkage.{linkage_of}
use Rattle.code_gen.specs.LayingOut.{need}
use Rattle.code_layout.specs.Tabled.{lines_in}
use Rattle.code_layout.proofs.measures.needs_of.Given as goal

abbrev pub invariant-loop-number : goal.invariant-loop-number
invariant-loop-number l = record {
  many : length l.needs.items ≡ l.number;
  each : (u d : ℕ) → u < l.number → slice_index_or l.needs.items u d ≡ need (linkage_of l.tables.linked.now) (lines_in l.tables.linked.now) u;
}
