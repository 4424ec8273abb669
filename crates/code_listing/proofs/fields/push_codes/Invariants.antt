-- What is there, with what is left of the code, is all of it.
use Rattle.std.proofs.Common.{◌≡◌, ℕ, List, ◌++◌, drop, map, true}
use Rattle.format_io.specs.Places.{plan_code}
use Rattle.code_listing.specs.FlatText.{flat_text}
use Rattle.code_listing.proofs.fields.push_codes.Given as goal

abbrev pub invariant-loop-op : goal.invariant-loop-op
invariant-loop-op l = (k : List ℕ) → l.fn.out.items ++ flat_text true (map plan_code l.ops) k ≡ l.out.items ++ flat_text l.free (map plan_code (drop l.op-index l.ops)) k
