-- The magnitude of the digits so far is in range, and with those to come it is that of all.
use Rattle.std.proofs.Common.{◌≡◌, ◌≤◌, drop}
use Rattle.f66_tree.specs.Fielded.{field, in_magnitude, digits_from}
use Rattle.format_io.proofs.input.Input.magnitude.Given as goal

abbrev pub invariant-loop-i : goal.invariant-loop-i
invariant-loop-i l = (l.n ≤ 2147483647) × (in_magnitude (digits_from l.n (drop l.i (field l.width l.self))) ≡ in_magnitude (digits_from 0 (drop l.from (field l.width l.self))))
