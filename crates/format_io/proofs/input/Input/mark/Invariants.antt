-- Only blanks were passed.
use Rattle.std.proofs.Common.{◌≡◌, drop}
use Rattle.f66_tree.specs.Fielded.{field, unblanked}
use Rattle.format_io.proofs.input.Input.mark.Given as goal

abbrev pub invariant-loop-i : goal.invariant-loop-i
invariant-loop-i l = unblanked (drop l.i (field l.width l.self)) ≡ unblanked (field l.width l.self)
