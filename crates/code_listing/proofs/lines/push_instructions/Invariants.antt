-- What is there, with the lines of the instructions that are left, is all of it.
use Rattle.std.proofs.Common.{◌≡◌, ◌++◌, drop}
use Rattle.std.specs.List.{flat_map, enumerate_from}
use Rattle.code_listing.specs.Listing.{instruction_line, instruction_lines}
use Rattle.code_listing.proofs.lines.push_instructions.Given as goal

abbrev pub invariant-loop-number : goal.invariant-loop-number
invariant-loop-number l = l.out.items ++ flat_map instruction_line (enumerate_from l.number (drop l.number l.ops)) ≡ l.fn.out.items ++ instruction_lines l.ops
