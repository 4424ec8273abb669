-- What is there, with the lines of the plans that are left, is all of it.
use Rattle.std.proofs.Common.{◌≡◌, ◌++◌, drop}
use Rattle.std.specs.List.{flat_map, enumerate_from}
use Rattle.code_listing.specs.Listing.{plan_line, plan_lines}
use Rattle.code_listing.proofs.lines.push_plans.Given as goal

abbrev pub invariant-loop-number : goal.invariant-loop-number
invariant-loop-number l = l.out.items ++ flat_map plan_line (enumerate_from l.number (drop l.number l.plans)) ≡ l.fn.out.items ++ plan_lines l.plans
