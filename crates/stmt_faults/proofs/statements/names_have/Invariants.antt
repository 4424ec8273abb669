-- None of those before is too long.
use Rattle.std.proofs.Common.{◌≡◌, drop}
use Rattle.std.specs.List.{list_any}
use Rattle.stmt_reader.specs.Faults.{too_long}
use Rattle.stmt_faults.proofs.statements.names_have.Given as goal

abbrev pub invariant-loop-name : goal.invariant-loop-name
invariant-loop-name l = list_any too_long.name (drop l.name-index l.list) ≡ list_any too_long.name l.list
