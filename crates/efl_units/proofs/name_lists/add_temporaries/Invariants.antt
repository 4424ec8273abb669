-- So far the temporaries before are added.
use Rattle.std.proofs.Common.{◌≡◌, ◌++◌, map}
use Rattle.std.specs.List.{range_with_len}
use Rattle.efl_emit.specs.Names.{temp_of}
use Rattle.efl_units.proofs.name_lists.add_temporaries.Given as goal

abbrev pub invariant-loop-number : goal.invariant-loop-number
invariant-loop-number l = l.names.items ≡ l.initial.names.items ++ map (temp_of l.kind) (range_with_len 0 l.number)
