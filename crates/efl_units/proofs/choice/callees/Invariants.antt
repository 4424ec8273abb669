-- So far the names of the procedures before are listed.
use Rattle.std.proofs.Common.{◌≡◌, ◌++◌, drop, map}
use Rattle.std.specs.List.{enumerate_from}
use Rattle.efl_tree.specs.Views.{procedure_of}
use Rattle.efl_naming.specs.Choice.{procedure_name}
use Rattle.efl_units.proofs.choice.callees.Given as goal

abbrev pub invariant-loop-number : goal.invariant-loop-number
invariant-loop-number l =
    l.names.items ++ map (λ x. procedure_name x.0 (procedure_of x.1)) (enumerate_from l.number (drop l.number l.procedures)) ≡ map (λ x. procedure_name x.0 (procedure_of x.1)) (enumerate_from 0 l.procedures)
