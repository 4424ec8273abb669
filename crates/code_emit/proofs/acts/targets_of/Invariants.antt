-- Those before are there.
use Rattle.std.proofs.Common.{◌≡◌, ◌++◌, drop}
use Rattle.code_gen.specs.Statements.{targets}
use Rattle.code_emit.proofs.acts.targets_of.Given as goal

abbrev pub invariant-loop-label : goal.invariant-loop-label
invariant-loop-label g l = l.list.items ++ targets (g.U.NamedUnit.layout l.unit) (g.U.NamedUnit.number l.unit) (drop l.label-index l.labels) ≡ targets (g.U.NamedUnit.layout l.unit) (g.U.NamedUnit.number l.unit) l.labels
