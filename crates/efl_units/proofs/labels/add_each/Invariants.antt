-- So far the labels before are added.
use Rattle.std.proofs.Common.{◌≡◌, drop}
use Rattle.efl_units.specs.Numbered.{adding_all, numbered_of}
use Rattle.efl_units.proofs.labels.add_each.Given as goal

abbrev pub invariant-loop-label : goal.invariant-loop-label
invariant-loop-label l = adding_all (drop l.label-index l.list) (numbered_of l.labels) ≡ adding_all l.list (numbered_of l.initial.labels)
