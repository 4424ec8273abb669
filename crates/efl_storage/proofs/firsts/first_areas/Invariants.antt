-- Of the procedures before each area has its first one.
use Rattle.std.proofs.Common.{map, take}
use Rattle.efl_tree.specs.Views.{procedure_of}
use Rattle.efl_storage.specs.Firsts.{AreFirsts}
use Rattle.efl_storage.proofs.firsts.first_areas.Given as goal

abbrev pub invariant-loop-unit : goal.invariant-loop-unit
invariant-loop-unit l = AreFirsts (map procedure_of (take l.unit l.procedures)) l.firsts
