-- The units before have their rows and links.
use Rattle.std.proofs.Common.{◌<◌, ◌^◌, suc, length, map, take}
use Rattle.f66_tree.specs.Views.{routine_of}
use Rattle.storage_assoc.specs.Listings.{number_of_name}
use Rattle.program_storage.specs.Parts.{ArePart}
use Rattle.program_storage.proofs.gathering.rows_of.Given as goal

abbrev pub invariant-loop-unit : goal.invariant-loop-unit
invariant-loop-unit l = record {
  few : length l.all.sizes.items < 2 ^ 31;
  part : ArePart (map routine_of (take l.unit-index l.units)) (number_of_name l.labels) (suc (length l.labels.names.items)) l.all;
}
