-- The units before are there.
use Rattle.std.proofs.Common.{◌≡◌, All, map, take}
use Rattle.code_layout.specs.Tabled.{layout_in}
use Rattle.code_layout.proofs.ordered.units_by.Given as goal

abbrev pub invariant-loop-number : goal.invariant-loop-number
invariant-loop-number l = record {
  numbers : map (λ x. x.number) l.units.items ≡ take l.number-index l.order;
  one : All (λ x. layout_in x.tables.now x.spread.now ≡ layout_in l.tables l.spread) l.units.items;
}
