-- That each production reads and makes what is meant.
use Rattle.std.proofs.Common.{◌≡◌, List, ◌⊎◌, inl, inr}
use Rattle.rat_parse_table.specs.declared.table.Production.{Production}
use Rattle.rat_parse_values.specs.Values.{Val}
use Rattle.rat_parse.specs.Build.{build}
use Rattle.rat_parse_kinds.specs.Readings.{symbols_back, ReadsAsMeant, Passes, EachIsMeant}
use Rattle.rat_parse_kinds.proofs.Seen.{all_seen, all_stand}
use Rattle.rat_parse_kinds.proofs.Readings as readings
use Rattle.rat_parse_kinds.proofs.Made as made

read_so : (p : Production) (vs : List Val) → (build p vs ≡ build p (all_seen (symbols_back p) vs)) ⊎ Passes p vs → ReadsAsMeant p vs ⊎ Passes p vs
read_so p vs (inl same) = inl (record { parts = all_seen (symbols_back p) vs; stand = all_stand (symbols_back p) vs; same = same })
read_so p vs (inr passes) = inr passes

pub each_is_meant : EachIsMeant
each_is_meant = record { reads = λ p vs. read_so p vs (readings.reads p vs); makes = made.makes; gives = made.gives }
