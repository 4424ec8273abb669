-- The calls that lead to units, as edges between the units' numbers.
use Rattle.std.specs.Prelude.{Bool, List, filter, not, unwrap_or}
use Rattle.f66_tree.specs.Syntax.{Routine}
use Rattle.f66_program.specs.Calls.{unit_named}
use Rattle.call_cycles.specs.declared.edge.Edge.{Edge}
use Rattle.linker.specs.CallRules.{is_missing}
use Rattle.linker.specs.Sites.{Site, sites_of}

-- the unit is there
abbrev pub leads : List Routine → Site → Bool
leads rs s = not (is_missing rs s)

abbrev pub edge_of : List Routine → Site → Edge
edge_of rs s = record { from = s.unit; to = unwrap_or (unit_named s.call.name rs) 0 }

-- the calls of units that are there
abbrev pub led_sites : List Routine → List Site
led_sites rs = filter (leads rs) (sites_of rs)
