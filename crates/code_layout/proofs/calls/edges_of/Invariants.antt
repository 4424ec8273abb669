-- The calls before have their edges.
use Rattle.std.proofs.Common.{◌≡◌, take, map}
use Rattle.std.specs.Prelude.{filter}
use Rattle.linker.specs.CallViews.{units_in}
use Rattle.linker.specs.Cycles.{edge_of, leads}
use Rattle.linker.specs.SiteViews.{site_of}
use Rattle.code_layout.proofs.calls.edges_of.Given as goal

abbrev pub invariant-loop-site : goal.invariant-loop-site
invariant-loop-site l = l.edges.items ≡ map (edge_of (units_in l.calls)) (filter (leads (units_in l.calls)) (map site_of (take l.site-index l.calls.sites.items)))
