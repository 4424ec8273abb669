-- The units before have given their calls.
use Rattle.std.proofs.Common.{◌≡◌, ◌++◌, map, drop}
use Rattle.linker.specs.SiteViews.{routine_named, site_of}
use Rattle.linker.specs.Sites.{sites_from}
use Rattle.linker.proofs.sites.sites_of.Given as goal

abbrev pub invariant-loop-unit : goal.invariant-loop-unit
invariant-loop-unit l = map site_of l.sites.items ++ sites_from l.unit (map routine_named (drop l.unit l.units)) ≡ sites_from 0 (map routine_named l.units)
