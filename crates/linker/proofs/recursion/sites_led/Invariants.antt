-- Of the calls before those are kept whose units are there.
use Rattle.std.proofs.Common.{◌≡◌, take, map, filter}
use Rattle.linker.specs.CallViews.{units_in}
use Rattle.linker.specs.Cycles.{leads}
use Rattle.linker.specs.SiteViews.{site_of}
use Rattle.linker.proofs.recursion.sites_led.Given as goal

abbrev pub invariant-loop-site : goal.invariant-loop-site
invariant-loop-site l = map site_of l.led.items ≡ filter (leads (units_in l.calls)) (map site_of (take l.site-index l.calls.sites.items))
