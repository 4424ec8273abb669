-- The calls before agree with their units.
use Rattle.std.proofs.Common.{◌≡◌, take, map, find, None}
use Rattle.linker.specs.CallRules.{is_clashing}
use Rattle.linker.specs.CallViews.{units_in}
use Rattle.linker.specs.SiteViews.{site_of}
use Rattle.linker.proofs.clashes.first_clash.Given as goal

abbrev pub invariant-loop-site : goal.invariant-loop-site
invariant-loop-site l = find (is_clashing (units_in l.calls)) (map site_of (take l.site-index l.calls.sites.items)) ≡ None
