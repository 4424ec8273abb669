-- The mentions before have given their calls.
use Rattle.std.proofs.Common.{◌≡◌, ◌++◌, map, drop}
use Rattle.std.specs.List.{flat_map}
use Rattle.f66_program.specs.Calls.{call_in}
use Rattle.f66_mentions.specs.UnitViews.{mention_of}
use Rattle.linker.specs.SiteViews.{site_of}
use Rattle.linker.specs.Sites.{site_at}
use Rattle.linker.proofs.sites.add_mentions.Given as goal

abbrev pub invariant-loop-mention : goal.invariant-loop-mention
invariant-loop-mention l = map site_of l.sites.items ++ map (site_at l.unit l.line l.place) (flat_map call_in (map mention_of (drop l.mention-index l.mentions)))
    ≡ map site_of l.initial.sites.items ++ map (site_at l.unit l.line l.place) (flat_map call_in (map mention_of l.mentions))
