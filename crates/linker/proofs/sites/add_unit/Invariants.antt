-- The statements before have given their calls.
use Rattle.std.proofs.Common.{◌≡◌, ◌++◌, map, drop}
use Rattle.f66_tree.specs.Views.{line_of}
use Rattle.f66_mentions.specs.UnitViews.{context_in}
use Rattle.linker.specs.SiteViews.{site_of}
use Rattle.linker.specs.Sites.{line_sites}
use Rattle.linker.proofs.sites.add_unit.Given as goal

abbrev pub invariant-loop-line : goal.invariant-loop-line
invariant-loop-line l = map site_of l.sites.items ++ line_sites l.fn.unit l.line (context_in l.names) (map line_of (drop l.line l.names.unit.now.statements.items))
    ≡ map site_of l.initial.sites.items ++ line_sites l.fn.unit 0 (context_in l.names) (map line_of l.names.unit.now.statements.items)
