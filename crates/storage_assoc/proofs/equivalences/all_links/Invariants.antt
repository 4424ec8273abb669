-- The groups before have given their links.
use Rattle.std.proofs.Common.{map, take, option_map}
use Rattle.std.specs.HashMap.{get_by}
use Rattle.std.specs.Str.{bytes_eq}
use Rattle.f66_tree.specs.Views.{formula_of, par_of}
use Rattle.storage_assoc.specs.Groups.{GroupsLinked}
use Rattle.storage_assoc.proofs.equivalences.all_links.Given as goal

abbrev pub invariant-loop-group : goal.invariant-loop-group
invariant-loop-group l =
    GroupsLinked (λ q. get_by (λ k. bytes_eq q k.now) l.rows) (λ q. option_map (λ ps. map par_of ps.now) (get_by (λ k. bytes_eq q k.now) l.dims)) (map (λ group. map formula_of group.items) (take l.group-index l.groups)) l.initial.links.items l.links.items
