-- The members before are linked to the first.
use Rattle.std.proofs.Common.{map, take, option_map}
use Rattle.std.specs.HashMap.{get_by}
use Rattle.std.specs.Str.{bytes_eq}
use Rattle.f66_tree.specs.Views.{formula_of, par_of}
use Rattle.storage_assoc.proofs.GroupLemmas.{HasFirst}
use Rattle.storage_assoc.proofs.equivalences.group_links.Given as goal

abbrev pub invariant-loop-e : goal.invariant-loop-e
invariant-loop-e l =
    HasFirst (λ q. get_by (λ k. bytes_eq q k.now) l.rows) (λ q. option_map (λ ps. map par_of ps.now) (get_by (λ k. bytes_eq q k.now) l.dims)) (map formula_of (take l.e-index l.group)) l.first l.initial.links.items l.links.items
