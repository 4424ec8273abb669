-- The names before have given their links.
use Rattle.std.proofs.Common.{map, take}
use Rattle.std.specs.HashMap.{get_by}
use Rattle.std.specs.Str.{bytes_eq}
use Rattle.f66_tree.specs.Views.{declared_of}
use Rattle.storage_assoc.specs.Lists.{ListLinked}
use Rattle.storage_assoc.proofs.commons.list_links.Given as goal

abbrev pub invariant-loop-declared : goal.invariant-loop-declared
invariant-loop-declared l = record {
  linked : ListLinked (λ q. get_by (λ k. bytes_eq q k.now) l.rows) l.sizes l.block l.start (map declared_of (take l.declared-index l.list)) l.initial.links.items l.links.items l.at;
}
