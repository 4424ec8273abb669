-- No block before has another size.
use Rattle.std.proofs.Common.{◌≡◌, drop, map}
use Rattle.std.specs.HashMap.{get_by}
use Rattle.std.specs.List.{list_any}
use Rattle.std.specs.Str.{bytes_eq}
use Rattle.rule_table.specs.Words.{is_some_and}
use Rattle.f66_tree.specs.Views.{area_of}
use Rattle.storage_rules.specs.Mismatch.{is_other}
use Rattle.storage_rules.proofs.mismatch.any_other.Given as goal

abbrev pub invariant-loop-area : goal.invariant-loop-area
invariant-loop-area l =
    list_any (λ a. is_some_and (is_other (λ q. get_by (λ k. bytes_eq q k.now) l.firsts) (λ q. get_by (λ k. bytes_eq q k.now) l.sizes)) a.name) (map area_of (drop l.area-index l.areas))
    ≡ list_any (λ a. is_some_and (is_other (λ q. get_by (λ k. bytes_eq q k.now) l.firsts) (λ q. get_by (λ k. bytes_eq q k.now) l.sizes)) a.name) (map area_of l.areas)
