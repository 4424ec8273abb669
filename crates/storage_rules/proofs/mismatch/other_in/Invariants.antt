-- No statement before names a block of another size.
use Rattle.std.proofs.Common.{◌≡◌, take, map, find, None}
use Rattle.std.specs.HashMap.{get_by}
use Rattle.std.specs.Str.{bytes_eq}
use Rattle.f66_tree.specs.Views.{line_of}
use Rattle.storage_rules.specs.Mismatch.{any_label, is_other}
use Rattle.storage_rules.proofs.mismatch.other_in.Given as goal

abbrev pub invariant-loop-statement : goal.invariant-loop-statement
invariant-loop-statement l =
    find (λ s. any_label (is_other (λ q. get_by (λ k. bytes_eq q k.now) l.firsts) (λ q. get_by (λ k. bytes_eq q k.now) l.sizes)) s.act) (map line_of (take l.statement-index l.unit.statements.items)) ≡ None
