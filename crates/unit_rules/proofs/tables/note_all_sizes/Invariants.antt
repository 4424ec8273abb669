-- Those before are noted.
use Rattle.std.proofs.Common.{◌≡◌, ℕ, List, take, map}
use Rattle.std.specs.HashMap.{get_by}
use Rattle.std.specs.Option.{option_or}
use Rattle.std.specs.Str.{bytes_eq}
use Rattle.rule_table.specs.Words.{find_map}
use Rattle.std.specs.Option.{option_map}
use Rattle.f66_tree.specs.Views.{par_of, declared_of}
use Rattle.unit_rules.specs.Bounds.{sizes_by}
use Rattle.unit_rules.proofs.tables.note_all_sizes.Given as goal

abbrev pub invariant-loop-declared : goal.invariant-loop-declared
invariant-loop-declared l = (q : List ℕ) → option_map (λ ns. map par_of ns.now) (get_by (λ k. bytes_eq q k.now) l.table) ≡ option_or (option_map (λ ns. map par_of ns.now) (get_by (λ k. bytes_eq q k.now) l.initial.table)) (find_map (sizes_by q) (map (λ d. declared_of d.now) (take l.declared-index l.list)))
