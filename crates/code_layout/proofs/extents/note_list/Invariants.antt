-- The dimensions of the declarations before are noted.
use Rattle.std.proofs.Common.{◌≡◌, ℕ, List, take, map, option_map}
use Rattle.std.specs.HashMap.{get_by}
use Rattle.std.specs.Option.{option_or}
use Rattle.std.specs.Str.{bytes_eq}
use Rattle.rule_table.specs.Words.{find_map}
use Rattle.f66_tree.specs.Views.{declared_of, par_of}
use Rattle.f66_mentions.specs.Dimensions.{given_by}
use Rattle.code_layout.proofs.extents.note_list.Given as goal

abbrev pub invariant-loop-declared : goal.invariant-loop-declared
invariant-loop-declared l = (q : List ℕ) → option_map (λ e. map par_of e.sizes.now) (get_by (λ k. bytes_eq q k.now) l.extents)
    ≡ option_or (option_map (λ e. map par_of e.sizes.now) (get_by (λ k. bytes_eq q k.now) l.initial.extents)) (find_map (given_by q) (map declared_of (take l.declared-index l.list)))
