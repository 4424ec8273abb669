-- The numbers of labels.
use Rattle.std.specs.Prelude.{ℕ, ◌+◌, List, option_map, unwrap_or}
use Rattle.std.specs.Str.{bytes_eq}
use Rattle.rule_table.specs.Words.{first_place}
use Rattle.f66_tree.specs.Syntax.{Text}

-- one more than its place among all labels, and 0 where it is none
abbrev pub label_in : List Text → Text → ℕ
label_in ls l = unwrap_or (option_map (λ i. i + 1) (first_place (bytes_eq l) ls)) 0
