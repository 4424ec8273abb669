-- The numbers of places, as an association in memory has them.
use Rattle.std.specs.Prelude.{ℕ, Option}
use Rattle.std.specs.HashMap.{get_by}
use Rattle.std.specs.Str.{bytes_eq}
use Rattle.f66_tree.specs.Syntax.{Text}
use Rattle.storage_assoc.specs.Numbering.{number_in}
use Rattle.storage_assoc.specs.declared.association.Association.{Association}

-- the number of a place of a name, where it has one
abbrev pub number_at : Association → Text → ℕ → Option ℕ
number_at a x o = number_in a.sizes.items a.firsts.items o (get_by (λ k. bytes_eq x k.now) a.rows)
