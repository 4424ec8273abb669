-- The numbers of labels, as they are given one after another.
use Rattle.std.specs.Prelude.{ℕ, ◌+◌, List, [], ◌∷◌, Option, Some, None, Box, if◌then◌else◌}
use Rattle.std.specs.HashMap.{get_by}
use Rattle.std.specs.Option.{option_or}
use Rattle.std.specs.Str.{bytes_eq}
use Rattle.std.specs.declared.alloc.Global.{Global}
use Rattle.f66_tree.specs.Syntax.{Text}
use Rattle.efl_typed_tree.specs.declared.statement.TypedStmt.{TypedStmt}
use Rattle.efl_typed_tree.specs.Views.{stmt_of}
use Rattle.efl_lowered.specs.Labels.{labels_of}
use Rattle.efl_units.specs.declared.labels.Labels.{Labels}

-- the number of each label that came, and how many came
pub record Numbered : Type 0 where
  pub number : Text → Option ℕ
  pub count : ℕ

abbrev pub none_numbered : Numbered
none_numbered = record { number = λ x. None; count = 0 }

-- a label has its number from where it comes first
abbrev pub adding : Text → Numbered → Numbered
adding l s = record { number = λ x. option_or (s.number x) (if bytes_eq x l then Some (s.count + 1) else None); count = s.count + 1 }

abbrev pub adding_all : List Text → Numbered → Numbered
adding_all [] s = s
adding_all (l ∷ ls) s = adding_all ls (adding l s)

abbrev pub numbered_of : Labels → Numbered
numbered_of s = record { number = λ x. get_by (λ k. bytes_eq x k.now) s.table; count = s.count }

-- the labels of the statement behind `else`
abbrev pub other_labels : Option (Box TypedStmt Global) → List Text
other_labels None = []
other_labels (Some other) = labels_of (stmt_of other.value)
