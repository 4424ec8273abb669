-- The names of a block in memory.
use Rattle.std.specs.Prelude.{◌≡◌, List, is_some}
use Rattle.std.specs.List.{list_any}
use Rattle.std.specs.Str.{bytes_eq}
use Rattle.efl_tree.specs.Syntax.{Text}
use Rattle.efl_scope.specs.Scopes.{Variable}
use Rattle.efl_expressions.specs.declared.names.Block.{Block}
use Rattle.efl_expressions.specs.NameViews.{entry_in}

-- the block has the names of these variables
abbrev pub HasNames : List Variable → Block → Type 0
HasNames vs block = (x : Text) → is_some (entry_in block x) ≡ list_any (λ v. bytes_eq x v.name) vs
