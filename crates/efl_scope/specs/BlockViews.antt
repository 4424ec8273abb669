-- The structures of blocks in memory.
use Rattle.std.specs.Prelude.{unwrap_or}
use Rattle.std.specs.HashMap.{get_by}
use Rattle.std.specs.Str.{bytes_eq}
use Rattle.efl_scope.specs.declared.blocks.Kinds.{Kinds}
use Rattle.efl_scope.specs.declared.blocks.Blocks.{Blocks}
use Rattle.efl_scope.specs.declared.blocks.Blocks.TheBlock.{Outside, Inside'}
use Rattle.efl_scope.specs.ScopeRules.{Names, no_name}

-- the structures in a block with these around
abbrev pub kinds_of : Kinds → Names → Names
kinds_of k known x = unwrap_or (get_by (λ y. bytes_eq x y.now) k.table) (known x)

abbrev pub known_of : Blocks → Names
known_of Outside = no_name
known_of (Inside' k p outside) = kinds_of k.now (known_of outside)
