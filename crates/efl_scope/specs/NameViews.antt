-- Sets of names in memory.
use Rattle.std.specs.Prelude.{is_some}
use Rattle.std.specs.HashMap.{get_by}
use Rattle.std.specs.Str.{bytes_eq}
use Rattle.efl_scope.specs.declared.names.NameSet as sets
use Rattle.efl_scope.specs.declared.names.NameChain.{NameChain}
use Rattle.efl_scope.specs.declared.names.NameChain.TheBlock.{Outside, Inside'}
use Rattle.efl_scope.specs.declared.names.Declared as memory
use Rattle.efl_scope.specs.ScopeRules.{Names, no_name}
use Rattle.efl_scope.specs.Sights.{either, Declared}

abbrev pub names_in : sets.NameSet → Names
names_in s x = is_some (get_by (λ k. bytes_eq x k.now) s.table)

abbrev pub chain_of : NameChain → Names
chain_of Outside = no_name
chain_of (Inside' ns p outside) = either (names_in ns.now) (chain_of outside)

abbrev pub declared_of : memory.Declared → Declared
declared_of d = record { names = names_in d.names; again = d.again }
