-- What names mean in blocks, in memory.
use Rattle.std.specs.Prelude.{List, Option, Some, None}
use Rattle.std.specs.Option.{option_or}
use Rattle.std.specs.HashMap.{get_by}
use Rattle.std.specs.Str.{bytes_eq}
use Rattle.efl_tree.specs.Syntax.{Text}
use Rattle.efl_scope.specs.DataTypes.{Structured}
use Rattle.efl_scope.specs.Scopes.{Meaning, IsVariable, IsStructure, meaning}
use Rattle.efl_scope.specs.Scopes as scopes
use Rattle.efl_types.specs.Signatures as signatures
use Rattle.efl_scoped.specs.Numbers.{Table}
use Rattle.efl_expressions.specs.declared.types.Structure.{Structure}
use Rattle.efl_expressions.specs.declared.names.Meaning as meanings
use Rattle.efl_expressions.specs.declared.names.Meaning.TheVariants as m
use Rattle.efl_expressions.specs.declared.names.Block.{Block}
use Rattle.efl_expressions.specs.declared.names.Blocks.{Blocks}
use Rattle.efl_expressions.specs.declared.names.Blocks.TheBlock.{Outside, Inside'}
use Rattle.efl_expressions.specs.declared.names.Applied as applications
use Rattle.efl_expressions.specs.declared.names.Applied.TheVariants as a
use Rattle.efl_expressions.specs.TypeViews.{IsType}

abbrev pub entry_in : Block → Text → Option meanings.Meaning
entry_in b x = get_by (λ k. bytes_eq x k.now) b.table

-- an inner block hides the outer ones
abbrev pub meaning_in : Blocks → Text → Option meanings.Meaning
meaning_in Outside x = None
meaning_in (Inside' b p outside) x = option_or (entry_in b.now x) (meaning_in outside x)

abbrev pub IsMeaning : Table → List Structure → Meaning → meanings.Meaning → Type 0
IsMeaning f ss (IsVariable v) (m.Variable d) = IsType f ss v.kind d
IsMeaning f ss (IsStructure ms) (m.Structure d) = IsType f ss (Structured ms) d
IsMeaning f ss _ _ = ⊥

abbrev pub IsMeaningIfAny : Table → List Structure → Option Meaning → Option meanings.Meaning → Type 0
IsMeaningIfAny f ss None None = Unit {0}
IsMeaningIfAny f ss (Some n) (Some o) = IsMeaning f ss n o
IsMeaningIfAny f ss _ _ = ⊥

-- of each name what it means in these blocks
abbrev pub Know : Table → List Structure → scopes.Blocks → Blocks → Type 0
Know f ss bs blocks = (x : Text) → IsMeaningIfAny f ss (meaning bs x) (meaning_in blocks x)

-- what a name before parentheses is
abbrev pub IsApplied : Table → List Structure → signatures.Applied → applications.Applied → Type 0
IsApplied f ss (signatures.Indexes t) (a.Indexes d) = IsType f ss t d
IsApplied f ss (signatures.Calls t) (a.Calls d) = IsType f ss t d
IsApplied f ss _ _ = ⊥
