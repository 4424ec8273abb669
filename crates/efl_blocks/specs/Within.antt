-- A block in memory, and those around it.
use Rattle.std.specs.Prelude.{◌≡◌, ℕ, Bool, true, false, List, [], ◌∷◌, Option, Some, None}
use Rattle.std.specs.List.{slice_get}
use Rattle.std.specs.Str.{bytes_eq}
use Rattle.efl_tree.specs.Syntax.{Text}
use Rattle.efl_scope.specs.DataTypes.{DataType, Members, Array}
use Rattle.efl_scope.specs.Scopes.{in_block}
use Rattle.efl_scope.specs.Scopes as scopes
use Rattle.efl_scoped.specs.Numbers.{Grows}
use Rattle.efl_scoped.specs.Seen.{table_of}
use Rattle.efl_expressions.specs.declared.types.DataType as types
use Rattle.efl_expressions.specs.declared.types.Structure.{Structure}
use Rattle.efl_expressions.specs.declared.types.Member.{Member}
use Rattle.efl_expressions.specs.declared.names.Meaning.{Meaning}
use Rattle.efl_expressions.specs.declared.names.Meaning.TheVariants as m
use Rattle.efl_expressions.specs.declared.names.Block.{Block}
use Rattle.efl_expressions.specs.declared.names.Blocks.{Blocks}
use Rattle.efl_expressions.specs.TypeViews.{IsType, AreMembers}
use Rattle.efl_expressions.specs.NameViews.{entry_in, IsMeaningIfAny, Know}
use Rattle.efl_blocks.specs.declared.types.Types.{Types}

-- ---- types ----

abbrev pub IsIn : Types → DataType → types.DataType → Type 0
IsIn y t d = IsType (table_of y.numbers) y.structures.list.items t d

abbrev pub AreIn : Types → Members → List Member → Type 0
AreIn y ms all = AreMembers (table_of y.numbers) y.structures.list.items ms all

-- no numbers and no structures go away
pub record Later (y z : Types) : Type 0 where
  pub grows : Grows (table_of y.numbers) (table_of z.numbers)
  pub kept : (i : ℕ) (s : Structure) → slice_get y.structures.list.items i ≡ Some s → slice_get z.structures.list.items i ≡ Some s

-- no array's
abbrev pub IsPlain : DataType → Type 0
IsPlain (Array bs t) = ⊥
IsPlain t = Unit {0}

-- ---- blocks ----

-- of each name what it means in the innermost block, and in those around it
abbrev pub Within : Types → scopes.Blocks → Block → Blocks → Type 0
Within y [] block beyond = ⊥
Within y (b ∷ bs) block beyond =
    ((x : Text) → IsMeaningIfAny (table_of y.numbers) y.structures.list.items (in_block x b) (entry_in block x)) × Know (table_of y.numbers) y.structures.list.items bs beyond

-- a structure that becomes known goes before a variable, and not before another structure
abbrev pub learned : Bool → types.DataType → Option Meaning → Option Meaning
learned false d o = o
learned true d (Some (m.Structure e)) = Some (m.Structure e)
learned true d _ = Some (m.Structure d)

abbrev pub learned_if : Option Text → Text → types.DataType → Option Meaning → Option Meaning
learned_if None x d o = o
learned_if (Some y) x d o = learned (bytes_eq x y) d o

abbrev pub is_structure_in : Option Meaning → Bool
is_structure_in (Some (m.Structure d)) = true
is_structure_in _ = false
