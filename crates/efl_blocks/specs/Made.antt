-- What making types does to those that are there and to blocks, whatever they were before.
use Rattle.std.specs.Prelude.{List}
use Rattle.efl_tree.specs.declared.declaration.EflBound.{EflBound}
use Rattle.efl_tree.specs.Syntax.{EflVar, EflType, EflGroups}
use Rattle.efl_scope.specs.DataTypes.{DataType, Structured, Members, NoMember, AndMember}
use Rattle.efl_scope.specs.Scopes.{data_type, shape, behind, behind_groups, bounded, members_of}
use Rattle.efl_scope.specs.Scopes as scopes
use Rattle.efl_scoped.specs.declared.summaries.Summary.{Summary}
use Rattle.efl_scoped.specs.Told.{Tells, Continues}
use Rattle.efl_scoped.specs.Seen.{table_of}
use Rattle.efl_expressions.specs.declared.types.DataType as types
use Rattle.efl_expressions.specs.declared.types.Member.{Member}
use Rattle.efl_expressions.specs.declared.names.Block.{Block}
use Rattle.efl_expressions.specs.declared.names.Blocks.{Blocks}
use Rattle.efl_blocks.specs.declared.types.Types.{Types}
use Rattle.efl_blocks.specs.Within.{IsIn, AreIn, Later, IsPlain, Within}

abbrev pub joined : Members → Members → Members
joined NoMember ns = ns
joined (AndMember x t ms) ns = AndMember x t (joined ms ns)

-- the type that a text gives, and what is known behind it
pub record MakesType (y : Types) (before : Block) (beyond : Blocks) (t : EflType) (z : Types) (after : Block) (d : types.DataType) : Type 0 where
  pub later : Later y z
  pub makes : (bs : scopes.Blocks) → Within y bs before beyond → IsIn z (data_type bs t) d
  pub knows : (bs : scopes.Blocks) → Within y bs before beyond → Within z (behind bs t) after beyond

pub record MakesStructure (y : Types) (before : Block) (beyond : Blocks) (gs : EflGroups) (z : Types) (after : Block) (d : types.DataType) : Type 0 where
  pub later : Later y z
  pub makes : (bs : scopes.Blocks) → Within y bs before beyond → IsIn z (Structured (shape bs gs)) d
  pub knows : (bs : scopes.Blocks) → Within y bs before beyond → Within z (behind_groups bs gs) after beyond

-- a type with bounds
pub record TakesBounds (y : Types) (k : types.DataType) (bs : List EflBound) (z : Types) (d : types.DataType) : Type 0 where
  pub later : Later y z
  pub makes : (t : DataType) → IsPlain t → IsIn y t k → IsIn z (bounded t bs) d

-- members more
pub record AddsMembers (y : Types) (k : types.DataType) (vs : List EflVar) (old : List Member) (z : Types) (new : List Member) : Type 0 where
  pub later : Later y z
  pub adds : (t : DataType) (ms : Members) → IsPlain t → IsIn y t k → AreIn y ms old → AreIn z (joined ms (members_of t vs NoMember)) new

-- the same with what is told of them
pub record TakesMembers (y : Types) (a : Summary) (k : types.DataType) (vs : List EflVar) (old : List Member) (z : Types) (b : Summary) (new : List Member) : Type 0 where
  pub later : Later y z
  pub adds : (t : DataType) (ms : Members) → IsPlain t → IsIn y t k → AreIn y ms old → AreIn z (joined ms (members_of t vs NoMember)) new
  pub tells : (t : DataType) (rest : Members) → IsIn y t k → Continues (table_of z.numbers) (members_of t vs rest) a rest b

-- a structure more
pub record AddsStructure (y : Types) (s : Summary) (all : List Member) (z : Types) (d : types.DataType) : Type 0 where
  pub later : Later y z
  pub makes : (ms : Members) → Tells (table_of y.numbers) (Structured ms) s → AreIn y ms all → IsIn z (Structured ms) d
