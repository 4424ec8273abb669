-- What reading the groups of types and declarations tells, whatever was there before.
use Rattle.std.specs.Prelude.{◌≡◌, List, Option}
use Rattle.std.specs.Option.{option_or}
use Rattle.ground.specs.declared.fault.Fault.{Fault}
use Rattle.ground.specs.declared.place.Place.{Place}
use Rattle.efl_tree.specs.Syntax.{Text, EflVar, EflType, EflGroups, EflDeclKind}
use Rattle.efl_scope.specs.DataTypes.{DataType}
use Rattle.efl_scope.specs.Scopes.{data_type, behind, behind_groups, behind_declaration}
use Rattle.efl_scope.specs.Scopes as scopes
use Rattle.efl_expressions.specs.declared.names.Block.{Block}
use Rattle.efl_expressions.specs.declared.names.Blocks.{Blocks}
use Rattle.efl_blocks.specs.declared.types.Types.{Types}
use Rattle.efl_blocks.specs.Within.{IsIn, Later, Within}
use Rattle.efl_blocks.specs.Made.{MakesType, MakesStructure}
use Rattle.efl_blocks.specs.DeclaredViews.{KnowsStructure}
use Rattle.efl_declarations.specs.declared.types.Seen.{Seen}
use Rattle.efl_declarations.specs.GroupFaults.{sizes_fault, type_fault, groups_fault, declaration_fault}

-- ---- types ----

-- the type that a text gives, with the first fault of the groups within it
pub record SeesType (y : Types) (before : Block) (beyond : Blocks) (t : EflType) (z : Types) (after : Block) (s : Seen) : Type 0 where
  pub made : MakesType y before beyond t z after s.kind
  pub tells : (bs : scopes.Blocks) → Within y bs before beyond → s.fault ≡ type_fault bs t

pub record SeesStructure (y : Types) (before : Block) (beyond : Blocks) (gs : EflGroups) (z : Types) (after : Block) (s : Seen) : Type 0 where
  pub made : MakesStructure y before beyond gs z after s.kind
  pub tells : (bs : scopes.Blocks) → Within y bs before beyond → s.fault ≡ groups_fault bs gs

-- ---- variables ----

-- variables or members of one type, before what is within it
pub record SeesSizes (y : Types) (p : Place) (formals : List Text) (s : Seen) (vs : List EflVar) (z : Types) (f : Option Fault) : Type 0 where
  pub later : Later y z
  pub tells : (t : DataType) → IsIn y t s.kind → f ≡ option_or (sizes_fault p formals t vs) s.fault

-- those of the type that a text gives
pub record SeesList (y : Types) (before : Block) (beyond : Blocks) (p : Place) (formals : List Text) (t : EflType) (vs : List EflVar) (z : Types) (after : Block) (f : Option Fault) : Type 0 where
  pub later : Later y z
  pub knows : (bs : scopes.Blocks) → Within y bs before beyond → Within z (behind bs t) after beyond
  pub tells : (bs : scopes.Blocks) → Within y bs before beyond → f ≡ option_or (sizes_fault p formals (data_type bs t) vs) (type_fault bs t)

-- ---- declarations ----

pub record SeesGroups (y : Types) (before : Block) (beyond : Blocks) (gs : EflGroups) (z : Types) (after : Block) (f : Option Fault) : Type 0 where
  pub later : Later y z
  pub knows : (bs : scopes.Blocks) → Within y bs before beyond → Within z (behind_groups bs gs) after beyond
  pub tells : (bs : scopes.Blocks) → Within y bs before beyond → f ≡ groups_fault bs gs

-- a structure of a block
pub record SeesNamed (y : Types) (before : Block) (beyond : Blocks) (x : Text) (gs : EflGroups) (z : Types) (after : Block) (f : Option Fault) : Type 0 where
  pub knows : KnowsStructure y before beyond x gs z after
  pub tells : (bs : scopes.Blocks) → Within y bs before beyond → f ≡ groups_fault bs gs

pub record SeesDeclaration (y : Types) (before : Block) (beyond : Blocks) (p : Place) (formals : List Text) (k : EflDeclKind) (z : Types) (after : Block) (f : Option Fault) : Type 0 where
  pub later : Later y z
  pub knows : (bs : scopes.Blocks) → Within y bs before beyond → Within z (behind_declaration bs k) after beyond
  pub tells : (bs : scopes.Blocks) → Within y bs before beyond → f ≡ declaration_fault p formals bs k
