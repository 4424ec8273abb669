-- The procedures of a program in memory, and what names mean in their parts.
use Rattle.std.specs.Prelude.{◌≡◌, List, [], ◌∷◌, ◌++◌, map}
use Rattle.std.specs.List.{cons_option}
use Rattle.efl_tree.specs.Syntax.{Text, EflProcedure}
use Rattle.efl_scope.specs.Scopes.{meaning, variable_if}
use Rattle.efl_scope.specs.DataTypes.{DataType}
use Rattle.efl_scope.specs.Scopes as scopes
use Rattle.efl_types.specs.Signatures.{type_if, formal_types, signature_if, signatures}
use Rattle.efl_types.specs.Signatures as seen
use Rattle.efl_scoped.specs.Seen.{table_of}
use Rattle.efl_expressions.specs.declared.types.DataType as types
use Rattle.efl_expressions.specs.declared.names.Block.{Block}
use Rattle.efl_expressions.specs.declared.names.Blocks.{Blocks}
use Rattle.efl_expressions.specs.declared.names.Blocks.TheBlock.{Outside}
use Rattle.efl_expressions.specs.NameViews.{Know}
use Rattle.efl_names.specs.declared.letters.Letters.{Letters}
use Rattle.efl_names.specs.declared.units.Outcome.{Outcome}
use Rattle.efl_names.specs.declared.units.Signature.{Signature}
use Rattle.efl_names.specs.declared.units.Units.{Units}
use Rattle.efl_names.specs.NameViews.{AreTypes, AreUnits, result_of}
use Rattle.efl_blocks.specs.declared.types.Types.{Types}
use Rattle.efl_blocks.specs.declared.outer.Outer.{Outer}
use Rattle.efl_blocks.specs.declared.procedures.Procedures.{Procedures}
use Rattle.efl_blocks.specs.Within.{Later, Within}
use Rattle.efl_blocks.specs.OuterViews.{AreRules, IsOuter}

abbrev pub AreAllTypes : Types → List DataType → List types.DataType → Type 0
AreAllTypes y ts ds = AreTypes (table_of y.numbers) y.structures.list.items ts ds

-- the types of names in a block that stands alone
abbrev pub types_in : scopes.Blocks → List Text → List DataType
types_in bs xs = map (λ x. type_if (variable_if (meaning bs x))) xs

abbrev pub TakesFormals : Block → List Text → List types.DataType → Type 0
TakesFormals block xs ds = (y : Types) (bs : scopes.Blocks) → Within y bs block Outside → AreAllTypes y (types_in bs xs) ds

-- what a call sees of a procedure
abbrev pub Signs : EflProcedure → Outer → Signature → Type 0
Signs u o s = (y : Types) → IsOuter y u o → AreAllTypes y (formal_types u) s.formals.items × (seen.result_of u.result ≡ result_of s.outcome)

abbrev pub AreAllUnits : Types → List seen.Signature → Units → Type 0
AreAllUnits y ss units = AreUnits (table_of y.numbers) y.structures.list.items ss units

-- a procedure comes, where it has a name
abbrev pub AddsUnit : EflProcedure → Outer → Units → Units → Type 0
AddsUnit u o old new = (y : Types) (ss : List seen.Signature) → IsOuter y u o → AreAllUnits y ss old → AreAllUnits y (ss ++ cons_option (signature_if u u.name) []) new

-- of each procedure its outer block
abbrev pub AreOuters : Types → List EflProcedure → List Outer → Type 0
AreOuters y [] [] = Unit {0}
AreOuters y (u ∷ us) (o ∷ os) = IsOuter y u o × AreOuters y us os
AreOuters y us os = ⊥

pub record OpensProcedures (y : Types) (us : List EflProcedure) (z : Types) (p : Procedures) : Type 0 where
  pub later : Later y z
  pub outers : AreOuters z us p.outers.items
  pub units : AreAllUnits z (signatures us) p.units

-- ---- parts ----

-- what the names of a part mean, in these blocks
pub record AreNamed (y : Types) (n : seen.Names) (blocks : Blocks) (letters : Letters) (units : Units) (outcome : Outcome) : Type 0 where
  pub blocks_known : Know (table_of y.numbers) y.structures.list.items n.blocks blocks
  pub rules : AreRules y n.implied letters
  pub procedures : AreAllUnits y n.units units
  pub gives : n.result ≡ result_of outcome
