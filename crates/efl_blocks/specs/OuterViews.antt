-- The outer block of a procedure, as its declarations and formals come, and the types that its letters give.
use Rattle.std.specs.Prelude.{ℕ, List, [], ◌++◌, map}
use Rattle.efl_tree.specs.Syntax.{Text, EflType, EflDeclKind, EflDecl, EflProcedure}
use Rattle.efl_scope.specs.DataTypes.{DataType}
use Rattle.efl_scope.specs.Scopes.{Variable, Implied, data_type, behind, implied_by, implied_in, implied_of, declared_in, undeclared, outer}
use Rattle.efl_scope.specs.Scopes as scopes
use Rattle.efl_scoped.specs.Seen.{table_of}
use Rattle.efl_expressions.specs.declared.types.DataType as types
use Rattle.efl_expressions.specs.declared.names.Block.{Block}
use Rattle.efl_expressions.specs.declared.names.Blocks.TheBlock.{Outside}
use Rattle.efl_names.specs.declared.letters.Letters.{Letters}
use Rattle.efl_names.specs.NameViews.{AreLetters}
use Rattle.efl_blocks.specs.declared.types.Types.{Types}
use Rattle.efl_blocks.specs.declared.outer.Outer.{Outer}
use Rattle.efl_blocks.specs.Within.{IsIn, Later, Within}
use Rattle.efl_blocks.specs.DeclaredViews.{AreVariables, Declares}

-- ---- letters ----

abbrev pub AreRules : Types → List Implied → Letters → Type 0
AreRules y rules letters = AreLetters (table_of y.numbers) y.structures.list.items rules letters

abbrev pub implied : DataType → ℕ × ℕ → Implied
implied t r = record { first = r.0; last = r.1; kind = t }

-- ranges give one type
abbrev pub GivesAll : types.DataType → Letters → List (ℕ × ℕ) → Letters → Type 0
GivesAll d old rs new = (y : Types) (t : DataType) (rules : List Implied) → IsIn y t d → AreRules y rules old → AreRules y (rules ++ map (implied t) rs) new

-- the type that a text gives
pub record Implies (y : Types) (known : Block) (old : Letters) (rs : List (ℕ × ℕ)) (t : EflType) (z : Types) (after : Block) (new : Letters) : Type 0 where
  pub later : Later y z
  pub knows : (bs : scopes.Blocks) → Within y bs known Outside → Within z (behind bs t) after Outside
  pub gives : (bs : scopes.Blocks) (rules : List Implied) → Within y bs known Outside → AreRules y rules old → AreRules z (rules ++ map (implied (data_type bs t)) rs) new

-- ---- declarations ----

pub record DeclaresOuter (y : Types) (known old : Block) (before : Letters) (k : EflDeclKind) (z : Types) (after new : Block) (letters : Letters) : Type 0 where
  pub declares : Declares y known Outside old k z after new
  pub gives : (bs : scopes.Blocks) (rules : List Implied) → Within y bs known Outside → AreRules y rules before → AreRules z (rules ++ implied_by bs k) letters

pub record DeclaresOuterAll (y : Types) (known old : Block) (before : Letters) (ds : List EflDecl) (z : Types) (new : Block) (letters : Letters) : Type 0 where
  pub later : Later y z
  pub adds : (bs : scopes.Blocks) (ws : List Variable) → Within y bs known Outside → AreVariables y ws old → AreVariables z (ws ++ declared_in [] bs ds) new
  pub gives : (bs : scopes.Blocks) (rules : List Implied) → Within y bs known Outside → AreRules y rules before → AreRules z (rules ++ implied_in bs ds) letters

-- ---- formals ----

abbrev pub DeclaresFormals : Letters → Block → List Text → Block → Type 0
DeclaresFormals letters old xs new = (y : Types) (rules : List Implied) (vs : List Variable) → AreRules y rules letters → AreVariables y vs old → AreVariables y (vs ++ undeclared rules vs xs) new

-- ---- procedures ----

-- the outer block of a procedure, before its first declaration, and its letters
pub record IsOuter (z : Types) (u : EflProcedure) (o : Outer) : Type 0 where
  pub block : Within z (outer u) o.block Outside
  pub letters : AreRules z (implied_of u) o.letters

pub record OpensOuter (y : Types) (u : EflProcedure) (z : Types) (o : Outer) : Type 0 where
  pub later : Later y z
  pub opens : IsOuter z u o
