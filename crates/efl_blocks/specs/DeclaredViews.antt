-- The variables that a block declares, as its declarations come.
use Rattle.std.specs.Prelude.{ℕ, List, [], ◌∷◌, ◌++◌, map, Option, None}
use Rattle.rule_table.specs.Words.{find_map}
use Rattle.efl_tree.specs.Syntax.{Text, EflVar, EflType, EflGroups, EflDeclKind, Variables, Area, Structure, EflDecl}
use Rattle.efl_scope.specs.DataTypes.{DataType, NoType}
use Rattle.efl_scope.specs.Scopes.{Variable, variable, variable_of, data_type, behind, behind_groups, behind_declaration, group_variables, declared_by, declared_in, knowing, shape, entering}
use Rattle.efl_scope.specs.Scopes as scopes
use Rattle.efl_scope.specs.Parts.{names_of}
use Rattle.efl_scope.specs.Marks.{variables_listed}
use Rattle.efl_scoped.specs.Seen.{table_of}
use Rattle.efl_expressions.specs.declared.types.DataType as types
use Rattle.efl_expressions.specs.declared.names.Block.{Block}
use Rattle.efl_expressions.specs.declared.names.Blocks.{Blocks}
use Rattle.efl_expressions.specs.NameViews.{entry_in, IsMeaningIfAny, Know}
use Rattle.efl_blocks.specs.declared.types.Types.{Types}
use Rattle.efl_blocks.specs.Within.{IsIn, Later, IsPlain, Within}

-- of each name which of these variables is the first of it
abbrev pub AreVariables : Types → List Variable → Block → Type 0
AreVariables y vs block = (x : Text) → IsMeaningIfAny (table_of y.numbers) y.structures.list.items (find_map (variable_of x) vs) (entry_in block x)

-- ---- names ----

-- a variable of which the name alone counts
abbrev pub anonymous : Text → Variable
anonymous x = record { name = x; home = []; kind = NoType; area = None }

abbrev pub named_by : EflDeclKind → List Text
named_by (Variables q t vs) = names_of vs
named_by (Area q gs) = variables_listed gs
named_by _ = []

abbrev pub declared_names : List EflDecl → List Text
declared_names [] = []
declared_names (d ∷ ds) = named_by d.kind ++ declared_names ds

-- names come, without types
abbrev pub NamesAll : Block → List Text → Block → Type 0
NamesAll old xs new = (y : Types) (vs : List Variable) → AreVariables y vs old → AreVariables y (vs ++ map anonymous xs) new

-- ---- variables ----

-- variables of one type
pub record AddsVariables (y : Types) (k : types.DataType) (old : Block) (vs : List EflVar) (z : Types) (new : Block) : Type 0 where
  pub later : Later y z
  pub adds : (home : List ℕ) (q : Option Text) (t : DataType) (ws : List Variable) → IsPlain t → IsIn y t k → AreVariables y ws old → AreVariables z (ws ++ map (variable home q t) vs) new

-- of the type that a text gives
pub record AddsList (y : Types) (known : Block) (beyond : Blocks) (old : Block) (t : EflType) (vs : List EflVar) (z : Types) (after : Block) (new : Block) : Type 0 where
  pub later : Later y z
  pub knows : (bs : scopes.Blocks) → Within y bs known beyond → Within z (behind bs t) after beyond
  pub adds : (home : List ℕ) (q : Option Text) (bs : scopes.Blocks) (ws : List Variable) → Within y bs known beyond → AreVariables y ws old →
      AreVariables z (ws ++ map (variable home q (data_type bs t)) vs) new

pub record AddsGroups (y : Types) (known : Block) (beyond : Blocks) (old : Block) (gs : EflGroups) (z : Types) (after : Block) (new : Block) : Type 0 where
  pub later : Later y z
  pub knows : (bs : scopes.Blocks) → Within y bs known beyond → Within z (behind_groups bs gs) after beyond
  pub adds : (q : Text) (bs : scopes.Blocks) (ws : List Variable) → Within y bs known beyond → AreVariables y ws old → AreVariables z (ws ++ group_variables q bs gs) new

-- a structure of a block
pub record KnowsStructure (y : Types) (known : Block) (beyond : Blocks) (x : Text) (gs : EflGroups) (z : Types) (after : Block) : Type 0 where
  pub later : Later y z
  pub knows : (bs : scopes.Blocks) → Within y bs known beyond → Within z (behind_declaration bs (Structure x gs)) after beyond

-- a declaration
pub record Declares (y : Types) (known : Block) (beyond : Blocks) (old : Block) (k : EflDeclKind) (z : Types) (after : Block) (new : Block) : Type 0 where
  pub later : Later y z
  pub knows : (bs : scopes.Blocks) → Within y bs known beyond → Within z (behind_declaration bs k) after beyond
  pub adds : (home : List ℕ) (bs : scopes.Blocks) (ws : List Variable) → Within y bs known beyond → AreVariables y ws old → AreVariables z (ws ++ declared_by home bs k) new

pub record DeclaresAll (y : Types) (known : Block) (beyond : Blocks) (ds : List EflDecl) (z : Types) (new : Block) : Type 0 where
  pub later : Later y z
  pub declares : (home : List ℕ) (bs : scopes.Blocks) → Within y bs known beyond → AreVariables z (declared_in home bs ds) new

-- a block before its first declaration
pub record Opens (y : Types) (beyond : Blocks) (ds : List EflDecl) (z : Types) (new : Block) : Type 0 where
  pub later : Later y z
  pub opens : (home : List ℕ) (bs : scopes.Blocks) → Know (table_of y.numbers) y.structures.list.items bs beyond → Within z (entering home ds bs) new beyond
