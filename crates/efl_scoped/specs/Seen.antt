-- What a walk over declarations does to what is told, whatever it was told before.
use Rattle.std.specs.Prelude.{◌≡◌, ℕ, ◌||◌, List, [], ◌++◌, map, Some, is_some}
use Rattle.efl_tree.specs.declared.declaration.EflBound.{EflBound}
use Rattle.efl_tree.specs.Syntax.{Text, EflType, Shape, EflGroups, EflVar, EflDeclKind}
use Rattle.efl_scope.specs.declared.areas.Sort.{Sort}
use Rattle.efl_scope.specs.declared.areas.AreaLists.{AreaLists}
use Rattle.efl_scope.specs.DataTypes.{DataType, Structured, Members, AndMember}
use Rattle.efl_scope.specs.Scopes.{Blocks, data_type, shape, behind, behind_groups, behind_declaration, declared_by, bounded, members_of, of_bounds, group_variables}
use Rattle.efl_scope.specs.ScopeRules.{is_of}
use Rattle.efl_scope.specs.AreaViews.{sorts_of}
use Rattle.efl_scoped.specs.declared.numbers.Pairs.{Pairs}
use Rattle.efl_scoped.specs.declared.summaries.Summary.{Summary}
use Rattle.efl_scoped.specs.declared.shapes.Shapes.{Shapes}
use Rattle.efl_scoped.specs.Numbers.{Table, Grows, number_in, along}
use Rattle.efl_scoped.specs.Told.{Tells, Continues, Knows, TellList, kinds_in, sorts_in}

abbrev pub table_of : Pairs → Table
table_of numbers = number_in numbers.table

-- from one number to another by these words
pub record Leads (f : Table) (ws : List ℕ) (k : ℕ) (g : Table) (n : ℕ) : Type 0 where
  pub grows : Grows f g
  pub leads : (h : Table) → Grows g h → along h ws k ≡ Some n

-- the summary of a type with bounds, by that of the type
pub record IsBounded (f : Table) (s : Summary) (bs : List EflBound) (g : Table) (r : Summary) : Type 0 where
  pub grows : Grows f g
  pub tells : (t : DataType) → Tells f t s → Tells g (bounded t bs) r

-- members more
pub record AddsMember (f : Table) (a s : Summary) (g : Table) (b : Summary) : Type 0 where
  pub grows : Grows f g
  pub adds : (x : Text) (t : DataType) (rest : Members) → Tells f t s → Continues g (AndMember x t rest) a rest b

pub record AddsMembers (f : Table) (a s : Summary) (vs : List EflVar) (g : Table) (b : Summary) : Type 0 where
  pub grows : Grows f g
  pub adds : (t : DataType) (rest : Members) → Tells f t s → Continues g (members_of t vs rest) a rest b

-- the type that a text gives, and what is known behind it
pub record SeesType (f : Table) (known : Shapes) (t : EflType) (g : Table) (after : Shapes) (s : Summary) : Type 0 where
  pub grows : Grows f g
  pub tells : (bs : Blocks) → Knows f known bs → Tells g (data_type bs t) s
  pub knows : (bs : Blocks) → Knows f known bs → Knows g after (behind bs t)

pub record SeesGroups (f : Table) (known : Shapes) (gs : EflGroups) (g : Table) (after : Shapes) (s : Summary) : Type 0 where
  pub grows : Grows f g
  pub tells : (bs : Blocks) → Knows f known bs → Tells g (Structured (shape bs gs)) s
  pub knows : (bs : Blocks) → Knows f known bs → Knows g after (behind_groups bs gs)

-- the sorts of variables more
pub record AddsSorts (f : Table) (s : Summary) (vs : List EflVar) (old : List Sort) (g : Table) (new : List Sort) : Type 0 where
  pub grows : Grows f g
  pub adds : (t : DataType) (ts : List DataType) → Tells f t s → TellList f ts old → TellList g (ts ++ map (of_bounds t) vs) new

pub record SeesAlone (f : Table) (known : Shapes) (t : EflType) (g : Table) (after : Shapes) : Type 0 where
  pub grows : Grows f g
  pub knows : (bs : Blocks) → Knows f known bs → Knows g after (behind bs t)

-- a structure of a block
pub record SeesStructure (f : Table) (known : Shapes) (x : Text) (gs : EflGroups) (g : Table) (after : Shapes) : Type 0 where
  pub grows : Grows f g
  pub knows : (bs : Blocks) → Knows f known bs → Knows g after (behind bs (Shape (Some x) gs))

pub record ListsVariables (f : Table) (known : Shapes) (t : EflType) (vs : List EflVar) (old : List Sort) (g : Table) (after : Shapes) (new : List Sort) : Type 0 where
  pub grows : Grows f g
  pub adds : (bs : Blocks) (ts : List DataType) → Knows f known bs → TellList f ts old → TellList g (ts ++ map (of_bounds (data_type bs t)) vs) new
  pub knows : (bs : Blocks) → Knows f known bs → Knows g after (behind bs t)

pub record ListsGroups (f : Table) (known : Shapes) (gs : EflGroups) (old : List Sort) (g : Table) (after : Shapes) (new : List Sort) : Type 0 where
  pub grows : Grows f g
  pub adds : (q : Text) (bs : Blocks) (ts : List DataType) → Knows f known bs → TellList f ts old → TellList g (ts ++ map (λ v. v.kind) (group_variables q bs gs)) new
  pub knows : (bs : Blocks) → Knows f known bs → Knows g after (behind_groups bs gs)

-- a declaration more
pub record SeesDeclaration (f : Table) (known : Shapes) (old : AreaLists) (k : EflDeclKind) (g : Table) (after : Shapes) (new : AreaLists) : Type 0 where
  pub grows : Grows f g
  pub knows : (bs : Blocks) → Knows f known bs → Knows g after (behind_declaration bs k)
  pub adds : (q : Text) (bs : Blocks) (ts : List DataType) → Knows f known bs → TellList f ts (sorts_in old q) → TellList g (ts ++ kinds_in q (declared_by [] bs k)) (sorts_in new q)
  pub named : (q : Text) → is_some (sorts_of new q) ≡ (is_some (sorts_of old q) || is_of q k)
