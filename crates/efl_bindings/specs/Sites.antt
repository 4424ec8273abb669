-- What the names of a part mean in memory, in a program whose variables are scalars.
use Rattle.std.specs.Prelude.{◌≡◌, Bool, true, not, List}
use Rattle.std.specs.Borrow.{Bor}
use Rattle.std.specs.List.{list_all}
use Rattle.efl_tree.specs.Syntax.{Text, EflDecl}
use Rattle.efl_scope.specs.Scopes.{meaning}
use Rattle.efl_scope.specs.Parts.{opened}
use Rattle.efl_scoped.specs.Seen.{table_of}
use Rattle.efl_typed.specs.Typing.{Context, within}
use Rattle.efl_built.specs.Unbuilt.{unbuilt_declaration}
use Rattle.efl_variables.specs.Keys.{list_number}
use Rattle.efl_variables.specs.Numbered.{AreVariables}
use Rattle.efl_bindings.specs.declared.scopes.Table.{Table}
use Rattle.efl_bindings.specs.declared.scopes.Scopes.{Scopes}
use Rattle.efl_bindings.specs.declared.scopes.Scopes.TheVariants.{Inside}
use Rattle.efl_bindings.specs.declared.sites.Site.{Site}
use Rattle.efl_bindings.specs.Bindings.{IsMeant, scalar_for, AreLetters, AreProcedures}

-- the names of a part in memory: of each its scalar, the type that its letter gives, and the procedure that it calls
pub record IsSite (c : Context) (s : Site) : Type 0 where
  pub unit : s.unit ≡ c.around.unit
  pub blocks : c.names.blocks ≡ c.around.blocks
  pub place : list_number (table_of s.variables.now.numbers) c.around.position ≡ s.place
  pub variables : AreVariables c.variables s.variables.now
  pub scalars : (x : Text) → IsMeant c.variables c.around.unit (meaning c.names.blocks x) (scalar_for s.scopes.now x)
  pub letters : AreLetters c.names.implied s.letters.now
  pub procedures : AreProcedures c.procedures s.procedures.now

-- ---- blocks ----

-- no declaration has a form that is not built
abbrev pub are_built : List EflDecl → Bool
are_built ds = list_all (λ d. not (unbuilt_declaration d.kind)) ds

-- the names of a part in a block of these variables
pub record IsInside (t : Table) (outside inner : Site) : Type 0 where
  pub unit : inner.unit ≡ outside.unit
  pub place : inner.place ≡ outside.place
  pub procedures : inner.procedures.now ≡ outside.procedures.now
  pub letters : inner.letters.now ≡ outside.letters.now
  pub variables : inner.variables.now ≡ outside.variables.now
  pub table : Bor Table
  pub around : Bor Scopes
  pub scopes : inner.scopes.now ≡ Inside table around
  pub table_is : table.now ≡ t
  pub around_is : around.now ≡ outside.scopes.now

-- the block of these declarations has these variables
abbrev pub OpensTo : List EflDecl → Site → Table → Type 0
OpensTo ds outside t = (c : Context) (inner : Site) → IsSite c outside → are_built ds ≡ true → IsInside t outside inner → IsSite (within c (opened ds c.around)) inner
