-- What types in memory say.
use Rattle.std.specs.Prelude.{◌≡◌, ◌≢◌, List, [], ◌∷◌, Option, Some, None}
use Rattle.std.specs.List.{slice_get}
use Rattle.efl_tree.specs.declared.declaration.EflBound.{EflBound}
use Rattle.efl_scope.specs.DataTypes.{DataType, Scalar, Structured, Array, NoType, Members, NoMember, AndMember}
use Rattle.efl_scoped.specs.Numbers.{Table, AreDistinct, AreAbove}
use Rattle.efl_scoped.specs.Told.{Tells}
use Rattle.efl_expressions.specs.declared.types.DataType as types
use Rattle.efl_expressions.specs.declared.types.Element.{Element}
use Rattle.efl_expressions.specs.declared.types.Element.TheVariants as elements
use Rattle.efl_expressions.specs.declared.types.Structure.{Structure}
use Rattle.efl_expressions.specs.declared.types.Member.{Member}

-- there is one, and it is so
abbrev pub IsThere : {A : Type 0} → (A → Type 0) → Option A → Type 0
IsThere P None = ⊥
IsThere P (Some a) = P a

-- by the numbers of f, among these structures
abbrev mutual
  pub Is : Table → List Structure → DataType → List EflBound → Element → Type 0
  Is f ss (Array bs t) cs e = (cs ≡ bs) × (bs ≢ []) × Is f ss t [] e
  Is f ss (Scalar k) cs e = (cs ≡ []) × (e ≡ elements.Scalar k)
  Is f ss (Structured ms) cs (elements.Structured i) = (cs ≡ []) × IsThere (λ s. Tells f (Structured ms) s.summary × AreMembers f ss ms s.members.items) (slice_get ss i)
  Is f ss NoType cs e = (cs ≡ []) × (e ≡ elements.NoType)
  Is f ss t cs e = ⊥

  pub AreMembers : Table → List Structure → Members → List Member → Type 0
  AreMembers f ss NoMember [] = Unit {0}
  AreMembers f ss (AndMember x t ms) (m ∷ all) = (x ≡ m.name.now) × Is f ss t m.kind.bounds.now m.kind.element × Tells f t m.kind.summary × AreMembers f ss ms all
  AreMembers f ss ms all = ⊥

pub record IsType (f : Table) (ss : List Structure) (t : DataType) (d : types.DataType) : Type 0 where
  pub made : Is f ss t d.bounds.now d.element
  pub told : Tells f t d.summary

-- numbers by which types agree
pub record TellsApart (f : Table) : Type 0 where
  pub distinct : AreDistinct f
  pub above : AreAbove f
