-- What tables in memory say: scalars, the types of letters, and procedures.
use Rattle.std.specs.Prelude.{◌≡◌, ℕ, nat_eq, List, [], ◌∷◌, Option, Some, None, option_map, unwrap_or}
use Rattle.std.specs.HashMap.{get_by}
use Rattle.std.specs.Option.{option_or}
use Rattle.std.specs.Str.{bytes_eq}
use Rattle.rule_table.specs.Words.{find_map}
use Rattle.ground.specs.declared.value.Kind.{Kind}
use Rattle.ground.specs.declared.value.Kind.TheVariants.{Integer}
use Rattle.efl_tree.specs.Syntax.{Text, EflProcedure}
use Rattle.efl_scope.specs.Scopes.{Variable, Implied, Meaning, IsVariable, IsStructure, variable_of, implicit_type}
use Rattle.efl_scope.specs.Marks.{Located}
use Rattle.efl_scope.specs.Marks as marks
use Rattle.efl_types.specs.Whole.{number_of}
use Rattle.efl_program.specs.Typed as typed
use Rattle.efl_typed.specs.Typing.{sort_of, value_kind}
use Rattle.efl_typed_tree.specs.declared.expression.Scalar.{Scalar}
use Rattle.efl_bindings.specs.declared.scopes.Table.{Table}
use Rattle.efl_bindings.specs.declared.scopes.Scopes.{Scopes}
use Rattle.efl_bindings.specs.declared.scopes.Scopes.TheBlock.{Outside, Inside'}
use Rattle.efl_bindings.specs.declared.letters.Letters.{Letters}
use Rattle.efl_bindings.specs.declared.procedures.Procedures.{Procedures}

-- ---- scalars ----

-- a variable by its number, among these of a procedure
pub record IsScalar (xs : List Located) (n : ℕ) (v : Variable) (s : Scalar) : Type 0 where
  pub number : s.variable ≡ marks.number_of xs n v
  pub kind : sort_of v.kind ≡ typed.Scalar s.kind

-- what a name means where there are no structures
abbrev pub IsNamed : List Located → ℕ → Meaning → Scalar → Type 0
IsNamed xs n (IsVariable v) s = IsScalar xs n v s
IsNamed xs n (IsStructure ms) s = ⊥

abbrev pub IsMeant : List Located → ℕ → Option Meaning → Option Scalar → Type 0
IsMeant xs n None None = Unit {0}
IsMeant xs n (Some m) (Some s) = IsNamed xs n m s
IsMeant xs n _ _ = ⊥

abbrev pub scalar_in : Table → Text → Option Scalar
scalar_in table x = get_by (λ k. bytes_eq x k.now) table.scalars

-- an inner block hides the outer ones
abbrev pub scalar_for : Scopes → Text → Option Scalar
scalar_for Outside x = None
scalar_for (Inside' table p outside) x = option_or (scalar_in table.now x) (scalar_for outside x)

-- of each name the first of these variables
abbrev pub AreScalars : List Located → ℕ → List Variable → Table → Type 0
AreScalars xs n vs table = (x : Text) → IsMeant xs n (find_map (variable_of x) vs) (scalar_in table x)

-- ---- letters ----

abbrev pub letter_in : Letters → ℕ → Option Kind
letter_in letters c = get_by (nat_eq c) letters.table

-- what has no rule gives integers
abbrev pub letter_kind : Letters → ℕ → Kind
letter_kind letters c = unwrap_or (letter_in letters c) Integer

abbrev pub kind_by : Letters → Text → Kind
kind_by letters [] = Integer
kind_by letters (c ∷ cs) = letter_kind letters c

abbrev pub AreLetters : List Implied → Letters → Type 0
AreLetters rules letters = (x : Text) → sort_of (implicit_type rules x) ≡ typed.Scalar (kind_by letters x)

-- ---- procedures ----

abbrev pub procedure_in : Procedures → Text → Option (ℕ × Kind)
procedure_in procedures x = get_by (λ k. bytes_eq x k.now) procedures.table

-- the first procedure of a name, with the type of its value
abbrev pub first_procedure : List EflProcedure → Text → Option (ℕ × Kind)
first_procedure us x = option_map (λ n. (n, value_kind us n)) (number_of us x)

abbrev pub AreProcedures : List EflProcedure → Procedures → Type 0
AreProcedures us procedures = (x : Text) → procedure_in procedures x ≡ first_procedure us x
