-- What holds of the procedures and variables of a program of EFL, by their numbers; when it is one over scalars; and what the types of an
-- accepted one give, as far as its lowering rests on it.
use Rattle.std.specs.Prelude.{◌≡◌, ℕ, Bool, true, not, nat_eq, ◌&&◌, ◌||◌, List, [], length, slice_get, Some, None, is_some}
use Rattle.ground.specs.declared.value.Kind.{Kind}
use Rattle.ground.specs.declared.value.Kind.TheVariants.{Integer, Logical}
use Rattle.rule_table.specs.Words.{is_some_and}
use Rattle.efl_tree.specs.Syntax.{Text, EflProcedure, EflProgram}
use Rattle.efl_scope.specs.Parts.{Part, program_parts}
use Rattle.efl_scope.specs.ScopeRules.{area_declared}
use Rattle.efl_scope.specs.Uses.{Laid, uses_in}
use Rattle.efl_scope.specs.Marks.{Located, program_variables}
use Rattle.efl_types.specs.TypeRules.{presets_of}
use Rattle.efl_typed.specs.Typing.{bodies_of}
use Rattle.efl_typed.specs.Linking.{linkage_of}
use Rattle.efl_routes.specs.Statements.{AllReady}
use Rattle.efl_lowered.specs.Naming.{Naming}
use Rattle.efl_lowered.specs.Lowering.{is_scalar, stands_in, gives, calls}

-- ---- procedures ----

abbrev pub is_unit : EflProgram → ℕ → Bool
is_unit p n = is_some (slice_get p.procedures n)

-- all but the main have names
abbrev pub is_named : EflProgram → ℕ → Bool
is_named p n = is_some_and (λ u. is_some u.name) (slice_get p.procedures n)

-- it gives a value of this type, and one at all
abbrev pub gives_kind : EflProgram → ℕ → Kind → Bool
gives_kind p n k = is_some_and (gives k) (slice_get p.procedures n)

abbrev pub has_value : EflProgram → ℕ → Bool
has_value p n = gives_kind p n Integer || gives_kind p n Logical

abbrev pub is_function : EflProgram → ℕ → Bool
is_function p n = is_named p n && has_value p n

abbrev pub formals : EflProgram → ℕ → List ℕ
formals p n = (linkage_of p).formals n

-- a procedure calls another as a function of this type, with so many actuals, and as one without a value
abbrev pub uses_function : EflProgram → ℕ → ℕ → Kind → ℕ → Bool
uses_function p n m k c = calls p n m && (is_named p m && (gives_kind p m k && nat_eq c (length (formals p m))))

abbrev pub uses_procedure : EflProgram → ℕ → ℕ → ℕ → Bool
uses_procedure p n m c = calls p n m && (is_named p m && (not (has_value p m) && nat_eq c (length (formals p m))))

-- ---- variables ----

-- a procedure has the variable with this number, which is a scalar of this type
abbrev pub has_scalar : EflProgram → ℕ → ℕ → Kind → Bool
has_scalar p n v k = is_some_and (stands_in n k) (slice_get (program_variables p) v)

abbrev pub has_variable : EflProgram → ℕ → ℕ → Bool
has_variable p n v = has_scalar p n v Integer || has_scalar p n v Logical

-- ---- programs ----

-- Each variable is a scalar, in no area and without a value at first; and no part declares an area or lays a structure over a place.
pub record IsOverScalars (p : EflProgram) : Type 0 where
  pub scalar : (v : ℕ) (x : Located) → slice_get (program_variables p) v ≡ Some x → (is_scalar Integer x.variable.kind || is_scalar Logical x.variable.kind) ≡ true
  pub no_area : (v : ℕ) (x : Located) → slice_get (program_variables p) v ≡ Some x → x.variable.area ≡ None
  pub no_initial : (i : ℕ) (v : Part) → slice_get (program_parts p) i ≡ Some v → presets_of v.form ≡ []
  pub no_common : (i : ℕ) (v : Part) → slice_get (program_parts p) i ≡ Some v → area_declared v.form ≡ None
  pub no_overlay : (i j : ℕ) (v : Part) (x : Text) → slice_get (program_parts p) i ≡ Some v → slice_get (uses_in v.form) j ≡ Some (Laid x) → ⊥

-- What the checks of whole programs and of types give, and that the units have room for the temporaries: there is one main, which has no
-- formals; each formal is a variable of its procedure; and each body can be lowered.
pub record AreReady (p : EflProgram) (names : Naming) : Type 0 where
  pub one_main : (n : ℕ) (u : EflProcedure) → slice_get p.procedures n ≡ Some u → u.name ≡ None → n ≡ (linkage_of p).main
  pub no_formals : formals p (linkage_of p).main ≡ []
  pub formal : (n i v : ℕ) → slice_get (formals p n) i ≡ Some v → has_variable p n v ≡ true
  pub bodies : (n : ℕ) → is_unit p n ≡ true →
      AllReady (λ v k. has_scalar p n v k ≡ true) (λ m k c. uses_function p n m k c ≡ true) (λ m c. uses_procedure p n m c ≡ true) (names.room n) (is_function p n ≡ true) (bodies_of p n) 0
