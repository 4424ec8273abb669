-- The names of the unit of a procedure, by what they are in it: variables with temporaries and the name of its value, the functions that it
-- calls, and the other procedures that it calls.
use Rattle.std.specs.Prelude.{◌≡◌, ◌≤◌, ℕ, true, false, slice_get, Some}
use Rattle.ground.specs.declared.value.Kind.{Kind}
use Rattle.f66_tree.specs.Syntax.{Text}
use Rattle.efl_tree.specs.Syntax.{EflProgram}
use Rattle.efl_lowered.specs.Naming.{Naming}
use Rattle.efl_lowered.specs.Lowering.{calls}
use Rattle.efl_lowered.specs.Facts.{is_unit, is_named, gives_kind, has_value, is_function, formals, has_scalar}
use Rattle.efl_lowered.specs.Names.{Name, text_of, has_name}
use Rattle.plain_units.specs.Known.{IsShort}

module _ (p : EflProgram) (names : Naming) (n : ℕ) where
  pub data IsVariableName (x : Text) (k : Kind) : Type 0 where
    Home : (v : ℕ) → has_scalar p n v k ≡ true → x ≡ names.home v → IsVariableName x k
    Temporary : (i : ℕ) → i ≤ names.room n → x ≡ names.temp k i → IsVariableName x k
    Own : is_function p n ≡ true → gives_kind p n k ≡ true → x ≡ names.callee n → IsVariableName x k

  pub record IsFunctionName (x : Text) (k : Kind) : Type 0 where
    pub number : ℕ
    pub called : calls p n number ≡ true
    pub named : is_named p number ≡ true
    pub gives : gives_kind p number k ≡ true
    pub is : x ≡ names.callee number

  pub record IsProcedureName (x : Text) : Type 0 where
    pub number : ℕ
    pub called : calls p n number ≡ true
    pub named : is_named p number ≡ true
    pub gives : has_value p number ≡ false
    pub is : x ≡ names.callee number

-- What is asked besides of a program and its names: a procedure calls named ones alone, and not itself; a main gives no value; the formals
-- of a procedure are different variables; and all names of its units are short.
pub record AreShort (p : EflProgram) (names : Naming) : Type 0 where
  pub called : (m n : ℕ) → calls p n m ≡ true → is_named p m ≡ true
  pub other : (n : ℕ) → calls p n n ≡ false
  pub once : (n i j v : ℕ) → slice_get (formals p n) i ≡ Some v → slice_get (formals p n) j ≡ Some v → i ≡ j
  pub short : (n : ℕ) (a : Name) → is_unit p n ≡ true → has_name p names n a ≡ true → IsShort (text_of names a)
