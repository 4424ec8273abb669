-- What is asked of the names that the units of a program get.
use Rattle.std.specs.Prelude.{◌≡◌, ℕ, Bool, true, nat_eq, nat_le, ◌&&◌, ◌||◌}
use Rattle.std.specs.List.{list_any}
use Rattle.std.specs.Str.{bytes_eq}
use Rattle.ground.specs.declared.value.Kind.{Kind}
use Rattle.f66_tree.specs.Syntax.{Text}
use Rattle.f66_tree.specs.Evaluation.{Intrinsic}
use Rattle.efl_tree.specs.Syntax.{EflProgram}
use Rattle.efl_typed.specs.Typing.{bodies_of}
use Rattle.routes.specs.Numbered.{IsNumbered}
use Rattle.efl_routes.specs.Expressions.{intrinsic_name}
use Rattle.efl_lowered.specs.Naming.{Naming}
use Rattle.efl_lowered.specs.Lowering.{calls, routes_of}
use Rattle.efl_lowered.specs.Labels.{all_labels}
use Rattle.efl_lowered.specs.Facts.{is_unit, is_named, has_variable}

-- what has a name in a unit: a variable, a temporary, a procedure, which are told by their numbers, and an intrinsic function
pub data Name : Type 0 where
  OfVariable : ℕ → Name
  OfTemporary : Kind → ℕ → Name
  OfProcedure : ℕ → Name
  OfIntrinsic : Intrinsic → Name

abbrev pub text_of : Naming → Name → Text
text_of names (OfVariable v) = names.home v
text_of names (OfTemporary k i) = names.temp k i
text_of names (OfProcedure m) = names.callee m
text_of names (OfIntrinsic g) = intrinsic_name g

-- Which of them a unit has: its own variables, its temporaries and one more, itself and the procedures that it calls, and all intrinsic
-- functions.
abbrev pub has_name : EflProgram → Naming → ℕ → Name → Bool
has_name p names n (OfVariable v) = has_variable p n v
has_name p names n (OfTemporary k i) = nat_le i (names.room n)
has_name p names n (OfProcedure m) = (is_named p n && nat_eq m n) || calls p n m
has_name p names n (OfIntrinsic g) = true

-- a label stands in a procedure, or a `goto` of it leads there
abbrev pub has_label : EflProgram → ℕ → Text → Bool
has_label p n l = list_any (bytes_eq l) (all_labels (bodies_of p n))

-- In a unit each of them has a name of its own, and so has each procedure in the program, and each label in its unit; and the labels that
-- are made are no others.
pub record AreNames (p : EflProgram) (names : Naming) : Type 0 where
  pub apart : (n : ℕ) (a b : Name) → is_unit p n ≡ true → has_name p names n a ≡ true → has_name p names n b ≡ true → text_of names a ≡ text_of names b → a ≡ b
  pub procedures : (m n : ℕ) → is_named p m ≡ true → is_named p n ≡ true → names.callee m ≡ names.callee n → m ≡ n
  pub labels : (n : ℕ) (l m : Text) → is_unit p n ≡ true → has_label p n l ≡ true → has_label p n m ≡ true → names.label n l ≡ names.label n m → l ≡ m
  pub numbered : (n : ℕ) → is_unit p n ≡ true → IsNumbered (names.made n) (routes_of names p n)
