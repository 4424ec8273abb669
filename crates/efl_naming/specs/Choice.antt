-- The names of FORTRAN that are chosen for what is in a program of EFL. A name of the source is kept where it may stand in a unit and is no
-- other one's there; all others are made of a letter and a number: X for procedures, Y for variables and Z for temporaries.
use Rattle.std.specs.Prelude.{ℕ, ◌+◌, nat_eq, nat_le, nat_lt, Bool, false, not, ◌&&◌, ◌||◌, [], ◌∷◌, length, Option, None, Some, option_map, is_none, unwrap_or, if◌then◌else◌}
use Rattle.std.specs.List.{list_all, list_any, slice_get, range_with_len}
use Rattle.std.specs.Str.{bytes_eq}
use Rattle.rule_table.specs.Words.{first_place}
use Rattle.f66_tree.specs.Syntax.{Text}
use Rattle.f66_tree.specs.Evaluation.{Iabs, Mod, Isign, Idim, Max0, Min0}
use Rattle.efl_tree.specs.Syntax.{EflProcedure, EflProgram}
use Rattle.efl_scope.specs.Marks.{Located, program_variables}
use Rattle.efl_types.specs.Whole.{number_of}
use Rattle.efl_typed.specs.Typing.{bodies_of}
use Rattle.efl_routes.specs.Expressions.{intrinsic_name}
use Rattle.efl_emit.specs.Names.{digit_at, temp_of}
use Rattle.efl_lowered.specs.Naming.{Naming}
use Rattle.efl_lowered.specs.Labels.{all_labels}
use Rattle.efl_lowered.specs.Needs.{all_need}

-- ---- texts ----

-- a name that is made: a letter and the last five digits of a number
abbrev pub made : ℕ → ℕ → Text
made letter n = letter ∷ digit_at n 10000 ∷ digit_at n 1000 ∷ digit_at n 100 ∷ digit_at n 10 ∷ digit_at n 1 ∷ []

abbrev pub is_digit : ℕ → Bool
is_digit c = nat_le 48 c && nat_le c 57

-- X, Y or Z before five digits, and nothing more
abbrev pub is_made : Text → Bool
is_made [] = false
is_made (c ∷ ds) = (nat_le 88 c && nat_le c 90) && (nat_eq (length ds) 5 && list_all is_digit ds)

-- the name of an intrinsic function that expressions become
abbrev pub is_intrinsic : Text → Bool
is_intrinsic x = list_any (λ g. bytes_eq x (intrinsic_name g)) (Iabs ∷ Mod ∷ Isign ∷ Idim ∷ Max0 ∷ Min0 ∷ [])

-- a name of the source that may stand in a unit: it is not too long, no intrinsic function's, and of another form than those that are made
abbrev pub is_kept : Text → Bool
is_kept x = nat_le (length x) 6 && not (is_intrinsic x || is_made x)

-- ---- names ----

-- A variable of a procedure's outer block, or an undeclared one, keeps its name where no procedure has it.
abbrev pub keeps_name : EflProgram → Located → Bool
keeps_name p x = bytes_eq x.variable.home [] && (is_kept x.variable.name && is_none (number_of p.procedures x.variable.name))

abbrev pub variable_name : EflProgram → ℕ → Located → Text
variable_name p v x = if keeps_name p x then x.variable.name else made 89 v

abbrev pub name_or_made : ℕ → Option Text → Text
name_or_made n None = made 88 n
name_or_made n (Some x) = if is_kept x then x else made 88 n

abbrev pub procedure_name : ℕ → EflProcedure → Text
procedure_name n u = name_or_made n u.name

-- the names of all variables, and of all procedures, by their numbers
abbrev pub home_name : EflProgram → ℕ → Text
home_name p v = unwrap_or (option_map (variable_name p v) (slice_get (program_variables p) v)) []

abbrev pub callee_name : EflProgram → ℕ → Text
callee_name p n = unwrap_or (option_map (procedure_name n) (slice_get p.procedures n)) []

-- a label of a procedure: one more than its place among all labels, and 0 where it is none
abbrev pub label_number : EflProgram → ℕ → Text → ℕ
label_number p n l = unwrap_or (option_map (λ i. i + 1) (first_place (bytes_eq l) (all_labels (bodies_of p n)))) 0

-- the labels that are made come behind
abbrev pub made_label : EflProgram → ℕ → ℕ → ℕ
made_label p n i = length (all_labels (bodies_of p n)) + 1 + i

abbrev pub naming_of : EflProgram → Naming
naming_of p = record {
  home = home_name p;
  callee = callee_name p;
  label = label_number p;
  made = made_label p;
  temp = temp_of;
  room = λ n. all_need (bodies_of p n) 0;
}

-- the numbers of variables, of procedures, and of the temporaries of each procedure and one more have five digits
abbrev pub is_small : EflProgram → Bool
is_small p =
    nat_le (length (program_variables p)) 100000
    && (nat_le (length p.procedures) 100000 && list_all (λ n. nat_lt (all_need (bodies_of p n) 0) 50000) (range_with_len 0 (length p.procedures)))
