-- The units of FORTRAN that a program of EFL over scalar variables becomes, by some names: each has its variables, its temporaries and
-- the functions that it calls in type statements, then the lines of its routes, and then what ends it.
use Rattle.std.specs.Prelude.{ℕ, zero, suc, ◌+◌, nat_eq, Bool, true, false, ◌&&◌, List, [], ◌∷◌, ◌++◌, map, filter, length, take, drop, Some, is_none, if◌then◌else◌}
use Rattle.std.specs.List.{list_any, enumerate_from, range_with_len}
use Rattle.ground.specs.declared.place.Place.{Place}
use Rattle.ground.specs.declared.value.Kind.{Kind}
use Rattle.ground.specs.declared.value.Kind.TheVariants.{Integer, Logical}
use Rattle.f66_tree.specs.declared.declaration.TypeWord.{TypeWord}
use Rattle.f66_tree.specs.declared.declaration.TypeWord.TheVariants as words
use Rattle.f66_tree.specs.Syntax.{Text, Declared, Header, MainUnit, SubUnit, FuncUnit, Typed, Line, unlabelled_line, Routine}
use Rattle.efl_tree.specs.Syntax.{EflProcedure, EflProgram}
use Rattle.efl_scope.specs.DataTypes as types
use Rattle.efl_scope.specs.Marks.{Located, program_variables}
use Rattle.efl_types.specs.Signatures.{Result, Gives, result_of}
use Rattle.efl_types.specs.Whole.{edges_of}
use Rattle.efl_typed.specs.Typing.{bodies_of}
use Rattle.efl_typed.specs.Linking.{formals_in}
use Rattle.routes.specs.Routes.{Routes}
use Rattle.routes.specs.Code.{all_code}
use Rattle.routes.specs.Units.{ending}
use Rattle.efl_routes.specs.Statements.{all_route}
use Rattle.efl_lowered.specs.Naming.{Naming}

-- ---- headers ----

abbrev pub word_of : Kind → TypeWord
word_of Integer = words.Integer
word_of Logical = words.Logical

abbrev pub dummies : Naming → List Located → ℕ → EflProcedure → List Text
dummies names xs n u = map names.home (formals_in xs n u)

-- a function of FORTRAN has a dummy at least: one that nothing uses, behind the temporaries
abbrev pub or_spare : Text → List Text → List Text
or_spare x [] = x ∷ []
or_spare x (y ∷ ys) = y ∷ ys

abbrev pub named_header : Naming → ℕ → Result → List Text → Header
named_header names n (Gives k) ds = FuncUnit (Some (word_of k)) (names.callee n) (or_spare (names.temp Integer (names.room n)) ds)
named_header names n r ds = SubUnit (names.callee n) ds

abbrev pub header_of : Naming → List Located → ℕ → EflProcedure → Header
header_of names xs n u = if is_none u.name then MainUnit else named_header names n (result_of u.result) (dummies names xs n u)

-- ---- type statements ----

-- whether a variable is a scalar of this type
abbrev pub is_scalar : Kind → types.DataType → Bool
is_scalar Integer (types.Scalar Integer) = true
is_scalar Logical (types.Scalar Logical) = true
is_scalar k t = false

-- the variables of a procedure, by their numbers
abbrev pub stands_in : ℕ → Kind → Located → Bool
stands_in n k x = nat_eq x.unit n && is_scalar k x.variable.kind

abbrev pub variables_in : List Located → ℕ → Kind → List ℕ
variables_in xs n k = map (λ x. x.0) (filter (λ x. stands_in n k x.1) (enumerate_from 0 xs))

-- whether a procedure gives a value of this type
abbrev pub is_result : Kind → Result → Bool
is_result Integer (Gives Integer) = true
is_result Logical (Gives Logical) = true
is_result k r = false

abbrev pub gives : Kind → EflProcedure → Bool
gives k u = is_result k (result_of u.result)

-- whether one procedure calls another
abbrev pub calls : EflProgram → ℕ → ℕ → Bool
calls p n m = list_any (λ e. nat_eq e.from n && nat_eq e.to m) (edges_of p)

-- the functions of this type that a procedure calls
abbrev pub functions_in : EflProgram → ℕ → Kind → List ℕ
functions_in p n k = map (λ x. x.0) (filter (λ x. gives k x.1 && calls p n x.0) (enumerate_from 0 p.procedures))

-- the temporaries, and one more for a spare dummy
abbrev pub temps_of : Naming → ℕ → Kind → List Text
temps_of names n k = map (names.temp k) (range_with_len 0 (names.room n + 1))

abbrev pub typed_names : Naming → EflProgram → ℕ → Kind → List Text
typed_names names p n k = map names.home (variables_in (program_variables p) n k) ++ temps_of names n k ++ map names.callee (functions_in p n k)

-- so many names in a statement, as fit a card
abbrev pub on_a_card : ℕ
on_a_card = 8

abbrev pub declared_scalar : Text → Declared
declared_scalar x = record { name = x; sizes = [] }

-- type statements of names, one behind the other, of which there are at most so many
abbrev pub typed_lines : ℕ → Place → TypeWord → List Text → List Line
typed_lines zero p t xs = []
typed_lines (suc most) p t [] = []
typed_lines (suc most) p t (x ∷ xs) =
    unlabelled_line p (Typed t (map declared_scalar (take on_a_card (x ∷ xs)))) ∷ typed_lines most p t (drop on_a_card (x ∷ xs))

abbrev pub typed_of : Naming → EflProgram → ℕ → Kind → Place → List Line
typed_of names p n k place = typed_lines (length (typed_names names p n k)) place (word_of k) (typed_names names p n k)

-- ---- units ----

abbrev pub routes_of : Naming → EflProgram → ℕ → Routes
routes_of names p n = all_route names.home names.temp names.callee (names.label n) (names.callee n) (bodies_of p n) [] 0

abbrev pub lines_of : Naming → EflProgram → ℕ → EflProcedure → List Line
lines_of names p n u =
    typed_of names p n Integer u.place ++ typed_of names p n Logical u.place ++ all_code (names.made n) (routes_of names p n) 0 [] (ending (is_none u.name) u.finish)

abbrev pub unit_of : Naming → EflProgram → ℕ → EflProcedure → Routine
unit_of names p n u = record { header = header_of names (program_variables p) n u; lines = lines_of names p n u; place = u.place }

-- the units of a program, in the order of its procedures
abbrev pub units_of : Naming → EflProgram → List Routine
units_of names p = map (λ x. unit_of names p x.0 x.1) (enumerate_from 0 p.procedures)
