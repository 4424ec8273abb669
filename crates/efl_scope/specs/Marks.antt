-- The variables of a program with their numbers: in reading order, formals at the header, declared ones at their declarations, and an
-- undeclared one, which is one of its whole procedure, where it is met first.
use Rattle.std.specs.Prelude.{ℕ, nat_eq, Bool, ◌&&◌, List, [], ◌∷◌, ◌++◌, map, filter_map, flat_map, Option, Some, None, unwrap_or, option_map, if◌then◌else◌}
use Rattle.std.specs.List.{list_any, slice_get}
use Rattle.std.specs.Str.{bytes_eq}
use Rattle.rule_table.specs.Words.{first_place}
use Rattle.efl_tree.specs.Syntax.{Text, EflGroups, NoGroup, AndGroup, Variables, Area, EflProcedure, EflProgram}
use Rattle.efl_scope.specs.Scopes.{Variable, Blocks, Implied, Meaning, IsVariable, meaning, variable_if, implicit_type, implied_of}
use Rattle.efl_scope.specs.Parts.{Form, Header, Declares, Part, names_of, program_parts}
use Rattle.efl_scope.specs.Uses.{Use, Named, uses_in}

-- a variable of the procedure with this number
pub record Located : Type 0 where
  pub unit : ℕ
  pub variable : Variable

abbrev pub same_located : Located → Located → Bool
same_located a b = nat_eq a.unit b.unit && (bytes_eq a.variable.home b.variable.home && bytes_eq a.variable.name b.variable.name)

-- the variables that a part lists
abbrev pub variables_listed : EflGroups → List Text
variables_listed NoGroup = []
variables_listed (AndGroup t vs p gs) = names_of vs ++ variables_listed gs

abbrev pub variables_by : Form → List Text
variables_by (Header o fs) = fs
variables_by (Declares before (Variables q t vs)) = names_of vs
variables_by (Declares before (Area q gs)) = variables_listed gs
variables_by _ = []

-- the undeclared variable that a name means
abbrev pub by_letter_of : List Implied → Text → Variable
by_letter_of rules x = record { name = x; home = []; kind = implicit_type rules x; area = None }

abbrev pub undeclared_by : List Implied → Text → Option Meaning → Option Variable
undeclared_by rules x None = Some (by_letter_of rules x)
undeclared_by rules x (Some m) = None

abbrev pub met_by : List Implied → Blocks → Use → Option Variable
met_by rules bs (Named x) = undeclared_by rules x (meaning bs x)
met_by rules bs _ = None

abbrev pub implied_at : List EflProcedure → ℕ → List Implied
implied_at us n = unwrap_or (option_map implied_of (slice_get us n)) []

-- the variables that a part lists, and those that it meets
abbrev pub variables_at : List EflProcedure → Part → List Variable
variables_at us v =
    filter_map (λ x. variable_if (meaning v.around.blocks x)) (variables_by v.form)
    ++ filter_map (met_by (implied_at us v.around.unit) v.around.blocks) (uses_in v.form)

abbrev pub located_at : List EflProcedure → Part → List Located
located_at us v = map (λ x. record { unit = v.around.unit; variable = x }) (variables_at us v)

-- each once, where it stands first
abbrev pub distinct : List Located → List Located → List Located
distinct before [] = []
distinct before (x ∷ xs) = if list_any (same_located x) before then distinct before xs else x ∷ distinct (x ∷ before) xs

-- all variables in the order of their numbers
abbrev pub program_variables : EflProgram → List Located
program_variables p = distinct [] (flat_map (located_at p.procedures) (program_parts p))

-- the variable that a name without parentheses, or with subscripts, means in a procedure
abbrev pub meant_by : List Implied → Text → Option Meaning → Variable
meant_by rules x (Some (IsVariable v)) = v
meant_by rules x _ = by_letter_of rules x

abbrev pub number_of : List Located → ℕ → Variable → ℕ
number_of xs n v = unwrap_or (first_place (same_located (record { unit = n; variable = v })) xs) 0
