-- The classes of names, of which a name has one in a unit: it is a variable, a function or a subroutine (X3.9-1966, section 10.1).
use Rattle.std.specs.Prelude.{Bool, true, false, not, ◌||◌, List, Option, Some, None, is_some, if◌then◌else◌}
use Rattle.std.specs.List.{list_any}
use Rattle.std.specs.Option.{option_or}
use Rattle.std.specs.Str.{bytes_eq}
use Rattle.rule_table.specs.Words.{find_map, is_some_and}
use Rattle.f66_tree.specs.Syntax.{Text, Header, SubUnit, FuncUnit, Act}
use Rattle.f66_tree.specs.Units.{Context}
use Rattle.f66_names.specs.declared.name_form.NameForm.{NameForm}
use Rattle.f66_names.specs.declared.name_form.NameForm.TheVariants as forms
use Rattle.f66_names.specs.declared.name_form.Manner.{Manner}
use Rattle.f66_names.specs.declared.name_form.Manner.TheVariants.{Alone, With, Stored}
use Rattle.f66_names.specs.Declaring.{type_given}
use Rattle.f66_names.specs.Sorts.{name_form, is_array_name}
use Rattle.f66_names.specs.Uses.{Usage}
use Rattle.unit_rules.specs.declared.roles.Role.{Role}
use Rattle.unit_rules.specs.declared.roles.Role.TheVariants.{Variable, Function, Subroutine}
use Rattle.unit_rules.specs.Called.{called_in}
use Rattle.unit_rules.specs.Listed.{any_use, first_use}

-- the class that a name is used in; an array has none of these, and what is stored into and is no array is another fault
abbrev pub role_by : NameForm → Manner → Option Role
role_by (forms.Array n) m = None
role_by f Alone = Some Variable
role_by f (With n) = Some Function
role_by f (Stored n) = None

abbrev pub role_used : Context → Usage → Option Role
role_used c u = role_by (name_form c u.name) u.manner

abbrev pub role_given : Context → Text → Usage → Option Role
role_given c q u = if bytes_eq q u.name then role_used c u else None

-- a CALL's
abbrev pub role_called : Text → Option Text → Option Role
role_called q None = None
role_called q (Some x) = if bytes_eq q x then Some Subroutine else None

-- the first class that a statement uses a name in
abbrev pub role_in : Context → Text → Act → Option Role
role_in c q a = option_or (role_called q (called_in a)) (first_use c (role_given c q) a)

abbrev pub role_listed : Text → List Text → Option Role
role_listed q ds = if list_any (bytes_eq q) ds then Some Variable else None

-- A subroutine's name is its own, that of a function stands for its value, and a dummy is a variable or an array.
abbrev pub role_held : Header → Text → Option Role
role_held (SubUnit x ds) q = option_or (if bytes_eq q x then Some Subroutine else None) (role_listed q ds)
role_held (FuncUnit t x ds) q = option_or (if bytes_eq q x then Some Variable else None) (role_listed q ds)
role_held _ q = None

-- the first class of a name: what the header says, else the first statement
abbrev pub role_of : Context → List Act → Text → Option Role
role_of c acts q = option_or (role_held c.header q) (find_map (role_in c q) acts)

abbrev pub same_role : Role → Role → Bool
same_role Variable Variable = true
same_role Function Function = true
same_role Subroutine Subroutine = true
same_role _ _ = false

-- a name is used in another class than its first one
abbrev pub has_other_role : Option Role → Option Role → Bool
has_other_role None first = false
has_other_role (Some r) first = not (is_some_and (same_role r) first)

abbrev pub misuses : Context → List Act → Usage → Bool
misuses c acts u = has_other_role (role_used c u) (role_of c acts u.name)

-- a CALL of a name that is in another class, or has a type or dimensions
abbrev pub miscalls : Context → List Act → Text → Bool
miscalls c acts x = has_other_role (Some Subroutine) (role_of c acts x) || (is_some (find_map (type_given x) acts) || is_array_name c x)

-- the statement uses a name in another class than its first one
abbrev pub mixes_roles : Context → List Act → Act → Bool
mixes_roles c acts a = any_use c (misuses c acts) a || is_some_and (miscalls c acts) (called_in a)
