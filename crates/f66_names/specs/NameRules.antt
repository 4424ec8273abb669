-- The rules of names: their lengths, types, counts and classes (X3.9-1966, sections 3.5, 5.1.3, 5.3, 7.2.1, 8.2 and 10.1).
use Rattle.std.specs.Prelude.{ℕ, Bool, true, false, not, ◌||◌, nat_lt, List, Option, Some, None, map, length, if◌then◌else◌}
use Rattle.std.specs.List.{list_any, flat_map}
use Rattle.std.specs.Str.{bytes_eq}
use Rattle.rule_table.specs.Words.{first_place, find_map, is_below, is_some_and, repeats}
use Rattle.f66_tree.specs.Syntax.{Text, Declared, Act, Typed, Dimension}
use Rattle.f66_tree.specs.Units.{Context}
use Rattle.f66_names.specs.declared.name_form.NameForm.{NameForm}
use Rattle.f66_names.specs.declared.name_form.NameForm.TheVariants as forms
use Rattle.f66_names.specs.declared.name_form.Class.{Class}
use Rattle.f66_names.specs.declared.name_form.Class.TheVariants.{Scalar, Function}
use Rattle.f66_names.specs.declared.name_form.Manner.{Manner}
use Rattle.f66_names.specs.declared.name_form.Manner.TheVariants.{Alone, With, Stored}
use Rattle.f66_names.specs.Declaring.{types, sizes, typed_in, declared_in, sized_in, is_sized}
use Rattle.f66_names.specs.Sorts.{name_form, is_other, is_real_by_letter, takes}
use Rattle.f66_names.specs.Uses.{Usage, uses_in}

-- a name passes a test that the statement declares or uses
abbrev pub has_name : (Text → Bool) → Act → Bool
has_name test a = list_any (λ d. test d.name) (declared_in a) || list_any (λ u. test u.name) (uses_in a)

-- a name has more than six characters
abbrev pub is_long : Text → Bool
is_long x = nat_lt 6 (length x)

-- a type statement gives a type outside the profile
abbrev pub gives_other : Act → Bool
gives_other (Typed t ds) = is_other t
gives_other _ = false

-- it does, or it has an undeclared name that would be real
abbrev pub has_other_type : Context → Act → Bool
has_other_type c a = gives_other a || has_name (is_real_by_letter c) a

-- a type statement gives at most three dimensions, and DIMENSION one to three
abbrev pub has_many_sizes : Declared → Bool
has_many_sizes d = nat_lt 3 (length d.sizes)

abbrev pub has_wrong_sizes : Act → Bool
has_wrong_sizes (Typed t ds) = list_any has_many_sizes ds
has_wrong_sizes (Dimension ds) = list_any (λ d. not (is_sized d) || has_many_sizes d) ds
has_wrong_sizes _ = false

-- subscripts or arguments are too many or too few
abbrev pub miscounts_by : NameForm → Manner → Bool
miscounts_by f Alone = false
miscounts_by f (With n) = not (takes f n)
miscounts_by (forms.Array m) (Stored n) = not (takes (forms.Array m) n)
miscounts_by f (Stored n) = false

abbrev pub miscounts : Context → Usage → Bool
miscounts c u = miscounts_by (name_form c u.name) u.manner

abbrev pub has_wrong_count : Context → Act → Bool
has_wrong_count c a = has_wrong_sizes a || list_any (miscounts c) (uses_in a)

-- names get their types from an earlier statement too, or twice from this list
abbrev pub retypes : List Act → ℕ → List Declared → Bool
retypes acts i ds = list_any (λ d. is_below i (first_place (types d.name) acts)) ds || repeats (map (λ d. d.name) ds)

-- names get their dimensions from an earlier statement too, or twice from this list
abbrev pub resizes : List Act → ℕ → List Declared → Bool
resizes acts i ds = list_any (λ d. is_below i (first_place (sizes d.name) acts)) ds || repeats (map (λ d. d.name) ds)

abbrev pub redeclares : List Act → ℕ → Act → Bool
redeclares acts i a = retypes acts i (typed_in a) || resizes acts i (sized_in a)

-- the class that a name is used in
abbrev pub class_by : NameForm → Manner → Option Class
class_by (forms.Array n) m = None
class_by f Alone = Some Scalar
class_by (forms.Intrinsic a) (With n) = Some Function
class_by f _ = None

abbrev pub class_used : Context → Usage → Option Class
class_used c u = class_by (name_form c u.name) u.manner

abbrev pub class_given : Context → Text → Usage → Option Class
class_given c q u = if bytes_eq q u.name then class_used c u else None

-- the first class that the statements of the unit use a name in
abbrev pub class_of : Context → List Act → Text → Option Class
class_of c acts q = find_map (class_given c q) (flat_map uses_in acts)

abbrev pub same_class : Class → Class → Bool
same_class Scalar Scalar = true
same_class Function Function = true
same_class _ _ = false

-- a name is used in another class than its first one
abbrev pub has_other_class : Option Class → Option Class → Bool
has_other_class None first = false
has_other_class (Some k) first = not (is_some_and (same_class k) first)

abbrev pub misuses : Context → List Act → Usage → Bool
misuses c acts u = has_other_class (class_used c u) (class_of c acts u.name)

abbrev pub is_duplicate : Context → List Act → ℕ → Act → Bool
is_duplicate c acts i a = redeclares acts i a || list_any (misuses c acts) (uses_in a)
