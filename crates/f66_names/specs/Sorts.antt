-- What a name is in a unit: an array, an intrinsic function, or something else (X3.9-1966, sections 5.1.3, 7.2.1.1 and 8.2).
use Rattle.std.specs.Prelude.{ℕ, Bool, true, false, not, ◌&&◌, ◌==◌, nat_le, length, Some, if◌then◌else◌}
use Rattle.std.specs.List.{list_any}
use Rattle.std.specs.Str.{bytes_eq}
use Rattle.ground.specs.declared.value.Kind.{Kind}
use Rattle.ground.specs.declared.value.Kind.TheVariants as kinds
use Rattle.f66_tree.specs.declared.declaration.TypeWord.{TypeWord}
use Rattle.f66_tree.specs.declared.declaration.TypeWord.TheVariants.{Integer, Other}
use Rattle.f66_tree.specs.Syntax.{Text, Header, FuncUnit}
use Rattle.f66_tree.specs.Units.{Context, dummies_of, type_in, by_header, kind_of}
use Rattle.f66_tree.specs.Evaluation.{Sort, AnArray, AnIntrinsic, AFunction, Intrinsic, Iabs, Mod, Isign, Idim, Max0, Min0, sort_of}
use Rattle.f66_names.specs.declared.name_form.Arity.{Arity}
use Rattle.f66_names.specs.declared.name_form.Arity.TheVariants.{One, Two, More}
use Rattle.f66_names.specs.declared.name_form.NameForm.{NameForm}
use Rattle.f66_names.specs.declared.name_form.NameForm.TheVariants as forms

abbrev pub arity : Intrinsic → Arity
arity Iabs = One
arity Mod = Two
arity Isign = Two
arity Idim = Two
arity Max0 = More
arity Min0 = More

abbrev pub form_by : Sort → NameForm
form_by (AnArray ns) = forms.Array (length ns)
form_by (AnIntrinsic f) = forms.Intrinsic (arity f)
form_by AFunction = forms.Plain

abbrev pub name_form : Context → Text → NameForm
name_form c x = form_by (sort_of c x)

abbrev pub is_array_form : NameForm → Bool
is_array_form (forms.Array n) = true
is_array_form _ = false

abbrev pub is_array_name : Context → Text → Bool
is_array_name c x = is_array_form (name_form c x)

-- the type of a name, which may be outside the profile
abbrev pub type_of : Context → Text → TypeWord
type_of c x = type_in x c.notes (by_header x c.header)

-- a type is outside the profile
abbrev pub is_other : TypeWord → Bool
is_other Other = true
is_other _ = false

-- the type that a header gives a name, or INTEGER, which is of the profile, where it gives none
abbrev pub given_by : Text → Header → TypeWord
given_by x (FuncUnit (Some t) y ds) = if bytes_eq x y then t else Integer
given_by x _ = Integer

-- a name that is declared of a type outside the profile: its declaration is at fault, and its values clash with nothing
abbrev pub is_foreign : Context → Text → Bool
is_foreign c x = is_other (type_in x c.notes (given_by x c.header))

-- an undeclared name that would be real
abbrev pub is_real_by_letter : Context → Text → Bool
is_real_by_letter c x = is_other (type_of c x) && not (is_foreign c x)

-- a dummy of the unit
abbrev pub is_dummy : Context → Text → Bool
is_dummy c x = list_any (bytes_eq x) (dummies_of c.header)

abbrev pub takes_many : Arity → ℕ → Bool
takes_many One n = n == 1
takes_many Two n = n == 2
takes_many More n = nat_le 2 n

-- an array has so many dimensions, or an intrinsic function takes so many arguments
abbrev pub takes : NameForm → ℕ → Bool
takes (forms.Array m) n = n == m
takes (forms.Intrinsic a) n = takes_many a n
takes forms.Plain n = true

abbrev pub is_integer : Kind → Bool
is_integer kinds.Integer = true
is_integer kinds.Logical = false

-- an integer variable
abbrev pub is_counter : Context → Text → Bool
is_counter c x = not (is_array_name c x) && is_integer (kind_of c x)
