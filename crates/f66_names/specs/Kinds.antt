-- The types of expressions, and where a statement has another than it asks for (X3.9-1966, sections 5.1.3.3, 6, 7.1 and 8.2).
use Rattle.std.specs.Prelude.{Bool, true, false, not, ◌&&◌, ◌||◌, if◌then◌else◌}
use Rattle.ground.specs.declared.value.Kind.{Kind}
use Rattle.ground.specs.declared.value.Kind.TheVariants.{Integer, Logical}
use Rattle.f66_tree.specs.declared.expression.Operator.{Operator}
use Rattle.f66_tree.specs.declared.expression.Operator.TheVariants.{Add, Sub, Mul, And, Or}
use Rattle.f66_tree.specs.declared.editing.Way.{Way}
use Rattle.f66_tree.specs.declared.editing.Way.TheVariants.{Reading, Writing}
use Rattle.f66_tree.specs.Syntax.{Text, Formula, Int, Truth, Letter, Ref, Item, Group, Plus, Minus, Not, Pair, Formulas, NoFormula, AndFormula, Par, Constant, Named, Entry, One, Many, Entries, NoEntry, AndEntry, Act, Assign, Computed, Sign, When, Loop, Read, Write}
use Rattle.f66_tree.specs.Units.{Context, kind_of}
use Rattle.f66_tree.specs.Built.{is_arithmetic}
use Rattle.f66_names.specs.declared.name_form.NameForm.{NameForm}
use Rattle.f66_names.specs.declared.name_form.NameForm.TheVariants as forms
use Rattle.f66_names.specs.Sorts.{name_form, is_array_name, is_foreign, is_counter, is_integer}

-- ---- subscripts: c*v+k, c*v-k, c*v, v+k, v-k, v or k ----

abbrev pub is_number : Formula → Bool
is_number (Int z) = true
is_number _ = false

-- an integer variable
abbrev pub is_index : Context → Formula → Bool
is_index c (Ref x) = is_counter c x
is_index c _ = false

abbrev pub is_times : Operator → Bool
is_times Mul = true
is_times _ = false

abbrev pub is_plus_or_minus : Operator → Bool
is_plus_or_minus Add = true
is_plus_or_minus Sub = true
is_plus_or_minus _ = false

-- v or c*v
abbrev pub is_multiple : Context → Formula → Bool
is_multiple c (Ref x) = is_counter c x
is_multiple c (Pair op a b) = is_times op && (is_number a && is_index c b)
is_multiple c _ = false

-- v or c*v, with a constant added or taken off
abbrev pub is_shifted : Context → Formula → Bool
is_shifted c (Pair op a b) = is_plus_or_minus op && (is_multiple c a && is_number b)
is_shifted c _ = false

abbrev pub is_subscript : Context → Formula → Bool
is_subscript c e = is_number e || (is_multiple c e || is_shifted c e)

abbrev pub are_subscripts : Context → Formulas → Bool
are_subscripts c NoFormula = true
are_subscripts c (AndFormula e es) = is_subscript c e && are_subscripts c es

-- ---- the type of an expression ----

abbrev pub same_kind : Kind → Kind → Bool
same_kind Integer Integer = true
same_kind Logical Logical = true
same_kind _ _ = false

-- a name may have values of a type: it has that type, or one outside the profile
abbrev pub may_be : Context → Text → Kind → Bool
may_be c x k = same_kind (kind_of c x) k || is_foreign c x

abbrev pub is_connective : Operator → Bool
is_connective And = true
is_connective Or = true
is_connective _ = false

-- the type that an operator asks for, and the one that it makes
abbrev pub operand : Operator → Kind
operand op = if is_connective op then Logical else Integer

abbrev pub outcome : Operator → Kind
outcome op = if is_arithmetic op then Integer else Logical

-- of a name with parentheses: what holds of an element, or of an intrinsic function's value
abbrev pub applied : NameForm → Bool → Bool → Bool
applied (forms.Array n) element value = element
applied (forms.Intrinsic a) element value = value
applied forms.Plain element value = false

abbrev mutual
  -- the expression may have this type: its operands have the types that its operators ask for, and an element fit subscripts
  pub fits : Context → Formula → Kind → Bool
  fits c (Int z) k = same_kind Integer k
  fits c (Truth b) k = same_kind Logical k
  fits c (Letter l) k = false
  fits c (Ref x) k = not (is_array_name c x) && may_be c x k
  fits c (Item x es) k = applied (name_form c x) (are_subscripts c es && may_be c x k) (is_integer (kind_of c x) && are_integers c es && same_kind Integer k)
  fits c (Group a) k = fits c a k
  fits c (Plus a) k = same_kind Integer k && fits c a Integer
  fits c (Minus a) k = same_kind Integer k && fits c a Integer
  fits c (Not a) k = same_kind Logical k && fits c a Logical
  fits c (Pair op a b) k = same_kind (outcome op) k && (fits c a (operand op) && fits c b (operand op))

  pub are_integers : Context → Formulas → Bool
  are_integers c NoFormula = true
  are_integers c (AndFormula e es) = fits c e Integer && are_integers c es

-- ---- statements ----

-- A target takes a value of this type. A whole array, and a name with parentheses that is no array, are no targets,
-- which is another rule.
abbrev pub takes_kind : Context → Formula → Kind → Bool
takes_kind c (Ref x) k = is_array_name c x || may_be c x k
takes_kind c (Item x es) k = not (is_array_name c x) || (are_subscripts c es && may_be c x k)
takes_kind c _ k = true

-- an assignment of values of a type
abbrev pub assigns : Context → Formula → Formula → Kind → Bool
assigns c x e k = takes_kind c x k && fits c e k

abbrev pub is_counting : Context → Par → Bool
is_counting c (Constant z) = true
is_counting c (Named x) = is_counter c x

-- An item is a variable, an array, or an element. A name with parentheses that is no array clashes in a WRITE; into one of a
-- READ nothing can be stored, which is another rule.
abbrev pub is_listed : Way → Context → Formula → Bool
is_listed way c (Ref x) = true
is_listed Writing c (Item x es) = is_array_name c x && are_subscripts c es
is_listed Reading c (Item x es) = not (is_array_name c x) || are_subscripts c es
is_listed way c _ = true

-- the variable and the parameters of a DO are integers
abbrev pub counts : Context → Text → Par → Par → Par → Bool
counts c x p q r = is_integer (kind_of c x) && (is_counting c p && (is_counting c q && is_counting c r))

abbrev mutual
  pub is_entry : Way → Context → Entry → Bool
  is_entry way c (One e) = is_listed way c e
  is_entry way c (Many es x p q r) = are_entries way c es && counts c x p q r

  pub are_entries : Way → Context → Entries → Bool
  are_entries way c NoEntry = true
  are_entries way c (AndEntry e es) = is_entry way c e && are_entries way c es

-- the statement has an operand, a subscript, an argument or a value of another type than it asks for
abbrev pub clashes : Context → Act → Bool
clashes c (Assign x e) = not (assigns c x e Integer || assigns c x e Logical)
clashes c (Computed ls x) = not (is_counter c x)
clashes c (Sign e l m k) = not (fits c e Integer)
clashes c (When e a) = not (fits c e Logical) || clashes c a
clashes c (Loop l x p q r) = not (counts c x p q r)
clashes c (Read u l es) = not (is_counting c u && are_entries Reading c es)
clashes c (Write u l es) = not (is_counting c u && are_entries Writing c es)
clashes c _ = false
