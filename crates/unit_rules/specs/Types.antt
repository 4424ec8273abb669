-- The types of expressions with references to functions, and where a statement has another than it asks for (X3.9-1966, sections
-- 5.1.3.3, 6, 7.1, 8.2, 8.3 and 8.4).
use Rattle.std.specs.Prelude.{Bool, true, false, not, ◌&&◌, ◌||◌}
use Rattle.ground.specs.declared.value.Kind.{Kind}
use Rattle.ground.specs.declared.value.Kind.TheVariants.{Integer, Logical}
use Rattle.f66_tree.specs.Syntax.{Formula, Int, Truth, Letter, Ref, Item, Group, Plus, Minus, Not, Pair, Formulas, NoFormula, AndFormula, Act, Assign, Sign, When, Invoke}
use Rattle.f66_tree.specs.Units.{Context, kind_of}
use Rattle.f66_names.specs.declared.name_form.NameForm.{NameForm}
use Rattle.f66_names.specs.declared.name_form.NameForm.TheVariants as forms
use Rattle.f66_names.specs.Sorts.{name_form, is_array_name, is_integer}
use Rattle.f66_names.specs.Kinds as plain
use Rattle.f66_names.specs.Kinds.{are_subscripts, same_kind, may_be, operand, outcome, takes_kind}

-- of a name with parentheses: what holds of an element, of an intrinsic function's value, and of another function's
abbrev pub applied : NameForm → Bool → Bool → Bool → Bool
applied (forms.Array n) element intrinsic function = element
applied (forms.Intrinsic a) element intrinsic function = intrinsic
applied forms.Plain element intrinsic function = function

-- the type of the values of a name with parentheses
abbrev pub kind_applied : NameForm → Kind → Kind
kind_applied (forms.Intrinsic a) k = Integer
kind_applied _ k = k

-- the type that an expression has where it has one
abbrev pub kind_seen : Context → Formula → Kind
kind_seen c (Int z) = Integer
kind_seen c (Truth b) = Logical
kind_seen c (Letter l) = Integer
kind_seen c (Ref x) = kind_of c x
kind_seen c (Item x es) = kind_applied (name_form c x) (kind_of c x)
kind_seen c (Group a) = kind_seen c a
kind_seen c (Plus a) = Integer
kind_seen c (Minus a) = Integer
kind_seen c (Not a) = Logical
kind_seen c (Pair op a b) = outcome op

-- an array without subscripts
abbrev pub is_whole : Context → Formula → Bool
is_whole c (Ref x) = is_array_name c x
is_whole c _ = false

abbrev pub is_letter : Formula → Bool
is_letter (Letter l) = true
is_letter _ = false

abbrev mutual
  -- the expression may have this type: its operands have the types that its operators ask for, an element fit subscripts, and a
  -- function fit arguments
  pub fits : Context → Formula → Kind → Bool
  fits c (Int z) k = same_kind Integer k
  fits c (Truth b) k = same_kind Logical k
  fits c (Letter l) k = false
  fits c (Ref x) k = not (is_array_name c x) && may_be c x k
  fits c (Item x es) k = applied (name_form c x) (are_subscripts c es && may_be c x k) (is_integer (kind_of c x) && are_integers c es && same_kind Integer k) (may_be c x k && are_actuals c es)
  fits c (Group a) k = fits c a k
  fits c (Plus a) k = same_kind Integer k && fits c a Integer
  fits c (Minus a) k = same_kind Integer k && fits c a Integer
  fits c (Not a) k = same_kind Logical k && fits c a Logical
  fits c (Pair op a b) k = same_kind (outcome op) k && (fits c a (operand op) && fits c b (operand op))

  pub are_integers : Context → Formulas → Bool
  are_integers c NoFormula = true
  are_integers c (AndFormula e es) = fits c e Integer && are_integers c es

  -- each is an array, or an expression of a type
  pub are_actuals : Context → Formulas → Bool
  are_actuals c NoFormula = true
  are_actuals c (AndFormula e es) = (is_whole c e || fits c e (kind_seen c e)) && are_actuals c es

-- those of a CALL, of which a Hollerith text may be one
abbrev pub are_passed : Context → Formulas → Bool
are_passed c NoFormula = true
are_passed c (AndFormula e es) = (is_letter e || (is_whole c e || fits c e (kind_seen c e))) && are_passed c es

abbrev pub assigns : Context → Formula → Formula → Kind → Bool
assigns c x e k = takes_kind c x k && fits c e k

-- the statement has an operand, a subscript, an argument or a value of another type than it asks for
abbrev pub clashes : Context → Act → Bool
clashes c (Assign x e) = not (assigns c x e Integer || assigns c x e Logical)
clashes c (Sign e l m k) = not (fits c e Integer)
clashes c (When e a) = not (fits c e Logical) || clashes c a
clashes c (Invoke x es) = not (are_passed c es)
clashes c a = plain.clashes c a
