-- The types of values, places and actuals.
use Rattle.std.proofs.Common.{◌≡◌, ◌≢◌, Bool, true, not, ◌&&◌, List, refl, sym, ap, subst, ◌∙◌, if◌then◌else◌}
use Rattle.ground.specs.declared.value.Kind.{Kind}
use Rattle.efl_tree.specs.Syntax.{EflExpr, At, EflExprs, NoExpr, EflPlace, Path, EflSteps, NoStep, Member, Overlay}
use Rattle.efl_scope.specs.DataTypes.{DataType, Scalar, Structured, Array, NoType, is_faulty, agrees}
use Rattle.efl_types.specs.Signatures.{Names}
use Rattle.efl_types.specs.Types.{type_of, value_type, is_single, is_target_call, target_type, place_type}
use Rattle.efl_types.specs.Expressions.{has_subscripts, ends_subscripted, is_element, element_of, takes_array, takes_other, takes_actual}
use Rattle.efl_expressions.specs.declared.forms.Form.{Form}
use Rattle.efl_expressions.specs.declared.forms.Form.TheVariants as forms
use Rattle.efl_expressions.specs.declared.types.Structure.{Structure}
use Rattle.efl_expressions.specs.Forms.{form_of}
use Rattle.efl_scoped.specs.Numbers.{Table}
use Rattle.efl_places.specs.declared.typed.Typed.{Typed}
use Rattle.efl_places.specs.Checks.{IsTyped, place_ends, steps_end}

-- ---- values ----

pub typed_as : (f : Table) (ss : List Structure) (n : Names) (x y : EflExpr) (r : Typed) → x ≡ y → IsTyped f ss n x r → IsTyped f ss n y r
typed_as f ss n x y r same is = subst (λ e. IsTyped f ss n e r) same is

pub value_single : (t : DataType) → is_single (value_type t) ≡ true
value_single (Scalar k) = refl
value_single (Structured ms) = refl
value_single (Array bs t) = refl
value_single NoType = refl

pub scalar_form : (t : DataType) (v : Form) (k : Kind) → form_of t ≡ v → v ≡ forms.Scalar k → t ≡ Scalar k
scalar_form (Scalar j) v k form is = let d : forms.Scalar j ≡ forms.Scalar k = form ∙ is in cc
scalar_form (Structured ms) v k form is = absurd (let d : forms.Structured ≡ forms.Scalar k = form ∙ is in cc)
scalar_form (Array bs t) v k form is = absurd (let d : forms.Array ≡ forms.Scalar k = form ∙ is in cc)
scalar_form NoType v k form is = absurd (let d : forms.NoType ≡ forms.Scalar k = form ∙ is in cc)

pub no_scalar : (t : DataType) (v : Form) → ((k : Kind) → v ≢ forms.Scalar k) → is_single t ≡ true → form_of t ≡ v → t ≡ NoType
no_scalar (Scalar k) v other single form = absurd (other k (sym form))
no_scalar (Structured ms) v other single form = absurd cc
no_scalar (Array bs t) v other single form = absurd cc
no_scalar NoType v other single form = refl

-- ---- places ----

pub ends_are : (es : EflExprs) (steps : EflSteps) → ends_subscripted es steps ≡ steps_end (has_subscripts es) steps
ends_are es NoStep = refl
ends_are es (Member x fs steps) = ends_are fs steps
ends_are es (Overlay x steps) = ends_are NoExpr steps

pub element_is : (n : Names) (p : EflPlace) → is_element n (At p) ≡ (not (is_target_call n p) && place_ends p)
element_is n (Path x es steps) = refl

-- what is stored into
pub target_is : (n : Names) (p : EflPlace) (b : Bool) (t : DataType) → is_target_call n p ≡ b → place_type n p ≡ t → form_of (target_type n p) ≡ form_of (if b then NoType else t)
target_is n p b t call same = ap (λ c. form_of (if c then NoType else place_type n p)) call ∙ ap (λ u. form_of (if b then NoType else u)) same

-- ---- actuals ----

pub other_actual : (n : Names) (t : DataType) (e : EflExpr) → form_of t ≢ forms.Array → takes_actual n t e ≡ takes_other t (type_of n e)
other_actual n (Scalar k) e other = refl
other_actual n (Structured ms) e other = refl
other_actual n (Array bs t) e other = absurd (other refl)
other_actual n NoType e other = refl

pub array_other : (t u : DataType) → form_of u ≡ forms.Array → takes_other t u ≡ is_faulty t
array_other t (Scalar k) form = absurd (let d : forms.Scalar k ≡ forms.Array = form in cc)
array_other t (Structured ms) form = absurd (let d : forms.Structured ≡ forms.Array = form in cc)
array_other t (Array bs u) form = refl
array_other t NoType form = absurd (let d : forms.NoType ≡ forms.Array = form in cc)

pub other_agrees : (t u : DataType) → form_of u ≢ forms.Array → takes_other t u ≡ agrees t u
other_agrees t (Scalar k) other = refl
other_agrees t (Structured ms) other = refl
other_agrees t (Array bs u) other = absurd (other refl)
other_agrees t NoType other = refl

pub array_takes : (t u : DataType) (element : Bool) → form_of u ≡ forms.Array → takes_array t element u ≡ agrees t (element_of u)
array_takes t (Scalar k) element form = absurd (let d : forms.Scalar k ≡ forms.Array = form in cc)
array_takes t (Structured ms) element form = absurd (let d : forms.Structured ≡ forms.Array = form in cc)
array_takes t (Array bs u) element form = refl
array_takes t NoType element form = absurd (let d : forms.NoType ≡ forms.Array = form in cc)

pub nothing_takes : (t u : DataType) (element : Bool) → form_of u ≡ forms.NoType → takes_array t element u ≡ true
nothing_takes t (Scalar k) element form = absurd (let d : forms.Scalar k ≡ forms.NoType = form in cc)
nothing_takes t (Structured ms) element form = absurd (let d : forms.Structured ≡ forms.NoType = form in cc)
nothing_takes t (Array bs u) element form = absurd (let d : forms.Array ≡ forms.NoType = form in cc)
nothing_takes t NoType element form = refl

pub other_takes : (t u : DataType) (element : Bool) → form_of u ≢ forms.Array → form_of u ≢ forms.NoType → takes_array t element u ≡ (element && agrees t u)
other_takes t (Scalar k) element array none = refl
other_takes t (Structured ms) element array none = refl
other_takes t (Array bs u) element array none = absurd (array refl)
other_takes t NoType element array none = absurd (none refl)
