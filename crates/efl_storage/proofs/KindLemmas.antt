-- The type of a scalar, by the form of its type.
use Rattle.std.proofs.Common.{◌≡◌, Option, Some, None, refl}
use Rattle.ground.specs.declared.value.Kind.{Kind}
use Rattle.efl_scope.specs.DataTypes.{DataType, Scalar, Structured, Array, NoType}
use Rattle.efl_expressions.specs.declared.forms.Form.{Form}
use Rattle.efl_expressions.specs.declared.forms.Form.TheVariants as forms
use Rattle.efl_expressions.specs.Forms.{form_of}
use Rattle.efl_variables.specs.Numbered.{scalar_kind}

abbrev pub kind_by : Form → Option Kind
kind_by (forms.Scalar k) = Some k
kind_by o = None

pub kind_told : (t : DataType) → scalar_kind t ≡ kind_by (form_of t)
kind_told (Scalar k) = refl
kind_told (Structured ms) = refl
kind_told (Array bs t) = refl
kind_told NoType = refl
