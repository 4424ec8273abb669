-- What types of values are, where the elements of arrays and the members of structures do not count.
use Rattle.efl_scope.specs.DataTypes.{DataType, Structured, Array, NoType}
use Rattle.efl_scope.specs.DataTypes as types
use Rattle.efl_types.specs.Signatures as signatures
use Rattle.efl_expressions.specs.declared.forms.Form.{Form}
use Rattle.efl_expressions.specs.declared.forms.Form.TheVariants as forms
use Rattle.efl_expressions.specs.declared.intrinsics.Arity.{Arity}
use Rattle.efl_expressions.specs.declared.intrinsics.Arity.TheVariants.{One, Two, TwoOrMore}

abbrev pub form_of : DataType → Form
form_of (types.Scalar k) = forms.Scalar k
form_of (Structured ms) = forms.Structured
form_of (Array bs t) = forms.Array
form_of NoType = forms.NoType

-- how many arguments an intrinsic function takes
abbrev pub arity_of : Arity → signatures.Arity
arity_of One = signatures.One
arity_of Two = signatures.Two
arity_of TwoOrMore = signatures.TwoOrMore
