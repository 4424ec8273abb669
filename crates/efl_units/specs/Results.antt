-- The types that procedures give.
use Rattle.std.specs.Prelude.{Option, Some, None}
use Rattle.ground.specs.declared.value.Kind.{Kind}
use Rattle.efl_types.specs.Signatures.{Result, Gives}

abbrev pub kind_given : Result → Option Kind
kind_given (Gives k) = Some k
kind_given _ = None
