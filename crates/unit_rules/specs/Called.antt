-- What statements call, and what they hand over (X3.9-1966, sections 7.1.2.4 and 8.4).
use Rattle.std.specs.Prelude.{Option, Some, None}
use Rattle.f66_tree.specs.Syntax.{Text, Formulas, NoFormula, Act, When, Invoke}

-- the subroutine that a CALL names
abbrev pub called_in : Act → Option Text
called_in (Invoke x es) = Some x
called_in (When e a) = called_in a
called_in _ = None

-- its arguments
abbrev pub passed_in : Act → Formulas
passed_in (Invoke x es) = es
passed_in (When e a) = passed_in a
passed_in _ = NoFormula
