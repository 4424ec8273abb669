-- What expressions and acts are made of.
use Rattle.std.specs.Prelude.{Option, if◌then◌else◌, List, [], ◌∷◌}
use Rattle.efl_tree.specs.declared.expression.EflOperator.{EflOperator}
use Rattle.efl_tree.specs.Syntax.{Text, EflExpr, At, Call, Plus, Minus, Up, Down, Pair, Assign, EflExprs, EflPlace, Path, EflSteps}
use Rattle.efl_parse_values.specs.Kinds.{Joins, Tail, Rest, Called, Reached, Stored}
use Rattle.efl_parse_values.specs.Values.{Val}
use Rattle.efl_parse_values.specs.Parts.{sign_in, operator_of, is_minus, is_decrement}

-- operators that group to the left
abbrev pub joined : EflExpr → Joins → EflExpr
joined e [] = e
joined e (j ∷ js) = joined (Pair j.0 e j.1) js

-- an operator with the operand behind it
abbrev pub joint : Val → EflExpr → EflOperator × EflExpr
joint v e = (operator_of (sign_in v), e)

abbrev pub with_steps : EflSteps → Rest → Rest
with_steps ss r = record { arguments = r.arguments; steps = ss; tail = r.tail }

abbrev pub with_arguments : EflExprs → Rest → Rest
with_arguments es r = record { arguments = es; steps = r.steps; tail = r.tail }

abbrev pub ended : Text → EflExprs → EflSteps → Tail → EflExpr
ended x es ss (Called js) = joined (Call x es) js
ended x es ss (Reached js) = joined (At (Path x es ss)) js
ended x es ss (Stored o e) = Assign o (Path x es ss) e

-- what begins with this name
abbrev pub completed : Text → Rest → EflExpr
completed x r = ended x r.arguments r.steps r.tail

abbrev pub signed_expr : Val → EflExpr → EflExpr
signed_expr v e = if is_minus (sign_in v) then Minus e else Plus e

abbrev pub stepped : Val → EflPlace → EflExpr
stepped v p = if is_decrement (sign_in v) then Down p else Up p
