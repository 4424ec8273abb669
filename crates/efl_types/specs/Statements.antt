-- What statements break, without those in them (Feldman: executable statements; input and output; procedures).
use Rattle.std.specs.Prelude.{ℕ, ℤ, unsigned_abs, nat_le, int_le, Bool, true, false, not, ◌&&◌, ◌||◌, List, [], ◌∷◌, ◌++◌, sum_by, length, flat_map, Option, Some, None}
use Rattle.std.specs.List.{list_any, list_all}
use Rattle.ground.specs.declared.value.Kind.{Kind}
use Rattle.ground.specs.declared.value.Kind.TheVariants as kinds
use Rattle.efl_tree.specs.declared.statement.EflEdit.{EflEdit}
use Rattle.efl_tree.specs.declared.statement.EflEdit.TheVariants.{Whole, Truth, Letter}
use Rattle.efl_tree.specs.Syntax.{Text, EflExpr, Call, EflExprs, NoExpr, EflPlace, WriteItem, Value, Chars, ReadItem, Take, EflKind, Act, If, IfElse, While, For, Do, Switch, Return, Write, Read}
use Rattle.efl_tree.specs.Syntax as efl
use Rattle.efl_types.specs.declared.rule.TypeRule.{TypeRule}
use Rattle.efl_types.specs.declared.rule.TypeRule.TheVariants.{TypeClash, DuplicateCase, BadFormat}
use Rattle.efl_types.specs.Signatures.{Result, Nothing, Gives, Unknown, Names, Callee, Procedure, Intrinsic, Missing, callee, is_variable, variable_type}
use Rattle.efl_types.specs.Types.{fits}
use Rattle.efl_types.specs.Expressions.{when, variable_faults, wants, wants_single, actual_faults, store_wants, faults, faults_of_all, place_faults}

-- ---- acts and conditions ----

-- a procedure without a type
abbrev pub is_subroutine : Result → Bool
is_subroutine Nothing = true
is_subroutine _ = false

abbrev pub may_be_called : Callee → Bool
may_be_called (Procedure s) = is_subroutine s.result
may_be_called (Intrinsic a) = false
may_be_called Missing = true

-- a call that is a statement: no declared variable has the name
abbrev pub invoke_faults : Names → Text → EflExprs → List TypeRule
invoke_faults n x es = when (is_variable n x || not (may_be_called (callee n x))) TypeClash ++ actual_faults n (callee n x) es ++ faults_of_all n es

abbrev pub act_faults : Names → EflExpr → List TypeRule
act_faults n (Call x es) = invoke_faults n x es
act_faults n e = faults n e

abbrev pub act_if : Names → Option EflExpr → List TypeRule
act_if n None = []
act_if n (Some e) = act_faults n e

abbrev pub value_faults : Names → Kind → EflExpr → List TypeRule
value_faults n k e = wants n k e ++ faults n e

abbrev pub value_if : Names → Kind → Option EflExpr → List TypeRule
value_if n k None = []
value_if n k (Some e) = value_faults n k e

-- the value of a `return`
abbrev pub returns : Names → Result → EflExpr → List TypeRule
returns n Nothing e = TypeClash ∷ []
returns n (Gives k) e = wants n k e
returns n Unknown e = wants_single n e

abbrev pub return_faults : Names → Option EflExpr → List TypeRule
return_faults n None = []
return_faults n (Some e) = returns n n.result e ++ faults n e

-- ---- input and output ----

-- what an edit takes, and how wide it is
abbrev pub edited : EflEdit → Kind
edited (Whole w) = kinds.Integer
edited (Truth w) = kinds.Logical
edited Letter = kinds.Integer

abbrev pub width : EflEdit → ℕ
width (Whole w) = unsigned_abs w
width (Truth w) = unsigned_abs w
width Letter = 1

-- the widths of items; a text has that of its characters
abbrev pub written_width : WriteItem → ℕ
written_width (Value e f) = width f
written_width (efl.WriteItem.Skip n) = unsigned_abs n
written_width (Chars x) = length x

abbrev pub read_width : ReadItem → ℕ
read_width (Take p f) = width f
read_width (efl.ReadItem.Skip n) = unsigned_abs n

abbrev pub is_width : ℕ → Bool
is_width w = nat_le 1 w && nat_le w 132

abbrev pub written_faults : Names → WriteItem → List TypeRule
written_faults n (Value e f) = value_faults n (edited f) e
written_faults n _ = []

abbrev pub read_faults : Names → ReadItem → List TypeRule
read_faults n (Take p f) = store_wants n (edited f) p ++ place_faults n p
read_faults n _ = []

-- ---- statements ----

abbrev pub statement_faults : Names → EflKind → List TypeRule
statement_faults n (Act e) = act_faults n e
statement_faults n (If e s) = value_faults n kinds.Logical e
statement_faults n (IfElse e s t) = value_faults n kinds.Logical e
statement_faults n (While e s) = value_faults n kinds.Logical e
statement_faults n (For a e b s) = act_if n a ++ value_if n kinds.Logical e ++ act_if n b
statement_faults n (Do x a b c s) =
    when (not (fits kinds.Integer (variable_type n x))) TypeClash ++ variable_faults n x
    ++ value_faults n kinds.Integer a ++ value_faults n kinds.Integer b ++ value_if n kinds.Integer c
statement_faults n (Switch e cs) = value_faults n kinds.Integer e
statement_faults n (Return e) = return_faults n e
statement_faults n (Write e is') =
    value_if n kinds.Integer e ++ flat_map (written_faults n) is'
    ++ when (not (list_all (λ i. is_width (written_width i)) is') || not (nat_le (sum_by written_width is') 132)) BadFormat
statement_faults n (Read e is') =
    value_if n kinds.Integer e ++ flat_map (read_faults n) is'
    ++ when (not (list_all (λ i. is_width (read_width i)) is') || not (nat_le (sum_by read_width is') 132)) BadFormat
statement_faults n _ = []

-- ---- clauses ----

abbrev pub same_whole : ℤ → ℤ → Bool
same_whole a b = int_le a b && int_le b a

-- a constant stands before, or twice
abbrev pub chosen_again : List ℤ → List ℤ → Bool
chosen_again before [] = false
chosen_again before (z ∷ zs) = list_any (same_whole z) before || chosen_again (z ∷ before) zs

abbrev pub clause_faults : List ℤ → Bool → List ℤ → Bool → List TypeRule
clause_faults zs fallback before seen = when (chosen_again before zs || (fallback && seen)) DuplicateCase
