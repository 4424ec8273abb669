-- Limit 9: a header and a statement each fit twenty cards of 66 columns for their texts, and of an expression in a control
-- statement so much is left free that the statements which the compiler puts it into do too.
use Rattle.std.specs.Prelude.{ℕ, ◌+◌, length, nat_lt, Bool, false, ◌||◌, [], Option, Some, None}
use Rattle.f66_tree.specs.Syntax.{Formula, Formulas, NoFormula, AndFormula, Header, Act}
use Rattle.stmt_text.specs.Texts.{formula_text, statement_text, header_text}
use Rattle.rat_check.specs.Parts.{Form, Statement, Condition, Selector, CaseList, ForHead, ReturnHead}

abbrev pub is_long_header : Header → Bool
is_long_header h = nat_lt 1320 (length (header_text h))

abbrev pub is_long_statement : Act → Bool
is_long_statement a = nat_lt 1320 (length (statement_text a))

abbrev pub is_long_expression : Formula → Bool
is_long_expression e = nat_lt 1200 (length (formula_text e []))

abbrev pub are_some_long : Formulas → Bool
are_some_long NoFormula = false
are_some_long (AndFormula e es) = is_long_expression e || are_some_long es

abbrev pub is_long_if_any : Option Act → Bool
is_long_if_any None = false
is_long_if_any (Some a) = is_long_statement a

abbrev pub is_long_test : Option Formula → Bool
is_long_test None = false
is_long_test (Some e) = is_long_expression e

-- the characters of the texts of expressions, with one more for each
abbrev pub texts_size : Formulas → ℕ
texts_size NoFormula = 0
texts_size (AndFormula e es) = 1 + length (formula_text e []) + texts_size es

-- The words of a `do` always fit, since a name has at most 255 characters.
abbrev pub is_long_form : Form → Bool
is_long_form (Statement a) = is_long_statement a
is_long_form (Condition e) = is_long_expression e
is_long_form (Selector e) = is_long_expression e
is_long_form (CaseList es second) = are_some_long es
is_long_form (ForHead a e b) = is_long_if_any a || (is_long_test e || is_long_if_any b)
is_long_form (ReturnHead e) = is_long_test e
is_long_form _ = false
