-- The statements that tokens give (X3.9-1966, section 7). No word is reserved: tokens that fit an assignment are one, else
-- those that fit a DO, else the statement that their first letters name.
use Rattle.std.specs.Prelude.{ℕ, pos, ◌-◌, ◌+◌, ◌*◌, Bool, nat_le, ◌&&◌, List, [], ◌∷◌, length, Option, Some, None, codes, if◌then◌else◌}
use Rattle.std.specs.List.{list_all}
use Rattle.f66_tree.specs.Syntax.{Text, Formula, Letter, NoFormula, Par, Constant, Act, Assign, Goto, Computed, Sign, When, Loop, Invoke, Continue, Stop, Return, Read, Write}
use Rattle.f66_tree.specs.Views.{chained}
use Rattle.stmt_reader.specs.declared.token.Token.{Token}
use Rattle.stmt_reader.specs.declared.token.Token.TheVariants as t
pub use Rattle.stmt_reader.specs.Taking.{then_if, or_else, without, after_word, place_if, par_if, nothing_more}
use Rattle.stmt_reader.specs.Machine.{expression_of}
use Rattle.stmt_reader.specs.Cutting.{cut, is_equals, is_close, is_comma}
use Rattle.stmt_reader.specs.Splitting.{list_of}
use Rattle.stmt_reader.specs.Entries.{record_of}
use Rattle.stmt_reader.specs.Formats.{format_of}
use Rattle.stmt_reader.specs.Declarations.{specification_of}

-- v = e
abbrev pub assignment_of : List Token → Option Act
assignment_of tokens =
    then_if (cut is_equals 0 tokens) (λ h. then_if (expression_of h.0) (λ a. then_if (place_if a) (λ x. then_if (expression_of h.1) (λ e. Some (Assign x e)))))

abbrev pub loop_if : ℕ → Text → Option Par → Option Par → Option Par → Option Act
loop_if l x (Some a) (Some b) (Some c) = Some (Loop l x a b c)
loop_if l x _ _ _ = None

-- n v = a, b or n v = a, b, c behind DO
abbrev pub loop_of : List Token → Option Act
loop_of (t.Number l ∷ t.Word x ∷ t.Equals ∷ a ∷ t.Comma ∷ b ∷ []) = loop_if l x (par_if a) (par_if b) (Some (Constant (pos 1)))
loop_of (t.Number l ∷ t.Word x ∷ t.Equals ∷ a ∷ t.Comma ∷ b ∷ t.Comma ∷ c ∷ []) = loop_if l x (par_if a) (par_if b) (par_if c)
loop_of _ = None

-- n behind GO TO
abbrev pub goto_of : List Token → Option Act
goto_of (t.Number l ∷ []) = Some (Goto l)
goto_of _ = None

-- labels in parentheses, a comma and a variable
abbrev pub label_of : List Token → Option ℕ
label_of (t.Number l ∷ []) = Some l
label_of _ = None

abbrev pub selects_with : List Token → List Token → Option Act
selects_with labels (t.Comma ∷ t.Word x ∷ []) = then_if (list_of label_of is_comma labels) (λ ls. Some (Computed ls x))
selects_with labels _ = None

abbrev pub computed_of : List Token → Option Act
computed_of (t.Open ∷ tokens) = then_if (cut is_close 0 tokens) (λ h. selects_with h.0 h.1)
computed_of _ = None

-- an expression, or a Hollerith text of one character
abbrev pub letter_of : List Token → Option Formula
letter_of (t.Chars (c ∷ []) ∷ []) = Some (Letter c)
letter_of _ = None

abbrev pub argument_of : List Token → Option Formula
argument_of tokens = or_else (letter_of tokens) (expression_of tokens)

abbrev pub call_with : Text → List Token → List Token → Option Act
call_with x arguments [] = then_if (list_of argument_of is_comma arguments) (λ es. Some (Invoke x (chained es)))
call_with x arguments _ = None

-- a name, and arguments where there are any, behind CALL
abbrev pub call_of : List Token → Option Act
call_of (t.Word x ∷ []) = Some (Invoke x NoFormula)
call_of (t.Word x ∷ t.Open ∷ tokens) = then_if (cut is_close 0 tokens) (λ h. call_with x h.0 h.1)
call_of _ = None

-- one to five octal digits, by their characters, since leading zeros count
abbrev pub is_octal : ℕ → Bool
is_octal c = nat_le 48 c && nat_le c 55

abbrev pub octal_after : ℕ → List ℕ → ℕ
octal_after n [] = n
octal_after n (c ∷ cs) = octal_after (n * 8 + (c - 48)) cs

abbrev pub stop_with : List ℕ → Option Act
stop_with [] = Some (Stop None)
stop_with (c ∷ cs) = if nat_le (length (c ∷ cs)) 5 && list_all is_octal (c ∷ cs) then Some (Stop (Some (octal_after 0 (c ∷ cs)))) else None

abbrev pub stop_alone : List ℕ → List Token → Option Act
stop_alone digits [] = stop_with digits
stop_alone digits _ = None

abbrev pub stop_of : List Token → Option Act
stop_of (t.Word w ∷ tokens) = then_if (without (codes "STOP") w) (λ digits. stop_alone digits tokens)
stop_of _ = None

-- the condition in parentheses, and what follows it
abbrev pub condition_of : List Token → Option (Formula × List Token)
condition_of (t.Open ∷ tokens) = then_if (cut is_close 0 tokens) (λ h. then_if (expression_of h.0) (λ e. Some (e, h.1)))
condition_of _ = None

-- three labels behind a condition
abbrev pub signs_with : Formula → List ℕ → Option Act
signs_with e (l ∷ m ∷ n ∷ []) = Some (Sign e l m n)
signs_with e _ = None

abbrev pub signs_of : Formula → List Token → Option Act
signs_of e tokens = then_if (list_of label_of is_comma tokens) (signs_with e)

abbrev pub sign_of : List Token → Option Act
sign_of tokens = then_if (condition_of tokens) (λ c. signs_of c.0 c.1)

-- a statement that may stand behind the condition of a logical IF, if it is executable
abbrev pub branch_of : List Token → Option Act
branch_of tokens =
    or_else (assignment_of tokens)
    (or_else (then_if (after_word (codes "GOTO") tokens) (λ rest. or_else (goto_of rest) (computed_of rest)))
    (or_else (then_if (after_word (codes "IF") tokens) sign_of)
    (or_else (then_if (after_word (codes "CALL") tokens) call_of)
    (or_else (then_if (after_word (codes "CONTINUE") tokens) (nothing_more Continue))
    (or_else (stop_of tokens)
    (or_else (then_if (after_word (codes "RETURN") tokens) (nothing_more Return))
    (or_else (then_if (after_word (codes "READ") tokens) (record_of Read))
    (then_if (after_word (codes "WRITE") tokens) (record_of Write)))))))))

-- a statement
abbrev pub statement_of : List Token → Option Act
statement_of tokens =
    or_else (assignment_of tokens)
    (or_else (then_if (after_word (codes "DO") tokens) loop_of)
    (or_else (branch_of tokens)
    (or_else (then_if (after_word (codes "IF") tokens) (λ rest. then_if (condition_of rest) (λ c. then_if (branch_of c.1) (λ a. Some (When c.0 a)))))
    (or_else (then_if (after_word (codes "FORMAT") tokens) format_of)
    (specification_of tokens)))))
