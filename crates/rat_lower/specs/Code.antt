-- The statements of FORTRAN that a command of Ratfor becomes, before those that come next.
use Rattle.std.specs.Prelude.{ℕ, zero, suc, ◌+◌, Bool, true, false, ◌||◌, if◌then◌else◌, List, [], ◌∷◌, Option, Some, None}
use Rattle.ground.specs.declared.place.Place.{Place}
use Rattle.f66_tree.specs.declared.declaration.TypeWord.TheVariants.{Integer}
use Rattle.f66_tree.specs.declared.expression.Operator.TheVariants.{Eq}
use Rattle.f66_tree.specs.Syntax.{Text, Formula, Ref, Group, Not, Pair, Formulas, NoFormula, AndFormula, Header, DataUnit, Act, Assign, Goto, Computed, Sign, When, Loop, Continue, Stop, Return, Typed, Line, unlabelled_line, labelled_line}
use Rattle.f66_tree.specs.Units.{is_note, is_main, name_of}
use Rattle.rat_tree.specs.Syntax.{Command, Empty, Block, If, IfElse, While, For, Repeat, RepeatUntil, Do, Switch, Break, Next, Plain, Labelled, Commands, NoCommand, AndCommand, Clauses, NoClause, AndClause}
use Rattle.rat_tree.specs.Meaning.{pred_of}
use Rattle.rat_tree.specs.Syntax as ratfor_tree

-- the loops around a statement, from the inside out: the label behind each, and the label of its next turn
abbrev pub Rings : Type 0
Rings = List (ℕ × ℕ)

abbrev pub label_behind : Rings → ℕ → ℕ
label_behind [] k = 0
label_behind (l ∷ ls) zero = l.0
label_behind (l ∷ ls) (suc k) = label_behind ls k

abbrev pub label_again : Rings → ℕ → ℕ
label_again [] k = 0
label_again (l ∷ ls) zero = l.1
label_again (l ∷ ls) (suc k) = label_again ls k

abbrev pub jump : Place → ℕ → Line
jump p l = unlabelled_line p (Goto l)

-- IF(.NOT.(e))GO TO l
abbrev pub unless : Place → Formula → ℕ → Line
unless p e l = unlabelled_line p (When (Not (Group e)) (Goto l))

abbrev pub here : ℕ → Place → Line
here l p = labelled_line l p Continue

-- a missing condition is true, and a missing statement does nothing
abbrev pub with_test : Place → Option Formula → ℕ → List Line → List Line
with_test p None l next = next
with_test p (Some e) l next = unless p e l ∷ next

abbrev pub with_act : Place → Option Act → List Line → List Line
with_act p None next = next
with_act p (Some a) next = unlabelled_line p a ∷ next

-- a return, behind the store of a function's value in its own name where there is one
abbrev pub with_return : Text → Place → Option Formula → List Line → List Line
with_return own p None next = unlabelled_line p Return ∷ next
with_return own p (Some e) next = unlabelled_line p (Assign (Ref own) e) ∷ unlabelled_line p Return ∷ next

-- how many labels are made for a command
abbrev mutual
  pub labels : Command → ℕ
  labels (Empty p) = 0
  labels (Block p ss) = all_labels ss
  labels (If p e s) = labels s + 1
  labels (IfElse p e s t) = labels s + labels t + 2
  labels (While p e s) = labels s + 3
  labels (For p first e step s) = labels s + 3
  labels (Repeat p s) = labels s + 3
  labels (RepeatUntil p s e q) = labels s + 3
  labels (Do p x a b c s) = labels s + 2
  labels (Switch p e cs) = clause_labels cs + 1
  labels (Break p n) = 0
  labels (Next p n) = 0
  labels (ratfor_tree.Return p e) = 0
  labels (Plain l p a) = 0
  labels (Labelled l p s) = labels s

  pub all_labels : Commands → ℕ
  all_labels NoCommand = 0
  all_labels (AndCommand s ss) = labels s + all_labels ss

  pub clause_labels : Clauses → ℕ
  clause_labels NoClause = 0
  clause_labels (AndClause es fallback ss p cs) = all_labels ss + 1 + clause_labels cs

-- whether the spare name holds the value of a case expression
abbrev pub case_test : Text → Formula → Formula
case_test spare e = Pair Eq (Ref spare) (Group e)

-- the case expressions of a clause, in their order, each of which leads to the clause's label
abbrev pub each_test : Text → Place → Formulas → ℕ → List Line → List Line
each_test spare p NoFormula l next = next
each_test spare p (AndFormula e es) l next = unlabelled_line p (When (case_test spare e) (Goto l)) ∷ each_test spare p es l next

-- where made n is the n-th of the labels that are made, the spare name holds the values of switches, and own is the unit's name
module _ (made : ℕ → ℕ) (spare own : Text) where
  -- the case expressions of all clauses
  abbrev pub tests : Clauses → ℕ → List Line → List Line
  tests NoClause m next = next
  tests (AndClause es fallback ss p cs) m next = each_test spare p es (made m) (tests cs (m + 1 + all_labels ss) next)

  -- where a switch goes on with none of its cases
  abbrev pub default_label : Clauses → ℕ → ℕ → ℕ
  default_label NoClause m out = out
  default_label (AndClause es fallback ss p cs) m out = if fallback then made m else default_label cs (m + 1 + all_labels ss) out

  abbrev mutual
    pub code_of : Command → ℕ → Rings → List Line → List Line
    code_of (Empty p) n ls next = next
    code_of (Block p ss) n ls next = all_code ss n ls next
    code_of (If p e s) n ls next = unless p e (made n) ∷ code_of s (n + 1) ls (here (made n) p ∷ next)
    code_of (IfElse p e s t) n ls next =
        unless p e (made n) ∷ code_of s (n + 2) ls (jump p (made (n + 1)) ∷ here (made n) p ∷ code_of t (n + 2 + labels s) ls (here (made (n + 1)) p ∷ next))
    code_of (While p e s) n ls next =
        here (made n) p ∷ with_test p (Some e) (made (n + 2)) (code_of s (n + 3) ((made (n + 2), made (n + 1)) ∷ ls) (here (made (n + 1)) p ∷ jump p (made n) ∷ here (made (n + 2)) p ∷ next))
    code_of (For p first e step s) n ls next =
        with_act p first (here (made n) p ∷ with_test p e (made (n + 2)) (code_of s (n + 3) ((made (n + 2), made (n + 1)) ∷ ls) (here (made (n + 1)) p ∷ with_act p step (jump p (made n) ∷ here (made (n + 2)) p ∷ next))))
    code_of (Repeat p s) n ls next =
        here (made n) p ∷ code_of s (n + 3) ((made (n + 2), made (n + 1)) ∷ ls) (here (made (n + 1)) p ∷ jump p (made n) ∷ here (made (n + 2)) p ∷ next)
    code_of (RepeatUntil p s e q) n ls next =
        here (made n) p ∷ code_of s (n + 3) ((made (n + 2), made (n + 1)) ∷ ls) (here (made (n + 1)) p ∷ unless q e (made n) ∷ here (made (n + 2)) p ∷ next)
    code_of (Do p x a b c s) n ls next =
        unlabelled_line p (Loop (made n) x a b c) ∷ code_of s (n + 2) ((made (n + 1), made n) ∷ ls) (here (made n) p ∷ here (made (n + 1)) p ∷ next)
    code_of (Switch p e cs) n ls next =
        unlabelled_line p (Assign (Ref spare) e) ∷ tests cs (n + 1) (jump p (default_label cs (n + 1) (made n)) ∷ bodies cs (n + 1) (made n) ls (here (made n) p ∷ next))
    code_of (Break p k) n ls next = jump p (label_behind ls (pred_of k)) ∷ next
    code_of (Next p k) n ls next = jump p (label_again ls (pred_of k)) ∷ next
    code_of (ratfor_tree.Return p e) n ls next = with_return own p e next
    code_of (Plain l p a) n ls next = record { label = l; place = p; act = a } ∷ next
    code_of (Labelled l p s) n ls next = here l p ∷ code_of s n ls next

    pub all_code : Commands → ℕ → Rings → List Line → List Line
    all_code NoCommand n ls next = next
    all_code (AndCommand s ss) n ls next = code_of s n ls (all_code ss (n + labels s) ls next)

    -- the statements of the clauses, each behind its label
    pub bodies : Clauses → ℕ → ℕ → Rings → List Line → List Line
    bodies NoClause m out ls next = next
    bodies (AndClause es fallback ss p cs) m out ls next =
        here (made m) p ∷ all_code ss (m + 1) ls (jump p out ∷ bodies cs (m + 1 + all_labels ss) out ls next)

-- whether a switch stands in it
abbrev mutual
  pub has_switch : Command → Bool
  has_switch (Block p ss) = have_switch ss
  has_switch (If p e s) = has_switch s
  has_switch (IfElse p e s t) = has_switch s || has_switch t
  has_switch (While p e s) = has_switch s
  has_switch (For p first e step s) = has_switch s
  has_switch (Repeat p s) = has_switch s
  has_switch (RepeatUntil p s e q) = has_switch s
  has_switch (Do p x a b c s) = has_switch s
  has_switch (Switch p e cs) = true
  has_switch (Labelled l p s) = has_switch s
  has_switch _ = false

  pub have_switch : Commands → Bool
  have_switch NoCommand = false
  have_switch (AndCommand s ss) = has_switch s || have_switch ss

-- a statement after which the next one is not begun
abbrev pub is_transfer : Act → Bool
is_transfer (Goto l) = true
is_transfer (Computed ls x) = true
is_transfer (Sign e n m k) = true
is_transfer (Stop n) = true
is_transfer Return = true
is_transfer _ = false

-- whether the last statement that is executed is one, where other says so of those before
abbrev pub ends_so : Bool → List Line → Bool
ends_so other [] = other
ends_so other (s ∷ rest) = if is_note s.act then ends_so other rest else ends_so (is_transfer s.act) rest

abbrev pub stop_unless : Bool → Place → List Line
stop_unless true p = []
stop_unless false p = unlabelled_line p (Stop None) ∷ []

abbrev pub return_unless : Bool → Place → List Line
return_unless true p = []
return_unless false p = unlabelled_line p Return ∷ []

-- what ends a unit, unless its last statement is a transfer: a STOP in a main, and a RETURN in another unit
abbrev pub end_unless : Bool → Bool → Place → List Line
end_unless true ends p = stop_unless ends p
end_unless false ends p = return_unless ends p

-- whether nothing is put at the end of the text: BLOCK DATA has no statement that is executed
abbrev pub ends_itself : Header → List Line → Bool
ends_itself DataUnit code = true
ends_itself _ code = ends_so false code

-- INTEGER spare
abbrev pub declared_if : Bool → Place → Text → List Line → List Line
declared_if true p spare code = unlabelled_line p (Typed Integer (record { name = spare; sizes = [] } ∷ [])) ∷ code
declared_if false p spare code = code

-- A unit with its header: the spare name is declared where a switch uses it, at the unit's place, and a STOP or a RETURN stands
-- at the end of the text unless the last statement is a transfer, or the unit is BLOCK DATA.
abbrev pub unit_code : (ℕ → ℕ) → Text → Header → Place → Place → Commands → List Line
unit_code made spare header first last ss =
    declared_if (have_switch ss) first spare (all_code made spare (name_of header) ss 0 [] (end_unless (is_main header) (ends_itself header (all_code made spare (name_of header) ss 0 [] [])) last))
