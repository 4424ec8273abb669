-- What the header and each part of a unit of any kind break (X3.9-1966, sections 3 to 9; Kernighan's Ratfor).
use Rattle.std.specs.Prelude.{ℕ, ◌+◌, nat_le, Bool, true, false, not, ◌&&◌, ◌||◌, List, [], ◌∷◌, length, Option, Some, None, is_some}
use Rattle.rule_table.specs.declared.rule.Rule.{Rule}
use Rattle.rule_table.specs.declared.rule.Rule.TheVariants.{Syntax, TypeClash, BadLabel, BadBreak, DuplicateCase, LongText}
use Rattle.rule_table.specs.FaultRules.{first_rule}
use Rattle.f66_tree.specs.Syntax.{Header, FuncUnit, DataUnit, Act, Assign, Sign, When, Loop, Invoke, Read, Write}
use Rattle.f66_tree.specs.Units.{Context}
use Rattle.f66_flow.specs.Acts.{is_specification, is_format, is_misplaced}
use Rattle.unit_rules.specs.Heads.{breaks_header}
use Rattle.unit_rules.specs.UnitRules.{breaks_rule}
use Rattle.rat_check.specs.Parts.{Form, Bare, Statement, CaseList, ForHead, ReturnHead, Labels, no_label, with_label, Part}
use Rattle.rat_check.specs.Said.{said_by}
use Rattle.rat_check.specs.LongTexts.{is_long_header, is_long_form}

-- ---- the header ----

-- limit 9
abbrev pub breaks_length : Header → Rule → Bool
breaks_length h LongText = is_long_header h
breaks_length h _ = false

-- the rules of FORTRAN on headers, and limit 9
abbrev pub breaks_unit_header : Context → Rule → Bool
breaks_unit_header c k = breaks_header c k || breaks_length c.header k

-- ---- the forms of Ratfor ----

-- a plain statement: neither an IF nor a DO of FORTRAN
abbrev pub is_plain : Act → Bool
is_plain (Sign e l m n) = false
is_plain (When e a) = false
is_plain (Loop l x a b c) = false
is_plain _ = true

-- an assignment, a call, or nothing
abbrev pub is_simple : Option Act → Bool
is_simple None = true
is_simple (Some (Assign x e)) = true
is_simple (Some (Invoke x es)) = true
is_simple (Some _) = false

-- what Ratfor's grammar has: of what a tree can hold the rest comes from no text
abbrev pub is_ratfor : Form → Bool
is_ratfor (Statement a) = is_plain a
is_ratfor (ForHead a e b) = is_simple a && is_simple b
is_ratfor _ = true

-- ---- what stands before a part ----

-- the labels of the parts before it, whether the executable statements have begun, and how much was said of names
pub record Before : Type 0 where
  pub labels : Labels
  pub begun : Bool
  pub said : ℕ

abbrev pub nothing_before : Before
nothing_before = record { labels = no_label; begun = false; said = 0 }

-- Behind which no specification comes: each statement but specifications and FORMAT, and an empty statement or a brace
-- where it has a label.
abbrev pub begins : Option ℕ → Form → Bool
begins None Bare = false
begins (Some l) Bare = true
begins l (Statement a) = not (is_specification a || is_format a)
begins l _ = true

abbrev pub behind : Header → Before → Part → Before
behind h b v = record { labels = with_label v.label b.labels; begun = b.begun || begins v.label v.form; said = b.said + length (said_by h v.form) }

-- ---- the rules ----

-- what the rules ask of a unit as a whole: what its names mean, all that it says of names, and the labels of its formats
pub record UnitRules : Type 0 where
  pub context : Context
  pub said : List Act
  pub formats : Labels

-- a specification behind an executable statement
abbrev pub is_late_form : Bool → Form → Bool
is_late_form begun (Statement a) = is_specification a && begun
is_late_form begun _ = false

-- a label is one to 99999, and no part before has it
abbrev pub is_own_label : Labels → Option ℕ → Bool
is_own_label before None = true
is_own_label before (Some l) = (nat_le 1 l && nat_le l 99999) && not (before l)

-- a jump reaches its labels, and a READ or WRITE has a format
abbrev pub finds_labels : Labels → Bool → Form → Bool
finds_labels formats reached (Statement (Read u l es)) = formats l
finds_labels formats reached (Statement (Write u l es)) = formats l
finds_labels formats reached _ = reached

-- what BLOCK DATA does not have: anything but specifications, DATA, and signs without a label
abbrev pub is_executed : Option ℕ → Form → Bool
is_executed l Bare = is_some l
is_executed l (Statement a) = is_misplaced DataUnit a
is_executed l _ = true

abbrev pub is_misplaced_form : Header → Option ℕ → Form → Bool
is_misplaced_form DataUnit l form = is_executed l form
is_misplaced_form h l form = false

-- a unit that is no function returns a value
abbrev pub returns_wrong : Header → Form → Bool
returns_wrong (FuncUnit t x ds) form = false
returns_wrong h (ReturnHead (Some e)) = true
returns_wrong h form = false

abbrev pub is_second_default : Form → Bool
is_second_default (CaseList es second) = second
is_second_default _ = false

-- the rules of Ratfor itself, one row for each fault
abbrev pub breaks_own : Header → Labels → Before → Part → Rule → Bool
breaks_own h formats b v Syntax = not (is_ratfor v.form) || (is_misplaced_form h v.label v.form || is_late_form b.begun v.form)
breaks_own h formats b v TypeClash = returns_wrong h v.form
breaks_own h formats b v BadLabel = not (is_own_label b.labels v.label && finds_labels formats v.reached v.form)
breaks_own h formats b v BadBreak = not v.inside
breaks_own h formats b v DuplicateCase = is_second_default v.form
breaks_own h formats b v LongText = is_long_form v.form
breaks_own h formats b v _ = false

-- what is said of names, from the n-th of the unit on, breaks a rule of names, types, counts, constants and stores
abbrev pub break_names : Context → List Act → ℕ → List Act → Rule → Bool
break_names c said n [] k = false
break_names c said n (a ∷ more) k = breaks_rule c said n a k || break_names c said (n + 1) more k

abbrev pub breaks : UnitRules → Before → Part → Rule → Bool
breaks u b v k = breaks_own u.context.header u.formats b v k || break_names u.context u.said b.said (said_by u.context.header v.form) k

-- of the rules that a part breaks, that with the smallest number
abbrev pub broken_rule : UnitRules → Before → Part → Option Rule
broken_rule u b v = first_rule (breaks u b v)
