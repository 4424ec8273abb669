-- The rules of X3.9-1966 on order, labels and DO ranges: what the statement with the number i, from 0, of a unit breaks.
use Rattle.std.specs.Prelude.{ℕ, Bool, true, false, not, nat_lt, ◌==◌, ◌&&◌, ◌||◌, List, is_none}
use Rattle.std.specs.List.{slice_get, list_any}
use Rattle.rule_table.specs.declared.rule.Rule.{Rule}
use Rattle.rule_table.specs.declared.rule.Rule.TheVariants.{Syntax, BadLabel, DoNesting}
use Rattle.f66_tree.specs.Syntax.{Header, Act, Loop, Line}
use Rattle.rule_table.specs.Words.{first_place, last_place, is_some_and, is_below, is_number}
use Rattle.f66_flow.specs.Acts.{is_executable, is_specification, is_data, is_format, is_misplaced, needs_executable, is_transfer, ends_no_range, branches, formats_named}
use Rattle.f66_flow.specs.Ranges.{label_place, named, range_end, range_ends, end_at, holds, some_below}
use Rattle.f66_flow.specs.declared.scope.Scope.{Scope}
use Rattle.f66_flow.specs.declared.scope.Scope.TheVariants.{Whole, Part}

-- Order (sections 7.2.1 and 9.1)

-- a specification that stands behind an executable statement, or behind a DATA
abbrev pub is_late : List Line → ℕ → Act → Bool
is_late lines i a =
    is_specification a && (is_below i (first_place (λ s. is_executable s.act) lines) || is_below i (first_place (λ s. is_data s.act) lines))

-- the last executable statement is no transfer
abbrev pub lacks_transfer : List Line → ℕ → Act → Bool
lacks_transfer lines i a = is_number i (last_place (λ s. is_executable s.act) lines) && not (is_transfer a)

-- Labels (sections 3.4, 7.1.2 and 7.1.3)

-- a label that is not from 1 to 99999, or that an earlier statement has
abbrev pub has_bad_label : List Line → ℕ → Line → Bool
has_bad_label lines i s = is_some_and (λ l. l == 0 || (nat_lt 99999 l || is_below i (label_place lines l))) s.label

-- a label that names no executable statement
abbrev pub leads_nowhere : List Line → ℕ → Bool
leads_nowhere lines l = not (is_some_and (λ s. is_executable s.act) (named lines l))

-- a label that names no FORMAT
abbrev pub names_no_format : List Line → ℕ → Bool
names_no_format lines l = not (is_some_and (λ s. is_format s.act) (named lines l))

-- a branch that leads nowhere, or a READ or WRITE without its FORMAT
abbrev pub leads_wrong : List Line → Act → Bool
leads_wrong lines a = list_any (leads_nowhere lines) (branches a) || list_any (names_no_format lines) (formats_named a)

-- a DO whose label names no executable statement
abbrev pub has_no_end : List Line → Act → Bool
has_no_end lines (Loop l x a b c) = leads_nowhere lines l
has_no_end lines _ = false

-- DO ranges (section 7.1.2.8)

-- a DO whose last statement does not stand behind it, or is one that no range may end with
abbrev pub ends_wrong : List Line → ℕ → Act → Bool
ends_wrong lines i (Loop l x a b c) =
    not (is_some_and (λ t. nat_lt i t) (label_place lines l)) || is_some_and (λ t. ends_no_range t.act) (named lines l)
ends_wrong lines i _ = false

-- a DO in the range of an earlier one that ends before it
abbrev pub overlaps : List Line → ℕ → Act → Bool
overlaps lines i a = some_below i (λ d. holds (range_ends lines) d i && nat_lt (end_at (range_ends lines) d) (range_end lines a))

-- a branch from i to t, in the range of some DO that does not have i
abbrev pub enters_at : List Line → ℕ → ℕ → Bool
enters_at lines i t = some_below t (λ d. holds (range_ends lines) d t && not (holds (range_ends lines) d i))

-- a branch from i to the statement that a label names
abbrev pub enters : List Line → ℕ → ℕ → Bool
enters lines i l = is_some_and (enters_at lines i) (label_place lines l)

abbrev pub nests_wrong : List Line → ℕ → Act → Bool
nests_wrong lines i a = ends_wrong lines i a || (overlaps lines i a || list_any (enters lines i) (branches a))

-- The table

abbrev pub is_whole : Scope → Bool
is_whole Whole = true
is_whole Part = false

-- its own label, or one that it names
abbrev pub has_wrong_label : Scope → List Line → ℕ → Line → Bool
has_wrong_label w lines i s = has_bad_label lines i s || (leads_wrong lines s.act || (is_whole w && has_no_end lines s.act))

abbrev pub breaks_flow : Scope → Header → List Line → ℕ → Line → Rule → Bool
breaks_flow w h lines i s Syntax = is_misplaced h s.act || (is_late lines i s.act || (is_whole w && lacks_transfer lines i s.act))
breaks_flow w h lines i s BadLabel = has_wrong_label w lines i s
breaks_flow w h lines i s DoNesting = is_whole w && nests_wrong lines i s.act
breaks_flow w h lines i s _ = false

-- the statement with a number, where there is one
abbrev pub breaks_flow_at : Scope → Header → List Line → ℕ → Rule → Bool
breaks_flow_at w h lines i k = is_some_and (λ s. breaks_flow w h lines i s k) (slice_get lines i)

-- what a unit without an executable statement breaks (section 9.1.1)
abbrev pub header_breaks_flow : Scope → Header → List Line → Rule → Bool
header_breaks_flow w h lines Syntax = needs_executable h && (is_whole w && is_none (first_place (λ s. is_executable s.act) lines))
header_breaks_flow w h lines _ = false
