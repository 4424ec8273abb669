-- Where labels lead (X3.9-1966, section 3.4), and the ranges of DO statements (section 7.1.2.8), by places in a whole unit.
use Rattle.std.specs.Prelude.{ℕ, zero, suc, Bool, false, nat_lt, nat_le, ◌&&◌, ◌||◌, List, Option, None, Some, find, map, slice_index_or}
use Rattle.f66_tree.specs.Syntax.{Act, Loop, Line}
use Rattle.f66_tree.specs.Execution.{has_label}
use Rattle.rule_table.specs.Words.{first_place}

-- the place of the statement that a label names, which is the first that has it
abbrev pub label_place : List Line → ℕ → Option ℕ
label_place lines l = first_place (λ s. has_label l s.label) lines

-- the statement that a label names
abbrev pub named : List Line → ℕ → Option Line
named lines l = find (λ s. has_label l s.label) lines

abbrev pub place_or_zero : Option ℕ → ℕ
place_or_zero None = 0
place_or_zero (Some n) = n

-- the place of the last statement of the range that a DO begins; 0, where a range is empty, if there is none
abbrev pub range_end : List Line → Act → ℕ
range_end lines (Loop l x a b c) = place_or_zero (label_place lines l)
range_end lines _ = 0

-- where the range that each statement begins ends
abbrev pub range_ends : List Line → List ℕ
range_ends lines = map (λ s. range_end lines s.act) lines

abbrev pub end_at : List ℕ → ℕ → ℕ
end_at ends d = slice_index_or ends d 0

-- the range that begins at d has the statement at p: those behind the DO, as far as the last one
abbrev pub holds : List ℕ → ℕ → ℕ → Bool
holds ends d p = nat_lt d p && nat_le p (end_at ends d)

-- some number below n passes
abbrev pub some_below : ℕ → (ℕ → Bool) → Bool
some_below zero test = false
some_below (suc n) test = test n || some_below n test
