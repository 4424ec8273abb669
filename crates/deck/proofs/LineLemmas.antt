-- The lines of cards that are written, and the labels in their columns.
use Rattle.std.proofs.Common.{◌≡◌, ℕ, zero, suc, ◌+◌, ◌-◌, ◌*◌, ◌/◌, ◌%◌, ◌≤◌, ◌<◌, Bool, true, false, cond, List, [], ◌∷◌, ◌++◌, map, Option, Some, None, refl, sym, ap, ◌∙◌, arith, append_assoc}
use Rattle.std.specs.Prelude.{nat_le, nat_lt, ◌==◌, unwrap_or, if◌then◌else◌}
use Rattle.std.specs.List.{list_all}
use Rattle.std.proofs.lemmas.Bool.{leb-true, le-leb, ltb-true, ltb-false, lt-ltb, le-ltb, and_parts, and_from, ne_eqb}
use Rattle.ports.specs.Records.{Cut, cut, without_return, last_line, input_records}
use Rattle.card_writer.specs.Cards.{label_column, label_field, mark, continuation_front, columns as written_columns}
use Rattle.card_reader.specs.Cards.{is_printable, label_after}
use Rattle.deck.specs.Written.{breaks, label_if}

-- ---- lines ----

not_printable : (c n : ℕ) → n < 32 → is_printable c ≡ true → (c == n) ≡ false
not_printable c n small is =
    let low : 32 ≤ c = leb-true 32 c (and_parts (nat_le 32 c) (nat_le c 126) is).0 in
    ne_eqb c n (λ e. omega (arith, e, low, small))

line_cut : (line rest : List ℕ) → list_all is_printable line ≡ true → cut (line ++ 10 ∷ rest) ≡ record { lines = line ∷ (cut rest).lines; rest = (cut rest).rest }
line_cut [] rest all = refl
line_cut (c ∷ line) rest all =
    let p = and_parts (is_printable c) (list_all is_printable line) all in
    let differs = not_printable c 10 (omega arith) p.0 in
    let further = line_cut line rest p.1 in
    rw (differs, further) refl

no_return : (line : List ℕ) → list_all is_printable line ≡ true → without_return line ≡ line
no_return [] all = refl
no_return (c ∷ []) all =
    let differs = not_printable c 13 (omega arith) (and_parts (is_printable c) true all).0 in
    rw differs refl
no_return (c ∷ d ∷ line) all = ap (λ (l : List ℕ). c ∷ l) (no_return (d ∷ line) (and_parts (is_printable c) (list_all is_printable (d ∷ line)) all).1)

pub line_first : (line rest : List ℕ) → list_all is_printable line ≡ true → input_records (line ++ 10 ∷ rest) ≡ line ∷ input_records rest
line_first line rest all =
    ap (λ (c : Cut). map without_return c.lines ++ last_line c.rest) (line_cut line rest all) ∙ ap (λ (l : List ℕ). l ∷ input_records rest) (no_return line all)

-- the lines of a text behind a front
abbrev pub lines_from : List ℕ → ℕ → ℕ → List ℕ → List (List ℕ)
lines_from p left next [] = p ∷ []
lines_from p (suc left) next (c ∷ text) = lines_from (p ++ c ∷ []) left next text
lines_from p zero next (c ∷ text) = p ∷ lines_from (continuation_front next ++ c ∷ []) 65 (suc next) text

pub all_append : (xs ys : List ℕ) → list_all is_printable xs ≡ true → list_all is_printable ys ≡ true → list_all is_printable (xs ++ ys) ≡ true
all_append [] ys all more = more
all_append (x ∷ xs) ys all more =
    let p = and_parts (is_printable x) (list_all is_printable xs) all in
    and_from (is_printable x) (list_all is_printable (xs ++ ys)) p.0 (all_append xs ys p.1 more)

mark_by : (n : ℕ) (b : Bool) → nat_lt n 10 ≡ b → n ≤ 19 → is_printable (cond b (48 + n) (55 + n)) ≡ true
mark_by n true is h = and_from (nat_le 32 (48 + n)) (nat_le (48 + n) 126) (le-leb 32 (48 + n) (omega arith)) (le-leb (48 + n) 126 (omega (arith, h)))
mark_by n false is h = and_from (nat_le 32 (55 + n)) (nat_le (55 + n) 126) (le-leb 32 (55 + n) (omega arith)) (le-leb (55 + n) 126 (omega (arith, h)))

pub mark_printable : (n : ℕ) → n ≤ 19 → is_printable (mark n) ≡ true
mark_printable n h = mark_by n (nat_lt n 10) refl h

pub front_printable : (n : ℕ) → n ≤ 19 → list_all is_printable (continuation_front n) ≡ true
front_printable n h = and_from (is_printable (mark n)) true (mark_printable n h) refl

-- how the number of the next continuation stays within 19
pub lines_written : (text : List ℕ) (p : List ℕ) (left next : ℕ) (rest : List ℕ) → list_all is_printable p ≡ true → list_all is_printable text ≡ true → next + breaks left text ≤ 20
    → input_records (p ++ (written_columns left next text ++ rest)) ≡ lines_from p left next text ++ input_records rest
lines_written [] p left next rest front all few = line_first p rest front
lines_written (c ∷ text) p (suc left) next rest front all few =
    let a = and_parts (is_printable c) (list_all is_printable text) all in
    ap input_records (sym (append_assoc p (c ∷ []) (written_columns left next text ++ rest)))
    ∙ lines_written text (p ++ c ∷ []) left next rest (all_append p (c ∷ []) front (and_from (is_printable c) true a.0 refl)) a.1 few
lines_written (c ∷ text) p zero next rest front all few =
    let a = and_parts (is_printable c) (list_all is_printable text) all in
    let q = continuation_front next ++ c ∷ [] in
    let ready : list_all is_printable (continuation_front next ++ c ∷ []) ≡ true = all_append (continuation_front next) (c ∷ []) (front_printable next (omega (arith, few))) (and_from (is_printable c) true a.0 refl) in
    line_first p (continuation_front next ++ c ∷ (written_columns 65 (suc next) text ++ rest)) front
    ∙ ap (λ (l : List (List ℕ)). p ∷ l) (lines_written text (continuation_front next ++ c ∷ []) 65 (suc next) rest ready a.1 (omega (arith, few)))

-- ---- labels ----

-- what the columns down to a power of ten give
abbrev shown : ℕ → ℕ → Option ℕ
shown label power = if nat_lt label power then None else Some (label / power)

one_column_by : (l p q : ℕ) (cs : List ℕ) (b : Bool) → nat_lt l p ≡ b → (l < p → l < q) → unwrap_or (shown l q) 0 * 10 + l / p % 10 ≡ l / p
    → label_after (shown l q) (cond b 32 (48 + l / p % 10) ∷ cs) ≡ label_after (cond b None (Some (l / p))) cs
one_column_by l p q cs true is lower value = let none : nat_lt l q ≡ true = lt-ltb l q (lower (ltb-true l p is)) in rw none refl
one_column_by l p q cs false is lower value =
    let no_blank : ((48 + l / p % 10) == 32) ≡ false = ne_eqb (48 + l / p % 10) 32 (λ e. omega (arith, e)) in
    let so : 10 * unwrap_or (shown l q) 0 + ((48 + l / p % 10) - 48) ≡ l / p = omega (arith, value) in
    rw (no_blank, so) refl

one_column : (l p q : ℕ) (cs : List ℕ) → (l < p → l < q) → unwrap_or (shown l q) 0 * 10 + l / p % 10 ≡ l / p → label_after (shown l q) (label_column l p ∷ cs) ≡ label_after (shown l p) cs
one_column l p q cs lower value = one_column_by l p q cs (nat_lt l p) refl lower value

value_by : (l q : ℕ) (b : Bool) (x : ℕ) → nat_lt l q ≡ b → (l < q → l / x % 10 ≡ l / x) → (q ≤ l → l / q * 10 + l / x % 10 ≡ l / x) → unwrap_or (cond b None (Some (l / q))) 0 * 10 + l / x % 10 ≡ l / x
value_by l q true x is low high = let s = low (ltb-true l q is) in omega (arith, s)
value_by l q false x is low high = high (ltb-false l q is)

label_start : (l : ℕ) → l ≤ 99999 → shown l 100000 ≡ None
label_start l h = let yes : nat_lt l 100000 ≡ true = lt-ltb l 100000 (omega (arith, h)) in rw yes refl

label_end : (l : ℕ) → shown l 1 ≡ label_if l
label_end zero = refl
label_end (suc l) =
    let no : nat_lt (suc l) 1 ≡ false = le-ltb (suc l) 1 (omega arith) in
    let nonzero : (suc l == 0) ≡ false = ne_eqb (suc l) 0 (λ e. omega (arith, e)) in
    let same : suc l / 1 ≡ suc l = omega arith in
    rw (no, nonzero, same) refl

pub label_read : (l : ℕ) → l ≤ 99999 → label_after None (label_field l) ≡ label_if l
label_read l h =
    ap (λ (o : Option ℕ). label_after o (label_field l)) (sym (label_start l h))
    ∙ one_column l 10000 100000 (label_column l 1000 ∷ label_column l 100 ∷ label_column l 10 ∷ label_column l 1 ∷ []) (λ a. omega (arith, a)) (value_by l 100000 (nat_lt l 100000) 10000 refl (λ a. omega (arith, a)) (λ a. omega (arith, a)))
    ∙ one_column l 1000 10000 (label_column l 100 ∷ label_column l 10 ∷ label_column l 1 ∷ []) (λ a. omega (arith, a)) (value_by l 10000 (nat_lt l 10000) 1000 refl (λ a. omega (arith, a)) (λ a. omega (arith, a)))
    ∙ one_column l 100 1000 (label_column l 10 ∷ label_column l 1 ∷ []) (λ a. omega (arith, a)) (value_by l 1000 (nat_lt l 1000) 100 refl (λ a. omega (arith, a)) (λ a. omega (arith, a)))
    ∙ one_column l 10 100 (label_column l 1 ∷ []) (λ a. omega (arith, a)) (value_by l 100 (nat_lt l 100) 10 refl (λ a. omega (arith, a)) (λ a. omega (arith, a)))
    ∙ one_column l 1 10 [] (λ a. omega (arith, a)) (value_by l 10 (nat_lt l 10) 1 refl (λ a. omega (arith, a)) (λ a. omega (arith, a)))
    ∙ label_end l
