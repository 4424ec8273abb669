-- The text of a statement that is read back, has short names and at most 1,320 characters may stand on cards: it needs no more than
-- nineteen continuations, and its first card is neither blank nor an END line.
use Rattle.std.proofs.Common.{◌≡◌, ℕ, zero, suc, ◌+◌, ◌*◌, ◌≤◌, ◌<◌, Bool, true, false, cond, ◌⊎◌, inl, inr, List, [], ◌∷◌, ◌++◌, length, map, Option, Some, None, refl, sym, ap, ◌∙◌, arith, codes}
use Rattle.std.specs.Prelude.{nat_le, nat_lt, ◌==◌, ◌&&◌, ◌||◌}
use Rattle.std.specs.List.{list_all, AllByRecursion}
use Rattle.std.proofs.lemmas.Bool.{leb-true, ltb-false, eqb-true, ne_eqb, and_parts}
use Rattle.ground.specs.declared.fault.Fault.{Fault}
use Rattle.ground.specs.declared.place.Place.{Place}
use Rattle.f66_tree.specs.declared.declaration.TypeWord.TheVariants.{Integer, Logical, Other}
use Rattle.f66_tree.specs.Syntax.{Text, Formula, Ref, Item, Header, MainUnit, SubUnit, FuncUnit, DataUnit, Act, Assign, Line, Routine}
use Rattle.stmt_text.specs.Texts.{header_text, statement_text}
use Rattle.card_reader.specs.Cards.{is_blank, is_spread}
use Rattle.stmt_reader.specs.Levels.{is_capital, is_name}
use Rattle.stmt_reader.specs.Faults.{too_long, formula_has, formulas_have}
use Rattle.stmt_reader.specs.Taking.{place_if}
use Rattle.deck.specs.LongTexts.{or_else, limit_nine, fault_of_line, fault_of_header, first_fault, fault_of_unit, fault_of_deck}
use Rattle.deck.specs.Readable.{are_some_readable}
use Rattle.deck.specs.ReadableStatements.{IsReadable, IsReadableBranch, assignment, jump, computed, sign, bare_call, call, read, write, continuation, stop, stop_number, return, IsReadableAct, branch, conditional, loop, format, typed, dimension, common, equivalence, preset}
use Rattle.deck.specs.Written.{breaks, first_piece, Written, IsWritable, written_header, written_line, written_unit}
use Rattle.deck.proofs.LexingLemmas.{is_alnum}
use Rattle.deck_laws.specs.Headers.{HasHeader, IsReadableHeader}
use Rattle.deck_laws.proofs.PrintedTexts.{header_printable}
use Rattle.deck_laws.specs.Fitting.{HasShortNames, IsFittingLine, IsPrintableLine, IsFittingUnit, IsPrintableUnit}

-- ---- continuations ----

breaks_bound : (left : ℕ) (text : List ℕ) → (breaks left text ≡ 0) ⊎ (66 * breaks left text + left ≤ length text + 65)
breaks_bound left [] = inl refl
breaks_bound (suc left) (c ∷ text) = elim (breaks_bound left text) [ inl none ↦ inl none | inr few ↦ inr (omega (arith, few)) ]
breaks_bound zero (c ∷ text) = elim (breaks_bound 65 text) [ inl none ↦ inr (omega (arith, none)) | inr few ↦ inr (omega (arith, few)) ]

pub breaks_few : (text : List ℕ) → length text ≤ 1320 → breaks 66 text ≤ 19
breaks_few text short = elim (breaks_bound 66 text) [ inl none ↦ omega (arith, none) | inr few ↦ omega (arith, few, short) ]

-- ---- the first card ----

piece_begins : (c : ℕ) (q : List ℕ) (left : ℕ) (text : List ℕ) → first_piece (c ∷ q) left text ≡ c ∷ first_piece q left text
piece_begins c q left [] = refl
piece_begins c q (suc left) (d ∷ text) = piece_begins c (q ++ d ∷ []) left text
piece_begins c q zero (d ∷ text) = refl

-- it begins with the text's first character
first_of : (c : ℕ) (left : ℕ) (text : List ℕ) → first_piece [] (suc left) (c ∷ text) ≡ c ∷ first_piece [] left text
first_of c left text = piece_begins c [] left text

-- a character that no END line has
record IsOther (c : ℕ) : Type 0 where
  seen : (c == 32) ≡ false
  no_letter : is_capital c ≡ false

letter_differs : (c w : ℕ) → is_capital c ≡ false → is_capital w ≡ true → (c == w) ≡ false
letter_differs c w other letter = by (c == w) refl
  where
    by : (b : Bool) → (c == w) ≡ b → (c == w) ≡ false
    by false is = is
    by true is = absurd (let same : c ≡ w = eqb-true c w is in let both : false ≡ true = sym other ∙ ap is_capital same ∙ letter in cc)

and_false : (b : Bool) → (b && false) ≡ false
and_false true = refl
and_false false = refl

-- such a character among the first ones keeps letters from standing alone
other_first : (w : List ℕ) (left : ℕ) (xs : List ℕ) (c : ℕ) (rest : List ℕ) → list_all is_capital w ≡ true → IsOther c → length xs < left → is_spread w (first_piece [] left (xs ++ c ∷ rest)) ≡ false
other_first w zero xs c rest all other room = absurd (omega (arith, room))
other_first w (suc left) [] c rest all other room = ap (is_spread w) (first_of c left rest) ∙ spread_by w all
  where
    spread_by : (w : List ℕ) → list_all is_capital w ≡ true → is_spread w (c ∷ first_piece [] left rest) ≡ false
    spread_by [] all = let seen = other.seen in rw seen refl
    spread_by (v ∷ vs) all =
        let seen = other.seen in
        let differs = letter_differs c v other.no_letter (and_parts (is_capital v) (list_all is_capital vs) all).0 in
        rw (seen, differs) refl
other_first w (suc left) (x ∷ xs) c rest all other room =
    ap (is_spread w) (first_of x left (xs ++ c ∷ rest)) ∙ behind_one w all (λ v vall. other_first v left xs c rest vall other (omega (arith, room)))
  where
    behind_one : (w : List ℕ) → list_all is_capital w ≡ true → ((v : List ℕ) → list_all is_capital v ≡ true → is_spread v (first_piece [] left (xs ++ c ∷ rest)) ≡ false) → is_spread w (x ∷ first_piece [] left (xs ++ c ∷ rest)) ≡ false
    behind_one w all further = by (x == 32) refl w all
      where
        by : (b : Bool) → (x == 32) ≡ b → (w : List ℕ) → list_all is_capital w ≡ true → is_spread w (x ∷ first_piece [] left (xs ++ c ∷ rest)) ≡ false
        by true is w all = let none = further w all in rw (is, none) refl
        by false is [] all = rw is refl
        by false is (v ∷ vs) all =
            let none = further vs (and_parts (is_capital v) (list_all is_capital vs) all).1 in
            rw (is, none) (and_false (x == v))

-- what a text has to be
record IsFirst (text : List ℕ) : Type 0 where
  seen : list_all is_blank (first_piece [] 66 text) ≡ false
  no_end : is_spread (codes "END") (first_piece [] 66 text) ≡ false

other_letter : (c : ℕ) (text : List ℕ) → (c == 32) ≡ false → (c == 69) ≡ false → IsFirst (c ∷ text)
other_letter c text not_blank not_e = record {
  seen = ap (list_all is_blank) (first_of c 65 text) ∙ (rw not_blank refl);
  no_end = ap (is_spread (codes "END")) (first_of c 65 text) ∙ (rw (not_blank, not_e) refl);
}

-- EQ begins no END
second_letter : (text : List ℕ) → IsFirst (69 ∷ 81 ∷ text)
second_letter text =
    let both : first_piece [] 66 (69 ∷ 81 ∷ text) ≡ 69 ∷ 81 ∷ first_piece [] 64 text = first_of 69 65 (81 ∷ text) ∙ ap (λ (y : List ℕ). 69 ∷ y) (first_of 81 64 text) in
    record { seen = ap (list_all is_blank) both; no_end = ap (is_spread (codes "END")) both }

-- a name, and what stands behind it
name_first : (x : Text) (c : ℕ) (rest : List ℕ) → is_name x ≡ true → length x ≤ 6 → IsOther c → IsFirst (x ++ c ∷ rest)
name_first [] c rest name short other = absurd cc
name_first (a ∷ x) c rest name short other =
    let capital = (and_parts (is_capital a) (list_all is_alnum x) name).0 in
    let low : 65 ≤ a = leb-true 65 a (and_parts (nat_le 65 a) (nat_le a 90) capital).0 in
    let not_blank : (a == 32) ≡ false = ne_eqb a 32 (λ e. omega (arith, e, low)) in
    record {
      seen = ap (list_all is_blank) (first_of a 65 (x ++ c ∷ rest)) ∙ (rw not_blank refl);
      no_end = other_first (codes "END") 66 (a ∷ x) c rest refl other (omega (arith, short));
    }

equals_other : IsOther 61
equals_other = record { seen = refl; no_letter = refl }

opening_other : IsOther 40
opening_other = record { seen = refl; no_letter = refl }

left_false : (a b : Bool) → (a || b) ≡ false → a ≡ false
left_false true b is = absurd cc
left_false false b is = refl

assignment_first : (x e : Formula) → place_if x ≡ Some x → IsReadable x → formula_has too_long x ≡ false → IsFirst (statement_text (Assign x e))
assignment_first (Ref x) e place fine short = name_first x 61 _ fine.readable (ltb-false 6 (length x) short) equals_other
assignment_first (Item x es) e place fine short =
    name_first x 40 _ (and_parts (is_name x) (are_some_readable es) fine.readable).0 (ltb-false 6 (length x) (left_false (nat_lt 6 (length x)) (formulas_have too_long es) short)) opening_other
assignment_first _ e place fine short = absurd cc

branch_first : (a : Act) → IsReadableBranch a → HasShortNames a → IsFirst (statement_text a)
branch_first a (assignment x e place left right) short = assignment_first x e place left (left_false (formula_has too_long x) (formula_has too_long e) short)
branch_first a (jump l small) short = other_letter 71 _ refl refl
branch_first a (computed l ls x small all name) short = other_letter 71 _ refl refl
branch_first a (sign e l m n fine below zero_label above) short = other_letter 73 _ refl refl
branch_first a (bare_call x name) short = other_letter 67 _ refl refl
branch_first a (call x e es name first others) short = other_letter 67 _ refl refl
branch_first a (read u l es ru small all) short = other_letter 82 _ refl refl
branch_first a (write u l es ru small all) short = other_letter 87 _ refl refl
branch_first a continuation short = other_letter 67 _ refl refl
branch_first a stop short = other_letter 83 _ refl refl
branch_first a (stop_number n small) short = other_letter 83 _ refl refl
branch_first a return short = other_letter 82 _ refl refl

act_first : (a : Act) → IsReadableAct a → HasShortNames a → IsFirst (statement_text a)
act_first a (branch b readable) short = branch_first b readable short
act_first a (conditional e b fine readable) short = other_letter 73 _ refl refl
act_first a (loop l x first last step small name ra rb rc) short = other_letter 68 _ refl refl
act_first a (format fs all) short = other_letter 70 _ refl refl
act_first a (typed Integer d ds first others) short = other_letter 73 _ refl refl
act_first a (typed Logical d ds first others) short = other_letter 76 _ refl refl
act_first a (typed Other d ds first others) short = other_letter 82 _ refl refl
act_first a (dimension d ds first others) short = other_letter 68 _ refl refl
act_first a (common areas fine) short = other_letter 67 _ refl refl
act_first a (equivalence groups fine) short = second_letter _
act_first a (preset parts fine) short = other_letter 68 _ refl refl

line_writable : (line : Line) → IsFittingLine line → IsPrintableLine line → length (statement_text line.act) ≤ 1320 → IsWritable (written_line line)
line_writable line fits printable short =
    let first = act_first line.act fits.readable.act fits.names in
    record {
      label = printable.label;
      printable = printable.text;
      short = breaks_few (statement_text line.act) short;
      seen = first.seen;
      no_end = first.no_end;
    }

-- ---- no text is too long ----

pub none_both : (a b : Option Fault) → or_else a b ≡ None → (a ≡ None) × (b ≡ None)
none_both (Some f) b is = absurd cc
none_both None b is = (refl, is)

pub fits_by : (place : Place) (n : ℕ) (long : Bool) → nat_lt 1320 n ≡ long → cond long (limit_nine place) None ≡ None → n ≤ 1320
fits_by place n true is none = absurd cc
fits_by place n false is none = ltb-false 1320 n is

lines_writable : (lines : List Line) → AllByRecursion IsFittingLine lines → AllByRecursion IsPrintableLine lines → first_fault fault_of_line lines ≡ None → AllByRecursion IsWritable (map written_line lines)
lines_writable [] fits printable none = tt
lines_writable (line ∷ lines) fits printable none =
    let both = none_both (fault_of_line line) (first_fault fault_of_line lines) none in
    (line_writable line fits.0 printable.0 (fits_by line.place (length (statement_text line.act)) (nat_lt 1320 (length (statement_text line.act))) refl both.0), lines_writable lines fits.1 printable.1 both.1)

-- ---- headers ----

header_first : (h : Header) → HasHeader h → IsFirst (header_text h)
header_first MainUnit has = absurd has
header_first (SubUnit x ds) has = other_letter 83 _ refl refl
header_first (FuncUnit None x ds) has = other_letter 70 _ refl refl
header_first (FuncUnit (Some Integer) x ds) has = other_letter 73 _ refl refl
header_first (FuncUnit (Some Logical) x ds) has = other_letter 76 _ refl refl
header_first (FuncUnit (Some Other) x ds) has = other_letter 82 _ refl refl
header_first DataUnit has = other_letter 66 _ refl refl

header_writable : (h : Header) (place : Place) → HasHeader h → IsReadableHeader h → fault_of_header place h ≡ None → IsWritable (record { label = 0; text = header_text h })
header_writable h place has fine none =
    let start = header_first h has in
    record {
      label = omega arith;
      printable = header_printable h fine;
      short = breaks_few (header_text h) (fits_by place (length (header_text h)) (nat_lt 1320 (length (header_text h))) refl none);
      seen = start.seen;
      no_end = start.no_end;
    }

with_header : (h : Header) (place : Place) (rest : List Written) → IsReadableHeader h → fault_of_header place h ≡ None → AllByRecursion IsWritable rest → AllByRecursion IsWritable (written_header h ++ rest)
with_header MainUnit place rest fine none all = all
with_header (SubUnit x ds) place rest fine none all = (header_writable (SubUnit x ds) place tt fine none, all)
with_header (FuncUnit w x ds) place rest fine none all = (header_writable (FuncUnit w x ds) place tt fine none, all)
with_header DataUnit place rest fine none all = (header_writable DataUnit place tt fine none, all)

pub units_writable : (units : List Routine) → AllByRecursion IsFittingUnit units → AllByRecursion IsPrintableUnit units → fault_of_deck units ≡ None → AllByRecursion (AllByRecursion IsWritable) (map written_unit units)
units_writable [] fits printable none = tt
units_writable (unit ∷ units) fits printable none =
    let both = none_both (fault_of_unit unit) (first_fault fault_of_unit units) none in
    let inner = none_both (fault_of_header unit.place unit.header) (first_fault fault_of_line unit.lines) both.0 in
    (with_header unit.header unit.place (map written_line unit.lines) fits.0.header inner.0 (lines_writable unit.lines fits.0.lines printable.0 inner.1), units_writable units fits.1 printable.1 both.1)
