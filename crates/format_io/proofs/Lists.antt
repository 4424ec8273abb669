-- A statement does what its list of edits and record ends says.
use Rattle.std.specs.Prelude.{◌≡◌, ℕ, zero, suc, ◌+◌, ◌≤◌, Bool, true, false, List, [], ◌∷◌, length, Result, Ok, Err, ℤ, refl, if◌then◌else◌, drop}
use Rattle.std.proofs.Common.{◌∙◌, ap, subst, arith}
use Rattle.ground.specs.declared.trap.Trap.{Trap}
use Rattle.ground.specs.declared.trap.Trap.TheVariants.{FormatMismatch}
use Rattle.f66_tree.specs.declared.editing.Way.{Way}
use Rattle.f66_tree.specs.declared.editing.Way.TheVariants.{Reading, Writing}
use Rattle.f66_tree.specs.declared.editing.Mark.TheVariants.{Between, Due}
use Rattle.f66_tree.specs.Fields.{Step, Takes, Blanks, Chars, Slash, Fields, has_item, steps, again}
use Rattle.f66_tree.specs.Turns.{Hand, ◌>>=◌, blanked, lettered, suits, hand_at, put_whole, put_truth, put_letter, extended, with_letter, take_whole, take_truth, take_letter, past, width_of}
use Rattle.f66_tree.specs.Fielded.{whole_text, truth_text, field, whole_of, truth_of, letter_of}
use Rattle.ground.specs.declared.value.Kind.TheVariants.{Integer, Logical}
use Rattle.f66_tree.specs.Editing.{Files, Break, with_records, mismatch, exchanged, seek, seek_end, cycled, Listed, NoEdit, AndEdit, until_last_item, gone_back, unfolded, EditedItem, acted, items_run, played}
use Rattle.format_io.proofs.TurnsOfItems.{same_past}

-- what is left to do of a statement, at a list of edits
abbrev goes_on : Way → List Step → List Step → List EditedItem → List ℕ → Files → Result Files Break
goes_on way cycle rest [] line f = seek_end way cycle rest line f >>= λ x. Ok x.1
goes_on way cycle rest (i ∷ is) line f = seek way cycle i.kind rest (cycled way cycle i.kind) line f >>= λ x. with_records x.1 (acted x.0 i) >>= λ h1. items_run is h1 x.1

runs_is : (way : Way) (cycle rest : List Step) (is : List EditedItem) (line : List ℕ) (f : Files) → items_run is (hand_at way rest cycle line Between) f ≡ goes_on way cycle rest is line f
runs_is Writing cycle rest [] line f = refl
runs_is Writing cycle rest (i ∷ is) line f = refl
runs_is Reading cycle rest [] line f = refl
runs_is Reading cycle rest (i ∷ is) line f = refl

abbrev bit : Bool → ℕ
bit true = 1
bit false = 0

abbrev listed : List Step → List Step → ℕ → List EditedItem → Listed
listed cycle rest n is = until_last_item rest (λ j. gone_back cycle j n) (length is)

-- no item is left
ends_played : (way : Way) (cycle : List Step) (n : ℕ) (rest : List Step) (line : List ℕ) (f : Files) → goes_on way cycle rest [] line f ≡ played way (listed cycle rest n []) [] line f
ends_played Writing cycle n [] line f = refl
ends_played Reading cycle n [] line f = refl
ends_played Writing cycle n (Takes j w ∷ rest) line f = refl
ends_played Reading cycle n (Takes j w ∷ rest) line f = refl
ends_played way cycle n (Blanks b ∷ rest) line f = elim (blanked way b line) as (λ r. ((with_records f r >>= λ l. seek_end way cycle rest l f) >>= λ x. Ok x.1) ≡ (with_records f r >>= λ l. played way (listed cycle rest n []) [] l f)) [ Ok l ↦ ends_played way cycle n rest l f | Err e ↦ refl ]
ends_played way cycle n (Chars text ∷ rest) line f = elim (lettered way text line) as (λ r. ((with_records f r >>= λ l. seek_end way cycle rest l f) >>= λ x. Ok x.1) ≡ (with_records f r >>= λ l. played way (listed cycle rest n []) [] l f)) [ Ok l ↦ ends_played way cycle n rest l f | Err e ↦ refl ]
ends_played way cycle n (Slash ∷ rest) line f = elim (exchanged way line f) as (λ r. ((with_records f r >>= λ y. seek_end way cycle rest y.0 y.1) >>= λ x. Ok x.1) ≡ (with_records f r >>= λ y. played way (listed cycle rest n []) [] y.0 y.1)) [ Ok y ↦ ends_played way cycle n rest y.0 y.1 | Err e ↦ refl ]

-- what follows once control has gone back
abbrev Back : Way → List Step → ℕ → Type 0
Back way cycle n = (i : EditedItem) (is : List EditedItem) (line : List ℕ) (f : Files) → suc (length is) ≤ suc n → has_item cycle ≡ true
    → goes_on way cycle cycle (i ∷ is) line f ≡ played way (listed cycle cycle n (i ∷ is)) (i ∷ is) line f

-- at the last parenthesis
returns_played : (way : Way) (cycle : List Step) (n : ℕ) → Back way cycle n → (i : EditedItem) (is : List EditedItem) (line : List ℕ) (f : Files) → suc (length is) ≤ suc n
    → goes_on way cycle [] (i ∷ is) line f ≡ played way (gone_back cycle (suc (length is)) (suc n)) (i ∷ is) line f
returns_played way cycle n back i is line f le = go (has_item cycle) refl
  where
    go : (b : Bool) → has_item cycle ≡ b
        → ((if b then (with_records f (exchanged way line f) >>= λ x. seek way cycle i.kind cycle mismatch x.0 x.1) else mismatch line f) >>= λ x. with_records x.1 (acted x.0 i) >>= λ h1. items_run is h1 x.1)
        ≡ played way (if b then AndEdit Slash (until_last_item cycle (λ j. gone_back cycle j n) (suc (length is))) else NoEdit) (i ∷ is) line f
    go false e = refl
    go true e = step (with_records f (exchanged way line f))
      where
        step : (r : Result (List ℕ × Files) Break) → ((r >>= λ x. seek way cycle i.kind cycle mismatch x.0 x.1) >>= λ x. with_records x.1 (acted x.0 i) >>= λ h1. items_run is h1 x.1)
            ≡ (r >>= λ x. played way (listed cycle cycle n (i ∷ is)) (i ∷ is) x.0 x.1)
        step (Ok x) = ap (λ r. r >>= λ y. with_records y.1 (acted y.0 i) >>= λ h1. items_run is h1 y.1) (same_past way cycle i.kind cycle mismatch (cycled way cycle i.kind) x.0 x.1 e)
            ∙ back i is x.0 x.1 le e
        step (Err t) = refl

inner : (way : Way) (cycle : List Step) (n : ℕ) → ((m : ℕ) → n ≡ suc m → Back way cycle m) → (rest : List Step) (is : List EditedItem) (line : List ℕ) (f : Files) → length is ≤ n + bit (has_item rest)
    → goes_on way cycle rest is line f ≡ played way (listed cycle rest n is) is line f
inner way cycle n back rest [] line f le = ends_played way cycle n rest line f
inner way cycle zero back [] (i ∷ is) line f le = let no_way : ⊥ = omega arith in absurd no_way
inner way cycle (suc n) back [] (i ∷ is) line f le = returns_played way cycle n (back n refl) i is line f (omega arith)
inner way cycle n back (Takes j w ∷ rest) (i ∷ is) line f le =
    let here : Result (Hand × Files) Break = Ok (hand_at way rest cycle line (Due j w), f) in
    elim (suits i.kind j) as (λ b. ((if b then here else mismatch line f) >>= λ x. with_records x.1 (acted x.0 i) >>= λ h1. items_run is h1 x.1)
    ≡ (if b then (with_records f (i.act w line) >>= λ l1. played way (listed cycle rest n is) is l1 f) else Err (FormatMismatch, f))) [
      | true ↦ elim (i.act w line) as (λ r. (with_records f (r >>= λ l. Ok (hand_at way rest cycle l Between)) >>= λ h1. items_run is h1 f) ≡ (with_records f r >>= λ l1. played way (listed cycle rest n is) is l1 f)) [
        | Ok l ↦ runs_is way cycle rest is l f ∙ inner way cycle n back rest is l f (omega arith)
        | Err e ↦ refl
      ]
      | false ↦ refl
    ]
inner way cycle n back (Blanks b ∷ rest) (i ∷ is) line f le =
    elim (blanked way b line) as (λ r. ((with_records f r >>= λ l. seek way cycle i.kind rest (cycled way cycle i.kind) l f) >>= λ x. with_records x.1 (acted x.0 i) >>= λ h1. items_run is h1 x.1) ≡ (with_records f r >>= λ l1. played way (listed cycle rest n (i ∷ is)) (i ∷ is) l1 f)) [
      | Ok l ↦ inner way cycle n back rest (i ∷ is) l f le
      | Err e ↦ refl
    ]
inner way cycle n back (Chars text ∷ rest) (i ∷ is) line f le =
    elim (lettered way text line) as (λ r. ((with_records f r >>= λ l. seek way cycle i.kind rest (cycled way cycle i.kind) l f) >>= λ x. with_records x.1 (acted x.0 i) >>= λ h1. items_run is h1 x.1) ≡ (with_records f r >>= λ l1. played way (listed cycle rest n (i ∷ is)) (i ∷ is) l1 f)) [
      | Ok l ↦ inner way cycle n back rest (i ∷ is) l f le
      | Err e ↦ refl
    ]
inner way cycle n back (Slash ∷ rest) (i ∷ is) line f le =
    elim (exchanged way line f) as (λ r. ((with_records f r >>= λ y. seek way cycle i.kind rest (cycled way cycle i.kind) y.0 y.1) >>= λ x. with_records x.1 (acted x.0 i) >>= λ h1. items_run is h1 x.1) ≡ (with_records f r >>= λ y. played way (listed cycle rest n (i ∷ is)) (i ∷ is) y.0 y.1)) [
      | Ok y ↦ inner way cycle n back rest (i ∷ is) y.0 y.1 le
      | Err e ↦ refl
    ]

backs : (way : Way) (cycle : List Step) (m : ℕ) → Back way cycle m
backs way cycle zero i is line f le e =
    let one_item : bit (has_item cycle) ≡ 1 = ap bit e in
    inner way cycle zero (λ k g. let no_way : ⊥ = omega arith in absurd no_way) cycle (i ∷ is) line f (omega (arith, one_item))
backs way cycle (suc m) i is line f le e =
    let one_item : bit (has_item cycle) ≡ 1 = ap bit e in
    inner way cycle (suc m) (λ k g. let same : m ≡ k = omega arith in subst (Back way cycle) same (backs way cycle m)) cycle (i ∷ is) line f (omega (arith, one_item))

-- A whole statement, item after item, is its list of edits and record ends.
pub runs_list : (way : Way) (fs : Fields) (is : List EditedItem) (line : List ℕ) (f : Files)
    → items_run is (hand_at way (steps fs) (steps (again fs)) line Between) f ≡ played way (unfolded fs (length is)) is line f
runs_list way fs is line f =
    runs_is way (steps (again fs)) (steps fs) is line f
    ∙ inner way (steps (again fs)) (length is) (λ m g. backs way (steps (again fs)) m) (steps fs) is line f (omega arith)

-- ---- each put and take is what its item does to the record ----

pub put_whole_acts : (h : Hand) (n : ℤ) → put_whole h n ≡ acted h (record { kind = Integer; act = λ w line. extended line (whole_text w n) })
put_whole_acts h n = refl

pub put_truth_acts : (h : Hand) (b : Bool) → put_truth h b ≡ acted h (record { kind = Logical; act = λ w line. extended line (truth_text w b) })
put_truth_acts h b = refl

pub put_letter_acts : (h : Hand) (n : ℤ) → put_letter h n ≡ acted h (record { kind = Integer; act = λ w line. with_letter n line })
put_letter_acts h n = refl

-- behind a field whose content was read
abbrev pub behind : {A : Type 0} → Result A Trap → ℕ → List ℕ → Result (List ℕ) Trap
behind r w line = r >>= λ x. Ok (drop w line)

abbrev read_by : {A : Type 0} → Hand → Result A Trap → Result (A × Hand) Trap
read_by h r = r >>= λ x. Ok (x, past h)

-- the hand alone
abbrev pub hand_after : {A : Type 0} → Result (A × Hand) Trap → Result Hand Trap
hand_after r = r >>= λ x. Ok x.1

taken : {A : Type 0} (h : Hand) (r : Result A Trap)
    → hand_after (read_by h r) ≡ (behind r (width_of h.mark) h.line >>= λ l. Ok (record h { line = l; mark = Between }))
taken h (Ok x) = refl
taken h (Err e) = refl

pub take_whole_acts : (h : Hand) → hand_after (take_whole h) ≡ acted h (record { kind = Integer; act = λ w line. behind (whole_of (field w line)) w line })
take_whole_acts h = taken h (whole_of (field (width_of h.mark) h.line))

pub take_truth_acts : (h : Hand) → hand_after (take_truth h) ≡ acted h (record { kind = Logical; act = λ w line. behind (truth_of (field w line)) w line })
take_truth_acts h = taken h (truth_of (field (width_of h.mark) h.line))

pub take_letter_acts : (h : Hand) → hand_after (take_letter h) ≡ acted h (record { kind = Integer; act = λ w line. behind (letter_of (field 1 line)) w line })
take_letter_acts h = taken h (letter_of (field 1 h.line))
