-- One turn of a statement where no item is left, and what is to come behind it.
use Rattle.std.specs.Prelude.{◌≡◌, ℕ, suc, ◌<◌, Bool, true, false, List, [], ◌∷◌, length, Result, Ok, Err, Option, Some, None, refl, if◌then◌else◌}
use Rattle.std.proofs.Common.{sym, ◌∙◌, ap, subst, arith}
use Rattle.ground.specs.declared.trap.Trap.{Trap}
use Rattle.f66_tree.specs.declared.editing.Way.{Way}
use Rattle.f66_tree.specs.declared.editing.Way.TheVariants.{Reading, Writing}
use Rattle.f66_tree.specs.declared.editing.Turn.{Turn}
use Rattle.f66_tree.specs.declared.editing.Mark.{Mark}
use Rattle.f66_tree.specs.declared.editing.Mark.TheVariants.{Between, Due, Complete, Over}
use Rattle.f66_tree.specs.Fields.{Step, Takes, Blanks, Chars, Slash}
use Rattle.f66_tree.specs.Turns.{Hand, ◌>>=◌, blanked, lettered, line_in_hand, end_turn, last_turn, is_over}
use Rattle.f66_tree.specs.Editing.{Files, Break, with_records, next_record, arrived, changed_by, to_end, finished_by, followed_end}
use Rattle.format_io.proofs.TurnsOfItems.{to_end_is}
use Rattle.record_flow.specs.Moves.{Changes, left_of}

abbrev closing : Hand → Files → Result (Hand × Files) Break
closing h f = if is_over h.mark then Ok (h, f) else to_end h f

closing_by : (h : Hand) (f : Files) (b : Bool) → is_over h.mark ≡ b
    → (if b then Ok (h, f) else to_end h f) ≡ followed_end f (if b then Ok (None, h) else end_turn h.way h.cycle h.rest (line_in_hand h.way h.mark h.line))
closing_by h f true e = refl
closing_by h f false e = to_end_is h f e ∙ ap (λ b. followed_end f (if b then Ok (None, h) else end_turn h.way h.cycle h.rest (line_in_hand h.way h.mark h.line))) e

closing_is : (h : Hand) (f : Files) → closing h f ≡ followed_end f (last_turn h)
closing_is h f = closing_by h f (is_over h.mark) refl

-- the statement is over
pub over_is : (h h1 : Hand) (f : Files) → last_turn h ≡ Ok (None, h1) → closing h f ≡ Ok (h1, f)
over_is h h1 f e = closing_is h f ∙ ap (followed_end f) e

-- a text or blanks that do not go out
pub unclosed_is : (h : Hand) (f : Files) (t : Trap) → last_turn h ≡ Err t → closing h f ≡ Err (t, f)
unclosed_is h f t e = closing_is h f ∙ ap (followed_end f) e

-- behind the last record of a WRITE the statement is over, and behind another record it goes on
settled : (h : Hand) (f : Files) (b : Bool) → is_over h.mark ≡ b → closing h f ≡ (if b then Ok (h, f) else to_end h f)
settled h f b e = ap (λ v. if v then Ok (h, f) else to_end h f) e

goes_on : (way : Way) (h1 h2 : Hand) (f f2 : Files) → h1.way ≡ way → changed_by way h1 f ≡ Ok (h2, f2) → is_over h2.mark ≡ false
    → (with_records f (changed_by h1.way h1 f) >>= λ x. to_end x.0 x.1) ≡ closing h2 f2
goes_on way h1 h2 f f2 same made still =
    ap (λ w. with_records f (changed_by w h1 f) >>= λ x. to_end x.0 x.1) same
    ∙ ap (λ r. with_records f r >>= λ x. to_end x.0 x.1) made
    ∙ sym (settled h2 f2 false still)

ended_is : (way : Way) (m : Mark) (h1 h2 : Hand) (f f2 : Files) → h1.way ≡ way → changed_by way h1 f ≡ Ok (h2, f2) → Changes way m h2.mark
    → finished_by way m h1 f ≡ closing h2 f2
ended_is Writing Over h1 h2 f f2 same made mark = ap (with_records f) made ∙ sym (settled h2 f2 true (ap is_over mark))
ended_is Writing Between h1 h2 f f2 same made mark = goes_on Writing h1 h2 f f2 same made (ap is_over mark)
ended_is Writing (Due k w) h1 h2 f f2 same made mark = goes_on Writing h1 h2 f f2 same made (ap is_over mark)
ended_is Writing Complete h1 h2 f f2 same made mark = goes_on Writing h1 h2 f f2 same made (ap is_over mark)
ended_is Reading m h1 h2 f f2 same made mark = goes_on Reading h1 h2 f f2 same made (ap is_over mark)

ended_alike : (h : Hand) (way : Way) (f : Files) → h.way ≡ way → finished_by h.way h.mark h f ≡ finished_by way h.mark h f
ended_alike h way f same = ap (λ w. finished_by w h.mark h f) same

-- a record is done, and the next one begins, or none
pub after_is : (h h1 h2 : Hand) (t : Turn) (way : Way) (f f2 : Files) → last_turn h ≡ Ok (Some t, h1) → h1.way ≡ way → changed_by way h1 f ≡ Ok (h2, f2)
    → Changes way h1.mark h2.mark → closing h f ≡ closing h2 f2
after_is h h1 h2 t way f f2 e same made mark =
    closing_is h f ∙ ap (followed_end f) e ∙ ended_alike h1 way f same ∙ ended_is way h1.mark h1 h2 f f2 same made mark

abbrev IsErr : Result (Hand × Files) Trap → Type 0
IsErr (Ok x) = ⊥
IsErr (Err e) = Unit {0}

ended_cut : (way : Way) (m : Mark) (h1 : Hand) (f : Files) (t : Trap) → h1.way ≡ way → changed_by way h1 f ≡ Err t → finished_by way m h1 f ≡ Err (t, f)
ended_cut Writing m h1 f t same made = absurd (subst IsErr (sym made) tt)
ended_cut Reading m h1 f t same made =
    ap (λ w. with_records f (changed_by w h1 f) >>= λ x. to_end x.0 x.1) same ∙ ap (λ r. with_records f r >>= λ x. to_end x.0 x.1) made

-- a record is done, and no other comes
pub lacking_is : (h h1 : Hand) (t : Turn) (way : Way) (f : Files) (e : Trap) → last_turn h ≡ Ok (Some t, h1) → h1.way ≡ way → changed_by way h1 f ≡ Err e
    → closing h f ≡ Err (e, f)
lacking_is h h1 t way f e turned same made =
    closing_is h f ∙ ap (followed_end f) turned ∙ ended_alike h1 way f same ∙ ended_cut way h1.mark h1 f e same made

-- ---- each turn leaves less ----

abbrev left_after : Way → Hand → ℕ
left_after Writing h = left_of h
left_after Reading h = suc (length h.rest)

abbrev Lessens : ℕ → Way → Result (Option Turn × Hand) Trap → Type 0
Lessens n way (Err e) = Unit {0}
Lessens n way (Ok (None, h)) = Unit {0}
Lessens n way (Ok (Some t, h)) = left_after way h < n

more : (n m : ℕ) (way : Way) (r : Result (Option Turn × Hand) Trap) → n < m → Lessens n way r → Lessens m way r
more n m way (Err e) le less = tt
more n m way (Ok (None, h)) le less = tt
more n m way (Ok (Some t, h)) le less = omega (arith, le, less)

close_lessens : (way : Way) (cycle rest : List Step) (line : List ℕ) → Lessens (suc (length rest)) way (end_turn way cycle rest line)
close_lessens Writing cycle [] line = omega arith
close_lessens Reading cycle [] line = tt
close_lessens Writing cycle (Takes j w ∷ rest) line = omega arith
close_lessens Reading cycle (Takes j w ∷ rest) line = tt
close_lessens way cycle (Blanks n ∷ rest) line = elim (blanked way n line) as (λ r. Lessens (suc (suc (length rest))) way (r >>= λ l. end_turn way cycle rest l)) [ Ok l ↦ more _ _ way _ (omega arith) (close_lessens way cycle rest l) | Err e ↦ tt ]
close_lessens way cycle (Chars text ∷ rest) line = elim (lettered way text line) as (λ r. Lessens (suc (suc (length rest))) way (r >>= λ l. end_turn way cycle rest l)) [ Ok l ↦ more _ _ way _ (omega arith) (close_lessens way cycle rest l) | Err e ↦ tt ]
close_lessens Writing cycle (Slash ∷ rest) line = omega arith
close_lessens Reading cycle (Slash ∷ rest) line = omega arith

last_lessens : (h : Hand) → Lessens (left_of h) h.way (last_turn h)
last_lessens h = elim (is_over h.mark) as (λ b. Lessens (if b then 0 else suc (length h.rest)) h.way (if b then Ok (None, h) else end_turn h.way h.cycle h.rest (line_in_hand h.way h.mark h.line)))
    [ true ↦ tt | false ↦ close_lessens h.way h.cycle h.rest (line_in_hand h.way h.mark h.line) ]

abbrev left_in : ℕ → Result (Hand × Files) Trap → ℕ
left_in n (Ok x) = left_of x.0
left_in n (Err e) = n

arrived_left : (h : Hand) (r : Result (List ℕ × Files) Trap) → left_in (suc (length h.rest)) (arrived h r) ≡ suc (length h.rest)
arrived_left h (Ok x) = refl
arrived_left h (Err e) = refl

change_left : (way : Way) (h : Hand) (f : Files) → left_in (left_after way h) (changed_by way h f) ≡ left_after way h
change_left Writing h f = refl
change_left Reading h f = arrived_left h (next_record f.unread f)

changed_left : (way : Way) (h h2 : Hand) (f f2 : Files) → changed_by way h f ≡ Ok (h2, f2) → left_of h2 ≡ left_after way h
changed_left way h h2 f f2 e = sym (ap (left_in (left_after way h)) e) ∙ change_left way h f

-- a record is done, and less is left behind it
pub after_lessens : (h h1 h2 : Hand) (t : Turn) (way : Way) (f f2 : Files) → last_turn h ≡ Ok (Some t, h1) → way ≡ h.way → changed_by way h1 f ≡ Ok (h2, f2)
    → left_of h2 < left_of h
after_lessens h h1 h2 t way f f2 e same made =
    let less : left_after h.way h1 < left_of h = subst (Lessens (left_of h) h.way) e (last_lessens h) in
    let less1 : left_after way h1 < left_of h = subst (λ w. left_after w h1 < left_of h) (sym same) less in
    let is = changed_left way h1 h2 f f2 made in
    omega (arith, less1, is)
