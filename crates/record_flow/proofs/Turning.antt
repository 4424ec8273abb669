-- One turn of a statement, and what is to come behind it.
use Rattle.std.specs.Prelude.{◌≡◌, ℕ, suc, ◌+◌, ◌<◌, Bool, true, false, List, [], ◌∷◌, length, Result, Ok, Err, refl, if◌then◌else◌}
use Rattle.std.proofs.Common.{sym, ◌∙◌, ap, subst, arith}
use Rattle.ground.specs.declared.trap.Trap.{Trap}
use Rattle.ground.specs.declared.trap.Trap.TheVariants.{FormatMismatch}
use Rattle.ground.specs.declared.value.Kind.{Kind}
use Rattle.f66_tree.specs.declared.editing.Way.{Way}
use Rattle.f66_tree.specs.declared.editing.Way.TheVariants.{Reading, Writing}
use Rattle.f66_tree.specs.declared.editing.Turn.{Turn}
use Rattle.f66_tree.specs.declared.editing.Turn.TheVariants.{Ready, RecordDone}
use Rattle.f66_tree.specs.declared.editing.Mark.{Mark}
use Rattle.f66_tree.specs.declared.editing.Mark.TheVariants.{Due, Complete}
use Rattle.f66_tree.specs.declared.editing.EditKind.{EditKind}
use Rattle.f66_tree.specs.Fields.{Step, Takes, Blanks, Chars, Slash, has_item}
use Rattle.f66_tree.specs.Turns.{Hand, ◌>>=◌, blanked, lettered, suits, hand_at, find, next_turn, line_in_hand, is_over}
use Rattle.f66_tree.specs.Editing.{Files, with_records, next_record, arrived, changed_by, followed, to_item}
use Rattle.format_io.proofs.TurnsOfItems.{to_item_is}
use Rattle.record_flow.specs.Moves.{Changes, ahead}

-- ---- up to an item ----

-- an edit is ready
pub ready_is : (h h1 : Hand) (k : Kind) (f : Files) (j : EditKind) → next_turn h k ≡ Ok (Ready j, h1) → to_item h k f ≡ Ok (h1, f)
ready_is h h1 k f j e = to_item_is h k f ∙ ap (followed k f) e

-- no edit comes, or none of the type
pub stopped_is : (h : Hand) (k : Kind) (f : Files) (t : Trap) → next_turn h k ≡ Err t → to_item h k f ≡ Err (t, f)
stopped_is h k f t e = to_item_is h k f ∙ ap (followed k f) e

-- a record is done, and the next one begins
pub done_is : (h h1 h2 : Hand) (k : Kind) (f f2 : Files) → next_turn h k ≡ Ok (RecordDone, h1) → changed_by h1.way h1 f ≡ Ok (h2, f2)
    → to_item h k f ≡ to_item h2 k f2
done_is h h1 h2 k f f2 e made = to_item_is h k f ∙ ap (followed k f) e ∙ ap (λ r. with_records f r >>= λ x. to_item x.0 k x.1) made

-- a record is done, and no other comes
pub cut_is : (h h1 : Hand) (k : Kind) (f : Files) (t : Trap) → next_turn h k ≡ Ok (RecordDone, h1) → changed_by h1.way h1 f ≡ Err t
    → to_item h k f ≡ Err (t, f)
cut_is h h1 k f t e made = to_item_is h k f ∙ ap (followed k f) e ∙ ap (λ r. with_records f r >>= λ x. to_item x.0 k x.1) made

-- the edits ahead, and where control goes back, as a change of records leaves them
abbrev ahead_in : ℕ → Result (Hand × Files) Trap → ℕ
ahead_in n (Ok x) = ahead x.0
ahead_in n (Err e) = n

arrived_ahead : (h : Hand) (r : Result (List ℕ × Files) Trap) → ahead_in (ahead h) (arrived h r) ≡ ahead h
arrived_ahead h (Ok x) = refl
arrived_ahead h (Err e) = refl

change_ahead : (way : Way) (h : Hand) (f : Files) → ahead_in (ahead h) (changed_by way h f) ≡ ahead h
change_ahead Writing h f = refl
change_ahead Reading h f = arrived_ahead h (next_record f.unread f)

pub changed_ahead : (way : Way) (h h2 : Hand) (f f2 : Files) → changed_by way h f ≡ Ok (h2, f2) → ahead h2 ≡ ahead h
changed_ahead way h h2 f f2 e = sym (ap (ahead_in (ahead h)) e) ∙ change_ahead way h f

-- how many edits are ahead of a turn
abbrev Lessens : ℕ → Result (Turn × Hand) Trap → Type 0
Lessens n (Ok (Ready j, h)) = Unit {0}
Lessens n (Ok (RecordDone, h)) = ahead h < n
Lessens n (Err e) = Unit {0}

abbrev size_of : List Step → List Step → ℕ
size_of rest cycle = if has_item rest then length rest else suc (length rest + length cycle)

more : (n m : ℕ) (r : Result (Turn × Hand) Trap) → n < m → Lessens n r → Lessens m r
more n m (Ok (Ready j, h)) le less = tt
more n m (Ok (RecordDone, h)) le less = omega (arith, le, less)
more n m (Err e) le less = tt

-- one edit more
grown : (b : Bool) (n m : ℕ) → (if b then n else suc (n + m)) < (if b then suc n else suc (suc n + m))
grown true n m = omega arith
grown false n m = omega arith

-- where control goes back to, an edit takes an item
back_lessens : (way : Way) (cycle : List Step) (line : List ℕ) (b : Bool) → has_item cycle ≡ b
    → Lessens (suc (0 + length cycle)) (if b then Ok (RecordDone, hand_at way cycle cycle line Complete) else Err FormatMismatch)
back_lessens way cycle line true e =
    let same : size_of cycle cycle ≡ length cycle = ap (λ b. if b then length cycle else suc (length cycle + length cycle)) e in
    omega (arith, same)
back_lessens way cycle line false e = tt

find_lessens : (way : Way) (cycle : List Step) (k : Kind) (rest : List Step) (line : List ℕ) → Lessens (size_of rest cycle) (find way cycle k rest line)
find_lessens way cycle k [] line = back_lessens way cycle line (has_item cycle) refl
find_lessens way cycle k (Takes j w ∷ rest) line = elim (suits k j) as (λ b. Lessens (size_of (Takes j w ∷ rest) cycle) (if b then Ok (Ready j, hand_at way rest cycle line (Due j w)) else Err FormatMismatch)) [ true ↦ tt | false ↦ tt ]
find_lessens way cycle k (Blanks n ∷ rest) line = elim (blanked way n line) as (λ r. Lessens (size_of (Blanks n ∷ rest) cycle) (r >>= λ l. find way cycle k rest l)) [ Ok l ↦ more _ _ _ (grown (has_item rest) (length rest) (length cycle)) (find_lessens way cycle k rest l) | Err e ↦ tt ]
find_lessens way cycle k (Chars text ∷ rest) line = elim (lettered way text line) as (λ r. Lessens (size_of (Chars text ∷ rest) cycle) (r >>= λ l. find way cycle k rest l)) [ Ok l ↦ more _ _ _ (grown (has_item rest) (length rest) (length cycle)) (find_lessens way cycle k rest l) | Err e ↦ tt ]
find_lessens way cycle k (Slash ∷ rest) line = grown (has_item rest) (length rest) (length cycle)

done_lessens : (h h1 : Hand) (k : Kind) → next_turn h k ≡ Ok (RecordDone, h1) → ahead h1 < ahead h
done_lessens h h1 k e = subst (Lessens (ahead h)) e (find_lessens h.way h.cycle k h.rest (line_in_hand h.way h.mark h.line))

-- a record is done, and fewer edits are ahead of the next one
pub next_lessens : (h h1 h2 : Hand) (k : Kind) (way : Way) (f f2 : Files) → next_turn h k ≡ Ok (RecordDone, h1) → changed_by way h1 f ≡ Ok (h2, f2) → ahead h2 < ahead h
next_lessens h h1 h2 k way f f2 e made =
    let less = done_lessens h h1 k e in
    let same = changed_ahead way h1 h2 f f2 made in
    omega (arith, less, same)

-- an edit that is ready leaves the statement going
abbrev Goes : Result (Turn × Hand) Trap → Type 0
Goes (Ok (Ready j, h)) = is_over h.mark ≡ false
Goes (Ok (RecordDone, h)) = is_over h.mark ≡ false
Goes (Err e) = Unit {0}

find_goes : (way : Way) (cycle : List Step) (k : Kind) (rest : List Step) (line : List ℕ) → Goes (find way cycle k rest line)
find_goes way cycle k [] line = elim (has_item cycle) as (λ b. Goes (if b then Ok (RecordDone, hand_at way cycle cycle line Complete) else Err FormatMismatch)) [ true ↦ refl | false ↦ tt ]
find_goes way cycle k (Takes j w ∷ rest) line = elim (suits k j) as (λ b. Goes (if b then Ok (Ready j, hand_at way rest cycle line (Due j w)) else Err FormatMismatch)) [ true ↦ refl | false ↦ tt ]
find_goes way cycle k (Blanks n ∷ rest) line = elim (blanked way n line) as (λ r. Goes (r >>= λ l. find way cycle k rest l)) [ Ok l ↦ find_goes way cycle k rest l | Err e ↦ tt ]
find_goes way cycle k (Chars text ∷ rest) line = elim (lettered way text line) as (λ r. Goes (r >>= λ l. find way cycle k rest l)) [ Ok l ↦ find_goes way cycle k rest l | Err e ↦ tt ]
find_goes way cycle k (Slash ∷ rest) line = refl

pub ready_goes : (h h1 : Hand) (k : Kind) (j : EditKind) → next_turn h k ≡ Ok (Ready j, h1) → is_over h1.mark ≡ false
ready_goes h h1 k j e = subst Goes e (find_goes h.way h.cycle k h.rest (line_in_hand h.way h.mark h.line))

pub done_goes : (h h1 : Hand) (k : Kind) → next_turn h k ≡ Ok (RecordDone, h1) → is_over h1.mark ≡ false
done_goes h h1 k e = subst Goes e (find_goes h.way h.cycle k h.rest (line_in_hand h.way h.mark h.line))

pub change_goes : (way : Way) (old new : Mark) → is_over old ≡ false → Changes way old new → is_over new ≡ false
change_goes Writing old new e same = ap is_over same ∙ e
change_goes Reading old new e fresh = ap is_over fresh
