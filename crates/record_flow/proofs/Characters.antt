-- The lemmas of characters that go out or come in one after the other.
use Rattle.std.specs.Prelude.{◌≡◌, ℕ, true, false, List, [], ◌∷◌, pos, ℤ, Result, Ok, Err, Option, Some, None, refl, if◌then◌else◌}
use Rattle.std.proofs.Common.{sym, ◌∙◌, ap, subst}
use Rattle.ground.specs.declared.trap.Trap.{Trap}
use Rattle.ground.specs.declared.trap.Trap.TheVariants.{FormatMismatch}
use Rattle.ground.specs.declared.value.Kind.{Kind}
use Rattle.ground.specs.declared.value.Kind.TheVariants.{Integer}
use Rattle.ground.specs.Content.{Whole}
use Rattle.f66_tree.specs.declared.editing.Way.{Way}
use Rattle.f66_tree.specs.declared.editing.Turn.{Turn}
use Rattle.f66_tree.specs.declared.editing.Turn.TheVariants.{Ready, RecordDone}
use Rattle.f66_tree.specs.declared.editing.EditKind.{EditKind}
use Rattle.f66_tree.specs.declared.editing.EditKind.TheVariants as edits
use Rattle.f66_tree.specs.declared.editing.Mark.{Mark}
use Rattle.f66_tree.specs.declared.editing.Mark.TheVariants.{Between, Due, Complete, Over}
use Rattle.f66_tree.specs.Fields.{Step, Takes, Blanks, Chars, Slash, has_item}
use Rattle.f66_tree.specs.Turns.{Hand, ◌>>=◌, blanked, lettered, suits, hand_at, find, next_turn, line_in_hand, is_over, put_letter, take_letter}
use Rattle.f66_tree.specs.Editing.{Files}
use Rattle.f66_tree.specs.World.{Yields, tape_of, lifted, then_try}
use Rattle.f66_tree.specs.Records.{tape_placed, put_by, take_by, handed}
use Rattle.format_io.specs.Answers.{due_of}
use Rattle.format_io.specs.Letters.{PutsLetters, TakesLetters}
use Rattle.record_flow.specs.Letters.{SendsLetters, GetsLetters}
use Rattle.record_flow.proofs.Turning.{ready_is}
use Rattle.record_flow.proofs.Contents.{letter_out, letter_goes}

-- ---- the edit that is ready waits ----

abbrev Waits : Result (Turn × Hand) Trap → Type 0
Waits (Ok (Ready j, h)) = due_of h.mark ≡ Some j
Waits (Ok (RecordDone, h)) = Unit {0}
Waits (Err e) = Unit {0}

find_waits : (way : Way) (cycle : List Step) (k : Kind) (rest : List Step) (line : List ℕ) → Waits (find way cycle k rest line)
find_waits way cycle k [] line = elim (has_item cycle) as (λ b. Waits (if b then Ok (RecordDone, hand_at way cycle cycle line Complete) else Err FormatMismatch)) [ true ↦ tt | false ↦ tt ]
find_waits way cycle k (Takes j w ∷ rest) line = elim (suits k j) as (λ b. Waits (if b then Ok (Ready j, hand_at way rest cycle line (Due j w)) else Err FormatMismatch)) [ true ↦ refl | false ↦ tt ]
find_waits way cycle k (Blanks n ∷ rest) line = elim (blanked way n line) as (λ r. Waits (r >>= λ l. find way cycle k rest l)) [ Ok l ↦ find_waits way cycle k rest l | Err e ↦ tt ]
find_waits way cycle k (Chars text ∷ rest) line = elim (lettered way text line) as (λ r. Waits (r >>= λ l. find way cycle k rest l)) [ Ok l ↦ find_waits way cycle k rest l | Err e ↦ tt ]
find_waits way cycle k (Slash ∷ rest) line = tt

ready_waits : (h h1 : Hand) (k : Kind) (j : EditKind) → next_turn h k ≡ Ok (Ready j, h1) → due_of h1.mark ≡ Some j
ready_waits h h1 k j e = subst Waits e (find_waits h.way h.cycle k h.rest (line_in_hand h.way h.mark h.line))

-- ---- a character goes out or comes in by it ----

abbrev IsLetter : Option EditKind → Type 0
IsLetter (Some edits.Letter) = Unit {0}
IsLetter (Some edits.Whole) = ⊥
IsLetter (Some edits.Truth) = ⊥
IsLetter None = ⊥

put_by_letter : (m : Mark) (h : Hand) (n : ℤ) → due_of m ≡ Some edits.Letter → put_by m (Whole n) h ≡ lifted (put_letter h n)
put_by_letter Between h n e = absurd (subst IsLetter (sym e) tt)
put_by_letter (Due edits.Whole w) h n e = absurd (subst IsLetter (sym e) tt)
put_by_letter (Due edits.Truth w) h n e = absurd (subst IsLetter (sym e) tt)
put_by_letter (Due edits.Letter w) h n e = refl
put_by_letter Complete h n e = absurd (subst IsLetter (sym e) tt)
put_by_letter Over h n e = absurd (subst IsLetter (sym e) tt)

take_by_letter : (m : Mark) (h : Hand) → due_of m ≡ Some edits.Letter → take_by m h ≡ lifted (take_letter h >>= λ x. Ok (Whole x.0, x.1))
take_by_letter Between h e = absurd (subst IsLetter (sym e) tt)
take_by_letter (Due edits.Whole w) h e = absurd (subst IsLetter (sym e) tt)
take_by_letter (Due edits.Truth w) h e = absurd (subst IsLetter (sym e) tt)
take_by_letter (Due edits.Letter w) h e = refl
take_by_letter Complete h e = absurd (subst IsLetter (sym e) tt)
take_by_letter Over h e = absurd (subst IsLetter (sym e) tt)

-- ---- one after the other ----

pub sends : (cs : List ℕ) (old new : Hand) (f : Files) → PutsLetters cs old new → SendsLetters cs (tape_of old f) (tape_of new f)
sends [] old new f e = ap (λ h. tape_of h f) e
sends (c ∷ cs) old new f p =
    let due = ready_waits old p.0 Integer edits.Letter p.2 in (
      tape_of p.0 f,
      tape_of p.1 f,
      ap (tape_placed (tape_of old f)) (ready_is old p.0 Integer f edits.Letter p.2),
      ap (handed (tape_of p.0 f)) (put_by_letter p.0.mark p.0 (pos c) due ∙ ap lifted p.3),
      sends cs p.1 new f p.4,
    )

pub gets : (cs : List ℕ) (old new : Hand) (f : Files) → TakesLetters cs old new → GetsLetters cs (tape_of old f) (tape_of new f)
gets [] old new f e = ap (λ h. tape_of h f) e
gets (c ∷ cs) old new f p =
    let due = ready_waits old p.0 Integer edits.Letter p.2 in (
      tape_of p.0 f,
      tape_of p.1 f,
      ap (tape_placed (tape_of old f)) (ready_is old p.0 Integer f edits.Letter p.2),
      ap (λ t. then_try t (λ x. Yields (x.0, tape_of x.1 f))) (take_by_letter p.0.mark p.0 due ∙ ap (λ r. lifted (r >>= λ x. Ok (Whole x.0, x.1))) p.3),
      gets cs p.1 new f p.4,
    )

pub puts_go : (cs : List ℕ) (old new : Hand) → PutsLetters cs old new → is_over old.mark ≡ false → is_over new.mark ≡ false
puts_go [] old new e going = subst (λ h. is_over h.mark ≡ false) e going
puts_go (c ∷ cs) old new p going = puts_go cs p.1 new p.4 (letter_out p.0 p.1 (pos c) p.3)

pub takes_go : (cs : List ℕ) (old new : Hand) → TakesLetters cs old new → is_over old.mark ≡ false → is_over new.mark ≡ false
takes_go [] old new e going = subst (λ h. is_over h.mark ≡ false) e going
takes_go (c ∷ cs) old new p going = takes_go cs p.1 new p.4 (letter_goes p.0 p.1 (pos c) p.3)
