-- No turn changes whether a statement reads or writes.
use Rattle.std.specs.Prelude.{◌≡◌, ℕ, true, false, List, [], ◌∷◌, Result, Ok, Err, OnOk, Option, None, refl, if◌then◌else◌}
use Rattle.std.proofs.Common.{sym, ◌∙◌, ap}
use Rattle.ground.specs.declared.trap.Trap.{Trap}
use Rattle.ground.specs.declared.trap.Trap.TheVariants.{FormatMismatch}
use Rattle.ground.specs.declared.value.Kind.{Kind}
use Rattle.f66_tree.specs.declared.editing.Turn.{Turn}
use Rattle.f66_tree.specs.declared.editing.Turn.TheVariants.{Ready, RecordDone}
use Rattle.f66_tree.specs.declared.editing.Way.{Way}
use Rattle.f66_tree.specs.declared.editing.Way.TheVariants.{Reading, Writing}
use Rattle.f66_tree.specs.declared.editing.Mark.TheVariants.{Due, Complete}
use Rattle.f66_tree.specs.Fields.{Step, Takes, Blanks, Chars, Slash, Fields, has_item}
use Rattle.f66_tree.specs.Turns.{Hand, ◌>>=◌, blanked, lettered, suits, hand_at, find, next_turn, end_turn, last_turn, line_in_hand, is_over}
use Rattle.format_io.specs.Places.{Stand, hand_of}
use Rattle.format_io.specs.Answers.{Answers}

abbrev way_in : {A : Type 0} → Way → Result (A × Hand) Trap → Way
way_in w (Ok x) = x.1.way
way_in w (Err e) = w

find_way : (way : Way) (cycle : List Step) (k : Kind) (rest : List Step) (line : List ℕ) → way_in way (find way cycle k rest line) ≡ way
find_way way cycle k [] line = elim (has_item cycle) as (λ b. way_in way (if b then Ok (RecordDone, hand_at way cycle cycle line Complete) else Err FormatMismatch) ≡ way) [ true ↦ refl | false ↦ refl ]
find_way way cycle k (Takes j w ∷ rest) line = elim (suits k j) as (λ b. way_in way (if b then Ok (Ready j, hand_at way rest cycle line (Due j w)) else Err FormatMismatch) ≡ way) [ true ↦ refl | false ↦ refl ]
find_way way cycle k (Blanks n ∷ rest) line = elim (blanked way n line) as (λ r. way_in way (r >>= λ l. find way cycle k rest l) ≡ way) [ Ok l ↦ find_way way cycle k rest l | Err e ↦ refl ]
find_way way cycle k (Chars text ∷ rest) line = elim (lettered way text line) as (λ r. way_in way (r >>= λ l. find way cycle k rest l) ≡ way) [ Ok l ↦ find_way way cycle k rest l | Err e ↦ refl ]
find_way way cycle k (Slash ∷ rest) line = refl

close_way : (way : Way) (cycle : List Step) (rest : List Step) (line : List ℕ) → way_in way (end_turn way cycle rest line) ≡ way
close_way Writing cycle [] line = refl
close_way Reading cycle [] line = refl
close_way Writing cycle (Takes j w ∷ rest) line = refl
close_way Reading cycle (Takes j w ∷ rest) line = refl
close_way way cycle (Blanks n ∷ rest) line = elim (blanked way n line) as (λ r. way_in way (r >>= λ l. end_turn way cycle rest l) ≡ way) [ Ok l ↦ close_way way cycle rest l | Err e ↦ refl ]
close_way way cycle (Chars text ∷ rest) line = elim (lettered way text line) as (λ r. way_in way (r >>= λ l. end_turn way cycle rest l) ≡ way) [ Ok l ↦ close_way way cycle rest l | Err e ↦ refl ]
close_way way cycle (Slash ∷ rest) line = refl

last_way : (h : Hand) → way_in h.way (last_turn h) ≡ h.way
last_way h = elim (is_over h.mark) as (λ b. way_in h.way (if b then Ok (None, h) else end_turn h.way h.cycle h.rest (line_in_hand h.way h.mark h.line)) ≡ h.way)
    [ true ↦ refl | false ↦ close_way h.way h.cycle h.rest (line_in_hand h.way h.mark h.line) ]

pub next_keeps : (r : Result Turn Trap) (fs : Fields) (old new : Stand) (k : Kind) → Answers fs r new (next_turn (hand_of fs old) k) → OnOk r (new.way ≡ old.way)
next_keeps (Ok t) fs old new k e = sym (ap (way_in old.way) e) ∙ find_way old.way (hand_of fs old).cycle k (hand_of fs old).rest (line_in_hand old.way old.mark old.line)
next_keeps (Err t) fs old new k e = tt

pub last_keeps : (r : Result (Option Turn) Trap) (fs : Fields) (old new : Stand) → Answers fs r new (last_turn (hand_of fs old)) → OnOk r (new.way ≡ old.way)
last_keeps (Ok t) fs old new e = sym (ap (way_in old.way) e) ∙ last_way (hand_of fs old)
last_keeps (Err t) fs old new e = tt
