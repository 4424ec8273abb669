-- All turns up to an item are one turn after the other.
use Rattle.std.specs.Prelude.{◌≡◌, ℕ, Bool, true, false, List, [], ◌∷◌, Result, Ok, Err, None, refl, if◌then◌else◌}
use Rattle.std.proofs.Common.{sym, ◌∙◌, ap, subst}
use Rattle.ground.specs.declared.trap.Trap.{Trap}
use Rattle.ground.specs.declared.trap.Trap.TheVariants.{FormatMismatch}
use Rattle.ground.specs.declared.value.Kind.{Kind}
use Rattle.f66_tree.specs.declared.editing.Way.{Way}
use Rattle.f66_tree.specs.declared.editing.Way.TheVariants.{Reading, Writing}
use Rattle.f66_tree.specs.declared.editing.Turn.TheVariants.{Ready, RecordDone}
use Rattle.f66_tree.specs.declared.editing.Mark.TheVariants.{Due, Complete}
use Rattle.f66_tree.specs.Fields.{Step, Takes, Blanks, Chars, Slash, has_item}
use Rattle.f66_tree.specs.Turns.{Hand, ◌>>=◌, blanked, lettered, suits, hand_at, find, next_turn, line_in_hand, end_turn, last_turn, is_over}
use Rattle.f66_tree.specs.Editing.{Files, Break, with_records, mismatch, exchanged, next_record, OnRecords, seek, cycled, to_item, changed, arrived, followed, seek_end, to_end, followed_end}

abbrev Falsely : Bool → Type 0
Falsely false = Unit {0}
Falsely true = ⊥

false_true : false ≡ true → ⊥
false_true h = subst Falsely h tt

-- where an edit takes an item, what comes at the end of the edits is never asked
pub same_past : (way : Way) (cycle : List Step) (k : Kind) (rest : List Step) (p q : OnRecords) (line : List ℕ) (f : Files)
    → has_item rest ≡ true → seek way cycle k rest p line f ≡ seek way cycle k rest q line f
same_past way cycle k [] p q line f e = absurd (false_true e)
same_past way cycle k (Takes j w ∷ rest) p q line f e = refl
same_past way cycle k (Blanks n ∷ rest) p q line f e = elim (blanked way n line) as (λ r. (with_records f r >>= λ l. seek way cycle k rest p l f) ≡ (with_records f r >>= λ l. seek way cycle k rest q l f)) [ Ok l ↦ same_past way cycle k rest p q l f e | Err t ↦ refl ]
same_past way cycle k (Chars text ∷ rest) p q line f e = elim (lettered way text line) as (λ r. (with_records f r >>= λ l. seek way cycle k rest p l f) ≡ (with_records f r >>= λ l. seek way cycle k rest q l f)) [ Ok l ↦ same_past way cycle k rest p q l f e | Err t ↦ refl ]
same_past way cycle k (Slash ∷ rest) p q line f e = elim (exchanged way line f) as (λ r. (with_records f r >>= λ x. seek way cycle k rest p x.0 x.1) ≡ (with_records f r >>= λ x. seek way cycle k rest q x.0 x.1)) [ Ok x ↦ same_past way cycle k rest p q x.0 x.1 e | Err t ↦ refl ]

-- a record is complete
exchange_is : (way : Way) (cycle : List Step) (k : Kind) (rest : List Step) (line : List ℕ) (f : Files)
    → (with_records f (exchanged way line f) >>= λ x. seek way cycle k rest (cycled way cycle k) x.0 x.1) ≡ (changed (hand_at way rest cycle line Complete) f >>= λ x. to_item x.0 k x.1)
exchange_is Writing cycle k rest line f = refl
exchange_is Reading cycle k rest line f = go (next_record f.unread f)
  where
    go : (r : Result (List ℕ × Files) Trap) → (with_records f r >>= λ x. seek Reading cycle k rest (cycled Reading cycle k) x.0 x.1)
        ≡ (with_records f (arrived (hand_at Reading rest cycle line Complete) r) >>= λ x. to_item x.0 k x.1)
    go (Ok x) = refl
    go (Err e) = refl

seek_is : (way : Way) (cycle : List Step) (k : Kind) (rest : List Step) (line : List ℕ) (f : Files)
    → seek way cycle k rest (cycled way cycle k) line f ≡ followed k f (find way cycle k rest line)
seek_is way cycle k [] line f = go (has_item cycle) refl
  where
    go : (b : Bool) → has_item cycle ≡ b
        → (if b then (with_records f (exchanged way line f) >>= λ x. seek way cycle k cycle mismatch x.0 x.1) else mismatch line f)
        ≡ followed k f (if b then Ok (RecordDone, hand_at way cycle cycle line Complete) else Err FormatMismatch)
    go false e = refl
    go true e = step (with_records f (exchanged way line f)) ∙ exchange_is way cycle k cycle line f
      where
        step : (r : Result (List ℕ × Files) Break) → (r >>= λ x. seek way cycle k cycle mismatch x.0 x.1) ≡ (r >>= λ x. seek way cycle k cycle (cycled way cycle k) x.0 x.1)
        step (Ok x) = same_past way cycle k cycle mismatch (cycled way cycle k) x.0 x.1 e
        step (Err t) = refl
seek_is way cycle k (Takes j w ∷ rest) line f = elim (suits k j) as (λ b. (if b then Ok (hand_at way rest cycle line (Due j w), f) else mismatch line f) ≡ followed k f (if b then Ok (Ready j, hand_at way rest cycle line (Due j w)) else Err FormatMismatch)) [ true ↦ refl | false ↦ refl ]
seek_is way cycle k (Blanks n ∷ rest) line f = elim (blanked way n line) as (λ r. (with_records f r >>= λ l. seek way cycle k rest (cycled way cycle k) l f) ≡ followed k f (r >>= λ l. find way cycle k rest l)) [ Ok l ↦ seek_is way cycle k rest l f | Err t ↦ refl ]
seek_is way cycle k (Chars text ∷ rest) line f = elim (lettered way text line) as (λ r. (with_records f r >>= λ l. seek way cycle k rest (cycled way cycle k) l f) ≡ followed k f (r >>= λ l. find way cycle k rest l)) [ Ok l ↦ seek_is way cycle k rest l f | Err t ↦ refl ]
seek_is way cycle k (Slash ∷ rest) line f = exchange_is way cycle k rest line f

-- what the Runner does, one turn after the other, is what the definition says at once
pub to_item_is : (h : Hand) (k : Kind) (f : Files) → to_item h k f ≡ followed k f (next_turn h k)
to_item_is h k f = seek_is h.way h.cycle k h.rest (line_in_hand h.way h.mark h.line) f

-- ---- the same at the end ----

end_is : (way : Way) (cycle : List Step) (rest : List Step) (line : List ℕ) (f : Files) → seek_end way cycle rest line f ≡ followed_end f (end_turn way cycle rest line)
end_is Writing cycle [] line f = refl
end_is Reading cycle [] line f = refl
end_is Writing cycle (Takes j w ∷ rest) line f = refl
end_is Reading cycle (Takes j w ∷ rest) line f = refl
end_is way cycle (Blanks n ∷ rest) line f = elim (blanked way n line) as (λ r. (with_records f r >>= λ l. seek_end way cycle rest l f) ≡ followed_end f (r >>= λ l. end_turn way cycle rest l)) [ Ok l ↦ end_is way cycle rest l f | Err t ↦ refl ]
end_is way cycle (Chars text ∷ rest) line f = elim (lettered way text line) as (λ r. (with_records f r >>= λ l. seek_end way cycle rest l f) ≡ followed_end f (r >>= λ l. end_turn way cycle rest l)) [ Ok l ↦ end_is way cycle rest l f | Err t ↦ refl ]
end_is Writing cycle (Slash ∷ rest) line f = refl
end_is Reading cycle (Slash ∷ rest) line f = go (next_record f.unread f)
  where
    go : (r : Result (List ℕ × Files) Trap) → (with_records f r >>= λ x. seek_end Reading cycle rest x.0 x.1)
        ≡ (with_records f (arrived (hand_at Reading rest cycle line Complete) r) >>= λ x. to_end x.0 x.1)
    go (Ok x) = refl
    go (Err e) = refl

pub to_end_is : (h : Hand) (f : Files) → is_over h.mark ≡ false → to_end h f ≡ followed_end f (last_turn h)
to_end_is h f open_still =
    end_is h.way h.cycle h.rest (line_in_hand h.way h.mark h.line) f
    ∙ ap (λ b. followed_end f (if b then Ok (None, h) else end_turn h.way h.cycle h.rest (line_in_hand h.way h.mark h.line))) (sym open_still)
