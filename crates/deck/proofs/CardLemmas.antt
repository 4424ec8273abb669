-- The cards of a statement that is written give the statement again.
use Rattle.std.proofs.Common.{◌≡◌, ℕ, zero, suc, ◌+◌, ◌-◌, ◌≤◌, Bool, true, false, cond, List, [], ◌∷◌, ◌++◌, length, map, refl, sym, ap, ◌∙◌, arith, append_assoc}
use Rattle.std.specs.Prelude.{nat_lt, ◌==◌}
use Rattle.std.specs.List.{list_all}
use Rattle.std.proofs.lemmas.Bool.{and_parts, and_from, ne_eqb}
use Rattle.std.proofs.lemmas.List.{length-append}
use Rattle.card_writer.specs.Cards.{mark, continuation_front}
use Rattle.card_reader.specs.declared.cards.CardKind.{CardKind}
use Rattle.card_reader.specs.declared.cards.CardKind.TheVariants.{Continuation}
use Rattle.card_reader.specs.declared.counts.Counts.{Counts}
use Rattle.card_reader.specs.Cards.{columns, card, is_printable, kind_of}
use Rattle.card_reader.specs.Reading.{Reading, goes_on, taken, read_cards}
use Rattle.deck.specs.Written.{breaks, blanks, filled, first_piece}
use Rattle.deck.proofs.LineLemmas.{lines_from, all_append, mark_printable}

-- ---- a card is its line and blanks ----

columns_blank : (left : ℕ) → columns left [] ≡ blanks left
unfolding columns
columns_blank zero = refl
columns_blank (suc left) = ap (λ (l : List ℕ). 32 ∷ l) (columns_blank left)

columns_front : (p : List ℕ) (left : ℕ) → columns (length p + left) p ≡ p ++ blanks left
unfolding columns
columns_front [] left = ap (λ (n : ℕ). columns n []) (let k : 0 + left ≡ left = omega arith in k) ∙ columns_blank left
columns_front (c ∷ p) left =
    let k : length (c ∷ p) + left ≡ suc (length p + left) = omega arith in
    ap (λ (n : ℕ). columns n (c ∷ p)) k ∙ ap (λ (l : List ℕ). c ∷ l) (columns_front p left)

card_is : (front q : List ℕ) (left : ℕ) → length front ≡ 6 → length q + left ≡ 66 → card (front ++ q) ≡ front ++ (q ++ blanks left)
card_is front q left six size =
    let k : length (front ++ q) + left ≡ 72 = omega (arith, length-append front q, six, size) in
    ap (λ (n : ℕ). columns n (front ++ q)) (sym k) ∙ columns_front (front ++ q) left ∙ append_assoc front q (blanks left)

length-blanks : (n : ℕ) → length (blanks n) ≡ n
length-blanks zero = refl
length-blanks (suc n) = let further = length-blanks n in omega (arith, further)

blanks_printable : (n : ℕ) → list_all is_printable (blanks n) ≡ true
blanks_printable zero = refl
blanks_printable (suc n) = blanks_printable n

-- ---- the cards of one statement ----

-- A front of six columns, what its card says with the piece behind it, and what that makes of the cards that follow
pub record Takes (front : List ℕ) (wrap : List ℕ → Reading → Reading) (fits : List ℕ → Type 0) (left : ℕ) (c : Counts) (n : ℕ) (more : ℕ) (next : Counts) : Type 0 where
  pub size : length front ≡ 6
  pub step : (piece : List ℕ) (cards : List (List ℕ)) → length piece ≡ 66 → list_all is_printable piece ≡ true → fits piece → read_cards left c n ((front ++ piece) ∷ cards) ≡ wrap piece (read_cards more next (n + 1) cards)
  pub joins : (p q : List ℕ) (r : Reading) → wrap p (goes_on q r) ≡ wrap (p ++ q) r

-- a continuation card
mark_plain_by : (m : ℕ) (b : Bool) (x : ℕ) → 1 ≤ m → x ≤ 48 → nat_lt m 10 ≡ b → (cond b (48 + m) (55 + m) == x) ≡ false
mark_plain_by m true x h small is = ne_eqb (48 + m) x (λ e. omega (arith, e, h, small))
mark_plain_by m false x h small is = ne_eqb (55 + m) x (λ e. omega (arith, e, h, small))

mark_plain : (m x : ℕ) → 1 ≤ m → x ≤ 48 → (mark m == x) ≡ false
mark_plain m x h small = mark_plain_by m (nat_lt m 10) x h small refl

continuation_kind : (m : ℕ) (piece : List ℕ) → 1 ≤ m → m ≤ 19 → list_all is_printable piece ≡ true → kind_of (continuation_front m ++ piece) ≡ Continuation
continuation_kind m piece low high all =
    let printable : list_all is_printable (continuation_front m ++ piece) ≡ true = and_from (is_printable (mark m)) (list_all is_printable piece) (mark_printable m high) all in
    let not_blank = mark_plain m 32 low (omega arith) in
    let not_zero = mark_plain m 48 low (omega arith) in
    rw (printable, not_blank, not_zero) refl

continuation_takes : (m more n : ℕ) (c : Counts) → 1 ≤ m → m ≤ 19 → Takes (continuation_front m) goes_on (λ piece. Unit {0}) (suc more) c n more c
continuation_takes m more n c low high = record {
  size = refl;
  step = λ piece cards long all fits. ap (λ (k : CardKind). taken k piece (suc more) c n (λ (left : ℕ) (next : Counts). read_cards left next (n + 1) cards)) (continuation_kind m piece low high all);
  joins = λ p q r. ap (λ (t : List ℕ). record { front = t; lines = r.lines; fault = r.fault }) (sym (append_assoc p q r.front));
}

-- ---- the whole statement ----

pub front_only : (front : List ℕ) → front ++ [] ≡ front
front_only [] = refl
front_only (x ∷ front) = ap (λ (l : List ℕ). x ∷ l) (front_only front)

pub cards_read : (text : List ℕ) (front : List ℕ) (wrap : List ℕ → Reading → Reading) (fits : List ℕ → Type 0) (first : ℕ) (c0 : Counts) (n more : ℕ) (c : Counts) → Takes front wrap fits first c0 n more c
    → (q : List ℕ) (left next : ℕ) (rest : List (List ℕ)) → length q + left ≡ 66 → list_all is_printable q ≡ true → list_all is_printable text ≡ true → fits (first_piece q left text)
    → 1 ≤ next → next + breaks left text ≤ 20 → breaks left text ≤ more
    → read_cards first c0 n (map card (lines_from (front ++ q) left next text) ++ rest) ≡ wrap (q ++ filled left text) (read_cards (more - breaks left text) c (n + 1 + breaks left text) rest)
cards_read [] front wrap fits first c0 n more c t q left next rest size here all fit low few enough =
    let long : length (q ++ blanks left) ≡ 66 = omega (arith, length-append q (blanks left), length-blanks left, size) in
    let same : n + 1 ≡ n + 1 + 0 = omega arith in
    let left_same : more ≡ more - 0 = omega arith in
    ap (λ (x : List ℕ). read_cards first c0 n (x ∷ rest)) (card_is front q left t.size size)
    ∙ t.step (q ++ blanks left) rest long (all_append q (blanks left) here (blanks_printable left)) fit
    ∙ ap (λ (k : ℕ). wrap (q ++ blanks left) (read_cards more c k rest)) same ∙ ap (λ (k : ℕ). wrap (q ++ blanks left) (read_cards k c (n + 1 + 0) rest)) left_same
cards_read (x ∷ text) front wrap fits first c0 n more c t q (suc left) next rest size here all fit low few enough =
    let a = and_parts (is_printable x) (list_all is_printable text) all in
    let longer : length (q ++ x ∷ []) + left ≡ 66 = omega (arith, length-append q (x ∷ []), size) in
    ap (λ (l : List ℕ). read_cards first c0 n (map card (lines_from l left next text) ++ rest)) (append_assoc front q (x ∷ []))
    ∙ cards_read text front wrap fits first c0 n more c t (q ++ x ∷ []) left next rest longer (all_append q (x ∷ []) here (and_from (is_printable x) true a.0 refl)) a.1 fit low few enough
    ∙ ap (λ (l : List ℕ). wrap l (read_cards (more - breaks left text) c (n + 1 + breaks left text) rest)) (append_assoc q (x ∷ []) (filled left text))
cards_read (x ∷ text) front wrap fits first c0 n zero c t q zero next rest size here all fit low few enough = absurd (omega (arith, enough))
cards_read (x ∷ text) front wrap fits first c0 n (suc more) c t q zero next rest size here all fit low few enough =
    let a = and_parts (is_printable x) (list_all is_printable text) all in
    let full : length q ≡ 66 = omega (arith, size) in
    let further = cards_read text (continuation_front next) goes_on (λ piece. Unit {0}) (suc more) c (n + 1) more c (continuation_takes next more (n + 1) c low (omega (arith, few))) (x ∷ []) 65 (suc next) rest (omega arith) (and_from (is_printable x) true a.0 refl) a.1 tt (omega arith) (omega (arith, few)) (omega (arith, enough)) in
    let others = map card (lines_from (continuation_front next ++ x ∷ []) 65 (suc next) text) ++ rest in
    let lines : n + 1 + 1 + breaks 65 text ≡ n + 1 + suc (breaks 65 text) = omega arith in
    let lefts : more - breaks 65 text ≡ suc more - suc (breaks 65 text) = omega arith in
    ap (λ (l : List ℕ). read_cards first c0 n (l ∷ (map card (lines_from (continuation_front next ++ x ∷ []) 65 (suc next) text) ++ rest))) (card_is front q 0 t.size size ∙ ap (λ (l : List ℕ). front ++ l) (front_only q))
    ∙ t.step q (map card (lines_from (continuation_front next ++ x ∷ []) 65 (suc next) text) ++ rest) full here fit
    ∙ ap (wrap q) further
    ∙ t.joins q (x ∷ filled 65 text) (read_cards (more - breaks 65 text) c (n + 1 + 1 + breaks 65 text) rest)
    ∙ ap (λ (k : ℕ). wrap (q ++ x ∷ filled 65 text) (read_cards (more - breaks 65 text) c k rest)) lines
    ∙ ap (λ (k : ℕ). wrap (q ++ x ∷ filled 65 text) (read_cards k c (n + 1 + suc (breaks 65 text)) rest)) lefts
