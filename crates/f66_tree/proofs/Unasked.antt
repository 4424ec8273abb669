-- Records of input that editing does not ask for. A step over a tape with more records behind does the same with the records
-- that both have, unless it asks for one more where the shorter tape has none.
use Rattle.std.proofs.Common.{◌≡◌, ℕ, Bool, true, false, List, [], ◌∷◌, ◌++◌, length, Result, Ok, Err, refl, sym, ap, subst}
use Rattle.std.specs.Prelude.{if◌then◌else◌, nat_le, ⊤}
use Rattle.ground.specs.declared.trap.Trap.{Trap}
use Rattle.ground.specs.declared.trap.Trap.TheVariants.{EndOfInput, LongRecord}
use Rattle.ground.specs.declared.value.Kind.{Kind}
use Rattle.ground.specs.Content.{Content}
use Rattle.f66_tree.specs.declared.editing.Way.{Way}
use Rattle.f66_tree.specs.declared.editing.Way.TheVariants.{Reading, Writing}
use Rattle.f66_tree.specs.declared.editing.Mark.TheVariants.{Due}
use Rattle.f66_tree.specs.Fields.{Step, Takes, Blanks, Chars, Slash, Fields, has_item}
use Rattle.f66_tree.specs.Turns.{Hand, ◌>>=◌, blanked, lettered, suits, hand_at, line_in_hand}
use Rattle.f66_tree.specs.Editing.{Files, Break, with_records, OnRecords, mismatch, next_record, exchanged, seek, cycled, to_item, shut, seek_end, to_end}
use Rattle.f66_tree.specs.World.{Record, Tape, files_of, tape_of, Try, Yields, Traps, Fails, Breaks, then_try}
use Rattle.f66_tree.specs.Records.{tape_placed, read_begun, opened, put_by, handed, put, take_by, take}
use Rattle.f66_tree.specs.FirstLaws.{longer, Unasked, SameTake, RecordsUnasked}

module _ (more : List Record) where
  abbrev behind : Files → Files
  behind f = record { unread = f.unread ++ more; written = f.written }

  -- a trap comes with the same records behind those by then
  abbrev SparesTrap : {A : Type 0} → Trap → Files → Result (A × Files) Break → Type 0
  SparesTrap EndOfInput f r = ⊤
  SparesTrap t f r = r ≡ Err (t, behind f)

  abbrev Spares : {A : Type 0} → Result (A × Files) Break → Result (A × Files) Break → Type 0
  Spares (Ok x) r = r ≡ Ok (x.0, behind x.1)
  Spares (Err e) r = SparesTrap e.0 e.1 r

  trap_spares : (A : Type 0) (t : Trap) (f : Files) → SparesTrap {A = A} t f (Err (t, behind f))
  trap_spares A EndOfInput f = tt
  trap_spares A _ f = refl

  trap_bind : (t : Trap) (f : Files) (r : Result (List ℕ × Files) Break) (g : List ℕ × Files → Result (Hand × Files) Break) → SparesTrap t f r → SparesTrap t f (r >>= g)
  trap_bind EndOfInput f r g h = tt
  trap_bind _ f r g h = ap (λ q. q >>= g) h

  bind_line : (f : Files) (r : Result (List ℕ) Trap) (g1 g2 : List ℕ → Result (Hand × Files) Break) → ((line : List ℕ) → Spares (g1 line) (g2 line)) → Spares (with_records f r >>= g1) (with_records (behind f) r >>= g2)
  bind_line f (Ok line) g1 g2 h = h line
  bind_line f (Err t) g1 g2 h = trap_spares Hand t f

  bind_both : (r1 r2 : Result (List ℕ × Files) Break) (g : List ℕ × Files → Result (Hand × Files) Break) → Spares r1 r2 → ((line : List ℕ) (f : Files) → Spares (g (line, f)) (g (line, behind f))) → Spares (r1 >>= g) (r2 >>= g)
  bind_both (Ok x) r2 g h k = subst (λ q. Spares (g x) (q >>= g)) (sym h) (k x.0 x.1)
  bind_both (Err e) r2 g h k = trap_bind e.0 e.1 r2 g h

  fetch_spares : (rs : List Record) (f : Files) → Spares (with_records f (next_record rs f)) (with_records (behind f) (next_record (rs ++ more) (behind f)))
  fetch_spares [] f = tt
  fetch_spares (r ∷ rs) f = fits (nat_le (length r) 65535)
    where
      fits : (b : Bool) → Spares (with_records f (if b then Ok (r, record f { unread = rs }) else Err LongRecord)) (with_records (behind f) (if b then Ok (r, record (behind f) { unread = rs ++ more }) else Err LongRecord))
      fits true = refl
      fits false = refl

  exchange_spares : (way : Way) (line : List ℕ) (f : Files) → Spares (with_records f (exchanged way line f)) (with_records (behind f) (exchanged way line (behind f)))
  exchange_spares Writing line f = refl
  exchange_spares Reading line f = fetch_spares f.unread f

  abbrev OnwardSpares : OnRecords → Type 0
  OnwardSpares past = (line : List ℕ) (f : Files) → Spares (past line f) (past line (behind f))

  seek_spares : (way : Way) (cycle : List Step) (k : Kind) (rest : List Step) (past : OnRecords) → OnwardSpares past → OnwardSpares (seek way cycle k rest past)
  seek_spares way cycle k [] past p line f = p line f
  seek_spares way cycle k (Takes j w ∷ rest) past p line f = by_type (suits k j)
    where
      by_type : (b : Bool) → Spares (if b then Ok (hand_at way rest cycle line (Due j w), f) else mismatch line f) (if b then Ok (hand_at way rest cycle line (Due j w), behind f) else mismatch line (behind f))
      by_type true = refl
      by_type false = refl
  seek_spares way cycle k (Blanks n ∷ rest) past p line f = bind_line f (blanked way n line) (λ line1. seek way cycle k rest past line1 f) (λ line1. seek way cycle k rest past line1 (behind f)) (λ line1. seek_spares way cycle k rest past p line1 f)
  seek_spares way cycle k (Chars text ∷ rest) past p line f = bind_line f (lettered way text line) (λ line1. seek way cycle k rest past line1 f) (λ line1. seek way cycle k rest past line1 (behind f)) (λ line1. seek_spares way cycle k rest past p line1 f)
  seek_spares way cycle k (Slash ∷ rest) past p line f =
      bind_both (with_records f (exchanged way line f)) (with_records (behind f) (exchanged way line (behind f))) (λ x. seek way cycle k rest past x.0 x.1) (exchange_spares way line f) (λ line1 f1. seek_spares way cycle k rest past p line1 f1)

  cycle_spares : (way : Way) (cycle : List Step) (k : Kind) → OnwardSpares (cycled way cycle k)
  cycle_spares way cycle k line f = by_items (has_item cycle)
    where
      by_items : (b : Bool) → Spares (if b then (with_records f (exchanged way line f) >>= λ x. seek way cycle k cycle mismatch x.0 x.1) else mismatch line f) (if b then (with_records (behind f) (exchanged way line (behind f)) >>= λ x. seek way cycle k cycle mismatch x.0 x.1) else mismatch line (behind f))
      by_items true =
          bind_both (with_records f (exchanged way line f)) (with_records (behind f) (exchanged way line (behind f))) (λ x. seek way cycle k cycle mismatch x.0 x.1) (exchange_spares way line f)
          (λ line1 f1. seek_spares way cycle k cycle mismatch (λ line2 f2. refl) line1 f1)
      by_items false = refl

  item_spares : (hand : Hand) (k : Kind) (f : Files) → Spares (to_item hand k f) (to_item hand k (behind f))
  item_spares hand k f = seek_spares hand.way hand.cycle k hand.rest (cycled hand.way hand.cycle k) (cycle_spares hand.way hand.cycle k) (line_in_hand hand.way hand.mark hand.line) f

  shut_spares : (way : Way) (cycle : List Step) → OnwardSpares (shut way cycle)
  shut_spares Writing cycle line f = refl
  shut_spares Reading cycle line f = refl

  seek_end_spares : (way : Way) (cycle rest : List Step) → OnwardSpares (seek_end way cycle rest)
  seek_end_spares way cycle [] line f = shut_spares way cycle line f
  seek_end_spares way cycle (Takes j w ∷ rest) line f = shut_spares way cycle line f
  seek_end_spares way cycle (Blanks n ∷ rest) line f = bind_line f (blanked way n line) (λ line1. seek_end way cycle rest line1 f) (λ line1. seek_end way cycle rest line1 (behind f)) (λ line1. seek_end_spares way cycle rest line1 f)
  seek_end_spares way cycle (Chars text ∷ rest) line f = bind_line f (lettered way text line) (λ line1. seek_end way cycle rest line1 f) (λ line1. seek_end way cycle rest line1 (behind f)) (λ line1. seek_end_spares way cycle rest line1 f)
  seek_end_spares way cycle (Slash ∷ rest) line f = bind_both (with_records f (exchanged way line f)) (with_records (behind f) (exchanged way line (behind f))) (λ x. seek_end way cycle rest x.0 x.1) (exchange_spares way line f) (λ line1 f1. seek_end_spares way cycle rest line1 f1)

  end_spares : (hand : Hand) (f : Files) → Spares (to_end hand f) (to_end hand (behind f))
  end_spares hand f = seek_end_spares hand.way hand.cycle hand.rest (line_in_hand hand.way hand.mark hand.line) f

  placed_unasked : (t : Tape) (r1 r2 : Result (Hand × Files) Break) → Spares r1 r2 → Unasked more (tape_placed t r1) (tape_placed (longer more t) r2)
  placed_unasked t (Ok x) r2 h = ap (tape_placed (longer more t)) h
  placed_unasked t (Err e) r2 h = by_trap e.0 e.1 h
    where
      by_trap : (trap : Trap) (f : Files) → SparesTrap trap f r2 → Unasked more (Breaks trap (tape_of t.hand f)) (tape_placed (longer more t) r2)
      by_trap EndOfInput f q = tt
      by_trap _ f q = ap (tape_placed (longer more t)) q

  opened_unasked : (way : Way) (fs : Fields) (t : Tape) → Unasked more (opened way fs t) (opened way fs (longer more t))
  opened_unasked Reading fs t = first t.unread
    where
      first : (rs : List Record) → Unasked more (read_begun fs t (next_record rs (files_of t))) (read_begun fs (longer more t) (next_record (rs ++ more) (behind (files_of t))))
      first [] = tt
      first (r ∷ rs) = fits (nat_le (length r) 65535)
        where
          fits : (b : Bool) → Unasked more (read_begun fs t (if b then Ok (r, record (files_of t) { unread = rs }) else Err LongRecord)) (read_begun fs (longer more t) (if b then Ok (r, record (behind (files_of t)) { unread = rs ++ more }) else Err LongRecord))
          fits true = refl
          fits false = refl
  opened_unasked Writing fs t = refl

  put_unasked : (c : Content) (t : Tape) → Unasked more (put c t) (put c (longer more t))
  put_unasked c t = after (put_by t.hand.mark c t.hand)
    where
      by_trap : (e : Trap) → Unasked more (Breaks e t) (Breaks e (longer more t))
      by_trap EndOfInput = tt
      by_trap _ = refl

      after : (o : Try Hand) → Unasked more (handed t o) (handed (longer more t) o)
      after (Yields h) = refl
      after (Traps e) = by_trap e
      after Fails = refl

  take_unasked : (t : Tape) → SameTake more (take t) (take (longer more t))
  take_unasked t = after (take_by t.hand.mark t.hand)
    where
      after : (o : Try (Content × Hand)) → SameTake more (then_try o (λ x. Yields (x.0, tape_of x.1 (files_of t)))) (then_try o (λ x. Yields (x.0, tape_of x.1 (behind (files_of t)))))
      after (Yields x) = refl
      after (Traps e) = refl
      after Fails = refl

pub records_unasked : RecordsUnasked
records_unasked = record {
  opens = λ more way fs t. opened_unasked more way fs t;
  dues = λ more k t. placed_unasked more t (to_item t.hand k (files_of t)) (to_item t.hand k (behind more (files_of t))) (item_spares more t.hand k (files_of t));
  puts = λ more c t. put_unasked more c t;
  takes = λ more t. take_unasked more t;
  closes = λ more t. placed_unasked more t (to_end t.hand (files_of t)) (to_end t.hand (behind more (files_of t))) (end_spares more t.hand (files_of t));
}
