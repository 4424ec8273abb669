-- Editing keeps the records that were written. A step of editing gives a hand with the records after it, or a trap with
-- the records by then; the walk to the next edit only appends to the records, at each slash and where control goes back.
use Rattle.std.proofs.Common.{ℕ, Bool, true, false, List, [], ◌∷◌, length, Result, Ok, Err}
use Rattle.std.specs.Prelude.{if◌then◌else◌, nat_le}
use Rattle.ground.specs.declared.trap.Trap.{Trap}
use Rattle.ground.specs.declared.trap.Trap.TheVariants.{LongRecord}
use Rattle.ground.specs.declared.value.Kind.{Kind}
use Rattle.ground.specs.Content.{Content}
use Rattle.f66_tree.specs.declared.editing.Way.{Way}
use Rattle.f66_tree.specs.declared.editing.Way.TheVariants.{Reading, Writing}
use Rattle.f66_tree.specs.declared.editing.Mark.TheVariants.{Due}
use Rattle.f66_tree.specs.Fields.{Step, Takes, Blanks, Chars, Slash, Fields, has_item}
use Rattle.f66_tree.specs.Turns.{Hand, ◌>>=◌, blanked, lettered, suits, hand_at, line_in_hand}
use Rattle.f66_tree.specs.Editing.{Files, Break, with_records, OnRecords, mismatch, next_record, exchanged, seek, cycled, to_item, shut, seek_end, to_end}
use Rattle.f66_tree.specs.World.{Record, Tape, files_of, tape_of, Try, Yields, Traps, Fails, then_try, AfterMove, IfYields, IsPrefix}
use Rattle.f66_tree.specs.Records.{tape_placed, read_begun, opened, put_by, handed, put, take_by, take}
use Rattle.f66_tree.specs.FirstLaws.{Keeps, RecordsStay}
use Rattle.f66_tree.proofs.Prefixes.{prefix_self, prefix_more}

-- the records are still there after a step, also where it traps
abbrev KeepsAll : {A : Type 0} → List Record → Result (A × Files) Break → Type 0
KeepsAll a (Ok x) = IsPrefix a x.1.written
KeepsAll a (Err e) = IsPrefix a e.1.written

bind_line : (a : List Record) (f : Files) (r : Result (List ℕ) Trap) (g : List ℕ → Result (Hand × Files) Break) → IsPrefix a f.written → ((line : List ℕ) → KeepsAll a (g line)) → KeepsAll a (with_records f r >>= g)
bind_line a f (Ok line) g p h = h line
bind_line a f (Err e) g p h = p

bind_both : (a : List Record) (r : Result (List ℕ × Files) Break) (g : List ℕ × Files → Result (Hand × Files) Break) → KeepsAll a r → ((line : List ℕ) (f : Files) → IsPrefix a f.written → KeepsAll a (g (line, f))) → KeepsAll a (r >>= g)
bind_both a (Ok x) g k h = h x.0 x.1 k
bind_both a (Err e) g k h = k

fetch_keeps : (a : List Record) (rs : List Record) (f : Files) → IsPrefix a f.written → KeepsAll a (with_records f (next_record rs f))
fetch_keeps a [] f h = h
fetch_keeps a (r ∷ rs) f h = fits (nat_le (length r) 65535)
  where
    fits : (b : Bool) → KeepsAll a (with_records f (if b then Ok (r, record f { unread = rs }) else Err LongRecord))
    fits true = h
    fits false = h

exchange_keeps : (a : List Record) (way : Way) (line : List ℕ) (f : Files) → IsPrefix a f.written → KeepsAll a (with_records f (exchanged way line f))
exchange_keeps a Writing line f h = prefix_more line h
exchange_keeps a Reading line f h = fetch_keeps a f.unread f h

abbrev OnwardKeeps : List Record → OnRecords → Type 0
OnwardKeeps a past = (line : List ℕ) (f : Files) → IsPrefix a f.written → KeepsAll a (past line f)

seek_keeps : (a : List Record) (way : Way) (cycle : List Step) (k : Kind) (rest : List Step) (past : OnRecords) → OnwardKeeps a past → OnwardKeeps a (seek way cycle k rest past)
seek_keeps a way cycle k [] past p line f h = p line f h
seek_keeps a way cycle k (Takes j w ∷ rest) past p line f h = by_type (suits k j)
  where
    by_type : (b : Bool) → KeepsAll a (if b then Ok (hand_at way rest cycle line (Due j w), f) else mismatch line f)
    by_type true = h
    by_type false = h
seek_keeps a way cycle k (Blanks n ∷ rest) past p line f h = bind_line a f (blanked way n line) (λ line1. seek way cycle k rest past line1 f) h (λ line1. seek_keeps a way cycle k rest past p line1 f h)
seek_keeps a way cycle k (Chars text ∷ rest) past p line f h = bind_line a f (lettered way text line) (λ line1. seek way cycle k rest past line1 f) h (λ line1. seek_keeps a way cycle k rest past p line1 f h)
seek_keeps a way cycle k (Slash ∷ rest) past p line f h =
    bind_both a (with_records f (exchanged way line f)) (λ x. seek way cycle k rest past x.0 x.1) (exchange_keeps a way line f h) (λ line1 f1 h1. seek_keeps a way cycle k rest past p line1 f1 h1)

cycle_keeps : (a : List Record) (way : Way) (cycle : List Step) (k : Kind) → OnwardKeeps a (cycled way cycle k)
cycle_keeps a way cycle k line f h = by_items (has_item cycle)
  where
    by_items : (b : Bool) → KeepsAll a (if b then (with_records f (exchanged way line f) >>= λ x. seek way cycle k cycle mismatch x.0 x.1) else mismatch line f)
    by_items true =
        bind_both a (with_records f (exchanged way line f)) (λ x. seek way cycle k cycle mismatch x.0 x.1) (exchange_keeps a way line f h)
        (λ line1 f1 h1. seek_keeps a way cycle k cycle mismatch (λ line2 f2 h2. h2) line1 f1 h1)
    by_items false = h

item_keeps : (hand : Hand) (k : Kind) (f : Files) → KeepsAll f.written (to_item hand k f)
item_keeps hand k f =
    seek_keeps f.written hand.way hand.cycle k hand.rest (cycled hand.way hand.cycle k) (cycle_keeps f.written hand.way hand.cycle k) (line_in_hand hand.way hand.mark hand.line) f (prefix_self f.written)

shut_keeps : (a : List Record) (way : Way) (cycle : List Step) → OnwardKeeps a (shut way cycle)
shut_keeps a Writing cycle line f h = prefix_more line h
shut_keeps a Reading cycle line f h = h

seek_end_keeps : (a : List Record) (way : Way) (cycle rest : List Step) → OnwardKeeps a (seek_end way cycle rest)
seek_end_keeps a way cycle [] line f h = shut_keeps a way cycle line f h
seek_end_keeps a way cycle (Takes j w ∷ rest) line f h = shut_keeps a way cycle line f h
seek_end_keeps a way cycle (Blanks n ∷ rest) line f h = bind_line a f (blanked way n line) (λ line1. seek_end way cycle rest line1 f) h (λ line1. seek_end_keeps a way cycle rest line1 f h)
seek_end_keeps a way cycle (Chars text ∷ rest) line f h = bind_line a f (lettered way text line) (λ line1. seek_end way cycle rest line1 f) h (λ line1. seek_end_keeps a way cycle rest line1 f h)
seek_end_keeps a way cycle (Slash ∷ rest) line f h =
    bind_both a (with_records f (exchanged way line f)) (λ x. seek_end way cycle rest x.0 x.1) (exchange_keeps a way line f h) (λ line1 f1 h1. seek_end_keeps a way cycle rest line1 f1 h1)

end_keeps : (hand : Hand) (f : Files) → KeepsAll f.written (to_end hand f)
end_keeps hand f = seek_end_keeps f.written hand.way hand.cycle hand.rest (line_in_hand hand.way hand.mark hand.line) f (prefix_self f.written)

placed_keeps : (t : Tape) (r : Result (Hand × Files) Break) → KeepsAll t.written r → AfterMove (Keeps t) (tape_placed t r)
placed_keeps t (Ok x) h = h
placed_keeps t (Err e) h = h

opened_keeps : (way : Way) (fs : Fields) (t : Tape) → AfterMove (Keeps t) (opened way fs t)
opened_keeps Reading fs t = taken (next_record t.unread (files_of t)) (fetch_keeps t.written t.unread (files_of t) (prefix_self t.written))
  where
    taken : (r : Result (List ℕ × Files) Trap) → KeepsAll t.written (with_records (files_of t) r) → AfterMove (Keeps t) (read_begun fs t r)
    taken (Ok x) h = h
    taken (Err e) h = h
opened_keeps Writing fs t = prefix_self t.written

put_keeps : (c : Content) (t : Tape) → AfterMove (Keeps t) (put c t)
put_keeps c t = after (put_by t.hand.mark c t.hand)
  where
    after : (o : Try Hand) → AfterMove (Keeps t) (handed t o)
    after (Yields h) = prefix_self t.written
    after (Traps e) = prefix_self t.written
    after Fails = tt

take_keeps : (t : Tape) → IfYields (λ x. Keeps t x.1) (take t)
take_keeps t = after (take_by t.hand.mark t.hand)
  where
    after : (o : Try (Content × Hand)) → IfYields (λ (x : Content × Tape). Keeps t x.1) (then_try o (λ x. Yields (x.0, tape_of x.1 (files_of t))))
    after (Yields x) = prefix_self t.written
    after (Traps e) = tt
    after Fails = tt

pub records_stay : RecordsStay
records_stay = record {
  opens = opened_keeps;
  dues = λ k t. placed_keeps t (to_item t.hand k (files_of t)) (item_keeps t.hand k (files_of t));
  puts = put_keeps;
  takes = take_keeps;
  closes = λ t. placed_keeps t (to_end t.hand (files_of t)) (end_keeps t.hand (files_of t));
}
