-- A step with the records never misses: the edit that is found for an item takes and gives contents of the item's type.
use Rattle.std.proofs.Common.{◌≡◌, ℕ, Bool, true, false, List, [], ◌∷◌, Option, Some, None, Result, Ok, Err, refl}
use Rattle.std.specs.Prelude.{is_some, if◌then◌else◌, ⊤}
use Rattle.ground.specs.declared.trap.Trap.{Trap}
use Rattle.ground.specs.declared.value.Kind.{Kind}
use Rattle.ground.specs.declared.value.Kind.TheVariants.{Integer, Logical}
use Rattle.ground.specs.Content.{Content, Whole, Truth}
use Rattle.f66_tree.specs.declared.editing.EditKind.TheVariants as edits
use Rattle.f66_tree.specs.declared.editing.Way.{Way}
use Rattle.f66_tree.specs.declared.editing.Way.TheVariants.{Reading, Writing}
use Rattle.f66_tree.specs.declared.editing.Mark.{Mark}
use Rattle.f66_tree.specs.declared.editing.Mark.TheVariants.{Due}
use Rattle.f66_tree.specs.Fields.{Step, Takes, Blanks, Chars, Slash, Fields, has_item}
use Rattle.f66_tree.specs.Turns.{Hand, ◌>>=◌, blanked, lettered, suits, hand_at, line_in_hand, put_whole, put_truth, put_letter, take_whole, take_truth, take_letter}
use Rattle.f66_tree.specs.Editing.{Files, Break, with_records, OnRecords, mismatch, exchanged, next_record, seek, cycled, to_item, to_end}
use Rattle.f66_tree.specs.World.{Tape, files_of, tape_of, Try, Yields, Traps, Fails, lifted, Move, Moves, Breaks, Misses}
use Rattle.f66_tree.specs.Records.{tape_placed, read_begun, due, put_by, handed, put, take_by, take, closed}
use Rattle.f66_tree.specs.Statements.{opened_by}
use Rattle.f66_tree.proofs.Tries.{IsOfKind, TriesRightly, then_rightly, if_both}

-- a step leaves the records as P says, or traps
abbrev pub MovesRightly : (Tape → Type 0) → Move → Type 0
MovesRightly P (Moves t) = P t
MovesRightly P (Breaks e t) = ⊤
MovesRightly P Misses = ⊥

-- ---- an item is due ----

-- an edit is due that takes an item of this type
abbrev pub Awaits : Kind → Mark → Type 0
Awaits k (Due j w) = suits k j ≡ true
Awaits k _ = ⊥

abbrev Finds : Kind → Result (Hand × Files) Break → Type 0
Finds k (Ok x) = Awaits k x.0.mark
Finds k (Err e) = ⊤

then_finds : {X : Type 0} (k : Kind) (f : Files) (r : Result X Trap) (g : X → Result (Hand × Files) Break) → ((x : X) → Finds k (g x)) → Finds k (with_records f r >>= g)
then_finds k f (Ok x) g h = h x
then_finds k f (Err t) g h = tt

abbrev OnwardFinds : Kind → OnRecords → Type 0
OnwardFinds k past = (line : List ℕ) (f : Files) → Finds k (past line f)

seek_finds : (way : Way) (cycle : List Step) (k : Kind) (rest : List Step) (past : OnRecords) → OnwardFinds k past → OnwardFinds k (seek way cycle k rest past)
seek_finds way cycle k [] past h line f = h line f
seek_finds way cycle k (Takes j w ∷ rest) past h line f = by_type (suits k j) refl
  where
    by_type : (b : Bool) → suits k j ≡ b → Finds k (if b then Ok (hand_at way rest cycle line (Due j w), f) else mismatch line f)
    by_type true e = e
    by_type false e = tt
seek_finds way cycle k (Blanks n ∷ rest) past h line f = then_finds k f (blanked way n line) (λ line1. seek way cycle k rest past line1 f) (λ line1. seek_finds way cycle k rest past h line1 f)
seek_finds way cycle k (Chars text ∷ rest) past h line f = then_finds k f (lettered way text line) (λ line1. seek way cycle k rest past line1 f) (λ line1. seek_finds way cycle k rest past h line1 f)
seek_finds way cycle k (Slash ∷ rest) past h line f = then_finds k f (exchanged way line f) (λ x. seek way cycle k rest past x.0 x.1) (λ x. seek_finds way cycle k rest past h x.0 x.1)

cycled_finds : (way : Way) (cycle : List Step) (k : Kind) → OnwardFinds k (cycled way cycle k)
cycled_finds way cycle k line f =
    if_both (Finds k) (has_item cycle) (with_records f (exchanged way line f) >>= λ x. seek way cycle k cycle mismatch x.0 x.1) (mismatch line f)
    (then_finds k f (exchanged way line f) (λ x. seek way cycle k cycle mismatch x.0 x.1) (λ x. seek_finds way cycle k cycle mismatch (λ line1 f1. tt) x.0 x.1)) tt

pub due_rightly : (k : Kind) (t : Tape) → MovesRightly (λ u. Awaits k u.hand.mark) (due k t)
due_rightly k t = found (to_item t.hand k (files_of t)) (seek_finds t.hand.way t.hand.cycle k t.hand.rest (cycled t.hand.way t.hand.cycle k) (cycled_finds t.hand.way t.hand.cycle k) (line_in_hand t.hand.way t.hand.mark t.hand.line) (files_of t))
  where
    found : (r : Result (Hand × Files) Break) → Finds k r → MovesRightly (λ u. Awaits k u.hand.mark) (tape_placed t r)
    found (Ok x) h = h
    found (Err e) h = tt

-- ---- a content goes, or comes ----

lifted_rightly : {A : Type 0} (r : Result A Trap) → TriesRightly (λ (a : A). ⊤) (lifted r)
lifted_rightly (Ok a) = tt
lifted_rightly (Err t) = tt

put_by_rightly : (k : Kind) (m : Mark) (v : Content) (h : Hand) → Awaits k m → IsOfKind k v → TriesRightly (λ _. ⊤) (put_by m v h)
put_by_rightly Integer (Due edits.Whole w) (Whole n) h e i = lifted_rightly (put_whole h n)
put_by_rightly Integer (Due edits.Letter w) (Whole n) h e i = lifted_rightly (put_letter h n)
put_by_rightly Integer (Due edits.Truth w) (Whole n) h e i = let q : ⊥ = cc in absurd q
put_by_rightly Integer (Due j w) v h e i = absurd i
put_by_rightly Logical (Due edits.Truth w) (Truth b) h e i = lifted_rightly (put_truth h b)
put_by_rightly Logical (Due edits.Whole w) (Truth b) h e i = let q : ⊥ = cc in absurd q
put_by_rightly Logical (Due edits.Letter w) (Truth b) h e i = let q : ⊥ = cc in absurd q
put_by_rightly Logical (Due j w) v h e i = absurd i
put_by_rightly k m v h e i = absurd e

pub put_rightly : (k : Kind) (v : Content) (t : Tape) → Awaits k t.hand.mark → IsOfKind k v → MovesRightly (λ _. ⊤) (put v t)
put_rightly k v t e i = by_hand (put_by t.hand.mark v t.hand) (put_by_rightly k t.hand.mark v t.hand e i)
  where
    by_hand : (r : Try Hand) → TriesRightly (λ _. ⊤) r → MovesRightly (λ _. ⊤) (handed t r)
    by_hand (Yields h) q = tt
    by_hand (Traps e1) q = tt
    by_hand Fails q = q

-- a taken content is of the type that the edit was found for
abbrev TakesKind : Kind → Result (Content × Hand) Trap → Type 0
TakesKind k (Ok x) = IsOfKind k x.0
TakesKind k (Err e) = ⊤

kind_rightly : (k : Kind) (r : Result (Content × Hand) Trap) → TakesKind k r → TriesRightly (λ x. IsOfKind k x.0) (lifted r)
kind_rightly k (Ok x) h = h
kind_rightly k (Err e) h = tt

then_takes : {X : Type 0} (k : Kind) (r : Result X Trap) (g : X → Result (Content × Hand) Trap) → ((x : X) → TakesKind k (g x)) → TakesKind k (r >>= g)
then_takes k (Ok x) g h = h x
then_takes k (Err e) g h = tt

take_by_rightly : (k : Kind) (m : Mark) (h : Hand) → Awaits k m → TriesRightly (λ x. IsOfKind k x.0) (take_by m h)
take_by_rightly Integer (Due edits.Whole w) h e = kind_rightly Integer _ (then_takes Integer (take_whole h) _ (λ x. tt))
take_by_rightly Integer (Due edits.Letter w) h e = kind_rightly Integer _ (then_takes Integer (take_letter h) _ (λ x. tt))
take_by_rightly Integer (Due edits.Truth w) h e = let q : ⊥ = cc in absurd q
take_by_rightly Logical (Due edits.Truth w) h e = kind_rightly Logical _ (then_takes Logical (take_truth h) _ (λ x. tt))
take_by_rightly Logical (Due edits.Whole w) h e = let q : ⊥ = cc in absurd q
take_by_rightly Logical (Due edits.Letter w) h e = let q : ⊥ = cc in absurd q
take_by_rightly k m h e = absurd e

pub take_rightly : (k : Kind) (t : Tape) → Awaits k t.hand.mark → TriesRightly (λ x. IsOfKind k x.0) (take t)
take_rightly k t e = then_rightly (λ x. IsOfKind k x.0) (λ x. IsOfKind k x.0) (take_by t.hand.mark t.hand) (λ x. Yields (x.0, tape_of x.1 (files_of t))) (take_by_rightly k t.hand.mark t.hand e) (λ x h. h)

-- ---- a statement begins, and ends ----

begun_rightly : (fs : Fields) (t : Tape) (r : Result (List ℕ × Files) Trap) → MovesRightly (λ _. ⊤) (read_begun fs t r)
begun_rightly fs t (Ok x) = tt
begun_rightly fs t (Err e) = tt

pub opened_rightly : (way : Way) (o : Option Fields) → is_some o ≡ true → (t : Tape) → MovesRightly (λ _. ⊤) (opened_by way o t)
opened_rightly way None e t = let q : ⊥ = cc in absurd q
opened_rightly Reading (Some fs) e t = begun_rightly fs t (next_record t.unread (files_of t))
opened_rightly Writing (Some fs) e t = tt

pub closed_rightly : (t : Tape) → MovesRightly (λ _. ⊤) (closed t)
closed_rightly t = ended (to_end t.hand (files_of t))
  where
    ended : (r : Result (Hand × Files) Break) → MovesRightly (λ _. ⊤) (tape_placed t r)
    ended (Ok x) = tt
    ended (Err e) = tt
