-- Editing over the records: the turns of a READ or WRITE with the records that are put and taken between them.
use Rattle.std.specs.Prelude.{ℕ, zero, suc, List, [], ◌∷◌, ◌++◌, length, Result, Ok, Err, Option, Some, None, nat_le, if◌then◌else◌}
use Rattle.ground.specs.declared.trap.Trap.{Trap}
use Rattle.ground.specs.declared.trap.Trap.TheVariants.{EndOfInput, FormatMismatch, LongRecord}
use Rattle.ground.specs.declared.value.Kind.{Kind}
use Rattle.f66_tree.specs.declared.editing.Way.{Way}
use Rattle.f66_tree.specs.declared.editing.Way.TheVariants.{Reading, Writing}
use Rattle.f66_tree.specs.declared.editing.Turn.{Turn}
use Rattle.f66_tree.specs.declared.editing.Turn.TheVariants.{Ready, RecordDone}
use Rattle.f66_tree.specs.declared.editing.Mark.{Mark}
use Rattle.f66_tree.specs.declared.editing.Mark.TheVariants.{Between, Due, Over}
use Rattle.f66_tree.specs.Fields.{Step, Takes, Blanks, Chars, Slash, Fields, steps, again, has_item}
use Rattle.f66_tree.specs.Turns.{Hand, ◌>>=◌, blanked, lettered, suits, hand_at, line_in_hand, with_record, width_of}

-- the records that are left to read, and those that were written
pub record Files : Type 0 where
  pub unread : List (List ℕ)
  pub written : List (List ℕ)

abbrev pub next_record : List (List ℕ) → Files → Result (List ℕ × Files) Trap
next_record [] f = Err EndOfInput
next_record (r ∷ rs) f = if nat_le (length r) 65535 then Ok (r, record f { unread = rs }) else Err LongRecord

-- a record is complete, and the next one begins
abbrev pub exchanged : Way → List ℕ → Files → Result (List ℕ × Files) Trap
exchanged Writing line f = Ok ([], record f { written = f.written ++ line ∷ [] })
exchanged Reading line f = next_record f.unread f

-- a trap, with the records as they are by then: those that were completed before it stay
abbrev pub Break : Type 0
Break = Trap × Files

abbrev pub with_records : {A : Type 0} → Files → Result A Trap → Result A Break
with_records f (Ok a) = Ok a
with_records f (Err e) = Err (e, f)

abbrev pub OnRecords : Type 0
OnRecords = List ℕ → Files → Result (Hand × Files) Break

-- no edit for the item comes
abbrev pub mismatch : OnRecords
mismatch line f = Err (FormatMismatch, f)

-- to the next edit that takes an item; at the end of the edits it goes as past says
abbrev pub seek : Way → List Step → Kind → List Step → OnRecords → OnRecords
seek way cycle k [] past line f = past line f
seek way cycle k (Takes j w ∷ rest) past line f = if suits k j then Ok (hand_at way rest cycle line (Due j w), f) else mismatch line f
seek way cycle k (Blanks n ∷ rest) past line f = with_records f (blanked way n line) >>= λ line1. seek way cycle k rest past line1 f
seek way cycle k (Chars text ∷ rest) past line f = with_records f (lettered way text line) >>= λ line1. seek way cycle k rest past line1 f
seek way cycle k (Slash ∷ rest) past line f = with_records f (exchanged way line f) >>= λ x. seek way cycle k rest past x.0 x.1

-- control goes back, if an edit there takes an item
abbrev pub cycled : Way → List Step → Kind → OnRecords
cycled way cycle k line f = if has_item cycle then (with_records f (exchanged way line f) >>= λ x. seek way cycle k cycle mismatch x.0 x.1) else mismatch line f

-- all turns up to the one that is ready for an item
abbrev pub to_item : Hand → Kind → Files → Result (Hand × Files) Break
to_item h k f = seek h.way h.cycle k h.rest (cycled h.way h.cycle k) (line_in_hand h.way h.mark h.line) f

abbrev pub arrived : Hand → Result (List ℕ × Files) Trap → Result (Hand × Files) Trap
arrived h (Ok x) = Ok (with_record h x.0, x.1)
arrived h (Err e) = Err e

-- the record of a turn RecordDone goes out, or the next one comes in
abbrev pub changed_by : Way → Hand → Files → Result (Hand × Files) Trap
changed_by Writing h f = Ok (h, record f { written = f.written ++ h.line ∷ [] })
changed_by Reading h f = arrived h (next_record f.unread f)

abbrev pub changed : Hand → Files → Result (Hand × Files) Break
changed h f = with_records f (changed_by h.way h f)

-- one turn, and then all others up to the item
abbrev pub followed : Kind → Files → Result (Turn × Hand) Trap → Result (Hand × Files) Break
followed k f (Err e) = Err (e, f)
followed k f (Ok (Ready j, h)) = Ok (h, f)
followed k f (Ok (RecordDone, h)) = changed h f >>= λ x. to_item x.0 k x.1

abbrev pub shut : Way → List Step → OnRecords
shut Writing cycle line f = Ok (hand_at Writing [] cycle line Over, record f { written = f.written ++ line ∷ [] })
shut Reading cycle line f = Ok (hand_at Reading [] cycle line Over, f)

abbrev pub seek_end : Way → List Step → List Step → OnRecords
seek_end way cycle [] line f = shut way cycle line f
seek_end way cycle (Takes j w ∷ rest) line f = shut way cycle line f
seek_end way cycle (Blanks n ∷ rest) line f = with_records f (blanked way n line) >>= λ line1. seek_end way cycle rest line1 f
seek_end way cycle (Chars text ∷ rest) line f = with_records f (lettered way text line) >>= λ line1. seek_end way cycle rest line1 f
seek_end way cycle (Slash ∷ rest) line f = with_records f (exchanged way line f) >>= λ x. seek_end way cycle rest x.0 x.1

-- all turns where no item is left
abbrev pub to_end : Hand → Files → Result (Hand × Files) Break
to_end h f = seek_end h.way h.cycle h.rest (line_in_hand h.way h.mark h.line) f

-- one answer of finish, and then all others: a RecordDone after which the statement is over has put its record out
abbrev pub finished_by : Way → Mark → Hand → Files → Result (Hand × Files) Break
finished_by Writing Over h f = Ok (h, record f { written = f.written ++ h.line ∷ [] })
finished_by way m h f = changed h f >>= λ x. to_end x.0 x.1

abbrev pub followed_end : Files → Result (Option Turn × Hand) Trap → Result (Hand × Files) Break
followed_end f (Err e) = Err (e, f)
followed_end f (Ok (None, h)) = Ok (h, f)
followed_end f (Ok (Some t, h)) = finished_by h.way h.mark h f

-- ---- the list of edits and record ends for a number of items ----

-- edits and record ends up to the end of the statement, or up to where no edit for an item comes
pub data Listed : Type 0 where
  Ends : Listed
  NoEdit : Listed
  AndEdit : Step → Listed → Listed

-- up to the edit for which no item is left
abbrev pub until_last_item : List Step → (ℕ → Listed) → ℕ → Listed
until_last_item [] more k = more k
until_last_item (Takes j w ∷ ss) more zero = Ends
until_last_item (Takes j w ∷ ss) more (suc k) = AndEdit (Takes j w) (until_last_item ss more k)
until_last_item (Blanks n ∷ ss) more k = AndEdit (Blanks n) (until_last_item ss more k)
until_last_item (Chars text ∷ ss) more k = AndEdit (Chars text) (until_last_item ss more k)
until_last_item (Slash ∷ ss) more k = AndEdit Slash (until_last_item ss more k)

-- at the last parenthesis, with so many items left; each going back takes one of them at least
abbrev pub gone_back : List Step → ℕ → ℕ → Listed
gone_back cycle zero n = Ends
gone_back cycle (suc k) zero = NoEdit
gone_back cycle (suc k) (suc n) = if has_item cycle then AndEdit Slash (until_last_item cycle (λ j. gone_back cycle j n) (suc k)) else NoEdit

-- the edits and record ends for k items
abbrev pub unfolded : Fields → ℕ → Listed
unfolded fs k = until_last_item (steps fs) (λ j. gone_back (steps (again fs)) j k) k

-- an item: its type, and what its edit does at a width to the record in hand
pub record EditedItem : Type 0 where
  pub kind : Kind
  pub act : ℕ → List ℕ → Result (List ℕ) Trap

abbrev pub acted : Hand → EditedItem → Result Hand Trap
acted h i = i.act (width_of h.mark) h.line >>= λ l. Ok (record h { line = l; mark = Between })

-- a whole statement, one item after the other
abbrev pub items_run : List EditedItem → Hand → Files → Result Files Break
items_run [] h f = to_end h f >>= λ x. Ok x.1
items_run (i ∷ is) h f = to_item h i.kind f >>= λ x. with_records x.1 (acted x.0 i) >>= λ h1. items_run is h1 x.1

abbrev pub final : Way → List ℕ → Files → Files
final Writing line f = record f { written = f.written ++ line ∷ [] }
final Reading line f = f

-- a whole statement, by its list
abbrev pub played : Way → Listed → List EditedItem → List ℕ → Files → Result Files Break
played way Ends is line f = Ok (final way line f)
played way NoEdit is line f = Err (FormatMismatch, f)
played way (AndEdit (Takes j w) l) [] line f = Err (FormatMismatch, f)
played way (AndEdit (Takes j w) l) (i ∷ is) line f = if suits i.kind j then (with_records f (i.act w line) >>= λ l1. played way l is l1 f) else Err (FormatMismatch, f)
played way (AndEdit (Blanks n) l) is line f = with_records f (blanked way n line) >>= λ l1. played way l is l1 f
played way (AndEdit (Chars text) l) is line f = with_records f (lettered way text line) >>= λ l1. played way l is l1 f
played way (AndEdit Slash l) is line f = with_records f (exchanged way line f) >>= λ x. played way l is x.0 x.1
