-- How the words are read: one after the other, with what they have said so far.
use Rattle.std.specs.Prelude.{ℕ, Bool, true, false, List, [], ◌∷◌, codes, Some, None, if◌then◌else◌, fold, take, drop}
use Rattle.std.specs.Str.{bytes_eq}
use Rattle.std.specs.declared.option.Option.{Option}
use Rattle.std.specs.Borrow.{Bor}
use Rattle.eft_top.specs.declared.words.Asked.{Asked}
use Rattle.eft_top.specs.declared.words.Asked.TheVariants.{Run as AskRun, Cards as AskCards, Listing as AskListing, Deck as AskDeck}
use Rattle.eft_top.specs.declared.words.Stage.{Stage}
use Rattle.eft_top.specs.declared.words.Stage.TheVariants.{Open, Steps, Closed, Wrong}
use Rattle.eft_top.specs.declared.words.Reading as memory
use Rattle.eft_top.specs.declared.words.Wanted as wanted
use Rattle.eft_top.specs.declared.words.NamedText as named
use Rattle.ground.specs.declared.token.Dialect.{Dialect}
use Rattle.ground.specs.declared.token.Dialect.TheVariants.{Ratfor, Efl}
use Rattle.eft_top.specs.Words.{Command, Run, Cards, Listing, Deck, steps_in, is_option, limit_by}

-- what may come: options and operands, the number of --steps, operands alone, or nothing right; and what was said
pub record Reading : Type 0 where
  pub stage : Stage
  pub steps : Option ℕ
  pub count : Bool
  pub first : Option (List ℕ)
  pub second : Option (List ℕ)

abbrev pub start : Reading
start = record { stage = Open; steps = None; count = false; first = None; second = None }

abbrev pub at_stage : Stage → Reading → Reading
at_stage stage r = record { stage = stage; steps = r.steps; count = r.count; first = r.first; second = r.second }

-- there are two operands at most
abbrev pub with_operand : Option (List ℕ) → Option (List ℕ) → List ℕ → Reading → Reading
with_operand None second word r = record { stage = r.stage; steps = r.steps; count = r.count; first = Some word; second = r.second }
with_operand (Some first) None word r = record { stage = r.stage; steps = r.steps; count = r.count; first = r.first; second = Some word }
with_operand (Some first) (Some second) word r = at_stage Wrong r

-- --steps stands at most once
abbrev pub with_steps : Option ℕ → Option ℕ → Reading → Reading
with_steps (Some n) None r = record { stage = Open; steps = Some n; count = r.count; first = r.first; second = r.second }
with_steps _ _ r = at_stage Wrong r

-- and so does --count
abbrev pub with_count : Bool → Reading → Reading
with_count true r = at_stage Wrong r
with_count false r = record { stage = r.stage; steps = r.steps; count = true; first = r.first; second = r.second }

abbrev pub with_word : List ℕ → Reading → Reading
with_word word r =
    if bytes_eq word (codes "--") then at_stage Closed r
    else (if bytes_eq word (codes "--steps") then at_stage Steps r
    else (if bytes_eq (take 8 word) (codes "--steps=") then with_steps (steps_in (drop 8 word)) r.steps r
    else (if bytes_eq word (codes "--count") then with_count r.count r
    else (if is_option word then at_stage Wrong r else with_operand r.first r.second word r))))

abbrev pub read_at : Stage → List ℕ → Reading → Reading
read_at Open word r = with_word word r
read_at Steps word r = with_steps (steps_in word) r.steps r
read_at Closed word r = with_operand r.first r.second word r
read_at Wrong word r = r

abbrev pub read : Reading → List ℕ → Reading
read r word = read_at r.stage word r

-- ---- the end ----

-- one operand or two, the number of --steps, and whether --count stands
pub record Wanted : Type 0 where
  pub steps : Option ℕ
  pub count : Bool
  pub first : List ℕ
  pub second : Option (List ℕ)

abbrev pub operands : Option ℕ → Bool → Option (List ℕ) → Option (List ℕ) → Option Wanted
operands steps count None second = None
operands steps count (Some first) second = Some (record { steps = steps; count = count; first = first; second = second })

abbrev pub asked_at : Stage → Reading → Option Wanted
asked_at Open r = operands r.steps r.count r.first r.second
asked_at Closed r = operands r.steps r.count r.first r.second
asked_at _ r = None

abbrev pub asked : Reading → Option Wanted
asked r = asked_at r.stage r

abbrev pub language_of : List ℕ → Option Dialect
language_of word = if bytes_eq word (codes "ratfor") then Some Ratfor else (if bytes_eq word (codes "efl") then Some Efl else None)

-- a text: its language is known, and its file has a name
pub record NamedText : Type 0 where
  pub language : Dialect
  pub file : List ℕ

abbrev pub in_language : List ℕ → Option Dialect → Option NamedText
in_language file None = None
in_language file (Some language) = Some (record { language = language; file = file })

abbrev pub text_by : List ℕ → Option (List ℕ) → Option NamedText
text_by word None = None
text_by word (Some file) = if bytes_eq file [] then None else in_language file (language_of word)

abbrev pub text_in : Wanted → Option NamedText
text_in w = text_by w.first w.second

abbrev pub run_by : Option ℕ → Bool → Option NamedText → Option Command
run_by steps count None = None
run_by steps count (Some t) = Some (Run (limit_by steps) count t.language t.file)

abbrev pub run_of : Option Wanted → Option Command
run_of None = None
run_of (Some w) = run_by w.steps w.count (text_in w)

-- a text that is not run has no options
abbrev pub plain_by : Option ℕ → Bool → Option NamedText → Option NamedText
plain_by None false t = t
plain_by _ _ t = None

abbrev pub plain_text : Option Wanted → Option NamedText
plain_text None = None
plain_text (Some w) = plain_by w.steps w.count (text_in w)

abbrev pub cards_of : Option NamedText → Option Command
cards_of None = None
cards_of (Some t) = Some (Cards t.language t.file)

abbrev pub listing_of : Option NamedText → Option Command
listing_of None = None
listing_of (Some t) = Some (Listing t.language t.file)

-- a deck has no language, and no counts
abbrev pub deck_by : Option ℕ → Bool → List ℕ → Option (List ℕ) → Option Command
deck_by steps false file None = if bytes_eq file [] then None else Some (Deck (limit_by steps) file)
deck_by steps _ file _ = None

abbrev pub deck_of : Option Wanted → Option Command
deck_of None = None
deck_of (Some w) = deck_by w.steps w.count w.first w.second

abbrev pub command_of : List (List ℕ) → Option Command
command_of [] = None
command_of (command ∷ rest) =
    if bytes_eq command (codes "run") then run_of (asked (fold read start rest))
    else (if bytes_eq command (codes "cards") then cards_of (plain_text (asked (fold read start rest)))
    else (if bytes_eq command (codes "listing") then listing_of (plain_text (asked (fold read start rest)))
    else (if bytes_eq command (codes "deck") then deck_of (asked (fold read start rest)) else None)))

-- ---- in memory ----

abbrev pub text_of : Option (Bor (List ℕ)) → Option (List ℕ)
text_of None = None
text_of (Some text) = Some text.now

abbrev pub reading_of : memory.Reading → Reading
reading_of r = record { stage = r.stage; steps = r.steps; count = r.count; first = text_of r.first; second = text_of r.second }

abbrev pub wanted_of : wanted.Wanted → Wanted
wanted_of w = record { steps = w.steps; count = w.count; first = w.first.now; second = text_of w.second }

abbrev pub named_of : named.NamedText → NamedText
named_of t = record { language = t.language; file = t.file.now }

-- the command that the program works with
abbrev pub asked_command : Asked → Command
asked_command (AskRun steps count language file) = Run steps count language file.now
asked_command (AskCards language file) = Cards language file.now
asked_command (AskListing language file) = Listing language file.now
asked_command (AskDeck steps file) = Deck steps file.now
