-- The macros of a text, and what a token stands for where their names are replaced.
--
-- A macro has a number, its place in the order of first defines. A name whose number is not in progress stands for its
-- text with that number in progress. The recursion goes down the count of macros that may still be begun, since no more
-- are in progress at once than there are; so it is a function, and a token list has one result. It has no stack: what
-- a stack of texts under way still stands for is a definition of the proof.
use Rattle.std.specs.Prelude.{ℕ, zero, suc, ◌==◌, List, [], ◌∷◌, length, map, position, Option, Some, None, Result, Ok, Err, if◌then◌else◌, slice_get}
use Rattle.std.specs.List.{list_any}
use Rattle.std.specs.Option.{option_map_or}
use Rattle.std.specs.Char.{to_ascii_lowercase}
use Rattle.std.specs.Str.{bytes_eq}
use Rattle.ground.specs.declared.fault.Fault.{Fault}
use Rattle.ground.specs.Faults.{fault_at}
use Rattle.ground.specs.declared.fault.FaultKind.TheVariants.{MacroLoop}
use Rattle.ground.specs.declared.place.Place.{Place}
use Rattle.ground.specs.declared.token.Dialect.{Dialect}
use Rattle.ground.specs.declared.token.Dialect.TheVariants.{Ratfor, Efl}
use Rattle.ground.specs.declared.token.Token.{Token}
use Rattle.ground.specs.declared.token.TokenKind.{TokenKind}
use Rattle.ground.specs.declared.token.TokenKind.TheVariants.{Word}
use Rattle.macro_define.specs.Made.{Made, and_then, counted, put}

-- names and texts, in the order of the first define of each name
abbrev pub Macros : Type 0
Macros = List (List ℕ × List TokenKind)

-- how names are compared: as written in Ratfor, without case in EFL
abbrev pub key : Dialect → List ℕ → List ℕ
key Ratfor name = name
key Efl name = map to_ascii_lowercase name

abbrev pub number_of : Macros → List ℕ → Option ℕ
number_of macros name = position (bytes_eq name) (map (λ m. m.0) macros)

abbrev pub text_of : Macros → ℕ → List TokenKind
text_of macros n = option_map_or (λ m. m.1) (slice_get macros n) []

-- the number of the macro that a token names
abbrev pub macro_of : Dialect → Macros → TokenKind → Option ℕ
macro_of d macros (Word name) = number_of macros (key d name)
macro_of d macros kind = None

module _ (d : Dialect) (macros : Macros) (place : Place) where
  -- What a token of a macro's text makes; it has the place of the use. `replace` says what a macro makes.
  abbrev pub kind_made : (ℕ → Made → Result Made Fault) → TokenKind → Made → Result Made Fault
  kind_made replace kind m = elim (macro_of d macros kind) [ Some n ↦ replace n m | None ↦ put (record { kind = kind; place = place }) m ]

  abbrev pub text_made : (ℕ → Made → Result Made Fault) → List TokenKind → Made → Result Made Fault
  text_made replace [] m = Ok m
  text_made replace (kind ∷ kinds) m = and_then (kind_made replace kind m) (text_made replace kinds)

  -- what the macro of a number makes, where these are in progress and so many may still be begun
  abbrev pub replaced : ℕ → List ℕ → ℕ → Made → Result Made Fault
  replaced zero progress n m = Err (fault_at place MacroLoop)
  replaced (suc free) progress n m =
      if list_any (λ i. i == n) progress
      then Err (fault_at place MacroLoop)
      else and_then (counted place m) (text_made (replaced free (n ∷ progress)) (text_of macros n))

-- what a token of a text makes
abbrev pub token_made : Dialect → Macros → Token → Made → Result Made Fault
token_made d macros t m = kind_made d macros (t.place) (replaced d macros (t.place) (length macros) []) (t.kind) m
