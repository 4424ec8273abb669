-- What happens along a derivation, and the meters that count it against limits.
--
-- A limit counts something of the derivation: how many blocks are open around a token, how many units began, how many tokens one
-- unit has. So a limit is read off the derivation's events, from left to right, up to the token: a production opens, a token is
-- taken, a production closes. A production opens before its first token is taken, so the token that opens a block counts as inside it.
-- The reading at a token depends on the tokens up to it alone, since these settle the derivation so far.
use Rattle.std.specs.Prelude.{◌≡◌, ◌↔◌, ℕ, suc, ◌+◌, min, ◌≤◌, ◌++◌, Option, Some, None, List, [], ◌∷◌}
use Rattle.grammar.specs.declared.language.Event.{Event}
use Rattle.grammar.specs.declared.language.Event.TheVariants.{Open, Take, Close}
use Rattle.grammar.specs.Grammar.{Grammar, Tree, Trees, leaf, node, none, some, Parse, IsProgram}

module _ {Token T N P V : Type 0} (g : Grammar Token T N P V) where
  -- The events of a derivation from left to right, the latest first: a production opens, a token is taken, a production closes.
  abbrev mutual
    pub history : Tree Token P → List (Event T P) → List (Event T P)
    history (leaf t) past = Take (g.terminal_of t) ∷ past
    history (node p cs) past = Close p ∷ history_all cs (Open p ∷ past)

    pub history_all : Trees Token P → List (Event T P) → List (Event T P)
    history_all none past = past
    history_all (some c cs) past = history_all cs (history c past)

  abbrev pub history_of : {ts : List Token} → Parse g ts → List (Event T P)
  history_of parse = Close g.start ∷ history_all parse.trees (Open g.start ∷ [])

-- A meter reads events: its reading at first and after one event more, and the number of the limit that a reading passes.
-- Where a reading passes several, it is the smallest number.
pub record Meter (T P M : Type 0) : Type 0 where
  pub first : M
  pub next : Event T P → M → M
  pub passed : M → Option ℕ

-- One more. A count stays at the greatest number of a machine, above all that a memory holds, so that each limit is far below.
abbrev pub more : ℕ → ℕ
more n = min (n + 1) 18446744073709551615

-- The token, counted from 0, at which a limit is passed.
pub record Passing : Type 0 where
  pub token : ℕ
  pub limit : ℕ

-- how many tokens were taken
abbrev pub taken : {T P : Type 0} → List (Event T P) → ℕ
taken [] = 0
taken (Open p ∷ past) = taken past
taken (Take t ∷ past) = suc (taken past)
taken (Close p ∷ past) = taken past

abbrev pub passing_at : ℕ → Option ℕ → Option Passing
passing_at i None = None
passing_at i (Some k) = Some (record { token = i; limit = k })

abbrev pub earlier_of : Option Passing → Option Passing → Option Passing
earlier_of (Some a) later = Some a
earlier_of None later = later

module _ {T P M : Type 0} (meter : Meter T P M) where
  abbrev pub reading : List (Event T P) → M
  reading [] = meter.first
  reading (e ∷ past) = meter.next e (reading past)

  -- The first token at which the reading passes a limit.
  abbrev pub first_passing : List (Event T P) → Option Passing
  first_passing [] = None
  first_passing (Open p ∷ past) = first_passing past
  first_passing (Take t ∷ past) = earlier_of (first_passing past) (passing_at (taken past) (meter.passed (reading (Take t ∷ past))))
  first_passing (Close p ∷ past) = first_passing past

module _ {Token T N P V M : Type 0} (g : Grammar Token T N P V) (meter : Meter T P M) where
  -- No token before the i-th passes a limit, in any program that begins with these tokens.
  abbrev pub IsWithin : List Token → ℕ → Type 0
  IsWithin ts i = (more : List Token) → (parse : Parse g (ts ++ more)) → (at : Passing) → first_passing meter (history_of g parse) ≡ Some at → i ≤ at.token

  -- In each program that begins with these tokens, the first limit that is passed is this one.
  abbrev pub Passes : List Token → Passing → Type 0
  Passes ts at = (more : List Token) → (parse : Parse g (ts ++ more)) → first_passing meter (history_of g parse) ≡ Some at

  -- The value is that of each derivation of the text, of which there is one, and the text passes no limit.
  pub record IsAccepted (ts : List Token) (v : V) : Type 0 where
    pub value : (c : V) → IsProgram g ts c ↔ (v ≡ c)
    pub within : (parse : Parse g ts) → first_passing meter (history_of g parse) ≡ None
