-- Tokens that stand for themselves: they begin no define and no include, name no macro and do not end the text.
use Rattle.std.specs.Prelude.{◌≡◌, ◌≤◌, ◌-◌, ⊤, Bool, false, List, [], ◌∷◌, ◌++◌, length, Result, None, ℕ}
use Rattle.ground.specs.declared.fault.Fault.{Fault}
use Rattle.ground.specs.declared.place.Place.{Place}
use Rattle.ground.specs.declared.token.Dialect.{Dialect}
use Rattle.ground.specs.declared.token.Token.{Token}
use Rattle.ground.specs.declared.token.TokenKind.{TokenKind}
use Rattle.macro_define.specs.declared.defines.FirstWord.TheVariants.{Other}
use Rattle.macro_define.specs.Defines.{ends_line, first_word}
use Rattle.macro_define.specs.Expansion.{is_text_end}
use Rattle.macro_define.specs.Macros.{Macros, macro_of, text_of}
use Rattle.macro_define.specs.declared.gathering.Gathering.{Gathering}
use Rattle.macro_define.specs.Answers.{Answers}
use Rattle.macro_define.specs.Gathered.{world}
use Rattle.macro_define.specs.Made.{Made, and_then, counted, made, put}
use Rattle.macro_define.specs.Uses.{table}

-- a token that begins a line, or does not
pub record IsPlain (d : Dialect) (macros : Macros) (begins : Bool) (kind : TokenKind) : Type 0 where
  pub other : first_word begins kind ≡ Other
  pub goes_on : is_text_end kind ≡ false
  pub unnamed : macro_of d macros kind ≡ None

abbrev pub ArePlain : Dialect → Macros → Bool → List Token → Type 0
ArePlain d macros begins [] = ⊤
ArePlain d macros begins (t ∷ ts) = IsPlain d macros begins t.kind × ArePlain d macros (ends_line t.kind) ts

-- whether a line begins behind them
abbrev pub begins_behind : Bool → List Token → Bool
begins_behind begins [] = begins
begins_behind begins (t ∷ ts) = begins_behind (ends_line t.kind) ts

-- they are all put
abbrev pub with_all : List Token → Made → Made
with_all ts m = record { tokens = m.tokens ++ ts; left = m.left - length ts }

-- from the tokens `before` to those `after` plain ones were put
pub record ArePassed (d : Dialect) (macros : Macros) (begins : Bool) (before after : List Token) (old new : Made) (later : Bool) : Type 0 where
  pub passed : List Token
  pub same : before ≡ passed ++ after
  pub plain : ArePlain d macros begins passed
  pub fits : length passed ≤ old.left
  pub put : new ≡ with_all passed old
  pub behind : later ≡ begins_behind begins passed

-- and nothing else has changed
pub record HasPassed (d : Dialect) (begins : Bool) (before after : List Token) (old new : Gathering) (later : Bool) : Type 0 where
  pub tokens : ArePassed d (table old.macros) begins before after (made old.output) (made new.output) later
  pub same : (a : Answers) → world new a ≡ record (world old a) { made = made new.output }

-- a macro stands for this one token, which names no macro
pub record IsLone (d : Dialect) (macros : Macros) (n : ℕ) (kind : TokenKind) : Type 0 where
  pub text : text_of macros n ≡ kind ∷ []
  pub unnamed : macro_of d macros kind ≡ None

-- what such a macro makes at a place
abbrev pub lone_made : Place → TokenKind → Made → Result Made Fault
lone_made place kind m = and_then (counted place m) (put (record { kind = kind; place = place }))
