-- That what the productions make is made of parts of the right kinds.
use Rattle.std.specs.Prelude.{◌≡◌, ℕ, Bool, true, false, ◌||◌, List, [], ◌∷◌, ◌⊎◌}
use Rattle.ground.specs.declared.token.Token.{Token}
use Rattle.grammar.specs.declared.language.Symbol.{Symbol}
use Rattle.grammar.specs.declared.language.Symbol.TheVariants.{Nonterminal}
use Rattle.grammar.specs.Grammar.{Tree, Derives, value_of}
use Rattle.rat_parse_table.specs.declared.table.Terminal.{Terminal as ATerminal}
use Rattle.rat_parse_table.specs.declared.table.Nonterminal.{Nonterminal as ANonterminal}
use Rattle.rat_parse_table.specs.declared.table.Production.{Production}
use Rattle.rat_parse_table.specs.Table.{symbols, nonterminal_of}
use Rattle.rat_parse_values.specs.Values.{Val, nothing, last_of, others, at}
use Rattle.rat_parse.specs.Build.{build}
use Rattle.rat_parse.specs.Ratfor.{grammar}
use Rattle.rat_parse_kinds.specs.Kinds.{is, kind_of}

abbrev pub ASymbol : Type 0
ASymbol = Symbol ATerminal ANonterminal

-- the last first, as parts stand
abbrev pub turned : List ASymbol → List ASymbol → List ASymbol
turned [] later = later
turned (x ∷ xs) later = turned xs (x ∷ later)

abbrev pub symbols_back : Production → List ASymbol
symbols_back p = turned (symbols p) []

abbrev pub fits : ASymbol → Val → Bool
fits x v = is (kind_of x) v

abbrev pub EachFits : List ASymbol → List Val → Type 0
EachFits [] vs = vs ≡ []
EachFits (x ∷ xs) vs = (fits x (last_of vs) ≡ true) × EachFits xs (others vs)

abbrev pub is_nothing : Val → Bool
is_nothing nothing = true
is_nothing _ = false

-- A part that fits its symbol stands for itself; for any other stands one that fits, or nothing.
pub record StandsFor (x : ASymbol) (v w : Val) : Type 0 where
  pub same : fits x v ≡ true → w ≡ v
  pub other : fits x w || is_nothing w ≡ true

abbrev pub EachStandsFor : List ASymbol → List Val → List Val → Type 0
EachStandsFor [] vs ws = ws ≡ []
EachStandsFor (x ∷ xs) vs [] = ⊥
EachStandsFor (x ∷ xs) vs (w ∷ ws) = StandsFor x (last_of vs) w × EachStandsFor xs (others vs) ws

-- Of parts of any kinds, and of any number of them, a production makes what it makes of parts that stand for them: it has no
-- use for what is not of its symbol's kind, nor for what is no part of it. So it reads no part as one of another kind.
pub record ReadsAsMeant (p : Production) (vs : List Val) : Type 0 where
  pub parts : List Val
  pub stand : EachStandsFor (symbols_back p) vs parts
  pub same : build p vs ≡ build p parts

-- Or it gives one of them as it is.
abbrev pub Passes : Production → List Val → Type 0
Passes p vs = (n : ℕ) × (build p vs ≡ at n vs)

pub record EachIsMeant : Type 0 where
  -- each production reads its parts as what the grammar has there
  pub reads : (p : Production) (vs : List Val) → ReadsAsMeant p vs ⊎ Passes p vs
  -- of parts that fit its symbols it makes what fits its nonterminal
  pub makes : (p : Production) (vs : List Val) → EachFits (symbols_back p) vs → fits (Nonterminal (nonterminal_of p)) (build p vs) ≡ true
  -- so whatever derives from a symbol gives what fits it
  pub gives : (c : Tree Token Production) (x : ASymbol) (ts rest : List Token) → Derives grammar c x ts rest → fits x (value_of grammar c) ≡ true
