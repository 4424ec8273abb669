-- Derivations of the table, read and made a production at a time.
use Rattle.std.proofs.Common.{◌≡◌, true, [], ◌∷◌, refl}
use Rattle.ground.specs.declared.token.Token.{Token}
use Rattle.grammar.specs.declared.language.Symbol.TheVariants as symbol
use Rattle.rat_parse_table.specs.declared.table.Terminal.{Terminal}
use Rattle.rat_parse_table.specs.declared.table.Nonterminal.{Nonterminal}
use Rattle.rat_parse_table.specs.declared.table.Production.{Production}
use Rattle.rat_parse_table.specs.declared.table.Production.TheVariants as productions
use Rattle.rat_parse_table.specs.Table.{symbols, nonterminal_of, allows}
use Rattle.rat_parse_table.specs.Words.{seen}
use Rattle.rat_parse_values.specs.Values.{Val, tok}
use Rattle.rat_parse.specs.Build.{build}
use Rattle.rat_parse.specs.Ratfor.{grammar}
use Rattle.rat_grammar.specs.Tokens.{Tokens}
use Rattle.rat_grammar.specs.Laws.{IsSome}
use Rattle.rat_grammar.proofs.Parts.{Part}
use Rattle.rat_grammar.proofs.TokenLemmas.{Is}
use Rattle.rat_grammar.proofs.Readings.{reading}
use Rattle.rat_grammar.proofs.Derivations as derivations
use Rattle.rat_grammar.proofs.Derivations.{HasSymbols, Found, Makes, make_free}

abbrev pub Allowed : Production → Tokens → Type 0
Allowed = derivations.Allowed grammar

-- what a production makes of what its symbols read is read by its nonterminal
abbrev pub Step : Production → Type 0
Step = derivations.Step grammar reading Is

abbrev pub FoundToken : Terminal → Tokens → Tokens → Val → Type 0
FoundToken k = Found grammar (symbol.Terminal k)

abbrev pub FoundPart : Nonterminal → Tokens → Tokens → Val → Type 0
FoundPart m = Found grammar (symbol.Nonterminal m)

-- a part whose value is this view of what is found
abbrev pub FoundAs : {A : Type 0} → Nonterminal → (A → Val) → Part A
FoundAs m view a b x = FoundPart m a b (view x)

-- only an empty production asks what it stands before
allowed_always : (p : Production) (k : Terminal) → HasSymbols (symbols p) → allows p k ≡ true
allowed_always productions.NoEnding k h = absurd h
allowed_always productions.NoElse k h = absurd h
allowed_always productions.NoUntil k h = absurd h
allowed_always _ k h = refl

pub make : (p : Production) → HasSymbols (symbols p) → (a : Tokens) → Makes grammar p a
make p has = make_free grammar p has (λ k. allowed_always p k has)

pub make_empty : (p : Production) → symbols p ≡ [] → (a : Tokens) → Allowed p a → FoundPart (nonterminal_of p) a a (build p [])
make_empty = derivations.make_empty grammar

pub found_empty : (p : Production) → symbols p ≡ [] → ((k : Terminal) → allows p k ≡ true) → {a : Tokens} → IsSome a → FoundPart (nonterminal_of p) a a (build p [])
found_empty = derivations.found_empty grammar

pub found_token : (k : Terminal) (y : Token) (ts : Tokens) → seen y ≡ k → FoundToken k (y ∷ ts) ts (tok y)
found_token = derivations.found_token grammar
