-- Derivations of the table, read and made a production at a time.
use Rattle.std.specs.Prelude.{⊤}
use Rattle.std.proofs.Common.{◌≡◌, true, [], ◌∷◌, refl}
use Rattle.ground.specs.declared.token.Token.{Token}
use Rattle.grammar.specs.declared.language.Symbol.TheVariants as symbol
use Rattle.efl_parse_table.specs.declared.table.Terminal.{Terminal}
use Rattle.efl_parse_table.specs.declared.table.Nonterminal.{Nonterminal}
use Rattle.efl_parse_table.specs.declared.table.Production.{Production}
use Rattle.efl_parse_table.specs.declared.table.Production.TheVariants as productions
use Rattle.efl_parse_table.specs.Table.{symbols, nonterminal_of, allows}
use Rattle.efl_parse_table.specs.Words.{seen}
use Rattle.efl_parse_values.specs.Values.{Val, tok}
use Rattle.efl_parse.specs.Phrases.{build_expressions, build_acts, build_types, build_declarations}
use Rattle.efl_parse.specs.Build.{build, build_lists, build_statements, build_records}
use Rattle.efl_parse.specs.Efl.{grammar}
use Rattle.rat_grammar.specs.Tokens.{Tokens}
use Rattle.rat_grammar.specs.Laws.{IsSome}
use Rattle.rat_grammar.proofs.Parts.{Part}
use Rattle.rat_grammar.proofs.Derivations as derivations
use Rattle.rat_grammar.proofs.Derivations.{HasSymbols, Found, Makes, make_free}
use Rattle.efl_grammar.proofs.TokenLemmas.{Is}
use Rattle.efl_grammar.proofs.Readings.{reading}

-- what a proof unfolds to see what a production makes
unfoldable pub built : ⊤
unfolding build build_lists build_statements build_records build_expressions build_acts build_types build_declarations
built = tt

abbrev pub Allowed : Production → Tokens → Type 0
Allowed = derivations.Allowed grammar

-- what a production makes of what its symbols read is read by its nonterminal
abbrev pub Step : Production → Type 0
Step = derivations.Step grammar reading Is

abbrev pub FoundToken : Terminal → Tokens → Tokens → Val → Type 0
FoundToken k = Found grammar (symbol.Terminal k)

abbrev pub FoundPart : Nonterminal → Tokens → Tokens → Val → Type 0
FoundPart m = Found grammar (symbol.Nonterminal m)

-- a part whose value is this view of what is found
abbrev pub FoundAs : {A : Type 0} → Nonterminal → (A → Val) → Part A
FoundAs m view a b x = FoundPart m a b (view x)

-- the productions that have symbols, and may stand before any token
abbrev pub IsFree : Production → Type 0
IsFree productions.ShapeAlone = ⊥
IsFree productions.ShapeEnding = ⊥
IsFree p = HasSymbols (symbols p)

is_free : (p : Production) → IsFree p → HasSymbols (symbols p) × ((k : Terminal) → allows p k ≡ true)
is_free productions.NoEnding h = absurd h
is_free productions.NoElse h = absurd h
is_free productions.NoUntil h = absurd h
is_free productions.NoLooseEnding h = absurd h
is_free productions.ShapeAlone h = absurd h
is_free productions.ShapeEnding h = absurd h
is_free _ h = (h, λ k. refl)

pub make : (p : Production) → IsFree p → (a : Tokens) → Makes grammar p a
make p h = let free : _ = is_free p h in make_free grammar p free.0 free.1

-- where the production may stand
pub make_at : (p : Production) (a : Tokens) → Allowed p a → Makes grammar p a
make_at = derivations.make_at grammar

pub make_empty : (p : Production) → symbols p ≡ [] → (a : Tokens) → Allowed p a → FoundPart (nonterminal_of p) a a (build p [])
make_empty = derivations.make_empty grammar

pub found_empty : (p : Production) → symbols p ≡ [] → ((k : Terminal) → allows p k ≡ true) → {a : Tokens} → IsSome a → FoundPart (nonterminal_of p) a a (build p [])
found_empty = derivations.found_empty grammar

pub found_token : (k : Terminal) (y : Token) (ts : Tokens) → seen y ≡ k → FoundToken k (y ∷ ts) ts (tok y)
found_token = derivations.found_token grammar
