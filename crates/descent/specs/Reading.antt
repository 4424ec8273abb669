-- What a descent reads: from one reader to another the parsing machine gives a symbol its value, and passes no limit on the way.
use Rattle.std.specs.Prelude.{◌≡◌, ◌||◌, true, None, List, [], ◌∷◌}
use Rattle.ground.specs.declared.token.Token.{Token}
use Rattle.grammar.specs.declared.language.Symbol.{Symbol}
use Rattle.grammar.specs.declared.language.Symbol.TheVariants.{Terminal, Nonterminal}
use Rattle.grammar.specs.declared.language.Event.TheVariants.{Take}
use Rattle.grammar.specs.Grammar.{Grammar}
use Rattle.grammar.specs.Limits.{Meter}
use Rattle.grammar.specs.Certificate.{Certificate, may_be_empty, member}
use Rattle.grammar.specs.Descent.{Item, left, behind, with_value}
use Rattle.descent.specs.declared.reader.Reader.{Reader}
use Rattle.descent.specs.Passages.{Ran}

abbrev pub with_meters : {T M : Type 0} → Reader T M → M → Reader T M
with_meters r m = record r { meters = m }

module _ {T N P V M : Type 0} (g : Grammar Token T N P V) where
  -- The reader stands before a token, and has what the grammar sees of it.
  pub record Sees (r : Reader T M) : Type 0 where
    pub token : Token
    pub others : List Token
    pub is : r.rest.now ≡ token ∷ others
    pub seen : r.seen ≡ g.terminal_of token

  -- It stands before the first of these tokens.
  pub record Begun (ts : List Token) (m : M) (r : Reader T M) : Type 0 where
    pub rest : r.rest.now ≡ ts
    pub meters : r.meters ≡ m
    pub sees : Sees r

module _ {T N P V M : Type 0} (g : Grammar Token T N P V) (c : Certificate Token T N P) (meter : Meter T P M) where
  -- The symbol may begin with this terminal.
  abbrev pub Begins : Symbol T N → T → Type 0
  Begins (Terminal k) t = t ≡ k
  Begins (Nonterminal i) t = may_be_empty (c.nullable i) || member c t (c.first i) ≡ true

  -- Whatever awaits the symbol is given this value, whatever stands around it.
  pub record Passage (x : Symbol T N) (r : Reader T M) (v : V) (s : Reader T M) : Type 0 where
    pub sees : Sees g s
    pub ran : (f : Item P V) (fs : List (Item P V)) → left g f ≡ x ∷ behind g f
        → Ran g c.predict meter (f ∷ fs) r.meters r.rest.now (with_value f v ∷ fs) s.meters s.rest.now

  pub record Reads (x : Symbol T N) (r : Reader T M) (v : V) (s : Reader T M) : Type 0 where
    pub begins : Begins x r.seen
    pub passage : Sees g r → Passage x r v s

  -- Symbols are read one after another. Their values stand with the last first, before those that were there.
  pub data Parts : List (Symbol T N) → Reader T M → List V → List V → Reader T M → Type 0 where
    done : {r : Reader T M} {vs : List V} → Parts [] r vs vs r
    next : {x : Symbol T N} {xs : List (Symbol T N)} {r s u : Reader T M} {v : V} {vs ws : List V} → Reads x r v s → Parts xs s (v ∷ vs) ws u
        → Parts (x ∷ xs) r vs ws u

module _ {T N P V M : Type 0} (g : Grammar Token T N P V) (meter : Meter T P M) where
  -- The reader stands before the last token, which is this terminal and passes no limit.
  pub record Ends (k : T) (r : Reader T M) (token : Token) : Type 0 where
    pub is : r.rest.now ≡ token ∷ []
    pub terminal : g.terminal_of token ≡ k
    pub within : meter.passed (meter.next (Take k) r.meters) ≡ None
