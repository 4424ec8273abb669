-- A grammar as a table of productions, the derivations of a text, and their values.
use Rattle.std.specs.Prelude.{◌≡◌, ◌++◌, Bool, true, List, [], ◌∷◌}
use Rattle.grammar.specs.declared.language.Symbol.{Symbol}
use Rattle.grammar.specs.declared.language.Symbol.TheVariants.{Terminal, Nonterminal}

-- Over tokens, terminals T, nonterminals N, productions P and values V.
-- A production may ask something of the token that it stands before, which `allows` says: so an empty `else` part
-- stands before no `else`, and the grammar is unambiguous. Most productions allow all.
-- `build` is given the values of a production's symbols, the last first.
pub record Grammar (Token T N P V : Type 0) : Type 0 where
  pub terminal_of : Token → T
  pub symbols : P → List (Symbol T N)
  pub nonterminal_of : P → N
  pub allows : P → T → Bool
  pub start : P
  pub value : Token → V
  pub build : P → List V → V

mutual
  pub data Tree (Token P : Type 0) : Type 0 where
    leaf : Token → Tree Token P
    node : P → Trees Token P → Tree Token P

  pub data Trees (Token P : Type 0) : Type 0 where
    none : Trees Token P
    some : Tree Token P → Trees Token P → Trees Token P

module _ {Token T N P V : Type 0} (g : Grammar Token T N P V) where
  -- A production of the nonterminal that may stand before these tokens.
  abbrev pub Offers : N → P → List Token → Type 0
  Offers n p [] = ⊥
  Offers n p (t ∷ ts) = (g.nonterminal_of p ≡ n) × (g.allows p (g.terminal_of t) ≡ true)

  -- The tree derives from a symbol those of the tokens that stand before the rest.
  abbrev mutual
    pub Derives : Tree Token P → Symbol T N → List Token → List Token → Type 0
    Derives (leaf t) x ts rest = (x ≡ Terminal (g.terminal_of t)) × (ts ≡ t ∷ rest)
    Derives (node p cs) x ts rest = (n : N) × (x ≡ Nonterminal n) × Offers n p ts × DerivesAll cs (g.symbols p) ts rest

    pub DerivesAll : Trees Token P → List (Symbol T N) → List Token → List Token → Type 0
    DerivesAll none xs ts rest = (xs ≡ []) × (ts ≡ rest)
    DerivesAll (some c cs) xs ts rest =
        (x : Symbol T N) × (ys : List (Symbol T N)) × (middle : List Token) × (xs ≡ x ∷ ys)
        × Derives c x ts middle × DerivesAll cs ys middle rest

  abbrev mutual
    pub value_of : Tree Token P → V
    value_of (leaf t) = g.value t
    value_of (node p cs) = g.build p (values_of cs [])

    pub values_of : Trees Token P → List V → List V
    values_of none earlier = earlier
    values_of (some c cs) earlier = values_of cs (value_of c ∷ earlier)

  -- A derivation of a whole text from the start production.
  pub record Parse (ts : List Token) : Type 0 where
    pub trees : Trees Token P
    pub derives : DerivesAll trees (g.symbols g.start) ts []

  abbrev pub result_of : {ts : List Token} → Parse ts → V
  result_of parse = g.build g.start (values_of parse.trees [])

  -- The text is a program, of this value.
  abbrev pub IsProgram : List Token → V → Type 0
  IsProgram ts v = (parse : Parse ts) × (result_of parse ≡ v)

  -- Some program begins with these tokens.
  abbrev pub Begins : List Token → Type 0
  Begins ts = (more : List Token) × Parse (ts ++ more)

  -- The last token has this terminal.
  abbrev pub EndsWith : T → List Token → Type 0
  EndsWith end ts = (front : List Token) × (last : Token) × (ts ≡ front ++ last ∷ []) × (g.terminal_of last ≡ end)
