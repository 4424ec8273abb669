-- Derivations of a table, read and made a production at a time, for every table.
use Rattle.std.proofs.Common.{◌≡◌, ◌∙◌, true, false, List, [], ◌∷◌, None, refl, sym, subst, ap}
use Rattle.ground.specs.declared.place.Place.{Place}
use Rattle.ground.specs.declared.token.Token.{Token}
use Rattle.ground.specs.declared.token.TokenKind.{TokenKind}
use Rattle.ground.specs.declared.token.TokenKind.TheVariants as kinds
use Rattle.f66_tree.specs.Syntax.{Text}
use Rattle.grammar.specs.declared.language.Symbol.{Symbol}
use Rattle.grammar.specs.declared.language.Symbol.TheVariants.{Terminal, Nonterminal}
use Rattle.grammar.specs.Grammar.{Grammar, Tree, Trees, leaf, node, none, some, Offers, Derives, DerivesAll, value_of, values_of, IsProgram}
use Rattle.rat_grammar.specs.Tokens.{Tokens, token, one, LineEnd, capitals, Word, word, Lines}
use Rattle.rat_grammar.specs.Laws.{IsSome}
use Rattle.rat_grammar.proofs.LineLemmas.{NoLine, Begins}
use Rattle.rat_grammar.proofs.Parts.{Reading, WordIfAny, missing}
use Rattle.rat_grammar.proofs.Standing.{Known, known}
use Rattle.rat_grammar.proofs.ReservedWords.{untrue}

abbrev pub HasSymbols : {T N : Type 0} → List (Symbol T N) → Type 0
HasSymbols [] = ⊥
HasSymbols (x ∷ xs) = Unit {0}

-- a value is what a reading says of the tokens
abbrev pub Reads : {V : Type 0} → Reading V → Tokens → Tokens → V → Type 0
Reads r a b v = (y : r.Of) × (v ≡ r.view y) × r.Says a b y

module _ {T N P V : Type 0} (g : Grammar Token T N P V) where
  -- a derivation of the tokens of the first list that stand before the second, and the value that it gives
  pub record Found (x : Symbol T N) (a b : Tokens) (v : V) : Type 0 where
    pub tree : Tree Token P
    pub derives : Derives g tree x a b
    pub gives : value_of g tree ≡ v

  -- the production may stand before these tokens
  abbrev pub Allowed : P → Tokens → Type 0
  Allowed p [] = ⊥
  Allowed p (t ∷ ts) = g.allows p (g.terminal_of t) ≡ true

  -- ---- there is a token where a part stands ----

  some_offered : (n : N) (p : P) (a : Tokens) → Offers g n p a → IsSome a
  some_offered n p [] h = h
  some_offered n p (t ∷ ts) h = tt

  some_tree : (c : Tree Token P) (x : Symbol T N) (a b : Tokens) → Derives g c x a b → IsSome a
  some_tree (leaf t) x a b h = subst IsSome (sym h.1) tt
  some_tree (node p cs) x a b h = some_offered h.0 p a h.2

  some_trees : (cs : Trees Token P) (xs : List (Symbol T N)) (a b : Tokens) → HasSymbols xs → DerivesAll g cs xs a b → IsSome a
  some_trees none xs a b has h = absurd (subst HasSymbols h.0 has)
  some_trees (some c cs) xs a b has h = some_tree c h.0 a h.2 h.4

  -- ---- from the published grammar to the table ----

  -- what a production makes of derivations of its symbols, one behind the other
  abbrev pub Making : List (Symbol T N) → List V → Tokens → (List V → Tokens → Type 0) → Type 0
  Making [] vs a Goal = Goal vs a
  Making (x ∷ xs) vs a Goal = (v : V) (m : Tokens) → Found x a m v → Making xs (v ∷ vs) m Goal

  abbrev pub Makes : P → Tokens → Type 0
  Makes p a = Making (g.symbols p) [] a (λ vs b. Found (Nonterminal (g.nonterminal_of p)) a b (g.build p vs))

  gather : (xs : List (Symbol T N)) (vs : List V) (a : Tokens) (Goal : List V → Tokens → Type 0) →
      ((cs : Trees Token P) (b : Tokens) → DerivesAll g cs xs a b → Goal (values_of g cs vs) b) → Making xs vs a Goal
  gather [] vs a Goal k = k none a (refl, refl)
  gather (x ∷ xs) vs a Goal k =
      λ v m c. gather xs (v ∷ vs) m Goal
      (λ cs b d. subst (λ w. Goal (values_of g cs (w ∷ vs)) b) c.gives (k (some c.tree cs) b (x, xs, m, refl, c.derives, d)))

  offers : (p : P) (a : Tokens) → Allowed p a → Offers g (g.nonterminal_of p) p a
  offers p [] h = h
  offers p (t ∷ ts) h = (refl, h)

  made : (p : P) (a : Tokens) → ((cs : Trees Token P) (b : Tokens) → DerivesAll g cs (g.symbols p) a b → Allowed p a) → Makes p a
  made p a k =
      gather (g.symbols p) [] a (λ vs b. Found (Nonterminal (g.nonterminal_of p)) a b (g.build p vs))
      (λ cs b d. record { tree = node p cs; derives = (g.nonterminal_of p, refl, offers p a (k cs b d), d); gives = refl })

  -- where the production may stand
  pub make_at : (p : P) (a : Tokens) → Allowed p a → Makes p a
  make_at p a h = made p a (λ cs b d. h)

  free_at : (p : P) → ((k : T) → g.allows p k ≡ true) → (a : Tokens) → IsSome a → Allowed p a
  free_at p free [] h = h
  free_at p free (t ∷ ts) h = free (g.terminal_of t)

  -- a production that has symbols, and may stand before any token
  pub make_free : (p : P) → HasSymbols (g.symbols p) → ((k : T) → g.allows p k ≡ true) → (a : Tokens) → Makes p a
  make_free p has free a = made p a (λ cs b d. free_at p free a (some_trees cs (g.symbols p) a b has d))

  pub make_empty : (p : P) → g.symbols p ≡ [] → (a : Tokens) → Allowed p a → Found (Nonterminal (g.nonterminal_of p)) a a (g.build p [])
  make_empty p e a h = record { tree = node p none; derives = (g.nonterminal_of p, refl, offers p a h, (e, refl)); gives = refl }

  -- an empty part before any token
  pub found_empty : (p : P) → g.symbols p ≡ [] → ((k : T) → g.allows p k ≡ true) → {a : Tokens} → IsSome a →
      Found (Nonterminal (g.nonterminal_of p)) a a (g.build p [])
  found_empty p e free {a} h = make_empty p e a (free_at p free a h)

  -- a whole text
  pub make_whole : (a : Tokens) → Making (g.symbols g.start) [] a (λ vs b. b ≡ [] → IsProgram g a (g.build g.start vs))
  make_whole a =
      gather (g.symbols g.start) [] a (λ vs b. b ≡ [] → IsProgram g a (g.build g.start vs))
      (λ cs b d e. (record { trees = cs; derives = subst (λ m. DerivesAll g cs (g.symbols g.start) a m) e d }, refl))

  terminal_path : {j k : T} → j ≡ k → ◌≡◌ {A = Symbol T N} (Terminal j) (Terminal k)
  terminal_path e = ap Terminal e

  -- one token
  pub found_token : (k : T) (t : Token) (ts : Tokens) → g.terminal_of t ≡ k → Found (Terminal k) (t ∷ ts) ts (g.value t)
  found_token k t ts h = record { tree = leaf t; derives = (terminal_path (sym h), refl); gives = refl }

module _ {T N P V : Type 0} {g : Grammar Token T N P V} {x : Symbol T N} where
  pub is_some : {a b : Tokens} {v : V} → Found g x a b v → IsSome a
  is_some {a} {b} c = some_tree g c.tree x a b c.derives

  -- the same derivation gives an equal value
  pub given : {a b : Tokens} {v w : V} → v ≡ w → Found g x a b v → Found g x a b w
  given {a} {b} e c = subst (λ z. Found g x a b z) e c

  -- lines before a part, where one is taken before it
  pub before_lines : ((a b : Tokens) (q : Place) (v : V) → Found g x a b v → Found g x (token kinds.LineEnd q ∷ a) b v) → {a b c : Tokens} {v : V} → Lines a b → Found g x b c v → Found g x a c v
  before_lines line Lines.none q = q
  before_lines line (Lines.line one l) q = line _ _ _ _ (before_lines line l q)

-- ---- from the table to the published grammar ----

module _ {T N P V : Type 0} (g : Grammar Token T N P V) (reading : N → Reading V) (Is : T → TokenKind → Type 0) where
  abbrev pub symbol_reading : Symbol T N → Reading V
  symbol_reading (Terminal k) = record { Of = Token; view = g.value; Says = Known (Is k) }
  symbol_reading (Nonterminal m) = reading m

  -- what a production's symbols give, one behind the other
  abbrev pub Taking : List (Symbol T N) → List V → Tokens → (List V → Tokens → Type 0) → Type 0
  Taking [] vs a Goal = Goal vs a
  Taking (x ∷ xs) vs a Goal =
      (y : (symbol_reading x).Of) (m : Tokens) → (symbol_reading x).Says a m y → Taking xs ((symbol_reading x).view y ∷ vs) m Goal

  -- what a production makes of what its symbols read is read by its nonterminal
  abbrev pub Step : P → Type 0
  Step p = (a : Tokens) → Allowed g p a → Taking (g.symbols p) [] a (λ vs b. Reads (reading (g.nonterminal_of p)) a b (g.build p vs))

  allowed : (n : N) (p : P) (a : Tokens) → Offers g n p a → Allowed g p a
  allowed n p [] h = h
  allowed n p (t ∷ ts) h = h.1

  offered_by : (n : N) (p : P) (a : Tokens) → Offers g n p a → g.nonterminal_of p ≡ n
  offered_by n p [] h = absurd h
  offered_by n p (t ∷ ts) h = h.0

  -- what symbols read, one behind the other
  abbrev ReadAll : List (Symbol T N) → List V → Tokens → Tokens → List V → Type 0
  ReadAll [] vs a b ws = (a ≡ b) × (vs ≡ ws)
  ReadAll (x ∷ xs) vs a b ws =
      (y : (symbol_reading x).Of) × (m : Tokens) × (symbol_reading x).Says a m y × ReadAll xs ((symbol_reading x).view y ∷ vs) m b ws

  take_all : (xs : List (Symbol T N)) (vs ws : List V) (a b : Tokens) (Goal : List V → Tokens → Type 0) → Taking xs vs a Goal → ReadAll xs vs a b ws → Goal ws b
  take_all [] vs ws a b Goal k h = subst (λ us. Goal us b) h.1 (subst (λ d. Goal vs d) h.0 k)
  take_all (x ∷ xs) vs ws a b Goal k h = take_all xs ((symbol_reading x).view h.0 ∷ vs) ws h.1 b Goal (k h.0 h.1 h.2) h.3

  module _ (seen_is : (y : Token) → Is (g.terminal_of y) y.kind) (steps : (p : P) → Step p) where
    mutual
      read_tree : (c : Tree Token P) (x : Symbol T N) (a b : Tokens) → Derives g c x a b → Reads (symbol_reading x) a b (value_of g c)
      read_tree (leaf t) x a b h =
          subst (λ z. Reads (symbol_reading z) a b (g.value t)) (sym h.0) (t, refl, subst (λ c. Known (Is (g.terminal_of t)) c b t) (sym h.1) (known (seen_is t)))
      read_tree (node p cs) x a b h =
          subst (λ z. Reads (symbol_reading z) a b (value_of g (node p cs))) (sym h.1)
          (subst (λ m. Reads (reading m) a b (value_of g (node p cs))) (offered_by h.0 p a h.2)
          (take_all (g.symbols p) [] (values_of g cs []) a b (λ vs d. Reads (reading (g.nonterminal_of p)) a d (g.build p vs)) (steps p a (allowed h.0 p a h.2))
          (read_trees cs (g.symbols p) [] a b h.3)))

      read_trees : (cs : Trees Token P) (xs : List (Symbol T N)) (vs : List V) (a b : Tokens) → DerivesAll g cs xs a b → ReadAll xs vs a b (values_of g cs vs)
      read_trees none xs vs a b h = subst (λ ys. ReadAll ys vs a b vs) (sym h.0) (h.1, refl)
      read_trees (some c cs) xs vs a b h =
          let r : Reads (symbol_reading h.0) a h.2 (value_of g c) = read_tree c h.0 a h.2 h.4 in
          subst (λ ys. ReadAll ys vs a b (values_of g cs (value_of g c ∷ vs))) (sym h.3) (
            r.0,
            h.2,
            r.2,
            subst (λ v. ReadAll h.1 (v ∷ vs) h.2 b (values_of g cs (value_of g c ∷ vs))) r.1 (read_trees cs h.1 (value_of g c ∷ vs) h.2 b h.5),
          )

    pub reads : {x : Symbol T N} {a b : Tokens} {v : V} → Found g x a b v → Reads (symbol_reading x) a b v
    reads {x} {a} {b} c = let r : Reads (symbol_reading x) a b _ = read_tree c.tree x a b c.derives in (r.0, sym c.gives ∙ r.1, r.2)

    -- a whole text
    pub reads_whole : HasSymbols (g.symbols g.start) → ((k : T) → g.allows g.start k ≡ true) → {ts : Tokens} {v : V} → IsProgram g ts v →
        Reads (reading (g.nonterminal_of g.start)) ts [] v
    reads_whole has free {ts} c =
        let r : Reads (reading (g.nonterminal_of g.start)) ts [] _ =
        take_all (g.symbols g.start) [] (values_of g c.0.trees []) ts [] (λ vs d. Reads (reading (g.nonterminal_of g.start)) ts d (g.build g.start vs))
        (steps g.start ts (free_at g g.start free ts (some_trees g c.0.trees (g.symbols g.start) ts [] has c.0.derives)))
        (read_trees c.0.trees (g.symbols g.start) [] ts [] c.0.derives) in
        (r.0, sym c.1 ∙ r.1, r.2)

-- ---- where a part is left out ----

-- it may be where what stands begins neither a line's end nor this word
pub allowed_there : {T N P V : Type 0} (g : Grammar Token T N P V) (p : P) (x : Text) →
    ((y : Token) (ts : Tokens) → NoLine (y ∷ ts) → ((c : Tokens) → Word x (y ∷ ts) c → ⊥) → g.allows p (g.terminal_of y) ≡ true) →
    (a : Tokens) → Begins a → ((c : Tokens) → Word x a c → ⊥) → Allowed g p a
allowed_there g p x k [] b h = b.some
allowed_there g p x k (y ∷ ts) b h = k y ts b.stands h

-- it may not be before either of the two
module _ {T N P V : Type 0} (g : Grammar Token T N P V) (p : P) (x : Text) (lines : (q : Place) → g.allows p (g.terminal_of (token kinds.LineEnd q)) ≡ false)
    (words : (w : Text) (q : Place) → capitals w ≡ x → g.allows p (g.terminal_of (token (kinds.Word w) q)) ≡ false) where
  no_line : {a b : Tokens} → LineEnd a b → Allowed g p a → ⊥
  no_line (one {p = q}) h = untrue (sym (lines q) ∙ h)

  no_word : {a b : Tokens} → Word x a b → Allowed g p a → ⊥
  no_word (word {w = w} {p = q} e) h = untrue (sym (words w q e) ∙ h)

  -- nothing of this stands there
  pub none_there : {A : Type 0} {Item : Tokens → Tokens → Tokens → A → Type 0} (a : Tokens) → Allowed g p a → WordIfAny x Item a a None
  none_there a h = missing Lines.none (λ b l. no_line l h) (λ b w. no_word w h)
