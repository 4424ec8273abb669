-- The nonterminal's production is chosen by one token of lookahead: FIRST, FOLLOW, and derivations that are so guided.
use Rattle.std.specs.Prelude.{◌≡◌, ◌&&◌, ◌||◌, Bool, true, false, Option, Some, None, List, [], ◌∷◌}
use Rattle.grammar.specs.declared.language.Symbol.{Symbol}
use Rattle.grammar.specs.declared.language.Symbol.TheVariants.{Terminal, Nonterminal}
use Rattle.grammar.specs.declared.language.Event.{Event}
use Rattle.grammar.specs.declared.language.Event.TheVariants.{Open, Close}
use Rattle.grammar.specs.Grammar.{Grammar, Tree, Trees, leaf, node, none, some, values_of}
use Rattle.grammar.specs.Limits.{history_all}

abbrev pub implies : Bool → Bool → Bool
implies true b = b
implies false b = true

-- The sets as tests: what may begin a nonterminal, what may follow it, and before what it may be empty.
pub record Sets (T N : Type 0) : Type 0 where
  pub same : T → T → Bool
  pub first : N → T → Bool
  pub follow : N → T → Bool
  pub nullable : N → T → Bool

-- The last of the symbols is no nonterminal.
abbrev pub ends_in_terminal : {T N : Type 0} → List (Symbol T N) → Bool
ends_in_terminal [] = true
ends_in_terminal (Terminal k ∷ []) = true
ends_in_terminal (Nonterminal n ∷ []) = false
ends_in_terminal (x ∷ y ∷ xs) = ends_in_terminal (y ∷ xs)

module _ {T N : Type 0} (s : Sets T N) where
  abbrev pub first_of : Symbol T N → T → Bool
  first_of (Terminal j) k = s.same j k
  first_of (Nonterminal n) k = s.first n k

  abbrev pub nullable_of : Symbol T N → T → Bool
  nullable_of (Terminal j) k = false
  nullable_of (Nonterminal n) k = s.nullable n k

  abbrev pub first_list : List (Symbol T N) → T → Bool
  first_list [] k = false
  first_list (x ∷ xs) k = first_of x k || (nullable_of x k && first_list xs k)

  abbrev pub nullable_list : List (Symbol T N) → T → Bool
  nullable_list [] k = true
  nullable_list (x ∷ xs) k = nullable_of x k && nullable_list xs k

  -- what stands behind each nonterminal of a list may follow it
  abbrev pub suits : N → List (Symbol T N) → T → Bool
  suits n [] k = true
  suits n (Terminal _ ∷ xs) k = suits n xs k
  suits n (Nonterminal m ∷ xs) k = implies (first_list xs k || (nullable_list xs k && s.follow n k)) (s.follow m k) && suits n xs k

module _ {Token T N P V : Type 0} (g : Grammar Token T N P V) (predict : N → T → Option P) where
  abbrev pub Offered : N → Option P → T → Type 0
  Offered n None k = Unit {0}
  Offered n (Some p) k = (g.nonterminal_of p ≡ n) × (g.allows p k ≡ true)

  -- The parse table is that of the grammar.
  pub record IsLl1 (s : Sets T N) : Type 0 where
    pub own : (k : T) → s.same k k ≡ true
    pub first_closed : (p : P) → (k : T) → first_list s (g.symbols p) k ≡ true → s.first (g.nonterminal_of p) k ≡ true
    pub nullable_closed : (p : P) → (k : T) → nullable_list s (g.symbols p) k ≡ true → g.allows p k ≡ true → s.nullable (g.nonterminal_of p) k ≡ true
    pub predicts_first : (p : P) → (k : T) → first_list s (g.symbols p) k ≡ true → predict (g.nonterminal_of p) k ≡ Some p
    pub predicts_empty : (p : P) → (k : T) → nullable_list s (g.symbols p) k ≡ true → s.follow (g.nonterminal_of p) k ≡ true → g.allows p k ≡ true →
        predict (g.nonterminal_of p) k ≡ Some p
    pub suited : (p : P) → (k : T) → suits s (g.nonterminal_of p) (g.symbols p) k ≡ true
    pub start_ends : ends_in_terminal (g.symbols g.start) ≡ true
    pub offered : (n : N) → (k : T) → Offered n (predict n k) k

  abbrev pub Predicts : N → P → List Token → Type 0
  Predicts n p [] = ⊥
  Predicts n p (t ∷ ts) = predict n (g.terminal_of t) ≡ Some p

  -- A derivation each of whose productions is the predicted one.
  abbrev mutual
    pub Goes : Tree Token P → Symbol T N → List Token → List Token → Type 0
    Goes (leaf t) x ts rest = (x ≡ Terminal (g.terminal_of t)) × (ts ≡ t ∷ rest)
    Goes (node p cs) x ts rest = (n : N) × (x ≡ Nonterminal n) × Predicts n p ts × GoesAll cs (g.symbols p) ts rest

    pub GoesAll : Trees Token P → List (Symbol T N) → List Token → List Token → Type 0
    GoesAll none xs ts rest = (xs ≡ []) × (ts ≡ rest)
    GoesAll (some c cs) xs ts rest =
        (x : Symbol T N) × (ys : List (Symbol T N)) × (middle : List Token) × (xs ≡ x ∷ ys) × Goes c x ts middle × GoesAll cs ys middle rest

  -- a text, its value and its history by such a derivation
  abbrev pub IsGuided : List Token → V → List (Event T P) → Type 0
  IsGuided ts c whole =
      (cs : Trees Token P) × GoesAll cs (g.symbols g.start) ts [] × (g.build g.start (values_of g cs []) ≡ c)
      × (Close g.start ∷ history_all g cs (Open g.start ∷ []) ≡ whole)
