-- What a language shows of its grammar by computation alone: the parse table with FIRST and FOLLOW, how each nonterminal
-- is closed, that none opens for ever, and where the end of the text stands.
use Rattle.std.specs.Prelude.{◌≡◌, ◌&&◌, ◌||◌, ◌++◌, ℕ, suc, ◌+◌, nat_lt, not, Bool, true, false, Option, Some, None, List, [], ◌∷◌}
use Rattle.grammar.specs.declared.language.Symbol.{Symbol}
use Rattle.grammar.specs.declared.language.Symbol.TheVariants.{Terminal, Nonterminal}
use Rattle.grammar.specs.Grammar.{Grammar}
use Rattle.grammar.specs.Lookahead.{implies}

-- Before which terminals a nonterminal may be empty.
pub data Nullable (T : Type 0) : Type 0 where
  Never : Nullable T
  Before : List T → Nullable T
  Always : Nullable T

-- The tables. `terminals` lists all terminals. `cost` falls from a nonterminal to those that a production of it begins with.
-- `closing` is a short text of a nonterminal, derived by its production `shortest`, before any of the terminals in `before`,
-- and `height` falls from a nonterminal to those of that production. `end` stands at the end of a text alone: a nonterminal
-- is `inner` where its texts have none.
pub record Certificate (Token T N P : Type 0) : Type 0 where
  pub same_terminal : T → T → Bool
  pub same_nonterminal : N → N → Bool
  pub same_production : P → P → Bool
  pub terminals : List T
  pub predict : N → T → Option P
  pub first : N → List T
  pub follow : N → List T
  pub nullable : N → Nullable T
  pub cost : N → ℕ
  pub example : T → Token
  pub shortest : N → P
  pub closing : N → List T
  pub before : N → List T
  pub height : N → ℕ
  pub end : T
  pub inner : N → Bool

pub record IsEquality {A : Type 0} (same : A → A → Bool) : Type 0 where
  pub is : (a b : A) → same a b ≡ true → a ≡ b
  pub own : (a : A) → same a a ≡ true

abbrev pub may_be_empty : {T : Type 0} → Nullable T → Bool
may_be_empty Never = false
may_be_empty (Before ks) = true
may_be_empty Always = true

-- where both may be empty, at least
abbrev pub both : {T : Type 0} → Nullable T → Nullable T → Nullable T
both Never v = Never
both (Before ks) Never = Never
both (Before ks) (Before js) = Before ks
both (Before ks) Always = Before ks
both Always v = v

abbrev pub when : {A : Type 0} → Bool → A → List A → List A
when true x xs = x ∷ xs
when false x xs = xs

abbrev pub only : Bool → ℕ → ℕ
only true n = n
only false n = 0

module _ {Token T N P : Type 0} (c : Certificate Token T N P) where
  abbrev pub member : T → List T → Bool
  member k [] = false
  member k (j ∷ js) = c.same_terminal j k || member k js

  abbrev pub subset : List T → List T → Bool
  subset [] ys = true
  subset (k ∷ ks) ys = member k ys && subset ks ys

  abbrev pub allowed_by : Nullable T → T → Bool
  allowed_by Never k = false
  allowed_by (Before ks) k = member k ks
  allowed_by Always k = true

  abbrev pub nullable_symbols : List (Symbol T N) → Nullable T
  nullable_symbols [] = Always
  nullable_symbols (Terminal k ∷ xs) = Never
  nullable_symbols (Nonterminal n ∷ xs) = both (c.nullable n) (nullable_symbols xs)

  -- those of the terminals before which it may be empty
  abbrev pub through : Nullable T → List T → List T
  through Never ks = []
  through Always ks = ks
  through (Before js) [] = []
  through (Before js) (k ∷ ks) = when (member k js) k (through (Before js) ks)

  abbrev pub first_symbols : List (Symbol T N) → List T
  first_symbols [] = []
  first_symbols (Terminal k ∷ xs) = k ∷ []
  first_symbols (Nonterminal n ∷ xs) = c.first n ++ through (c.nullable n) (first_symbols xs)

  abbrev pub is_some_production : Option P → P → Bool
  is_some_production None p = false
  is_some_production (Some q) p = c.same_production q p

  abbrev pub predicts : N → P → List T → Bool
  predicts n p [] = true
  predicts n p (k ∷ ks) = is_some_production (c.predict n k) p && predicts n p ks

  abbrev pub follows : N → List (Symbol T N) → Bool
  follows n [] = true
  follows n (Terminal k ∷ xs) = follows n xs
  follows n (Nonterminal m ∷ xs) =
      subset (first_symbols xs) (c.follow m) && subset (through (nullable_symbols xs) (c.follow n)) (c.follow m) && follows n xs

  -- the steps, at most, until a token is taken or these symbols are done
  abbrev pub opening_cost : List (Symbol T N) → ℕ
  opening_cost [] = 0
  opening_cost (Terminal k ∷ xs) = 1
  opening_cost (Nonterminal n ∷ xs) = c.cost n + only (may_be_empty (c.nullable n)) (opening_cost xs)

  abbrev pub closings : List (Symbol T N) → List T
  closings [] = []
  closings (Terminal k ∷ xs) = k ∷ closings xs
  closings (Nonterminal n ∷ xs) = c.closing n ++ closings xs

  abbrev pub same_list : List T → List T → Bool
  same_list [] [] = true
  same_list [] (k ∷ ks) = false
  same_list (j ∷ js) [] = false
  same_list (j ∷ js) (k ∷ ks) = c.same_terminal j k && same_list js ks

  abbrev pub is_below : ℕ → List (Symbol T N) → Bool
  is_below h [] = true
  is_below h (Terminal k ∷ xs) = is_below h xs
  is_below h (Nonterminal n ∷ xs) = nat_lt (c.height n) h && is_below h xs

  -- A nonterminal's closing is derived by this production: the lookahead is its own first terminal, or else what stands behind.
  abbrev pub begins_by : N → P → List T → Bool
  begins_by n p [] = predicts n p (c.before n)
  begins_by n p (k ∷ ks) = is_some_production (c.predict n k) p

  -- The nonterminal may be closed before these terminals, or where there are none, where the test says so.
  abbrev pub closes_before : (N → Bool) → N → List T → Bool
  closes_before last m [] = last m
  closes_before last m (k ∷ ks) = member k (c.before m)

  abbrev pub can_close : (N → Bool) → List (Symbol T N) → Bool
  can_close last [] = true
  can_close last (Terminal k ∷ xs) = can_close last xs
  can_close last (Nonterminal m ∷ xs) = closes_before last m (closings xs) && can_close last xs

  abbrev pub is_inner : Symbol T N → Bool
  is_inner (Terminal k) = not (c.same_terminal c.end k)
  is_inner (Nonterminal n) = c.inner n

  abbrev pub all_inner : List (Symbol T N) → Bool
  all_inner [] = true
  all_inner (x ∷ xs) = is_inner x && all_inner xs

  abbrev pub is_end : Symbol T N → Bool
  is_end (Terminal k) = c.same_terminal c.end k
  is_end (Nonterminal n) = false

  abbrev pub ends_once : List (Symbol T N) → Bool
  ends_once [] = false
  ends_once (x ∷ []) = is_end x
  ends_once (x ∷ y ∷ xs) = is_inner x && ends_once (y ∷ xs)

module _ {Token T N P V : Type 0} (g : Grammar Token T N P V) (c : Certificate Token T N P) where
  abbrev pub is_offered : N → T → Option P → Bool
  is_offered n k None = true
  is_offered n k (Some p) = c.same_nonterminal (g.nonterminal_of p) n && g.allows p k

  abbrev pub all_offered : N → List T → Bool
  all_offered n [] = true
  all_offered n (k ∷ ks) = is_offered n k (c.predict n k) && all_offered n ks

  abbrev pub predicts_allowed : N → P → List T → Bool
  predicts_allowed n p [] = true
  predicts_allowed n p (k ∷ ks) = implies (g.allows p k) (is_some_production c (c.predict n k) p) && predicts_allowed n p ks

  -- A production that may be empty before a terminal is one of a nonterminal that may.
  abbrev pub empties : P → Nullable T → List T → Bool
  empties p v [] = true
  empties p v (k ∷ ks) = implies (g.allows p k) (allowed_by c v k) && empties p v ks

  abbrev pub covers : P → Nullable T → Nullable T → Bool
  covers p Never v = true
  covers p (Before ks) v = may_be_empty v && empties p v ks
  covers p Always v = may_be_empty v && empties p v c.terminals

  -- The tables are those of the grammar. Each field is a test that computes.
  pub record IsSound : Type 0 where
    pub same_terminal : IsEquality c.same_terminal
    pub same_nonterminal : IsEquality c.same_nonterminal
    pub same_production : IsEquality c.same_production
    pub terminals : (k : T) → member c k c.terminals ≡ true
    -- the parse table
    pub first : (p : P) → subset c (first_symbols c (g.symbols p)) (c.first (g.nonterminal_of p)) ≡ true
    pub nullable : (p : P) → covers p (nullable_symbols c (g.symbols p)) (c.nullable (g.nonterminal_of p)) ≡ true
    pub predicts_first : (p : P) → predicts c (g.nonterminal_of p) p (first_symbols c (g.symbols p)) ≡ true
    pub predicts_empty : (p : P) → predicts_allowed (g.nonterminal_of p) p (through c (nullable_symbols c (g.symbols p)) (c.follow (g.nonterminal_of p))) ≡ true
    pub follow : (p : P) → follows c (g.nonterminal_of p) (g.symbols p) ≡ true
    pub offers : (n : N) → all_offered n c.terminals ≡ true
    -- no production opens for ever
    pub cost : (p : P) → nat_lt (suc (opening_cost c (g.symbols p))) (c.cost (g.nonterminal_of p)) ≡ true
    -- each nonterminal can be closed
    pub example : (k : T) → g.terminal_of (c.example k) ≡ k
    pub closing : (n : N) → same_list c (c.closing n) (closings c (g.symbols (c.shortest n))) ≡ true
    pub height : (n : N) → is_below c (c.height n) (g.symbols (c.shortest n)) ≡ true
    pub begins : (n : N) → begins_by c n (c.shortest n) (c.closing n) ≡ true
    pub fits : (p : P) → can_close c (λ m. subset c (c.before (g.nonterminal_of p)) (c.before m)) (g.symbols p) ≡ true
    pub start_fits : can_close c (λ m. false) (g.symbols g.start) ≡ true
    -- the end of the text
    pub inner : (p : P) → implies (c.inner (g.nonterminal_of p)) (all_inner c (g.symbols p)) ≡ true
    pub ends : ends_once c (g.symbols g.start) ≡ true
