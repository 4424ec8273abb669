-- The stack as the machine holds it, and the contracts of its steps.
use Rattle.std.specs.Prelude.{◌≡◌, ◌⊎◌, ◌<◌, ◌≤◌, ℕ, suc, ◌+◌, Option, Some, None, List, [], ◌∷◌, ◌++◌, length, take, drop}
use Rattle.grammar.specs.declared.language.Symbol.{Symbol}
use Rattle.grammar.specs.declared.language.Symbol.TheVariants.{Terminal, Nonterminal}
use Rattle.grammar.specs.declared.language.Event.{Event}
use Rattle.grammar.specs.declared.stack.Frame.{Frame}
use Rattle.grammar.specs.declared.stack.Stack.{Stack}
use Rattle.grammar.specs.declared.machine.Step.{Step}
use Rattle.grammar.specs.declared.machine.Step.TheVariants as steps
use Rattle.grammar.specs.Grammar.{Grammar}
use Rattle.grammar.specs.Limits.{Meter}
use Rattle.grammar.specs.Certificate.{Certificate, may_be_empty, only}
use Rattle.grammar.specs.Descent.{Item, left, behind, with_value, whole, Continues, Linked, Turns, Takes, Refuses}

abbrev pub piled : {A B : Type 0} → (A → B) → List A → List B → List B
piled f [] old = old
piled f (x ∷ xs) old = piled f xs (f x ∷ old)

-- the values of all productions under way, the last first
abbrev pub held : {P W V : Type 0} → (W → V) → Stack P W → List V
held view s = piled view s.values.items []

abbrev pub item : {P V : Type 0} → Frame P → List V → Item P V
item f vs = record { production = f.production; values = take f.count vs }

-- each production with its share of the values, the innermost first
abbrev pub shares : {P V : Type 0} → List (Frame P) → List V → List (Item P V)
shares [] vs = []
shares (f ∷ fs) vs = item f vs ∷ shares fs (drop f.count vs)

abbrev pub innermost : {P W V : Type 0} → (W → V) → Stack P W → Item P V
innermost view s = item s.top (held view s)

-- the values of the productions around the innermost
abbrev pub below : {P W V : Type 0} → (W → V) → Stack P W → List V
below view s = drop s.top.count (held view s)

abbrev pub outer_shares : {P V : Type 0} → List (Frame P) → List V → List (Item P V)
outer_shares fs vs = shares (piled (λ f. f) fs []) vs

abbrev pub around : {P W V : Type 0} → (W → V) → Stack P W → List (Item P V)
around view s = outer_shares s.outer.items (below view s)

-- the innermost first
abbrev pub items : {P W V : Type 0} → (W → V) → Stack P W → List (Item P V)
items view s = innermost view s ∷ around view s

-- the last values, this many where there are as many
pub record IsSplit {W : Type 0} (all : List W) (count : ℕ) (rest parts : List W) : Type 0 where
  pub joined : all ≡ rest ++ parts
  pub many : (length parts ≡ count) ⊎ ((rest ≡ []) × (length parts ≤ count))

module _ {Token T N P V : Type 0} (g : Grammar Token T N P V) where
  -- The innermost is closed inside this production.
  abbrev pub closed : {W : Type 0} → (W → V) → Frame P → Stack P W → List (Item P V)
  closed view next s =
      with_value (item next (below view s)) (whole g (innermost view s)) ∷ outer_shares s.outer.items (drop next.count (below view s))

module _ {Token T N P V M : Type 0} (g : Grammar Token T N P V) (predict : N → T → Option P) (meter : Meter T P M) where
  abbrev pub Stepped : Step → List (Item P V) → M → Token → List (Item P V) → M → Type 0
  Stepped steps.Taken fs m t gs n = Takes g predict meter fs m t gs n
  Stepped steps.Again fs m t gs n = Turns g predict meter fs m t gs n
  Stepped steps.Stuck fs m t gs n = Refuses g predict meter fs m t

module _ {Token T N P V : Type 0} (g : Grammar Token T N P V) where
  abbrev pub StaysLinked : Step → List (Item P V) → List (Item P V) → Type 0
  StaysLinked steps.Stuck fs gs = Unit {0}
  StaysLinked _ fs gs = Linked g fs → Linked g gs

module _ {Token T N P V : Type 0} (g : Grammar Token T N P V) (predict : N → T → Option P) where
  -- What the end of the text makes of the items: their value, or nothing where they are not whole.
  abbrev pub Finishes : {W : Type 0} → (W → V) → List (Item P V) → Option W → Type 0
  Finishes view fs (Some w) =
      (past : List (Event T P)) → ((c : V) → (all : List (Event T P)) → Continues g predict fs past [] c all → view w ≡ c)
      × ((all : List (Event T P)) × Continues g predict fs past [] (view w) all)
  Finishes view fs None = (past : List (Event T P)) → (c : V) → (all : List (Event T P)) → Continues g predict fs past [] c all → ⊥

module _ {Token T N P V : Type 0} (g : Grammar Token T N P V) (c : Certificate Token T N P) where
  -- The steps, at most, until a token is taken or refused.
  abbrev pub distance_along : List (Symbol T N) → ℕ → ℕ
  distance_along [] outer = suc outer
  distance_along (Terminal k ∷ xs) outer = 1
  distance_along (Nonterminal n ∷ xs) outer = c.cost n + only (may_be_empty (c.nullable n)) (distance_along xs outer)

  abbrev pub outer_distance : List (Item P V) → ℕ
  outer_distance [] = 0
  outer_distance (f ∷ fs) = distance_along (behind g f) (outer_distance fs)

  abbrev pub distance : List (Item P V) → ℕ
  distance [] = 0
  distance (f ∷ fs) = distance_along (left g f) (outer_distance fs)

  abbrev pub ComesCloser : Step → List (Item P V) → List (Item P V) → Type 0
  ComesCloser steps.Again fs gs = distance gs < distance fs
  ComesCloser _ fs gs = Unit {0}
