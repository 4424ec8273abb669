-- The productions under way, and what each step of the machine does to what may follow.
use Rattle.std.specs.Prelude.{◌≡◌, ◌++◌, suc, length, drop, Option, List, [], ◌∷◌}
use Rattle.grammar.specs.declared.language.Symbol.{Symbol}
use Rattle.grammar.specs.declared.language.Symbol.TheVariants.{Nonterminal}
use Rattle.grammar.specs.declared.language.Event.{Event}
use Rattle.grammar.specs.declared.language.Event.TheVariants.{Take, Close}
use Rattle.grammar.specs.Grammar.{Grammar, Trees, values_of}
use Rattle.grammar.specs.Limits.{history_all, Meter, reading, taken, first_passing}
use Rattle.grammar.specs.Lookahead.{GoesAll, IsGuided}

-- A production under way, and the values of the symbols that it has so far, the last first.
pub record Item (P V : Type 0) : Type 0 where
  pub production : P
  pub values : List V

abbrev pub with_value : {P V : Type 0} → Item P V → V → Item P V
with_value f v = record { production = f.production; values = v ∷ f.values }

abbrev pub opened : {P V : Type 0} → P → Item P V
opened p = record { production = p; values = [] }

module _ {Token T N P V : Type 0} (g : Grammar Token T N P V) where
  abbrev pub left : Item P V → List (Symbol T N)
  left f = drop (length f.values) (g.symbols f.production)

  abbrev pub behind : Item P V → List (Symbol T N)
  behind f = drop (suc (length f.values)) (g.symbols f.production)

  abbrev pub whole : Item P V → V
  whole f = g.build f.production f.values

  -- Each item but the innermost waits for the nonterminal of the next, and the outermost is the start production.
  abbrev pub Linked : List (Item P V) → Type 0
  Linked [] = ⊥
  Linked (f ∷ []) = f.production ≡ g.start
  Linked (f ∷ h ∷ fs) = (left h ≡ Nonterminal (g.nonterminal_of f.production) ∷ behind h) × Linked (h ∷ fs)

module _ {Token T N P V : Type 0} (g : Grammar Token T N P V) (predict : N → T → Option P) where
  -- With this value of the innermost, these tokens finish the items, and give the text its value and history.
  abbrev pub Receives : List (Item P V) → V → List (Event T P) → List Token → V → List (Event T P) → Type 0
  Receives [] v past ts c all = (v ≡ c) × (past ≡ all) × (ts ≡ [])
  Receives (f ∷ fs) v past ts c all =
      (cs : Trees Token P) × (rest : List Token) × GoesAll g predict cs (behind g f) ts rest
      × Receives fs (g.build f.production (values_of g cs (v ∷ f.values))) (Close f.production ∷ history_all g cs past) rest c all

  -- These tokens finish the items.
  abbrev pub Continues : List (Item P V) → List (Event T P) → List Token → V → List (Event T P) → Type 0
  Continues [] past ts c all = ⊥
  Continues (f ∷ fs) past ts c all =
      (cs : Trees Token P) × (rest : List Token) × GoesAll g predict cs (left g f) ts rest
      × Receives fs (g.build f.production (values_of g cs f.values)) (Close f.production ∷ history_all g cs past) rest c all

  pub record Same (fs : List (Item P V)) (past : List (Event T P)) (gs : List (Item P V)) (later : List (Event T P)) (ts us : List Token) : Type 0 where
    pub to : (c : V) → (all : List (Event T P)) → Continues fs past ts c all → Continues gs later us c all
    pub from : (c : V) → (all : List (Event T P)) → Continues gs later us c all → Continues fs past ts c all

  -- What the items say of the tokens so far.
  pub record Stands (ts : List Token) (fs : List (Item P V)) (past : List (Event T P)) : Type 0 where
    pub to : (more : List Token) → (c : V) → (all : List (Event T P)) → IsGuided g predict (ts ++ more) c all → Continues fs past more c all
    pub from : (more : List Token) → (c : V) → (all : List (Event T P)) → Continues fs past more c all → IsGuided g predict (ts ++ more) c all
    pub linked : Linked g fs

module _ {Token T N P V M : Type 0} (g : Grammar Token T N P V) (predict : N → T → Option P) (meter : Meter T P M) where
  -- Productions were opened and closed before a token, and the token was not taken.
  pub record Turned (fs : List (Item P V)) (past : List (Event T P)) (t : Token) (gs : List (Item P V)) (n : M) : Type 0 where
    pub later : List (Event T P)
    pub reads : reading meter later ≡ n
    pub count : taken later ≡ taken past
    pub passing : first_passing meter later ≡ first_passing meter past
    pub same : (more : List Token) → Same g predict fs past gs later (t ∷ more) (t ∷ more)

  -- Then the token was taken.
  pub record Took (fs : List (Item P V)) (past : List (Event T P)) (t : Token) (gs : List (Item P V)) (n : M) : Type 0 where
    pub later : List (Event T P)
    pub reads : reading meter (Take (g.terminal_of t) ∷ later) ≡ n
    pub count : taken later ≡ taken past
    pub passing : first_passing meter later ≡ first_passing meter past
    pub same : (more : List Token) → Same g predict fs past gs (Take (g.terminal_of t) ∷ later) (t ∷ more) more

  abbrev pub Turns : List (Item P V) → M → Token → List (Item P V) → M → Type 0
  Turns fs m t gs n = (past : List (Event T P)) → reading meter past ≡ m → Turned fs past t gs n

  abbrev pub Takes : List (Item P V) → M → Token → List (Item P V) → M → Type 0
  Takes fs m t gs n = (past : List (Event T P)) → reading meter past ≡ m → Took fs past t gs n

  -- No tokens finish the items from this token on.
  abbrev pub Refuses : List (Item P V) → M → Token → Type 0
  Refuses fs m t =
      (past : List (Event T P)) → reading meter past ≡ m → (more : List Token) → (c : V) → (all : List (Event T P)) →
      Continues g predict fs past (t ∷ more) c all → ⊥
