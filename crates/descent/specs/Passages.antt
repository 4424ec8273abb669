-- What the machine comes to over several tokens of a text that pass no limit.
use Rattle.std.specs.Prelude.{◌≡◌, ◌+◌, length, List, ◌∷◌, Option}
use Rattle.grammar.specs.declared.language.Symbol.TheVariants.{Nonterminal}
use Rattle.grammar.specs.declared.language.Event.{Event}
use Rattle.grammar.specs.Grammar.{Grammar}
use Rattle.grammar.specs.Limits.{Meter, reading, taken, first_passing}
use Rattle.grammar.specs.Descent.{Item, left, behind, with_value, Same}

module _ {Token T N P V M : Type 0} (g : Grammar Token T N P V) (predict : N → T → Option P) (meter : Meter T P M) where
  pub record Passed (fs : List (Item P V)) (past : List (Event T P)) (ts : List Token) (gs : List (Item P V)) (n : M) (us : List Token) : Type 0 where
    pub later : List (Event T P)
    pub reads : reading meter later ≡ n
    pub count : taken later + length us ≡ taken past + length ts
    pub passing : first_passing meter later ≡ first_passing meter past
    pub same : Same g predict fs past gs later ts us

  -- From these items before some tokens the machine comes to others before the rest of them, and no limit is passed on the way.
  abbrev pub Ran : List (Item P V) → M → List Token → List (Item P V) → M → List Token → Type 0
  Ran fs m ts gs n us = (past : List (Event T P)) → reading meter past ≡ m → Passed fs past ts gs n us

  -- A production that awaits this nonterminal is given its value, whatever stands around it.
  abbrev pub Gives : N → List Token → M → V → List Token → M → Type 0
  Gives i ts m v us n = (f : Item P V) (fs : List (Item P V)) → left g f ≡ Nonterminal i ∷ behind g f → Ran (f ∷ fs) m ts (with_value f v ∷ fs) n us
