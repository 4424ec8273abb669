-- What the parser answers: the tree of a program within its limits, or the first fault.
use Rattle.std.specs.Prelude.{◌≡◌, ◌⊎◌, ℕ, suc, take, Some, Result, Ok, Err, slice_get, List}
use Rattle.ground.specs.declared.token.Token.{Token}
use Rattle.ground.specs.declared.fault.Fault.{Fault}
use Rattle.ground.specs.declared.fault.FaultKind.TheVariants.{Syntax, Limit}
use Rattle.ground.specs.declared.fault.Refusal.{Refusal}
use Rattle.ground.specs.declared.fault.Refusal.TheVariants as refusals
use Rattle.grammar.specs.Grammar.{Grammar, Begins}
use Rattle.grammar.specs.Limits.{Meter, IsWithin, Passes, IsAccepted}

module _ {T N P V M : Type 0} (g : Grammar Token T N P V) (meter : Meter T P M) where
  -- Some program begins with the tokens before the i-th, none with it too, and no limit is passed before it.
  abbrev pub SyntaxAt : List Token → ℕ → Type 0
  SyntaxAt ts i = Begins g (take i ts) × (Begins g (take (suc i) ts) → ⊥) × IsWithin g meter (take i ts) i

  -- Some program begins with the tokens up to the i-th, and the first limit that is passed is the k-th, there.
  abbrev pub LimitAt : List Token → ℕ → ℕ → Type 0
  LimitAt ts i k = Begins g (take (suc i) ts) × Passes g meter (take (suc i) ts) (record { token = i; limit = k })

  abbrev pub FaultAt : List Token → ℕ → Token → Fault → Type 0
  FaultAt ts i t fault =
      ((fault ≡ record { kind = Syntax; place = t.place; number = 0 }) × SyntaxAt ts i)
      ⊎ ((fault ≡ record { kind = Limit; place = t.place; number = fault.number }) × LimitAt ts i fault.number)

  abbrev pub IsFirstFault : List Token → Fault → Type 0
  IsFirstFault ts fault = (i : ℕ) × (t : Token) × (slice_get ts i ≡ Some t) × FaultAt ts i t fault

  -- Want of memory says nothing of the text.
  abbrev pub Answers : {W : Type 0} → (W → V) → List Token → Result W Refusal → Type 0
  Answers view ts (Ok w) = IsAccepted g meter ts (view w)
  Answers view ts (Err (refusals.Fault fault)) = IsFirstFault ts fault
  Answers view ts (Err refusals.Memory) = Unit {0}
