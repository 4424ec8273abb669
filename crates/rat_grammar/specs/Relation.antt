-- What is answered of a text by a published grammar, which is a relation between tokens and trees. Its limits count along the
-- derivation of the text by a table.
use Rattle.std.specs.Prelude.{◌≡◌, ◌++◌, ℕ, suc, take, Some, None, Result, Ok, Err, slice_get, List, []}
use Rattle.ground.specs.declared.token.Token.{Token}
use Rattle.ground.specs.declared.fault.Fault.{Fault}
use Rattle.ground.specs.declared.fault.FaultKind.TheVariants.{Syntax, Limit}
use Rattle.ground.specs.declared.fault.Refusal.{Refusal}
use Rattle.ground.specs.declared.fault.Refusal.TheVariants as refusals
use Rattle.grammar.specs.Grammar.{Grammar, Parse}
use Rattle.grammar.specs.Limits.{Meter, first_passing, history_of, IsWithin, Passes}
use Rattle.rat_grammar.specs.Tokens.{TextEnd}

-- The last token is the end of the text.
abbrev pub EndsText : List Token → Type 0
EndsText ts = (before : List Token) × (last : List Token) × (ts ≡ before ++ last) × TextEnd last []

module _ {R T N P V M : Type 0} (Program : List Token → R → Type 0) (g : Grammar Token T N P V) (meter : Meter T P M) where
  -- Some program begins with these tokens.
  abbrev pub Begins : List Token → Type 0
  Begins ts = (more : List Token) × (r : R) × Program (ts ++ more) r

  -- The tree is the one of this text, and no token of it passes a limit.
  pub record IsAccepted (ts : List Token) (r : R) : Type 0 where
    pub is : Program ts r
    pub only : (s : R) → Program ts s → r ≡ s
    pub within : (parse : Parse g ts) → first_passing meter (history_of g parse) ≡ None

  -- The first fault is Syntax at the i-th token: some program begins with those before it, none with it too, and no limit is passed
  -- before it. Or it is a limit there: some program begins with the tokens up to it, and the k-th limit is the first that is passed.
  pub data IsFirstFault (ts : List Token) : Fault → Type 0 where
    syntax : (i : ℕ) (t : Token) → slice_get ts i ≡ Some t → Begins (take i ts) → (Begins (take (suc i) ts) → ⊥) → IsWithin g meter (take i ts) i →
        IsFirstFault ts (record { kind = Syntax; place = t.place; number = 0 })
    limit : (i : ℕ) (t : Token) (k : ℕ) → slice_get ts i ≡ Some t → Begins (take (suc i) ts) → Passes g meter (take (suc i) ts) (record { token = i; limit = k }) →
        IsFirstFault ts (record { kind = Limit; place = t.place; number = k })

  -- Want of memory says nothing of the text.
  abbrev pub Answers : {W : Type 0} → (W → R) → List Token → Result W Refusal → Type 0
  Answers view ts (Ok w) = IsAccepted ts (view w)
  Answers view ts (Err (refusals.Fault fault)) = IsFirstFault ts fault
  Answers view ts (Err refusals.Memory) = Unit {0}
