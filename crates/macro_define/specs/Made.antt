-- The tokens that have been made, and how many more may be counted.
use Rattle.std.specs.Prelude.{◌≡◌, ℕ, ◌-◌, ◌==◌, ⊤, List, [], ◌∷◌, ◌++◌, Result, Ok, Err, if◌then◌else◌}
use Rattle.ground.specs.declared.fault.Fault.{Fault}
use Rattle.ground.specs.Faults.{limit_at}
use Rattle.ground.specs.declared.fault.Refusal.{Refusal}
use Rattle.ground.specs.declared.fault.Refusal.TheVariants.{Fault as Faulty, Memory as WantOfMemory}
use Rattle.ground.specs.declared.place.Place.{Place}
use Rattle.ground.specs.declared.token.Token.{Token}
use Rattle.macro_define.specs.declared.output.Output.{Output}

pub record Made : Type 0 where
  pub tokens : List Token
  pub left : ℕ

abbrev pub made : Output → Made
made o = record { tokens = o.tokens.items; left = o.left }

-- one after the other, up to the first fault
abbrev pub and_then : {A B E : Type 0} → Result A E → (A → Result B E) → Result B E
and_then (Ok a) f = f a
and_then (Err e) f = Err e

-- a token, or the name of a macro, is counted
abbrev pub counted : Place → Made → Result Made Fault
counted place m = if m.left == 0 then Err (limit_at place 2) else Ok (record { tokens = m.tokens; left = m.left - 1 })

-- a token is counted and added
abbrev pub put : Token → Made → Result Made Fault
put t m = if m.left == 0 then Err (limit_at (t.place) 2) else Ok (record { tokens = m.tokens ++ t ∷ []; left = m.left - 1 })

-- A call goes from what is told to what it leaves to be done, or to the fault that is told; want of memory says nothing.
abbrev pub Goes : {A B : Type 0} → Result A Fault → Result B Refusal → Result A Fault → Type 0
Goes told (Ok b) later = told ≡ later
Goes told (Err (Faulty fault)) later = told ≡ Err fault
Goes told (Err WantOfMemory) later = ⊤

-- what a call answers, and what it leaves, are those that are told
abbrev pub Came : {A B : Type 0} → Result A Fault → Result B Refusal → A → Type 0
Came told r after = Goes told r (Ok after)
