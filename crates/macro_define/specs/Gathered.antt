-- What the calls of gather say, by the definition.
use Rattle.std.specs.Prelude.{◌≡◌, ◌⊎◌, ⊤, ℕ, List, map, Result, Ok, Err, Vec, Option, Some, None}
use Rattle.std.specs.declared.alloc.Global.{Global}
use Rattle.ports.specs.Causes.{Rose}
use Rattle.ground.specs.declared.fault.Refusal.{Refusal}
use Rattle.ground.specs.declared.fault.Refusal.TheVariants.{Fault as Faulty, Memory as WantOfMemory}
use Rattle.macro_define.specs.declared.gathering.Gathering.{Gathering}
use Rattle.macro_define.specs.declared.refusal.TextRefusal.{TextRefusal}
use Rattle.macro_define.specs.declared.refusal.TextRefusal.TheVariants as refusals
use Rattle.macro_define.specs.Answers.{Answers}
use Rattle.macro_define.specs.Expansion.{Stop, GatherState, held_under, stop_in, wanting}
use Rattle.macro_define.specs.Made.{made}
use Rattle.macro_define.specs.Uses.{table}

abbrev pub world : Gathering → Answers → GatherState
world g answers = record { made = made g.output; macros = table g.macros; files = map (λ k. k.items) g.files.keys; room = g.room; answers = answers }

-- a call goes on from what is told to what is left of it, or to the fault that is told, with these answers after it; a
-- failed fetch and want of memory say nothing
abbrev pub Gathers : {A B : Type 0} → Result A Stop → Result B TextRefusal → Result A Stop → Answers → Type 0
Gathers told (Ok b) left after = told ≡ left
Gathers told (Err (refusals.Fault fault name)) left after = told ≡ Err (stop_in name after fault)
Gathers told (Err refusals.Library) left after = ⊤
Gathers told (Err refusals.Memory) left after = ⊤

-- the same of a call that gives a text
abbrev pub Fetches : Result (List ℕ × GatherState) Stop → Result (Vec ℕ Global) TextRefusal → GatherState → Type 0
Fetches told (Ok text) after = told ≡ Ok (text.items, after)
Fetches told (Err (refusals.Fault fault name)) after = told ≡ Err (stop_in name after.answers fault)
Fetches told (Err refusals.Library) after = ⊤
Fetches told (Err refusals.Memory) after = ⊤

-- a failed fetch has raised the count, and all else leaves it
abbrev pub HasCause : {B : Type 0} → ℕ → ℕ → Result B TextRefusal → Type 0
HasCause before now (Ok b) = now ≡ before
HasCause before now (Err (refusals.Fault fault name)) = now ≡ before
HasCause before now (Err refusals.Library) = Rose before now
HasCause before now (Err refusals.Memory) = now ≡ before

-- a refusal in the file of this name, or want of memory
abbrev pub IsInFile : List ℕ → Refusal → TextRefusal → Type 0
IsInFile name (Faulty fault) refusal = (refusal ≡ refusals.Fault fault name) ⊎ (refusal ≡ refusals.Memory)
IsInFile name WantOfMemory refusal = refusal ≡ refusals.Memory

-- what a library holds under this name
abbrev pub Asks : List ℕ → Result (Option (Vec ℕ Global)) TextRefusal → Answers → Answers → Type 0
Asks name (Ok None) before after = (held_under name before ≡ None) × (after ≡ wanting name before)
Asks name (Ok (Some text)) before after = (held_under name before ≡ Some text.items) × (after ≡ wanting name before)
Asks name (Err refusal) before after = ⊤

-- no fault of the text
abbrev pub IsNoFault : {B : Type 0} → Result B TextRefusal → Type 0
IsNoFault (Ok b) = ⊤
IsNoFault (Err (refusals.Fault fault name)) = ⊥
IsNoFault (Err refusals.Library) = ⊤
IsNoFault (Err refusals.Memory) = ⊤

-- no failed fetch
abbrev pub IsUnasked : {B : Type 0} → Result B TextRefusal → Type 0
IsUnasked (Ok b) = ⊤
IsUnasked (Err (refusals.Fault fault name)) = ⊤
IsUnasked (Err refusals.Library) = ⊥
IsUnasked (Err refusals.Memory) = ⊤
