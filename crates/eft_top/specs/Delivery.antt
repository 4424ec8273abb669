-- What a sink has of bytes that were to be put.
use Rattle.std.specs.Prelude.{◌≡◌, ◌≢◌, ℕ, Bool, true, false, List, [], ◌++◌, Result, OnOk, OnErr}
use Rattle.ports.specs.Causes.{Rose}
use Rattle.ports.specs.Puts.{PutsPrefix}
use Rattle.eft_top.specs.declared.puts.LineWriter.{LineWriter}

-- They were put, and no put has failed; or a put has failed, of some of them, and those before it were put.
pub record Delivers {S T E : Type 0} (puts : S → List ℕ → S → Type 0) (faults : S → ℕ) (old new : S) (bytes : List ℕ) (result : Result T E) : Type 0 where
  pub all : OnOk result (puts old bytes new)
  pub steady : OnOk result (faults new ≡ faults old)
  pub front : OnErr result (PutsPrefix puts old bytes new)
  pub cause : OnErr result (Rose (faults old) (faults new))
  pub some : OnErr result (bytes ≢ [])

-- A line is on its way to a sink: what was put and what is in hand are its pieces so far; or a put has failed of some of them.
abbrev pub IsOnItsWay : {S : Type 0} → (S → List ℕ → S → Type 0) → (S → ℕ) → S → List ℕ → S → List ℕ → Bool → Type 0
IsOnItsWay puts faults begun line now hand false = (sent : List ℕ) × puts begun sent now × (line ≡ sent ++ hand) × (faults now ≡ faults begun)
IsOnItsWay puts faults begun line now hand true = PutsPrefix puts begun line now × Rose (faults begun) (faults now) × (line ≢ [])

abbrev pub IsWriting : {S : Type 0} → (S → List ℕ → S → Type 0) → (S → ℕ) → S → List ℕ → S → LineWriter → Type 0
IsWriting puts faults begun line now writer = IsOnItsWay puts faults begun line now writer.hand.items writer.failed
