-- A runner before and after its run.
use Rattle.std.specs.Prelude.{◌≡◌, ℕ, ◌-◌, ◌<◌, List, length, Option, Some, None, slice_get}
use Rattle.stack_code.specs.declared.valid.Code.{Code}
use Rattle.runner.specs.declared.run.End.{End}
use Rattle.runner.specs.declared.words.Cell.{Cell}
use Rattle.runner.specs.declared.words.Cell.TheVariants as cells
use Rattle.runner.specs.declared.runner.Runner.{Runner}
use Rattle.runner.specs.Running.{IsReady}
use Rattle.runner.specs.Endings.{IsUnread, IsRunOf}

pub record AreEmpty (held : List Cell) (units : ℕ) : Type 0 where
  pub long : length held ≡ units
  pub empty : (q : ℕ) → q < length held → slice_get held q ≡ Some cells.Nothing

-- all that a run needs is there, and nothing has been read
pub record IsReadyRunner (r : Runner) : Type 0 where
  pub ready : IsReady r.code r.stack.items r.cells.items r.spots.items r.resumes.items
  pub unread : IsUnread r.flow.intake

-- the run has not begun, and has all that it needs
pub record IsFresh (code : Code) (steps : ℕ) (r : Runner) : Type 0 where
  pub same : r.code ≡ code
  pub limit : r.steps ≡ steps
  pub none : r.end ≡ None
  pub nothing_begun : r.begun ≡ 0
  pub nothing_executed : r.executed ≡ 0
  pub ready : IsReadyRunner r

abbrev pub MayGo : Runner → Option End → Type 0
MayGo r None = IsReadyRunner r
MayGo r (Some e) = Unit {0}

-- it is ready, or its run has ended
abbrev pub MayRun : Runner → Type 0
MayRun r = MayGo r r.end

-- what the first call comes to
pub record IsFirst {S K : Type 0} (left : S → Option (List ℕ)) (puts : K → List ℕ → K → Type 0) (faults : S → ℕ) (failures : K → ℕ) (i0 i1 : S) (o0 o1 : K) (old new : Runner) (result : End) : Type 0 where
  pub rest : ℕ
  pub begun : new.begun ≡ old.steps - rest
  pub runs : IsRunOf left puts faults failures i0 i1 o0 o1 old.code old.steps (record { end = result; left = rest; executed = new.executed })
  pub ended : new.end ≡ Some result

-- and each later one
pub record IsLater {S K : Type 0} (i0 i1 : S) (o0 o1 : K) (old new : Runner) (end result : End) : Type 0 where
  pub same : new ≡ old
  pub input : i1 ≡ i0
  pub out : o1 ≡ o0
  pub answers : result ≡ end

abbrev pub IsRunFrom : {S K : Type 0} → (S → Option (List ℕ)) → (K → List ℕ → K → Type 0) → (S → ℕ) → (K → ℕ) → S → S → K → K → Option End → Runner → Runner → End → Type 0
IsRunFrom left puts faults failures i0 i1 o0 o1 None old new result = IsFirst left puts faults failures i0 i1 o0 o1 old new result
IsRunFrom left puts faults failures i0 i1 o0 o1 (Some end) old new result = IsLater i0 i1 o0 o1 old new end result

abbrev pub IsRun : {S K : Type 0} → (S → Option (List ℕ)) → (K → List ℕ → K → Type 0) → (S → ℕ) → (K → ℕ) → S → S → K → K → Runner → Runner → End → Type 0
IsRun left puts faults failures i0 i1 o0 o1 old new result = IsRunFrom left puts faults failures i0 i1 o0 o1 old.end old new result
