-- What the clauses of `eft` say of a run of a text that the library tells and the checks accept: what it shows is what the text
-- means, and it misses nothing that the text means. Each is said by what reads may have given, over each input that begins so, and by
-- what holds of the bytes that out and diag got.
use Rattle.std.specs.Prelude.{◌≡◌, ◌≢◌, ◌⊎◌, ℕ, ◌+◌, ◌*◌, ◌≤◌, Bool, List, [], ◌∷◌, ◌++◌, Option, Some}
use Rattle.ports.specs.Records.{input_records, output_bytes}
use Rattle.f66_tree.specs.World.{Record, Shown, IsPrefix, Finish, Ended, GoesOn}
use Rattle.f66_tree.specs.Agreement.{Same}
use Rattle.macro_define.specs.Answers.{Holds}
use Rattle.ground.specs.declared.token.Dialect.{Dialect}
use Rattle.front.specs.Checked.{Meaning}
use Rattle.front.specs.Verdict.{Accepts, Becomes}
use Rattle.eft_top.specs.declared.status.Status.{Status}
use Rattle.eft_top.specs.declared.status.Status.TheVariants.{LibraryFault, OutputFault, StepLimit, Memory}
use Rattle.eft_top.specs.Input.{Got, Broken, is_broken, OfEach, MayHave, HasGiven}
use Rattle.eft_top.specs.Words.{AskFor, Run}
use Rattle.eft_top.specs.Outcome.{end_status, end_line, count_line, if_asked}
use Rattle.eft_top.specs.Causes.{IsOneOf, IsOfText, AnswersCall}

-- The words ask for a run of at most so many steps of the text in a file, with its counts or without; the library tells that text, with its includes, and it is
-- accepted to run with this meaning and these names of files; and this was the answer to the call.
pub record IsRunOf (words : List (List ℕ)) (limit : ℕ) (count : Bool) (language : Dialect) (file : List ℕ) (held : List ℕ → Option (List ℕ)) (files : List (List ℕ)) (meaning : Meaning) (given : Got → Type 0) (result : Status) (out diag : List ℕ → Type 0) : Type 0 where
  pub asks : AskFor words (Run limit count language file)
  pub accepted : Becomes language file (Holds held) (Accepts files meaning)
  pub answer : AnswersCall (AskFor words) (Some held) given result out diag

-- the status is that of the end, out got the records, and diag the line of the counts, where they are asked for, and the line of the end
pub record Presents (counts : List ℕ) (files : List (List ℕ)) (limit : ℕ) (failed : Bool) (run : Shown) (result : Status) (out diag : List ℕ → Type 0) : Type 0 where
  pub status : Some result ≡ end_status failed run.end
  pub on_out : out (output_bytes run.records)
  pub on_diag : diag (counts ++ end_line files limit failed run.end)

-- ---- what a run shows is what the text means ----

-- a run has the records and the end that are meant; or it stopped at its limit with the first of the records that are meant
abbrev pub IsMeant : Shown → Shown → Type 0
IsMeant meant run = Same meant run ⊎ ((run.end ≡ GoesOn) × IsPrefix run.records meant.records)

-- it shows a run that is what the text means over the records of each input that begins with what was got
abbrev pub RunShowsMeaning : (Got → Type 0) → (List ℕ → Type 0) → (List ℕ → Type 0) → Type 0
RunShowsMeaning given out diag =
    (words : List (List ℕ)) (limit : ℕ) (count : Bool) (language : Dialect) (file : List ℕ) (held : List ℕ → Option (List ℕ)) (files : List (List ℕ)) (meaning : Meaning) (result : Status) →
    IsRunOf words limit count language file held files meaning given result out diag → IsOfText result →
    (got : Got) × given got × (run : Shown) × (executed : ℕ) × OfEach got (λ records. IsMeant (meaning records limit) run) × Presents (count_line (if_asked count executed) run.work) files limit (is_broken got.behind) run result out diag

-- ---- a run misses nothing that the text means ----

-- Of what is meant within each bound on the turns of loops. Where it ends with a work w, it is what the call presents, if
-- 32 * (w + 1) is within the limit; where it goes on, out got its records and may have got more, within the same limit; and where it
-- goes on at every bound, the limit stops the run.
pub record MissesNothing (counts : List ℕ) (meant : ℕ → Shown) (files : List (List ℕ)) (limit : ℕ) (failed : Bool) (result : Status) (out diag : List ℕ → Type 0) : Type 0 where
  pub ended : (b : ℕ) (f : Finish) → (meant b).end ≡ Ended f → 32 * ((meant b).work + 1) ≤ limit → Presents counts files limit failed (meant b) result out diag
  pub going : (b : ℕ) → (meant b).end ≡ GoesOn → 32 * ((meant b).work + 1) ≤ limit → (records : List Record) × IsPrefix (meant b).records records × out (output_bytes records)
  pub endless : ((b : ℕ) → (meant b).end ≡ GoesOn) → result ≡ StepLimit

-- unless a fetch or a put failed, or memory was wanting
abbrev pub RunMissesNothing : (Got → Type 0) → (List ℕ → Type 0) → (List ℕ → Type 0) → Type 0
RunMissesNothing given out diag =
    (words : List (List ℕ)) (limit : ℕ) (count : Bool) (language : Dialect) (file : List ℕ) (held : List ℕ → Option (List ℕ)) (files : List (List ℕ)) (meaning : Meaning) (result : Status) →
    IsRunOf words limit count language file held files meaning given result out diag →
    IsOneOf result (LibraryFault ∷ OutputFault ∷ Memory ∷ [])
    ⊎ ((got : Got) × given got × (begun executed : ℕ) × OfEach got (λ records. MissesNothing (count_line (if_asked count executed) begun) (meaning records) files limit (is_broken got.behind) result out diag))

-- ---- a source that tells its bytes ----

-- where no read failed, its whole input is one of those that begin with what was got
abbrev pub InputIsWhole : {S : Type 0} → (S → Option (List ℕ)) → (S → ℕ) → S → S → Type 0
InputIsWhole left faults before after =
    (got : Got) (bytes : List ℕ) → HasGiven left faults before after got → left before ≡ Some bytes → got.behind ≢ Broken → MayHave got (input_records bytes)
