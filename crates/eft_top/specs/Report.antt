-- What a report shows on diag.
use Rattle.std.specs.Prelude.{◌≡◌, ℕ, List, [], ◌++◌, Some, None}
use Rattle.std.specs.declared.option.Option.{Option}
use Rattle.macro_define.specs.declared.refusal.TextRefusal.{TextRefusal}
use Rattle.macro_define.specs.declared.refusal.TextRefusal.TheVariants as refusals
use Rattle.front.specs.Verdict.{file_name}
use Rattle.runner.specs.declared.run.End.{End as TheEnd}
use Rattle.runner.specs.declared.run.End.TheVariants as ends
use Rattle.eft_top.specs.declared.status.Status.{Status}
use Rattle.eft_top.specs.declared.status.Status.TheVariants as statuses
use Rattle.eft_top.specs.Lines.{fault_line, trap_line, stop_line, limit_line, counts_line, library_fault_line, input_fault_line, output_fault_line}
use Rattle.eft_top.specs.declared.report.Line.{Line}
use Rattle.eft_top.specs.declared.report.Line.TheVariants as lines
use Rattle.eft_top.specs.declared.report.Counts.{Counts}
use Rattle.eft_top.specs.declared.report.Report.{Report}
use Rattle.eft_top.specs.Outcome.{Outcome, HasFault, status_of, diag_line}

abbrev pub line_bytes : Line → List ℕ
line_bytes (lines.Fixed text) = text.now
line_bytes (lines.Fault fault name) = fault_line fault name
line_bytes (lines.Trap trap place files) = trap_line trap (file_name files.items place.file) place.line
line_bytes (lines.Stop number) = stop_line number
line_bytes (lines.Limit limit) = limit_line limit

abbrev pub counts_bytes : Option Counts → List ℕ
counts_bytes None = []
counts_bytes (Some counts) = counts_line counts.begun counts.executed

-- the line of the counts, and then that of the status
abbrev pub report_bytes : Report → List ℕ
report_bytes report = counts_bytes report.counts ++ line_bytes report.line

-- it has a status whose line says all
pub record SaysAll (report : Report) (some : Status) (text : List ℕ) : Type 0 where
  pub status : report.status ≡ some
  pub line : report_bytes report ≡ text

-- it shows this outcome
pub record IsReport (report : Report) (outcome : Outcome) : Type 0 where
  pub status : Some report.status ≡ status_of outcome
  pub line : report_bytes report ≡ diag_line outcome

-- it shows what a text was refused for
abbrev pub ReportsRefusal : TextRefusal → Report → Type 0
ReportsRefusal (refusals.Fault fault name) report = IsReport report (HasFault fault name)
ReportsRefusal refusals.Library report = SaysAll report statuses.LibraryFault library_fault_line
ReportsRefusal refusals.Memory report = ⊥

-- the status of a runner's end, and its line
abbrev pub status_at : TheEnd → Status
status_at ends.Done = statuses.Done
status_at (ends.Stopped n) = statuses.Stopped n
status_at (ends.Trapped trap place) = statuses.Trapped trap
status_at ends.StepLimit = statuses.StepLimit
status_at ends.InputFault = statuses.InputFault
status_at ends.OutputFault = statuses.OutputFault

abbrev pub line_at : List (List ℕ) → ℕ → TheEnd → List ℕ
line_at files limit ends.Done = []
line_at files limit (ends.Stopped n) = stop_line n
line_at files limit (ends.Trapped trap place) = trap_line trap (file_name files place.file) place.line
line_at files limit ends.StepLimit = limit_line limit
line_at files limit ends.InputFault = input_fault_line
line_at files limit ends.OutputFault = output_fault_line

-- where a put has failed the counts are not shown
abbrev pub counts_at : Option Counts → TheEnd → List ℕ
counts_at counts ends.OutputFault = []
counts_at counts _ = counts_bytes counts
