-- From what came of a run, a deck or a refusal to what came of the command.
use Rattle.std.proofs.Common.{◌≡◌, ◌≢◌, ◌∙◌, ◌++◌, ap, subst, sym, ℕ, Bool, true, false, List, [], ◌∷◌, Option, Some, refl, inl, inr}
use Rattle.std.specs.Prelude.{Result, Ok, Err, IfOk}
use Rattle.std.specs.Io.KnownBytes.{IsAtEnd}
use Rattle.std.proofs.lemmas.List.{append-nil}
use Rattle.std.proofs.lemmas.Grind.{flat_map-append}
use Rattle.ground.specs.declared.fault.Fault.{Fault}
use Rattle.ground.specs.declared.place.Place.{Place}
use Rattle.ground.specs.declared.token.Dialect.{Dialect}
use Rattle.ground.specs.declared.trap.Trap.TheVariants.{EndOfInput}
use Rattle.ports.specs.Records.{got_records, input_records, output_bytes}
use Rattle.ports.specs.Puts.{PutsPrefix}
use Rattle.f66_tree.specs.World.{Record, Shown, End, Ended, GoesOn, Done, Stopped, Trapped, IsPrefix}
use Rattle.f66_program.specs.Linking.{Program}
use Rattle.macro_define.specs.Answers.{Known}
use Rattle.macro_define.specs.Gathered.{HasCause}
use Rattle.macro_define.specs.declared.refusal.TextRefusal.{TextRefusal}
use Rattle.macro_define.specs.declared.refusal.TextRefusal.TheVariants as refusals
use Rattle.front.specs.Checked.{Meaning}
use Rattle.front.specs.Verdict.{Refuses, Accepts, Becomes}
use Rattle.front.specs.Programs.{IsProgramOf}
use Rattle.front.specs.Translated.{IsTranslated}
use Rattle.front.specs.declared.translate.Translated.{Translated}
use Rattle.deck_file.specs.Answers.{IsDeckIn}
use Rattle.f66_tree.specs.declared.unit.Unit.{Unit as AUnit}
use Rattle.record_intake.specs.Intakes.{MayCome as MayCome1, Pieces}
use Rattle.record_intake.proofs.Asking.{pieces_by}
use Rattle.runner.specs.declared.run.End.{End as TheEnd}
use Rattle.runner.specs.declared.run.End.TheVariants as ends
use Rattle.machine.specs.Runs.{Executes, AsksForMore as AsksForMore1}
use Rattle.machine.specs.Streams.{RunsWhole, RunsCutOff, RunsBrokenOff, StreamsTo}
use Rattle.eft_top.specs.Words.{Command, Cards, Listing, Deck}
use Rattle.eft_top.specs.Causes.{NeedsNoInput}
use Rattle.eft_top.specs.declared.status.Status.TheVariants as statuses
use Rattle.eft_top.specs.declared.report.Counts.{Counts}
use Rattle.eft_top.specs.declared.report.Report.{Report}
use Rattle.eft_top.specs.Input.{Got, Unread, Nothing, Broken, HasGiven, HasGot, HasRead, is_unread}
use Rattle.eft_top.specs.Outcome.{Outcome, HasFault, HasText, Runs, IsRun, IsDeckRun, AsksForMore, RunsOver, ComesOf, DeckComesOf, IsOutcomeOf, IsOutcomeBy, end_status, end_line, count_line, if_asked}
use Rattle.eft_top.specs.Report.{ReportsRefusal, counts_at, counts_bytes, report_bytes, status_at, line_at}
use Rattle.eft_top.specs.Story.{HasPut, HasBroken, Shows, AllPut, BrokenOff, IsUnitsRun, Prints, CameOf, NotFetched, NoMemory, Came}
use Rattle.eft_top.proofs.Delivery.{longer, none_before}
use Rattle.record_flow.proofs.Puts.{none_behind}

pub if_ok : {T E : Type 0} {P Q : T → Type 0} → ((t : T) → P t → Q t) → (r : Result T E) → IfOk r P → IfOk r Q
if_ok by (Ok t) p = by t p
if_ok by (Err e) p = tt

-- ---- the counts ----

-- where no put failed they come before the line of the end
abbrev pub counts_before : List ℕ → TheEnd → List ℕ
counts_before counted ends.OutputFault = []
counts_before counted _ = counted

pub counted_at : (counts : Option Counts) (counted : List ℕ) → counts_bytes counts ≡ counted → (end : TheEnd) → counts_at counts end ≡ counts_before counted end
counted_at counts counted is ends.Done = is
counted_at counts counted is (ends.Stopped n) = is
counted_at counts counted is (ends.Trapped trap place) = is
counted_at counts counted is ends.StepLimit = is
counted_at counts counted is ends.InputFault = is
counted_at counts counted is ends.OutputFault = refl

-- each record is at least its byte 10
no_records : (records : List Record) → output_bytes records ≡ [] → records ≡ []
no_records [] none = refl
no_records (r ∷ rs) none = absurd (let end : ◌≡◌ {A = List ℕ} (10 ∷ []) [] = none_behind r (10 ∷ []) (none_before (r ++ 10 ∷ []) (output_bytes rs) none) in cc)

-- ---- the run of linked units ----

module _ {S K : Type 0} (left : S → Option (List ℕ)) (puts : K → List ℕ → K → Type 0) (faults : S → ℕ) (failures : K → ℕ) (i0 i1 : S) (o0 o1 : K) (files : List (List ℕ)) (made : Program) (limit : ℕ) (count : Bool) (begun executed : ℕ) where
  abbrev pub Over : (Got → Type 0) → Outcome → Type 0
  Over given outcome = RunsOver files (IsUnitsRun made limit) limit count given outcome

  abbrev pub Shown1 : Report → Type 0
  Shown1 report = Shows Over (HasGiven left faults i0 i1) (HasGot left i0 i1) (HasPut puts failures o0 o1) (HasBroken puts failures o0 o1) report

  -- the line of the counts
  abbrev pub Counted : List ℕ
  Counted = count_line (if_asked count executed) begun

  asks_more : (rs : List Record) → AsksForMore1 made limit rs → AsksForMore (IsUnitsRun made limit) rs
  asks_more rs a = (a.shown, a.executed, (a.runs, a.counts), (a.place, a.end))

  asked : (pieces : List (List ℕ)) → Pieces (AsksForMore1 made limit) [] pieces → Pieces (AsksForMore (IsUnitsRun made limit)) [] pieces
  asked pieces h = pieces_by asks_more [] pieces h

  whole : (end : End) → RunsWhole left puts faults failures i0 i1 o0 o1 made limit end begun executed → (report : Report) → Some report.status ≡ end_status false end → report_bytes report ≡ Counted ++ end_line files limit false end → Shown1 report
  whole end h report status line = by h.ended h.at_end h.told (λ failed later may. (h.runs failed later may, h.counts failed later may))
    where
      shown : Shown
      shown = record { records = h.written; end = end; work = begun }

      by : (ended : Bool) → (ended ≡ true → IsAtEnd (left i1)) → ((place : Place) → end ≡ Ended (Trapped EndOfInput place) → ended ≡ true) → ((failed : Bool) (later : List ℕ) → MayCome1 ended failed later → IsUnitsRun made limit (got_records failed (h.got ++ later)) shown executed) → Shown1 report
      by true at_end told runs =
          AllPut (Runs files limit false (if_asked count executed) shown)
          (record { bytes = h.got; behind = Nothing; pieces = h.gets.pieces }, record { reads = record { bytes = h.consumes; all = h.gets.all; idle = h.gets.idle }; counts = h.steady.input; end = λ e. at_end refl }, shown, executed, runs, tt, asked h.gets.pieces h.gets.asked, refl)
          (record { all = h.sent; steady = h.steady.out })
          (record { status = status; line = line })
      by false at_end told runs =
          AllPut (Runs files limit false (if_asked count executed) shown)
          (record { bytes = h.got; behind = Unread; pieces = h.gets.pieces }, record { reads = record { bytes = h.consumes; all = h.gets.all; idle = h.gets.idle }; counts = h.steady.input; end = λ e. cc }, shown, executed, runs, (λ place is. let no : false ≡ true = told place is in cc), asked h.gets.pieces h.gets.asked, refl)
          (record { all = h.sent; steady = h.steady.out })
          (record { status = status; line = line })

  -- of one input alone
  alone : (cut : Bool) (got : List ℕ) (shown : Shown) (number : ℕ) → IsUnitsRun made limit (got_records cut got) shown number → (failed : Bool) (later : List ℕ) → (failed ≡ cut) × (later ≡ []) → IsUnitsRun made limit (got_records failed (got ++ later)) shown number
  alone cut got shown number runs failed later may =
      subst (λ (f : Bool). IsUnitsRun made limit (got_records f (got ++ later)) shown number) (sym may.0)
      (subst (λ (bytes : List ℕ). IsUnitsRun made limit (got_records cut bytes) shown number) (sym (ap (λ (l : List ℕ). got ++ l) may.1 ∙ append-nil got)) runs)

  cut_off : RunsCutOff left puts faults failures i0 i1 o0 o1 made limit begun executed → (report : Report) → report.status ≡ statuses.InputFault → report_bytes report ≡ Counted ++ line_at files limit ends.InputFault → Shown1 report
  cut_off h report status line =
      AllPut (Runs files limit true (if_asked count executed) shown)
      (record { bytes = h.got; behind = Broken; pieces = h.gets.pieces }, record { reads = record { bytes = h.consumes; all = h.gets.all; idle = h.gets.idle }; counts = h.input; end = λ e. cc }, shown, executed, alone true h.got shown executed (h.runs, h.counts), (h.place, refl), asked h.gets.pieces h.gets.asked, refl)
      (record { all = h.sent; steady = h.out })
      (record { status = ap Some status; line = line })
    where
      shown : Shown
      shown = record { records = h.written; end = Ended (Trapped EndOfInput h.place); work = begun }

  broken_off : RunsBrokenOff left puts faults failures i0 i1 o0 o1 made limit → (report : Report) → report.status ≡ statuses.OutputFault → report_bytes report ≡ line_at files limit ends.OutputFault → Shown1 report
  broken_off h report status line =
      BrokenOff (Runs files limit false (if_asked count counts.0) shown)
      (record { bytes = h.got; behind = Nothing; pieces = h.gets.pieces }, record { bytes = h.consumes; all = h.gets.all; idle = h.gets.idle }, shown, counts.0, alone false h.got shown counts.0 (h.some.1, counts.1), tt, asked h.gets.pieces h.gets.asked, refl)
      (record { some = some; front = subst (λ (bytes : List ℕ). PutsPrefix puts o0 bytes o1) more (longer puts failures o0 o1 (output_bytes h.written) (output_bytes begins.rest) h.sent); cause = h.out })
      (record { status = status; line = line })
    where
      shown : Shown
      shown = h.some.0

      counts : (number : ℕ) × Executes made (input_records h.got) limit shown number
      counts = h.counts shown h.some.1

      begins : IsPrefix h.written shown.records
      begins = h.begins shown h.some.1

      more : output_bytes h.written ++ output_bytes begins.rest ≡ output_bytes shown.records
      more = sym (flat_map-append (λ record_bytes. record_bytes ++ 10 ∷ []) h.written begins.rest) ∙ ap output_bytes begins.is

      some : output_bytes shown.records ≢ []
      some none = h.wanted (no_records h.written (none_before (output_bytes h.written) (output_bytes begins.rest) (more ∙ none)))

  pub run_shows : (end : TheEnd) → StreamsTo left puts faults failures i0 i1 o0 o1 made limit begun executed end → (report : Report) → report.status ≡ status_at end → report_bytes report ≡ counts_before Counted end ++ line_at files limit end → Shown1 report
  run_shows ends.Done h report status line = whole (Ended Done) h report (ap Some status) line
  run_shows (ends.Stopped n) h report status line = whole (Ended (Stopped n)) h report (ap Some status) line
  run_shows (ends.Trapped trap place) h report status line = whole (Ended (Trapped trap place)) h report (ap Some status) line
  run_shows ends.StepLimit h report status line = whole GoesOn h report (ap Some status) line
  run_shows ends.InputFault h report status line = cut_off h report status line
  run_shows ends.OutputFault h report status line = broken_off h report status line

  -- something was read, or nothing
  pub run_reads : (end : TheEnd) → StreamsTo left puts faults failures i0 i1 o0 o1 made limit begun executed end → HasRead (left i0) (left i1)
  run_reads ends.Done h = (h.got, h.consumes)
  run_reads (ends.Stopped n) h = (h.got, h.consumes)
  run_reads (ends.Trapped trap place) h = (h.got, h.consumes)
  run_reads ends.StepLimit h = (h.got, h.consumes)
  run_reads ends.InputFault h = (h.got, h.consumes)
  run_reads ends.OutputFault h = (h.got, h.consumes)

  -- and with any other end no read has failed
  pub all_read : (end : TheEnd) → StreamsTo left puts faults failures i0 i1 o0 o1 made limit begun executed end → status_at end ≢ statuses.InputFault → faults i1 ≡ faults i0
  all_read ends.Done h other = h.steady.input
  all_read (ends.Stopped n) h other = h.steady.input
  all_read (ends.Trapped trap place) h other = h.steady.input
  all_read ends.StepLimit h other = h.steady.input
  all_read ends.InputFault h other = absurd (other refl)
  all_read ends.OutputFault h other = h.input

-- a run needs its input
pub needs_input : (end : TheEnd) → NeedsNoInput (status_at end) → ⊥
needs_input ends.Done none = none
needs_input (ends.Stopped n) none = none
needs_input (ends.Trapped trap place) none = none
needs_input ends.StepLimit none = none
needs_input ends.InputFault none = none
needs_input ends.OutputFault none = none

-- ---- what has one outcome has another ----

pub shows_so : {one other : (Got → Type 0) → Outcome → Type 0} {given got : Got → Type 0} {put broken : List ℕ → Type 0} {report : Report} → ((some : Got → Type 0) (o : Outcome) → one some o → other some o) → Shows one given got put broken report → Shows other given got put broken report
shows_so {given = given} {got = got} by (AllPut o comes sent shows) = AllPut o (by given o comes) sent shows
shows_so {given = given} {got = got} by (BrokenOff o comes broke says) = BrokenOff o (by got o comes) broke says

-- the run of a program of a meaning is one of the meaning
is_run : (meaning : Meaning) (made : Program) (limit : ℕ) (input : List Record) → IsProgramOf meaning made → (shown : Shown) (executed : ℕ) → IsUnitsRun made limit input shown executed → IsRun meaning limit input shown executed
is_run meaning made limit input program shown executed runs =
    let linked = program.linked in
    record { made = made; program = program; is = runs.0.shows linked.linkage linked.links linked.codes linked.of ∙ sym (ap (λ (run : Meaning). run input limit) linked.is); counted = runs.1 }

asks_in_text : (meaning : Meaning) (made : Program) (limit : ℕ) → IsProgramOf meaning made → (rs : List Record) → AsksForMore (IsUnitsRun made limit) rs → AsksForMore (IsRun meaning limit) rs
asks_in_text meaning made limit program rs a = (a.0, a.1, is_run meaning made limit rs program a.0 a.1 a.2, a.3)

asks_in_deck : (made : Program) (limit : ℕ) (rs : List Record) → AsksForMore (IsUnitsRun made limit) rs → AsksForMore (IsDeckRun made limit) rs
asks_in_deck made limit rs a = (a.0, a.1, a.2.0, a.3)

-- so an accepted text comes to its run, and a deck to its own
pub ran_text : (files : List (List ℕ)) (made : Program) (meaning : Meaning) (limit : ℕ) (count : Bool) → IsProgramOf meaning made → (given : Got → Type 0) (o : Outcome) → RunsOver files (IsUnitsRun made limit) limit count given o → ComesOf (Accepts files meaning) limit count given o
ran_text files made meaning limit count program given o over = (
  over.0,
  over.1,
  over.2,
  over.3,
  (λ failed later may. is_run meaning made limit _ program over.2 over.3 (over.4 failed later may)),
  over.5,
  pieces_by (asks_in_text meaning made limit program) [] over.0.pieces over.6,
  over.7,
)

pub ran_deck : (made : Program) (files : List (List ℕ)) (file : List ℕ) (limit : ℕ) → files ≡ file ∷ [] → (given : Got → Type 0) (o : Outcome) → RunsOver files (IsUnitsRun made limit) limit false given o → DeckComesOf file (Ok made) limit given o
ran_deck made files file limit is given o over =
    subst (λ (names : List (List ℕ)). RunsOver names (IsDeckRun made limit) limit false given o) is (over.0, over.1, over.2, over.3, (λ failed later may. (over.4 failed later may).0), over.5, pieces_by (asks_in_deck made limit) [] over.0.pieces over.6, over.7)

-- ---- a text that is put ----

pub prints_shows : (deck : List ℕ) (comes : (Got → Type 0) → Outcome → Type 0) → ((given : Got → Type 0) → comes given (HasText deck)) → (given got : Got → Type 0) (put broken : List ℕ → Type 0) (report : Report) → Prints deck put broken report → Shows comes given got put broken report
prints_shows deck comes is given got put broken report (inl done) = AllPut (HasText deck) (is given) done.0 (record { status = ap Some done.1.status; line = done.1.line })
prints_shows deck comes is given got put broken report (inr broke) = BrokenOff (HasText deck) (is got) broke.0 broke.1

-- ---- a refusal ----

-- a command that comes to a text's fault where the text has one
pub refused_came : (command : Command) (d : Dialect) (file : List ℕ) (files : Option (List ℕ → Option (List ℕ))) (before now : ℕ) (given got : Got → Type 0) (put broken : List ℕ → Type 0) (refusal : TextRefusal) (report : Report) →
    ((fault : Fault) (name : List ℕ) (known : Known) → Becomes d file known (Refuses fault name) → IsOutcomeOf command known given (HasFault fault name)) →
    IsTranslated files d file (Err refusal) → HasCause {B = Translated} before now (Err refusal) → put [] → ReportsRefusal refusal report → CameOf command files before now given got put broken report
refused_came command d file files before now given got put broken (refusals.Fault fault name) report comes text cause none shows = Came cause (AllPut (HasFault fault name) (text.known, text.of, comes fault name text.known text.gives) none shows)
refused_came command d file files before now given got put broken refusals.Library report comes text cause none shows = NotFetched cause none shows
refused_came command d file files before now given got put broken refusals.Memory report comes text cause none shows = absurd shows

-- the same of a deck
pub refused_deck : (limit : ℕ) (file : List ℕ) (files : Option (List ℕ → Option (List ℕ))) (before now : ℕ) (given got : Got → Type 0) (put broken : List ℕ → Type 0) (refusal : TextRefusal) (report : Report) →
    IsDeckIn files file (Err refusal) → HasCause {B = AUnit} before now (Err refusal) → put [] → ReportsRefusal refusal report → CameOf (Deck limit file) files before now given got put broken report
refused_deck limit file files before now given got put broken (refusals.Fault fault name) report deck cause none shows =
    Came cause (AllPut (HasFault fault name) (deck.known, deck.of, (Err fault, deck.gives.0, ap (λ n. HasFault fault n) deck.gives.1)) none shows)
refused_deck limit file files before now given got put broken refusals.Library report deck cause none shows = NotFetched cause none shows
refused_deck limit file files before now given got put broken refusals.Memory report deck cause none shows = absurd shows

-- ---- neither cards nor a listing ask for reads ----

module _ (command : Command) (files : Option (List ℕ → Option (List ℕ))) (so : (given other : Got → Type 0) (o : Outcome) → IsOutcomeBy command files given o → IsOutcomeBy command files other o) (given got : Got → Type 0) (put broken : List ℕ → Type 0) (report : Report) where
  unread_so : Shows (IsOutcomeBy command files) is_unread is_unread put broken report → Shows (IsOutcomeBy command files) given got put broken report
  unread_so (AllPut o is sent shows) = AllPut o (so is_unread given o is) sent shows
  unread_so (BrokenOff o is broke says) = BrokenOff o (so is_unread got o is) broke says

  unread_too : (before now : ℕ) → CameOf command files before now is_unread is_unread put broken report → CameOf command files before now given got put broken report
  unread_too before now (NotFetched rose none says) = NotFetched rose none says
  unread_too before now (NoMemory none says) = NoMemory none says
  unread_too before now (Came same shows) = Came same (unread_so shows)

pub cards_unread : (d : Dialect) (file : List ℕ) (files : Option (List ℕ → Option (List ℕ))) (before now : ℕ) (given got : Got → Type 0) (put broken : List ℕ → Type 0) (report : Report) →
    CameOf (Cards d file) files before now is_unread is_unread put broken report → CameOf (Cards d file) files before now given got put broken report
cards_unread d file files before now given got put broken report came = unread_too (Cards d file) files (λ one other o is. is) given got put broken report before now came

pub listing_unread : (d : Dialect) (file : List ℕ) (files : Option (List ℕ → Option (List ℕ))) (before now : ℕ) (given got : Got → Type 0) (put broken : List ℕ → Type 0) (report : Report) →
    CameOf (Listing d file) files before now is_unread is_unread put broken report → CameOf (Listing d file) files before now given got put broken report
listing_unread d file files before now given got put broken report came = unread_too (Listing d file) files (λ one other o is. is) given got put broken report before now came
