-- From what came of a call to the clauses of the top call.
use Rattle.std.specs.Prelude.{IfSome}
use Rattle.std.proofs.Common.{◌≡◌, ◌≢◌, ℕ, Bool, true, false, ◌&&◌, if◌then◌else◌, List, [], ◌∷◌, ◌⊎◌, inl, inr, refl, sym, ◌∙◌, ap, subst, Ok, Err, Some, None}
use Rattle.std.specs.declared.option.Option.{Option}
use Rattle.ground.specs.declared.trap.Trap.{Trap}
use Rattle.ground.specs.declared.trap.Trap.TheVariants.{EndOfInput}
use Rattle.ground.specs.declared.fault.Fault.{Fault}
use Rattle.ground.specs.declared.place.Place.{Place}
use Rattle.f66_tree.specs.World.{Record, Shown, End, Ended, GoesOn, Lost, Done, Stopped, Trapped, Wrong}
use Rattle.macro_define.specs.Answers.{Known, Holds, answer}
use Rattle.front.specs.Checked.{Meaning}
use Rattle.front.specs.Verdict.{Verdict, Refuses, Accepts}
use Rattle.front.specs.Laws.{OneVerdict}
use Rattle.deck_file.specs.Loaded.{Loaded}
use Rattle.deck_file.proofs.OneLoaded.{both_refused}
use Rattle.eft_top.specs.declared.status.Status.{Status}
use Rattle.eft_top.specs.declared.status.Status.TheVariants.{Done as IsDone, Usage, SourceFault, LibraryFault, InputFault, OutputFault, StepLimit, Memory, Stopped as IsStopped, Trapped as IsTrapped}
use Rattle.eft_top.specs.declared.report.Report.{Report}
use Rattle.eft_top.specs.Words.{Command, Run, Cards, Listing, Deck, AskNothing}
use Rattle.eft_top.specs.Input.{Got, Behind, Unread, Nothing, Broken, is_broken}
use Rattle.eft_top.specs.Outcome.{Outcome, HasFault, HasText, Runs, IsRun, IsDeck, IsListing, IsDeckRun, RunsOver, Asks, IsPrinted, ComesOf, DeckComesOf, is_end_of_input, trap_status, IsOutcomeOf, IsOutcomeBy, status_of, end_status, out_of, diag_line}
use Rattle.eft_top.specs.Lines.{output_fault_line}
use Rattle.eft_top.specs.Causes.{Comes, MayBe, Compels, IsOfText, IsShown, IfTold, AnswersCall, WasToShow, fixed_line}
use Rattle.eft_top.specs.Report.{SaysAll, IsReport, report_bytes}
use Rattle.eft_top.specs.Story.{Shows, AllPut, BrokenOff, CameOf, NotFetched, NoMemory, Came, CameOfWords, BadWords, Asked}

some_injective : {a b : Status} → Some a ≡ Some b → a ≡ b
some_injective e = cc

-- ---- the status of an outcome is that of a text ----

of_text_by : (lacks : Bool) (trap : Trap) → IsOfText (if lacks then InputFault else IsTrapped trap)
of_text_by true trap = tt
of_text_by false trap = tt

end_of_text : (failed : Bool) (end : End) (s : Status) → Some s ≡ end_status failed end → IsOfText s
end_of_text failed (Ended Done) s e = subst IsOfText (sym (some_injective e)) tt
end_of_text failed (Ended (Stopped n)) s e = subst IsOfText (sym (some_injective e)) tt
end_of_text failed (Ended (Trapped trap place)) s e = subst IsOfText (sym (some_injective e)) (of_text_by (failed && is_end_of_input trap) trap)
end_of_text failed (Ended Wrong) s e = absurd (let f = e in cc)
end_of_text failed GoesOn s e = subst IsOfText (sym (some_injective e)) tt
end_of_text failed Lost s e = absurd (let f = e in cc)

outcome_of_text : (o : Outcome) (s : Status) → Some s ≡ status_of o → IsOfText s
outcome_of_text (HasFault fault file) s e = subst IsOfText (sym (some_injective e)) tt
outcome_of_text (HasText deck) s e = subst IsOfText (sym (some_injective e)) tt
outcome_of_text (Runs files limit failed count run) s e = end_of_text failed run.end s e

-- ---- a fault comes alone ----

trap_is_no_fault : (lacks : Bool) (trap : Trap) → (if lacks then InputFault else IsTrapped trap) ≡ SourceFault → ⊥
trap_is_no_fault true trap e = cc
trap_is_no_fault false trap e = cc

no_run_is_faulty : (failed : Bool) (end : End) → end_status failed end ≡ Some SourceFault → ⊥
no_run_is_faulty failed (Ended Done) e = cc
no_run_is_faulty failed (Ended (Stopped n)) e = cc
no_run_is_faulty failed (Ended (Trapped trap place)) e = trap_is_no_fault (failed && is_end_of_input trap) trap (some_injective e)
no_run_is_faulty failed (Ended Wrong) e = cc
no_run_is_faulty failed GoesOn e = cc
no_run_is_faulty failed Lost e = cc

no_run_over_is_faulty : (files : List (List ℕ)) (P : List Record → Shown → ℕ → Type 0) (limit : ℕ) (count : Bool) (given : Got → Type 0) (o : Outcome) → RunsOver files P limit count given o → status_of o ≡ Some SourceFault → ⊥
no_run_over_is_faulty files P limit count given o over e = no_run_is_faulty (is_broken over.0.behind) over.2.end (ap status_of (sym over.7) ∙ e)

faulty_of : (verdict : Verdict) (limit : ℕ) (count : Bool) (given : Got → Type 0) (one other : Outcome) → ComesOf verdict limit count given one → ComesOf verdict limit count given other → status_of other ≡ Some SourceFault → status_of one ≡ Some SourceFault
faulty_of (Refuses fault file) limit count given one other h k e = ap status_of h
faulty_of (Accepts files meaning) limit count given one other h k e = absurd (no_run_over_is_faulty files (IsRun meaning limit) limit count given other k e)

no_deck_is_faulty : (deck : List ℕ) (o : Outcome) → o ≡ HasText deck → status_of o ≡ Some SourceFault → ⊥
no_deck_is_faulty deck o is e = let f = ap status_of (sym is) ∙ e in cc

faulty_print : (IsText : Meaning → List ℕ → Type 0) (verdict : Verdict) (one other : Outcome) → IsPrinted IsText verdict one → IsPrinted IsText verdict other → status_of other ≡ Some SourceFault → status_of one ≡ Some SourceFault
faulty_print IsText (Refuses fault file) one other h k e = ap status_of h
faulty_print IsText (Accepts files meaning) one other h k e = absurd (no_deck_is_faulty k.0 other k.2 e)

-- a deck that comes to a fault was refused
faulty_deck : (file : List ℕ) (loaded : Loaded) (limit : ℕ) (given : Got → Type 0) (o : Outcome) → DeckComesOf file loaded limit given o → status_of o ≡ Some SourceFault → (fault : Fault) × (loaded ≡ Err fault)
faulty_deck file (Err fault) limit given o h e = (fault, refl)
faulty_deck file (Ok lines) limit given o h e = absurd (no_run_over_is_faulty (file ∷ []) (IsDeckRun lines limit) limit false given o h e)

faulty_too : OneVerdict → (command : Command) (known : Known) (given : Got → Type 0) (one other : Outcome) → IsOutcomeOf command known given one → IsOutcomeOf command known given other → status_of other ≡ Some SourceFault → status_of one ≡ Some SourceFault
faulty_too verdicts (Run limit count language file) known given one other h k e =
    let same : k.0 ≡ h.0 = verdicts language file known k.0 h.0 k.1 h.1 in
    faulty_of h.0 limit count given one other h.2 (subst (λ v. ComesOf v limit count given other) same k.2) e
faulty_too verdicts (Cards language file) known given one other h k e =
    let same : k.0 ≡ h.0 = verdicts language file known k.0 h.0 k.1 h.1 in
    faulty_print IsDeck h.0 one other h.2 (subst (λ v. IsPrinted IsDeck v other) same k.2) e
faulty_too verdicts (Listing language file) known given one other h k e =
    let same : k.0 ≡ h.0 = verdicts language file known k.0 h.0 k.1 h.1 in
    faulty_print IsListing h.0 one other h.2 (subst (λ v. IsPrinted IsListing v other) same k.2) e
faulty_too verdicts (Deck limit file) known given one other h k e =
    let refused = faulty_deck file k.0 limit given other k.2 e in
    let too = both_refused (answer known file) k.0 h.0 refused.0 k.1 refused.1 h.1 in
    ap status_of (subst (λ l. DeckComesOf file l limit given one) too.1 h.2)

compelled : OneVerdict → (command : Command) (known : Known) (given : Got → Type 0) (o : Outcome) → IsOutcomeOf command known given o → (status : Status) → Compels (IsOutcomeOf command known given) status → status_of o ≡ Some status
compelled verdicts command known given o told SourceFault may = faulty_too verdicts command known given o may.0 told may.1 may.2
compelled verdicts command known given o told status must = must o told

-- ---- what a call answers ----

module _ (verdicts : OneVerdict) (asks : Command → Type 0) (alone : (a b : Command) → asks a → asks b → a ≡ b) (files : Option (List ℕ → Option (List ℕ))) (before now : ℕ) (given got : Got → Type 0) (put broken : List ℕ → Type 0) (report : Report) (result : Status) (line : (result ≡ report.status) ⊎ (result ≡ OutputFault)) where
  -- a status that is none of a text, before its line is put and after
  no_text : (some : Status) → report.status ≡ some → (IsOfText some → ⊥) → IsOfText result → ⊥
  no_text some is other text = elim line [
    | inl same ↦ other (subst IsOfText (same ∙ is) text)
    | inr failed ↦ subst IsOfText failed text
  ]

  -- and what it then is
  or_failed : (some : Status) → report.status ≡ some → (result ≡ some) ⊎ (result ≡ OutputFault)
  or_failed some is = elim line [ inl same ↦ inl (same ∙ is) | inr failed ↦ inr failed ]

  is_failed : report.status ≡ OutputFault → result ≡ OutputFault
  is_failed is = elim line [ inl same ↦ same ∙ is | inr failed ↦ failed ]

  no_usage : (command : Command) → Shows (IsOutcomeBy command files) given got put broken report → result ≡ Usage → ⊥
  no_usage command (AllPut o is sent shows) e = elim line [
    | inl a ↦ subst IsOfText (sym a ∙ e) (outcome_of_text o report.status shows.status)
    | inr a ↦ (let b = sym e ∙ a in cc)
  ]
  no_usage command (BrokenOff o is broke says) e = let b = sym e ∙ is_failed says.status in cc

  not_usage : (command : Command) → asks command → CameOf command files before now given got put broken report → result ≡ Usage → ⊥
  not_usage command asked (NotFetched rose none says) e = elim (or_failed LibraryFault says.status) [ inl a ↦ (let b = sym e ∙ a in cc) | inr a ↦ (let b = sym e ∙ a in cc) ]
  not_usage command asked (NoMemory none says) e = elim (or_failed Memory says.status) [ inl a ↦ (let b = sym e ∙ a in cc) | inr a ↦ (let b = sym e ∙ a in cc) ]
  not_usage command asked (Came same shows) e = no_usage command shows e

  usage_comes : CameOfWords asks files before now given got put broken report → Comes result Usage (AskNothing asks) (AskNothing asks) (OutputFault ∷ [])
  usage_comes (BadWords none nothing says) = record { only = λ e. none; wherever = λ q. elim (or_failed Usage says.status) [ inl a ↦ inl a | inr a ↦ inr (inl a) ] }
  usage_comes (Asked command asked came) = record { only = λ e. absurd (not_usage command asked came e); wherever = λ none. absurd (none command asked) }

  module _ (command : Command) (held : List ℕ → Option (List ℕ)) (status : Status) (text : IsOfText status) where
    abbrev told : Outcome → Type 0
    told = IsOutcomeOf command (Holds held) given

    status_shown : (o : Outcome) → told o → IsReport report o → Comes result status (MayBe told status) (Compels told status) (LibraryFault ∷ OutputFault ∷ Memory ∷ [])
    status_shown o is shows = record {
      only = λ e. (
        o,
        is,
        elim line [
          | inl same ↦ sym shows.status ∙ ap Some (sym same ∙ e)
          | inr failed ↦ absurd (subst IsOfText (sym e ∙ failed) text)
        ],
      );
      wherever = λ q. elim line [
        | inl same ↦ inl (same ∙ some_injective (shows.status ∙ compelled verdicts command (Holds held) given o is status q))
        | inr failed ↦ inr (inr (inl failed))
      ];
    }

    status_of_shows : Shows (IsOutcomeBy command (Some held)) given got put broken report → Comes result status (MayBe told status) (Compels told status) (LibraryFault ∷ OutputFault ∷ Memory ∷ [])
    status_of_shows (AllPut o is sent shows) = status_shown o (subst (λ known. IsOutcomeOf command known given o) is.1 is.2) shows
    status_of_shows (BrokenOff o is broke says) = record {
      only = λ e. absurd (subst IsOfText (sym e ∙ is_failed says.status) text);
      wherever = λ q. inr (inr (inl (is_failed says.status)));
    }

    status_comes : CameOf command (Some held) before now given got put broken report → Comes result status (MayBe told status) (Compels told status) (LibraryFault ∷ OutputFault ∷ Memory ∷ [])
    status_comes (NotFetched rose none says) = record {
      only = λ e. absurd (no_text LibraryFault says.status (λ h. h) (subst IsOfText (sym e) text));
      wherever = λ q. elim (or_failed LibraryFault says.status) [ inl a ↦ inr (inl a) | inr a ↦ inr (inr (inl a)) ];
    }
    status_comes (NoMemory none says) = record {
      only = λ e. absurd (no_text Memory says.status (λ h. h) (subst IsOfText (sym e) text));
      wherever = λ q. elim (or_failed Memory says.status) [ inl a ↦ inr (inr (inr (inl a))) | inr a ↦ inr (inr (inl a)) ];
    }
    status_comes (Came same shows) = status_of_shows shows

  statuses_come : (command : Command) → asks command → CameOfWords asks files before now given got put broken report → (status : Status) → IsOfText status → IfTold files (λ held.
      Comes result status (MayBe (IsOutcomeOf command (Holds held) given) status) (Compels (IsOutcomeOf command (Holds held) given) status) (LibraryFault ∷ OutputFault ∷ Memory ∷ []))
  statuses_come command asked (BadWords none nothing says) status text = absurd (none command asked)
  statuses_come command asked (Asked other too came) status text = by files (subst (λ one. CameOf one files before now given got put broken report) (alone other command too asked) came)
    where
      by : (library : Option (List ℕ → Option (List ℕ))) → CameOf command library before now given got put broken report → IfTold library (λ held.
          Comes result status (MayBe (IsOutcomeOf command (Holds held) given) status) (Compels (IsOutcomeOf command (Holds held) given) status) (LibraryFault ∷ OutputFault ∷ Memory ∷ []))
      by None came1 = tt
      by (Some held) came1 = status_comes command held status text came1

  module _ (out diag : List ℕ → Type 0) (sends : (bytes : List ℕ) → put bytes → out bytes) where
    shown_by : (command : Command) → asks command → Shows (IsOutcomeBy command files) given got put broken report → IsOfText result → diag (report_bytes report) → IsShown asks files given result out diag
    shown_by command asked (AllPut o is sent shows) text d = record {
      outcome = o;
      is = (command, asked, is);
      status = elim line [ inl a ↦ ap Some a ∙ shows.status | inr failed ↦ absurd (subst IsOfText failed text) ];
      on_out = sends (out_of o) sent;
      on_diag = subst diag shows.line d;
    }
    shown_by command asked (BrokenOff o is broke says) text d = absurd (subst IsOfText (is_failed says.status) text)

    shown_of : (command : Command) → asks command → CameOf command files before now given got put broken report → IsOfText result → diag (report_bytes report) → IsShown asks files given result out diag
    shown_of command asked (NotFetched rose none says) text d = absurd (no_text LibraryFault says.status (λ h. h) text)
    shown_of command asked (NoMemory none says) text d = absurd (no_text Memory says.status (λ h. h) text)
    shown_of command asked (Came same shows) text d = shown_by command asked shows text d

    shown : CameOfWords asks files before now given got put broken report → IsOfText result → diag (report_bytes report) → IsShown asks files given result out diag
    shown (BadWords none nothing says) text d = absurd (no_text Usage says.status (λ h. h) text)
    shown (Asked command asked came) text d = shown_of command asked came text d

    pub answered : CameOfWords asks files before now given got put broken report → (IsOfText result → diag (report_bytes report)) → AnswersCall asks files given result out diag
    answered came told = record {
      usage = usage_comes came;
      status = λ command asked status text. statuses_come command asked came status text;
      shown = λ text. shown came text (told text);
    }

-- ---- what is known of the reads ----

broken_of : (behind : Behind) → is_broken behind ≡ true → behind ≡ Broken
broken_of Unread e = cc
broken_of Nothing e = cc
broken_of Broken e = refl

failed_of_trap : (failed : Bool) (trap : Trap) → trap_status failed trap ≡ InputFault → failed ≡ true
failed_of_trap true trap e = refl
failed_of_trap false trap e = cc

failed_of_end : (failed : Bool) (end : End) → end_status failed end ≡ Some InputFault → failed ≡ true
failed_of_end failed (Ended Done) e = cc
failed_of_end failed (Ended (Stopped n)) e = cc
failed_of_end failed (Ended (Trapped trap place)) e = failed_of_trap failed trap (some_injective e)
failed_of_end failed (Ended Wrong) e = cc
failed_of_end failed GoesOn e = cc
failed_of_end failed Lost e = cc

no_trap_of_failed : (trap : Trap) (ends : Bool) → is_end_of_input trap ≡ ends → (if ends then InputFault else IsTrapped trap) ≡ IsTrapped EndOfInput → ⊥
no_trap_of_failed trap true is e = cc
no_trap_of_failed trap false is e = let same : trap ≡ EndOfInput = cc in absurd (let two : is_end_of_input EndOfInput ≡ false = ap is_end_of_input (sym same) ∙ is in cc)

same_trap : (trap : Trap) → trap_status false trap ≡ IsTrapped EndOfInput → trap ≡ EndOfInput
same_trap trap e = cc

-- where a run ends for want of a record, the source has told its end
end_of_trap : (behind : Behind) (trap : Trap) (place : Place) → Asks behind (Ended (Trapped trap place)) → trap_status (is_broken behind) trap ≡ IsTrapped EndOfInput → behind ≡ Nothing
end_of_trap Unread trap place asks e = absurd (asks place (ap (λ (t : Trap). Ended (Trapped t place)) (same_trap trap e)))
end_of_trap Nothing trap place asks e = refl
end_of_trap Broken trap place asks e = absurd (no_trap_of_failed trap (is_end_of_input trap) refl e)

end_of_end : (behind : Behind) (end : End) → Asks behind end → end_status (is_broken behind) end ≡ Some (IsTrapped EndOfInput) → behind ≡ Nothing
end_of_end behind (Ended Done) asks e = cc
end_of_end behind (Ended (Stopped n)) asks e = cc
end_of_end behind (Ended (Trapped trap place)) asks e = end_of_trap behind trap place asks (some_injective e)
end_of_end behind (Ended Wrong) asks e = cc
end_of_end behind GoesOn asks e = cc
end_of_end behind Lost asks e = cc

-- a text that is printed has a fault, or the deck is done
printed_status : (IsText : Meaning → List ℕ → Type 0) (verdict : Verdict) (o : Outcome) → IsPrinted IsText verdict o → (status_of o ≡ Some SourceFault) ⊎ (status_of o ≡ Some IsDone)
printed_status IsText (Refuses fault file) o h = inl (ap status_of h)
printed_status IsText (Accepts files meaning) o h = inr (ap status_of h.2)

module _ (files : Option (List ℕ → Option (List ℕ))) (given : Got → Type 0) (o : Outcome) where
  failed_of_run : (names : List (List ℕ)) (P : List Record → Shown → ℕ → Type 0) (limit : ℕ) (count : Bool) → RunsOver names P limit count given o → status_of o ≡ Some InputFault → (got : Got) × given got × (got.behind ≡ Broken)
  failed_of_run names P limit count over e = (over.0, over.1, broken_of over.0.behind (failed_of_end (is_broken over.0.behind) over.2.end (ap status_of (sym over.7) ∙ e)))

  read_of_run : (names : List (List ℕ)) (P : List Record → Shown → ℕ → Type 0) (limit : ℕ) (count : Bool) → RunsOver names P limit count given o → status_of o ≡ Some (IsTrapped EndOfInput) → (got : Got) × given got × (got.behind ≡ Nothing)
  read_of_run names P limit count over e = (over.0, over.1, end_of_end over.0.behind over.2.end over.5 (ap status_of (sym over.7) ∙ e))

  failed_of_verdict : (verdict : Verdict) (limit : ℕ) (count : Bool) → ComesOf verdict limit count given o → status_of o ≡ Some InputFault → (got : Got) × given got × (got.behind ≡ Broken)
  failed_of_verdict (Refuses fault file) limit count h e = absurd (let f = ap status_of (sym h) ∙ e in cc)
  failed_of_verdict (Accepts names meaning) limit count h e = failed_of_run names (IsRun meaning limit) limit count h e

  read_of_verdict : (verdict : Verdict) (limit : ℕ) (count : Bool) → ComesOf verdict limit count given o → status_of o ≡ Some (IsTrapped EndOfInput) → (got : Got) × given got × (got.behind ≡ Nothing)
  read_of_verdict (Refuses fault file) limit count h e = absurd (let f = ap status_of (sym h) ∙ e in cc)
  read_of_verdict (Accepts names meaning) limit count h e = read_of_run names (IsRun meaning limit) limit count h e

  failed_of_deck : (file : List ℕ) (loaded : Loaded) (limit : ℕ) → DeckComesOf file loaded limit given o → status_of o ≡ Some InputFault → (got : Got) × given got × (got.behind ≡ Broken)
  failed_of_deck file (Err fault) limit h e = absurd (let f = ap status_of (sym h) ∙ e in cc)
  failed_of_deck file (Ok lines) limit h e = failed_of_run (file ∷ []) (IsDeckRun lines limit) limit false h e

  read_of_deck : (file : List ℕ) (loaded : Loaded) (limit : ℕ) → DeckComesOf file loaded limit given o → status_of o ≡ Some (IsTrapped EndOfInput) → (got : Got) × given got × (got.behind ≡ Nothing)
  read_of_deck file (Err fault) limit h e = absurd (let f = ap status_of (sym h) ∙ e in cc)
  read_of_deck file (Ok lines) limit h e = read_of_run (file ∷ []) (IsDeckRun lines limit) limit false h e

  failed_of_outcome : (command : Command) → IsOutcomeBy command files given o → status_of o ≡ Some InputFault → (got : Got) × given got × (got.behind ≡ Broken)
  failed_of_outcome (Run limit count language file) h e = failed_of_verdict h.2.0 limit count h.2.2 e
  failed_of_outcome (Cards language file) h e = elim (printed_status IsDeck h.2.0 o h.2.2) [ inl f ↦ absurd (let g = sym f ∙ e in cc) | inr f ↦ absurd (let g = sym f ∙ e in cc) ]
  failed_of_outcome (Listing language file) h e = elim (printed_status IsListing h.2.0 o h.2.2) [ inl f ↦ absurd (let g = sym f ∙ e in cc) | inr f ↦ absurd (let g = sym f ∙ e in cc) ]
  failed_of_outcome (Deck limit file) h e = failed_of_deck file h.2.0 limit h.2.2 e

  read_of_outcome : (command : Command) → IsOutcomeBy command files given o → status_of o ≡ Some (IsTrapped EndOfInput) → (got : Got) × given got × (got.behind ≡ Nothing)
  read_of_outcome (Run limit count language file) h e = read_of_verdict h.2.0 limit count h.2.2 e
  read_of_outcome (Cards language file) h e = elim (printed_status IsDeck h.2.0 o h.2.2) [ inl f ↦ absurd (let g = sym f ∙ e in cc) | inr f ↦ absurd (let g = sym f ∙ e in cc) ]
  read_of_outcome (Listing language file) h e = elim (printed_status IsListing h.2.0 o h.2.2) [ inl f ↦ absurd (let g = sym f ∙ e in cc) | inr f ↦ absurd (let g = sym f ∙ e in cc) ]
  read_of_outcome (Deck limit file) h e = read_of_deck file h.2.0 limit h.2.2 e

-- what was got may be told by less
module _ (one other : Got → Type 0) (so : (got : Got) → one got → other got) where
  run_too : (names : List (List ℕ)) (P : List Record → Shown → ℕ → Type 0) (limit : ℕ) (count : Bool) (o : Outcome) → RunsOver names P limit count one o → RunsOver names P limit count other o
  run_too names P limit count o over = (over.0, so over.0 over.1, over.2, over.3, over.4, over.5, over.6, over.7)

  verdict_too : (verdict : Verdict) (limit : ℕ) (count : Bool) (o : Outcome) → ComesOf verdict limit count one o → ComesOf verdict limit count other o
  verdict_too (Refuses fault file) limit count o h = h
  verdict_too (Accepts names meaning) limit count o h = run_too names (IsRun meaning limit) limit count o h

  deck_too : (file : List ℕ) (loaded : Loaded) (limit : ℕ) (o : Outcome) → DeckComesOf file loaded limit one o → DeckComesOf file loaded limit other o
  deck_too file (Err fault) limit o h = h
  deck_too file (Ok lines) limit o h = run_too (file ∷ []) (IsDeckRun lines limit) limit false o h

  outcome_too : (command : Command) (files : Option (List ℕ → Option (List ℕ))) (o : Outcome) → IsOutcomeBy command files one o → IsOutcomeBy command files other o
  outcome_too (Run limit count language file) files o h = (h.0, h.1, (h.2.0, h.2.1, verdict_too h.2.0 limit count o h.2.2))
  outcome_too (Cards language file) files o h = h
  outcome_too (Listing language file) files o h = h
  outcome_too (Deck limit file) files o h = (h.0, h.1, (h.2.0, h.2.1, deck_too file h.2.0 limit o h.2.2))

-- a status of a text has no line that says all
no_fixed_line : (status : Status) → IsOfText status → fixed_line status ≡ None
no_fixed_line IsDone text = refl
no_fixed_line SourceFault text = refl
no_fixed_line InputFault text = refl
no_fixed_line StepLimit text = refl
no_fixed_line (IsStopped n) text = refl
no_fixed_line (IsTrapped trap) text = refl
no_fixed_line Usage text = absurd text
no_fixed_line LibraryFault text = absurd text
no_fixed_line OutputFault text = absurd text
no_fixed_line Memory text = absurd text

module _ (asks : Command → Type 0) (files : Option (List ℕ → Option (List ℕ))) (before now : ℕ) (given got : Got → Type 0) (put broken : List ℕ → Type 0) (report : Report) where
  -- ---- what came of a command is an outcome that was put, or was broken off, or none ----

  abbrev Some1 : Command → Type 0
  Some1 command = Shows (IsOutcomeBy command files) given got put broken report

  failed_by : (command : Command) → Some1 command → report.status ≡ InputFault → (got : Got) × given got × (got.behind ≡ Broken)
  failed_by command (AllPut o is sent shows) e = failed_of_outcome files given o command is (sym shows.status ∙ ap Some e)
  failed_by command (BrokenOff o is broke says) e = absurd (let f = sym says.status ∙ e in cc)

  failed_of : (command : Command) → CameOf command files before now given got put broken report → report.status ≡ InputFault → (got : Got) × given got × (got.behind ≡ Broken)
  failed_of command (NotFetched rose none says) e = absurd (let f = sym says.status ∙ e in cc)
  failed_of command (NoMemory none says) e = absurd (let f = sym says.status ∙ e in cc)
  failed_of command (Came same shows) e = failed_by command shows e

  -- an input fault has a failed read behind it
  pub failed_read : CameOfWords asks files before now given got put broken report → report.status ≡ InputFault → (got : Got) × given got × (got.behind ≡ Broken)
  failed_read (BadWords none nothing says) e = absurd (let f = sym says.status ∙ e in cc)
  failed_read (Asked command asked came) e = failed_of command came e

  read_by : (command : Command) → Some1 command → report.status ≡ IsTrapped EndOfInput → (got : Got) × given got × (got.behind ≡ Nothing)
  read_by command (AllPut o is sent shows) e = read_of_outcome files given o command is (sym shows.status ∙ ap Some e)
  read_by command (BrokenOff o is broke says) e = absurd (let f = sym says.status ∙ e in cc)

  read_of : (command : Command) → CameOf command files before now given got put broken report → report.status ≡ IsTrapped EndOfInput → (got : Got) × given got × (got.behind ≡ Nothing)
  read_of command (NotFetched rose none says) e = absurd (let f = sym says.status ∙ e in cc)
  read_of command (NoMemory none says) e = absurd (let f = sym says.status ∙ e in cc)
  read_of command (Came same shows) e = read_by command shows e

  -- at the end of the input the source has told it
  pub read_to_end : CameOfWords asks files before now given got put broken report → report.status ≡ IsTrapped EndOfInput → (got : Got) × given got × (got.behind ≡ Nothing)
  read_to_end (BadWords none nothing says) e = absurd (let f = sym says.status ∙ e in cc)
  read_to_end (Asked command asked came) e = read_of command came e

  -- ---- other clauses ----

  fetched_of : (command : Command) → CameOf command files before now given got put broken report → IsOfText report.status → now ≡ before
  fetched_of command (NotFetched rose none says) text = absurd (subst IsOfText says.status text)
  fetched_of command (NoMemory none says) text = absurd (subst IsOfText says.status text)
  fetched_of command (Came same shows) text = same

  pub all_fetched : CameOfWords asks files before now given got put broken report → IsOfText report.status → now ≡ before
  all_fetched (BadWords none nothing says) text = absurd (subst IsOfText says.status text)
  all_fetched (Asked command asked came) text = fetched_of command came text

  -- with another status than that of a failed put some bytes were put whole
  put_by : (command : Command) → Some1 command → (report.status ≡ OutputFault → ⊥) → (bytes : List ℕ) × put bytes
  put_by command (AllPut o is sent shows) other = (out_of o, sent)
  put_by command (BrokenOff o is broke says) other = absurd (other says.status)

  put_of : (command : Command) → CameOf command files before now given got put broken report → (report.status ≡ OutputFault → ⊥) → (bytes : List ℕ) × put bytes
  put_of command (NotFetched rose none says) other = ([], none)
  put_of command (NoMemory none says) other = ([], none)
  put_of command (Came same shows) other = put_by command shows other

  pub all_put : CameOfWords asks files before now given got put broken report → (report.status ≡ OutputFault → ⊥) → (bytes : List ℕ) × put bytes
  all_put (BadWords none nothing says) other = ([], nothing)
  all_put (Asked command asked came) other = put_of command came other

  -- and with that status some were broken off, and the line says so
  broken_by : (command : Command) → Some1 command → report.status ≡ OutputFault → (bytes : List ℕ) × broken bytes × (report_bytes report ≡ output_fault_line)
  broken_by command (AllPut o is sent shows) e = absurd (subst IsOfText e (outcome_of_text o report.status shows.status))
  broken_by command (BrokenOff o is broke says) e = (out_of o, broke, says.line)

  broken_of_command : (command : Command) → CameOf command files before now given got put broken report → report.status ≡ OutputFault → (bytes : List ℕ) × broken bytes × (report_bytes report ≡ output_fault_line)
  broken_of_command command (NotFetched rose none says) e = absurd (let f = sym says.status ∙ e in cc)
  broken_of_command command (NoMemory none says) e = absurd (let f = sym says.status ∙ e in cc)
  broken_of_command command (Came same shows) e = broken_by command shows e

  pub put_failed : CameOfWords asks files before now given got put broken report → report.status ≡ OutputFault → (bytes : List ℕ) × broken bytes × (report_bytes report ≡ output_fault_line)
  put_failed (BadWords none nothing says) e = absurd (let f = sym says.status ∙ e in cc)
  put_failed (Asked command asked came) e = broken_of_command command came e

  -- a status whose line says all
  module _ (out diag : List ℕ → Type 0) (sends : (bytes : List ℕ) → put bytes → out bytes) (d : diag (report_bytes report)) where
    said : (status : Status) (text : List ℕ) → fixed_line status ≡ Some text → SaysAll report status text → put [] → IfSome (fixed_line report.status) (λ line. out [] × diag line)
    said status text is says none =
        subst (λ (some : Status). IfSome (fixed_line some) (λ line. out [] × diag line)) (sym says.status)
        (subst (λ (o : Option (List ℕ)). IfSome o (λ line. out [] × diag line)) (sym is) (sends [] none, subst diag says.line d))

    unsaid : (status : Status) → fixed_line status ≡ None → report.status ≡ status → IfSome (fixed_line report.status) (λ line. out [] × diag line)
    unsaid status is e = subst (λ (o : Option (List ℕ)). IfSome o (λ line. out [] × diag line)) (sym (ap fixed_line e ∙ is)) tt

    said_by : (command : Command) → Some1 command → IfSome (fixed_line report.status) (λ line. out [] × diag line)
    said_by command (AllPut o is sent shows) = unsaid report.status (no_fixed_line report.status (outcome_of_text o report.status shows.status)) refl
    said_by command (BrokenOff o is broke says) = unsaid OutputFault refl says.status

    said_of : (command : Command) → CameOf command files before now given got put broken report → IfSome (fixed_line report.status) (λ line. out [] × diag line)
    said_of command (NotFetched rose none says) = said LibraryFault _ refl says none
    said_of command (NoMemory none says) = said Memory _ refl says none
    said_of command (Came same shows) = said_by command shows

    pub line_shown : CameOfWords asks files before now given got put broken report → IfSome (fixed_line report.status) (λ line. out [] × diag line)
    line_shown (BadWords none nothing says) = said Usage _ refl says nothing
    line_shown (Asked command asked came) = said_of command came

  -- what was to be shown where a put failed: on diag of a line that is not empty, or on out
  module _ (out diag : List ℕ → Type 0) (so : (some : Got) → given some → got some) (sends : (bytes : List ℕ) → put bytes → out bytes) (breaks : (bytes : List ℕ) → broken bytes → out bytes × (bytes ≢ [])) (failed : (report_bytes report ≢ []) ⊎ (report.status ≡ OutputFault)) (d : diag (report_bytes report)) where
    on_diag : (bytes : List ℕ) → (report.status ≡ OutputFault → ⊥) → ((report_bytes report ≢ []) × diag (report_bytes report)) ⊎ ((bytes ≢ []) × diag output_fault_line)
    on_diag bytes other = elim failed [ inl some ↦ inl (some, d) | inr e ↦ absurd (other e) ]

    planned_by : (command : Command) → asks command → Some1 command → WasToShow asks files got out diag
    planned_by command asked (AllPut o is sent shows) = record {
      bytes = out_of o;
      line = report_bytes report;
      planned = inr (o, (command, asked, outcome_too given got so command files o is), refl, shows.line);
      on_out = sends (out_of o) sent;
      on_diag = on_diag (out_of o) (λ e. subst IsOfText e (outcome_of_text o report.status shows.status));
    }
    planned_by command asked (BrokenOff o is broke says) = record {
      bytes = out_of o;
      line = diag_line o;
      planned = inr (o, (command, asked, is), refl, refl);
      on_out = (breaks (out_of o) broke).0;
      on_diag = inr ((breaks (out_of o) broke).1, subst diag says.line d);
    }

    planned_of : (command : Command) → asks command → CameOf command files before now given got put broken report → WasToShow asks files got out diag
    planned_of command asked (NotFetched rose none says) = record { bytes = []; line = report_bytes report; planned = inl (refl, inr (inl says.line)); on_out = sends [] none; on_diag = on_diag [] (λ e. let f = sym says.status ∙ e in cc) }
    planned_of command asked (NoMemory none says) = record { bytes = []; line = report_bytes report; planned = inl (refl, inr (inr (inl says.line))); on_out = sends [] none; on_diag = on_diag [] (λ e. let f = sym says.status ∙ e in cc) }
    planned_of command asked (Came same shows) = planned_by command asked shows

    pub planned : CameOfWords asks files before now given got put broken report → WasToShow asks files got out diag
    planned (BadWords none nothing says) = record { bytes = []; line = report_bytes report; planned = inl (refl, inl says.line); on_out = sends [] nothing; on_diag = on_diag [] (λ e. let f = sym says.status ∙ e in cc) }
    planned (Asked command asked came) = planned_of command asked came
