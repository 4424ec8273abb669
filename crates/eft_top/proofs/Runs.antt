-- From what `eft` answers to the laws of runs.
use Rattle.std.proofs.Common.{◌≡◌, ◌≢◌, ℕ, ◌+◌, ◌*◌, ◌≤◌, Bool, false, List, [], ◌∷◌, ◌++◌, append_assoc, ◌⊎◌, inl, inr, refl, sym, ◌∙◌, ap, subst, Some, None}
use Rattle.std.specs.declared.option.Option.{Option}
use Rattle.std.specs.Io.KnownBytes.{Consumes, IsAtEnd}
use Rattle.ports.specs.Records.{input_records, output_bytes}
use Rattle.f66_program.specs.Linking.{Program}
use Rattle.f66_tree.specs.World.{Record, Shown, IsPrefix, Finish, End, Ended, GoesOn, Lost}
use Rattle.f66_tree.specs.Agreement.{Same}
use Rattle.f66_tree.specs.Laws.{RunsExtend}
use Rattle.macro_define.specs.Answers.{Known, Holds}
use Rattle.ground.specs.declared.token.Dialect.{Dialect}
use Rattle.front.specs.Checked.{Meaning}
use Rattle.front.specs.Verdict.{Accepts, Becomes}
use Rattle.front.specs.Laws.{OneVerdict}
use Rattle.front.specs.Programs.{AreLinked}
use Rattle.eft_top.specs.declared.status.Status.{Status}
use Rattle.eft_top.specs.declared.status.Status.TheVariants.{Done, Usage, SourceFault, LibraryFault, InputFault, OutputFault, StepLimit, Memory, Stopped, Trapped}
use Rattle.eft_top.specs.Input.{Got, Behind, Unread, Nothing, Broken, is_broken, MayCome, MayHave, OfEach}
use Rattle.eft_top.specs.Words.{Command, Run}
use Rattle.eft_top.specs.Outcome.{Outcome, IsRun, RunsOver, ComesOf, IsOutcomeBy, status_of, out_of, diag_line, end_status, end_line, count_line, if_asked}
use Rattle.eft_top.specs.Causes.{IsOneOf, IsOfText}
use Rattle.eft_top.specs.Laws.{IsRunOf, Presents, IsMeant, MissesNothing, RunShowsMeaning, RunMissesNothing, InputIsWhole}
use Rattle.eft_top.proofs.ReadWords.{one_command}

some_injective : {a b : Status} → Some a ≡ Some b → a ≡ b
some_injective e = cc

-- ---- what a longer run shows ----

prefix_on : (a b c : List Record) → IsPrefix a b → IsPrefix b c → IsPrefix a c
prefix_on a b c p q = record { rest = p.rest ++ q.rest; is = sym (append_assoc a p.rest q.rest) ∙ (ap (λ (xs : List Record). xs ++ q.rest) p.is ∙ q.is) }

longer : RunsExtend → (made : Program) (run : Meaning) → AreLinked made run → (input : List Record) (a b : ℕ) → a ≤ b → IsPrefix (run input a).records (run input b).records
longer extend made run linked input a b le =
    subst (λ (r : Meaning). IsPrefix (r input a).records (r input b).records) (sym linked.is) (extend linked.linkage linked.codes input a b le).grows

module _ (verdicts : OneVerdict) (words : List (List ℕ)) (limit : ℕ) (count : Bool) (language : Dialect) (file : List ℕ) (held : List ℕ → Option (List ℕ)) (files : List (List ℕ)) (meaning : Meaning) (given : Got → Type 0) (result : Status) (out diag : List ℕ → Type 0) where
  -- ---- from an answer to a run ----

  -- a run that the call presents
  record Ran (got : Got) : Type 0 where
    pub run : Shown
    pub executed : ℕ
    pub is : OfEach got (λ records. IsRun meaning limit records run executed)
    pub presents : Presents (count_line (if_asked count executed) run.work) files limit (is_broken got.behind) run result out diag

  ran_by : (o : Outcome) → (h : IsRunOf words limit count language file held files meaning given result out diag) → IsOutcomeBy (Run limit count language file) (Some held) given o → RunsOver files (IsRun meaning limit) limit count given o
  ran_by o h is =
      let told = subst (λ (k : Known). Becomes language file k is.2.0) is.1 is.2.1 in
      let same = verdicts language file (Holds held) is.2.0 (Accepts files meaning) told h.accepted in
      subst (λ v. ComesOf v limit count given o) same is.2.2

  ran : IsRunOf words limit count language file held files meaning given result out diag → IsOfText result → (got : Got) × given got × Ran got
  ran h text =
      let shown = h.answer.shown text in
      let is : IsOutcomeBy (Run limit count language file) (Some held) given shown.outcome =
      subst (λ (c : Command). IsOutcomeBy c (Some held) given shown.outcome) (one_command words shown.is.0 (Run limit count language file) shown.is.1 h.asks) shown.is.2 in
      let r = ran_by shown.outcome h is in (
        r.0,
        r.1,
        record {
          run = r.2;
          executed = r.3;
          is = r.4;
          presents = record {
            status = shown.status ∙ ap status_of r.7;
            on_out = subst (λ (x : Outcome). out (out_of x)) r.7 shown.on_out;
            on_diag = subst (λ (x : Outcome). diag (diag_line x)) r.7 shown.on_diag;
          };
        },
      )

  -- ---- what a run shows is what the text means ----

  module _ (counts : List ℕ) (failed : Bool) (input : List Record) (run : Shown) (executed : ℕ) (is : IsRun meaning limit input run executed) (presents : Presents counts files limit failed run result out diag) where
    meant : IsMeant (meaning input limit) run
    meant = subst (λ (s : Shown). IsMeant (meaning input limit) s) (sym is.is) (by (is.program.run input limit).end refl)
      where
        by : (end : End) → (is.program.run input limit).end ≡ end → IsMeant (meaning input limit) (is.program.run input limit)
        by (Ended f) e = inl ((is.program.agrees input).ended limit f e)
        by GoesOn e = inr (e, (is.program.agrees input).going limit e)
        by Lost e = absurd (let lost : Some result ≡ None = presents.status ∙ (ap (λ (s : Shown). end_status failed s.end) is.is ∙ ap (end_status failed) e) in cc)

    -- ---- a run misses nothing that the text means ----

    same_end : (other : Shown) → Same other run → Presents counts files limit failed other result out diag
    same_end other same = record {
      status = presents.status ∙ ap (end_status failed) (sym same.end);
      on_out = subst (λ (xs : List Record). out (output_bytes xs)) (sym same.records) presents.on_out;
      on_diag = subst (λ (e : End). diag (counts ++ end_line files limit failed e)) (sym same.end) presents.on_diag;
    }

    limit_stops : ((b : ℕ) → (meaning input b).end ≡ GoesOn) → IsMeant (meaning input limit) run → end_status failed run.end ≡ Some StepLimit
    limit_stops on (inl same) = ap (end_status failed) (sym same.end ∙ on limit)
    limit_stops on (inr goes) = ap (end_status failed) goes.0

    -- the bound at which a run has done what is meant with this bound on turns
    abbrev far : ℕ → ℕ
    far b = 32 * ((meaning input b).work + 1)

    ended_so : (b : ℕ) (f : Finish) → (meaning input b).end ≡ Ended f → far b ≤ limit → Presents counts files limit failed (meaning input b) result out diag
    ended_so b f e le = same_end (meaning input b) (subst (λ (s : Shown). Same (meaning input b) s) (sym is.is) ((is.program.agrees input).ended_too b f e limit le))

    goes_so : RunsExtend → (b : ℕ) → (meaning input b).end ≡ GoesOn → far b ≤ limit → IsPrefix (meaning input b).records run.records
    goes_so extend b e le =
        prefix_on (meaning input b).records (is.program.run input (far b)).records run.records ((is.program.agrees input).going_too b e)
        (subst (λ (s : Shown). IsPrefix (is.program.run input (far b)).records s.records) (sym is.is) (longer extend is.made is.program.run is.program.linked input (far b) limit le))

    misses_nothing : RunsExtend → MissesNothing counts (meaning input) files limit failed result out diag
    misses_nothing extend = record {
      ended = ended_so;
      going = λ b e le. (run.records, goes_so extend b e le, presents.on_out);
      endless = λ on. some_injective (presents.status ∙ limit_stops on meant);
    }

  pub shows_meaning : IsRunOf words limit count language file held files meaning given result out diag → IsOfText result →
      (got : Got) × given got × (run : Shown) × (executed : ℕ) × OfEach got (λ records. IsMeant (meaning records limit) run) × Presents (count_line (if_asked count executed) run.work) files limit (is_broken got.behind) run result out diag
  shows_meaning h text =
      let r = ran h text in
      (r.0, r.1, r.2.run, r.2.executed, (λ failed later may. meant (count_line (if_asked count r.2.executed) r.2.run.work) (is_broken r.0.behind) _ r.2.run r.2.executed (r.2.is failed later may) r.2.presents), r.2.presents)

  -- of a text, or one of the others
  which : (s : Status) → result ≡ s → (s ≡ Usage → ⊥) → IsOneOf result (LibraryFault ∷ OutputFault ∷ Memory ∷ []) ⊎ IsOfText result
  which Done e none = inr (subst IsOfText (sym e) tt)
  which Usage e none = absurd (none refl)
  which SourceFault e none = inr (subst IsOfText (sym e) tt)
  which LibraryFault e none = inl (inl e)
  which InputFault e none = inr (subst IsOfText (sym e) tt)
  which OutputFault e none = inl (inr (inl e))
  which StepLimit e none = inr (subst IsOfText (sym e) tt)
  which Memory e none = inl (inr (inr (inl e)))
  which (Stopped n) e none = inr (subst IsOfText (sym e) tt)
  which (Trapped trap) e none = inr (subst IsOfText (sym e) tt)

  pub runs_whole : RunsExtend → IsRunOf words limit count language file held files meaning given result out diag →
      IsOneOf result (LibraryFault ∷ OutputFault ∷ Memory ∷ [])
      ⊎ ((got : Got) × given got × (begun executed : ℕ) × OfEach got (λ records. MissesNothing (count_line (if_asked count executed) begun) (meaning records) files limit (is_broken got.behind) result out diag))
  runs_whole extend h = elim (which result refl (λ e. h.answer.usage.only e (Run limit count language file) h.asks)) [
    | inl other ↦ inl other
    | inr text ↦ inr (let r = ran h text in (r.0, r.1, r.2.run.work, r.2.executed, λ failed later may. misses_nothing (count_line (if_asked count r.2.executed) r.2.run.work) (is_broken r.0.behind) _ r.2.run r.2.executed (r.2.is failed later may) r.2.presents extend))
  ]

module _ (given : Got → Type 0) (out diag : List ℕ → Type 0) where
  pub run_shows_meaning : OneVerdict → RunShowsMeaning given out diag
  run_shows_meaning verdicts words limit count language file held files meaning result = shows_meaning verdicts words limit count language file held files meaning given result out diag

  pub run_misses_nothing : OneVerdict → RunsExtend → RunMissesNothing given out diag
  run_misses_nothing verdicts extend words limit count language file held files meaning result = runs_whole verdicts words limit count language file held files meaning given result out diag extend

-- ---- a source that tells its bytes ----

module _ {S : Type 0} (left : S → Option (List ℕ)) (faults : S → ℕ) (before after : S) where
  told_by : (got : Got) (bytes : List ℕ) (was is : Option (List ℕ)) → was ≡ Some bytes → Consumes was is got.bytes → (got.behind ≡ Nothing → IsAtEnd is) → got.behind ≢ Broken → MayHave got (input_records bytes)
  told_by got bytes None is e h end other = cc
  told_by got bytes (Some all) None e h end other = absurd h
  told_by got bytes (Some all) (Some rest) e h end other =
      let same : all ≡ bytes = cc in
      (false, rest, by got.behind refl, ap input_records (sym same ∙ h))
    where
      by : (behind : Behind) → got.behind ≡ behind → MayCome got.behind false rest
      by Unread b = subst (λ (x : Behind). MayCome x false rest) (sym b) tt
      by Nothing b = subst (λ (x : Behind). MayCome x false rest) (sym b) (refl, end b)
      by Broken b = absurd (other b)

  pub input_is_whole : InputIsWhole left faults before after
  input_is_whole got bytes given told other = told_by got bytes (left before) (left after) told given.reads.bytes given.end other
