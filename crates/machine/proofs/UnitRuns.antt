-- The runs of the stack code of linked units are those of the units.
use Rattle.std.proofs.Common.{◌≡◌, ℕ, suc, List, [], ◌∷◌, length, map, refl, sym, ◌∙◌, subst}
use Rattle.std.specs.Prelude.{Result, Ok, Err, IfOk}
use Rattle.std.specs.List.{All}
use Rattle.std.proofs.lemmas.List.Elements.{All-nil, All-cons, All-head, All-tail}
use Rattle.ground.specs.declared.fault.Fault.{Fault}
use Rattle.f66_tree.specs.Fields.{Fields}
use Rattle.f66_tree.specs.declared.unit.Unit.{Unit as AUnit}
use Rattle.f66_tree.specs.Views.{routine_of}
use Rattle.f66_tree.specs.World.{Record, Shown}
use Rattle.f66_tree.specs.Execution.{f66}
use Rattle.f66_check.specs.Answers.{IsSoundUnit}
use Rattle.f66_program.specs.Association.{IsBadUnit}
use Rattle.f66_program.specs.Linking.{Program, IsWhole, IsFirstFault, IsLinkage}
use Rattle.storage_assoc.specs.Naming.{IsReady}
use Rattle.sound_units.specs.Laws.{SoundIsReady}
use Rattle.linker.specs.CallViews.{units_in}
use Rattle.whole_program.specs.declared.linked.Linked.{Linked}
use Rattle.whole_program.specs.Linkage.{linkage_of, LinkedIsLinkage}
use Rattle.linked_soundness.specs.Laws.{AreCodes, LinkedNeverWrong}
use Rattle.renumbering.proofs.NumberLemmas.{whole_is_matched}
use Rattle.renumbering.proofs.SameRuns.{same_run}
use Rattle.stack_code.specs.declared.valid.Code.{Code}
use Rattle.stack_code.specs.StackMachine as stack
use Rattle.stack_code.specs.StackMachine.{Ends, Runs, start, first_world}
use Rattle.stack_code.specs.Safety.{RunsOnce}
use Rattle.code_gen.specs.Behaves.{ProgramBehaves, program}
use Rattle.code_gen.specs.Linked.{RankedIsProgram}
use Rattle.code_emit.specs.Plans.{all_formats, plan_at}
use Rattle.code_layout.specs.Compiled.{IsSoundProgram, IsCompiled}
use Rattle.code_layout.specs.Order.{others_of}
use Rattle.code_layout.specs.Ranked.{bound_of, initial_of}
use Rattle.code_layout.specs.Spreading.{layout_of}
use Rattle.code_layout.specs.Tabled.{lines_in, order_in}
use Rattle.runner.specs.Running as runner
use Rattle.machine.specs.Runs.{IsRunOf, Codes}

-- ---- units that link ----

pub ready : (units : List AUnit) → SoundIsReady → All IsSoundUnit (map routine_of units) → All (λ u. IsReady (routine_of u)) units
ready [] law h = All-nil (λ u. IsReady (routine_of u))
ready (u ∷ units) law h =
    All-cons (λ u. IsReady (routine_of u)) u units (law (routine_of u) (All-head IsSoundUnit (routine_of u) (map routine_of units) h)) (ready units law (All-tail IsSoundUnit (routine_of u) (map routine_of units) h))

pub well : (units : List AUnit) → All (λ r. ¬ IsBadUnit r) (map routine_of units) → All (λ u. ¬ IsBadUnit (routine_of u)) units
well [] h = All-nil (λ u. ¬ IsBadUnit (routine_of u))
well (u ∷ units) h =
    All-cons (λ u. ¬ IsBadUnit (routine_of u)) u units (All-head (λ r. ¬ IsBadUnit r) (routine_of u) (map routine_of units) h) (well units (All-tail (λ r. ¬ IsBadUnit r) (routine_of u) (map routine_of units) h))

pub not_refused : (p : Program) → IsWhole p → (f : Fault) → IsFirstFault p f → ⊥
not_refused p whole f h = whole.clean f.kind h.part h.broken

-- ---- their code ----

module _ (behaves : ProgramBehaves) (is_program : RankedIsProgram) (never : LinkedNeverWrong) (once : RunsOnce) (links : LinkedIsLinkage) (l : Linked) (p : IsSoundProgram l) (made : Code) (c : IsCompiled l made) where
  abbrev units : Program
  units = record { units = units_in l.calls; finish = p.finish }

  linkage : IsLinkage units.units (linkage_of l)
  linkage = links l p.finish p.whole p.linked

  codes : AreCodes units.units (lines_in l)
  codes = c.ranked.codes

  abbrev others : List ℕ
  others = others_of l.main (length (units_in l.calls))

  abbrev plans : List Fields
  plans = all_formats (lines_in l) (order_in l)

  ends : (input : List Record) (n : ℕ) → Ends (program (layout_of l c.rank) others plans) start (first_world input n) (f66 (linkage_of l) (lines_in l) input n)
  ends input n =
      behaves (layout_of l c.rank) others (bound_of l) plans
      (is_program units.units (linkage_of l) (lines_in l) (plan_at (lines_in l) (order_in l)) (initial_of l) (bound_of l) c.rank others plans c.ranked)
      input n (never units p.sound p.whole (linkage_of l) linkage (lines_in l) codes input n)

  same_code : program (layout_of l c.rank) others plans ≡ runner.program made
  same_code = λ i. record { code = sym c.code i; plans = sym c.plans i }

  runs : (input : List Record) (n : ℕ) → (k : ℕ) × Runs (runner.program made) input n (f66 (linkage_of l) (lines_in l) input n) k
  runs input n =
      let e = subst (λ (code : stack.Program). Ends code start (first_world input n) (f66 (linkage_of l) (lines_in l) input n)) same_code (ends input n) in
      (suc e.count, record { run = e; counted = refl })

  -- what a run of the code shows the units show, by any linkage
  pub run_of : (input : List Record) (n : ℕ) (a : Shown) (k : ℕ) → Runs (runner.program made) input n a k → IsRunOf units input n a
  run_of input n a k run =
      let other = runs input n in
      let same = (once (runner.program made) input n a (f66 (linkage_of l) (lines_in l) input n) k other.0 run other.1).0 in
      record {
        linkage = linkage_of l;
        links = linkage;
        shows = λ m is codes1 are. same ∙ same_run units p.sound (whole_is_matched units p.whole) (linkage_of l) m linkage is (lines_in l) codes1 codes are input n;
      }

  -- and what the units show a run of the code shows
  pub code_of : (input : List Record) (n : ℕ) (a : Shown) → IsRunOf units input n a → (k : ℕ) × Runs (runner.program made) input n a k
  code_of input n a is =
      let run = runs input n in
      (run.0, subst (λ (a : Shown). Runs (runner.program made) input n a run.0) (sym (is.shows (linkage_of l) linkage (lines_in l) codes)) run.1)

  pub some_run : (input : List Record) (n : ℕ) → (a : Shown) × IsRunOf units input n a
  some_run input n =
      let run = runs input n in
      (f66 (linkage_of l) (lines_in l) input n, run_of input n (f66 (linkage_of l) (lines_in l) input n) run.0 run.1)

  pub codes_units : Codes units made
  codes_units = record { valid = c.checked; few = c.few; runs = run_of; all = code_of; some = some_run }

pub if_ok : {T E : Type 0} {P Q : T → Type 0} → ((t : T) → P t → Q t) → (r : Result T E) → IfOk r P → IfOk r Q
if_ok by (Ok t) h = by t h
if_ok by (Err e) h = tt
