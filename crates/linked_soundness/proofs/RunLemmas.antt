-- A run of a unit of a program whose statements the rules let pass, and whose calls lead to units with as many dummies, never ends
-- Wrong: by the number of statements that may still begin, of all units at once, since a call goes on with fewer.
use Rattle.std.proofs.Common.{◌≡◌, ℕ, zero, suc, Bool, true, false, List, [], ◌∷◌, length, Option, Some, sym, ◌∙◌}
use Rattle.std.specs.Prelude.{⊤}
use Rattle.std.specs.List.{slice_get}
use Rattle.std.proofs.lemmas.Bool.{and_parts, or_parts, not-false}
use Rattle.ground.specs.declared.place.Place.{Place}
use Rattle.f66_tree.specs.Syntax.{Text, Act, Assign, Goto, Computed, Sign, When, Loop, Invoke, Continue, Stop, Return, Read, Write, Format, Typed, Dimension, Common, Equivalence, Preset, Line, Routine}
use Rattle.f66_tree.specs.World.{World, bind, take_one, take_from}
use Rattle.f66_tree.specs.Units.{Context, dummies_of, is_main, kind_of, Linkage, Setting, Frame, moved_to, around}
use Rattle.f66_tree.specs.Evaluation.{asks}
use Rattle.f66_tree.specs.Statements.{Exit, Normal, To, Back, loop_start, loop_turn, does}
use Rattle.f66_tree.specs.Execution.{runnable, from_label, Progress, begun, stand, Closer, closers_at, Onward, close, leads, perform, past_end, fetch, target, exec, nowhere, no_loops}
use Rattle.f66_names.specs.Sorts.{is_integer}
use Rattle.f66_names.specs.Uses.{many, uses_of, uses_in}
use Rattle.f66_names.specs.Kinds.{is_counting}
use Rattle.f66_names.specs.NameRules.{miscounts}
use Rattle.f66_soundness.specs.Rightly.{NeverWrong}
use Rattle.f66_soundness.proofs.RightlyLemmas.{bind_any, choose_rightly}
use Rattle.f66_soundness.proofs.KindLemmas.{none_of_both}
use Rattle.f66_program.specs.Mentions.{Mention, ACall, AVariable, AKnown, mentions_of, mentions_in}
use Rattle.linked_soundness.proofs.PartLemmas.{all_parts, all_mapped}
use Rattle.linked_soundness.proofs.PlaceLemmas.{IsJudged, IsSite}
use Rattle.linked_soundness.proofs.ValueLemmas.{IsRightly, asks_rightly}
use Rattle.linked_soundness.proofs.StatementLemmas.{start_rightly, turn_rightly}
use Rattle.linked_soundness.proofs.ActLemmas.{FitAct, FitLines, FitClosers, inner_fit, runnable_fit, from_fit, closers_at_fit, does_rightly}

begin_rightly : (w : World) → NeverWrong (take_one w)
begin_rightly w = by_left w.left
  where
    by_left : (k : ℕ) → NeverWrong (take_from w.state k w.count)
    by_left zero = tt
    by_left (suc k) = tt

past_rightly : (main : Bool) (w : World) → NeverWrong (past_end main w)
past_rightly true w = tt
past_rightly false w = tt

-- ---- one statement, and where it leads ----

module _ (P : Mention → Type 0) (s : Setting) (right : (m : Mention) → P m → IsRightly s m) (f : Frame) (c : Context) (site : IsSite s f c) (begins : (w : World) → NeverWrong (s.begin w))
    (code : List Line) (fit : FitLines P c (around s f) code) (go : Onward) (goes : (rest : List Line) → FitLines P c (around s f) rest → (pr : Progress) (w : World) → NeverWrong (go (stand rest pr) w)) where
  abbrev d : Context
  d = around s f

  close_rightly : (ks : List Closer) → FitClosers P c d ks → (rest : List Line) → FitLines P c d rest → (pr : Progress) (w : World) → NeverWrong (close s f ks rest go pr w)
  close_rightly [] h rest r pr w = goes rest r pr w
  close_rightly (k ∷ ks) h rest r pr w =
      bind_any (λ _ _. ⊤) (loop_turn s f k.variable (pr (length k.inner)) w) _ (turn_rightly s f c site k.variable (pr (length k.inner)) w)
      (λ on w1. choose_rightly (λ _ _. ⊤) on (go (stand k.inner pr) w1) (close s f ks rest go pr w1) (goes k.inner h.0 pr w1) (close_rightly ks h.1 rest r pr w1))

  leads_rightly : (l : Option ℕ) (rest : List Line) → FitLines P c d rest → (pr : Progress) (y : Exit) (w : World) → NeverWrong (leads s f code l rest go pr y w)
  leads_rightly l rest r pr Normal w = close_rightly (closers_at l code) (closers_at_fit P c d l code fit) rest r pr w
  leads_rightly l rest r pr (To k) w = goes (from_label k code) (from_fit P c d k code fit) pr w
  leads_rightly l rest r pr Back w = tt

  -- by what its calls do in this run
  called_fit : (a : Act) → FitAct P c d a → FitAct (IsRightly s) c d a
  called_fit a h = record {
    form = h.form;
    kinds = h.kinds;
    counts = h.counts;
    passed = h.passed;
    stores = h.stores;
    formats = h.formats;
    calls = all_mapped P (IsRightly s) right (mentions_in d a) h.calls;
  }

  module _ (l : Option ℕ) (rest : List Line) (r : FitLines P c d rest) (pr : Progress) where
    plain_rightly : (a : Act) → FitAct P c d a → (w : World) → NeverWrong (bind (does s f a w) (λ y w1. leads s f code l rest go pr y w1))
    plain_rightly a h w = bind_any (λ _ _. ⊤) (does s f a w) _ (does_rightly s f c site begins a (called_fit a h) w) (λ y w1. leads_rightly l rest r pr y w1)

    pub perform_rightly : (a : Act) → FitAct P c d a → (w : World) → NeverWrong (perform s f code l a rest go pr w)
    perform_rightly (When e a) h w =
        let counts = none_of_both (miscounts c) (uses_of e) (uses_in a) h.counts in
        let calls = all_parts (IsRightly s) (mentions_of d e) (mentions_in d a) (called_fit (When e a) h).calls in
        bind_any (λ _ _. ⊤) (asks s f e w) _ (asks_rightly s f c site e (not-false _ (or_parts _ _ h.kinds).0) counts.0 calls.0 w) (λ holds w1.
        choose_rightly (λ _ _. ⊤) holds (go (stand (record { label = l; place = f.place; act = a } ∷ rest) pr) w1) (leads s f code l rest go pr Normal w1)
        (goes (record { label = l; place = f.place; act = a } ∷ rest) (inner_fit P c d e a h, r) pr w1) (leads_rightly l rest r pr Normal w1))
    perform_rightly (Loop k x p q t) h w =
        let kinds = and_parts (is_integer (kind_of c x)) _ (not-false _ h.kinds) in
        let first = and_parts (is_counting c p) _ kinds.1 in
        let others = and_parts (is_counting c q) (is_counting c t) first.1 in
        bind_any (λ _ _. ⊤) (loop_start s f x p q t w) _ (start_rightly s f c site x p q t first.0 others.0 others.1 w) (λ i w1. goes rest r (begun (length rest) i pr) w1)
    perform_rightly (Assign x e) h w = plain_rightly (Assign x e) h w
    perform_rightly (Goto k) h w = plain_rightly (Goto k) h w
    perform_rightly (Computed ls x) h w = plain_rightly (Computed ls x) h w
    perform_rightly (Sign e l1 l2 l3) h w = plain_rightly (Sign e l1 l2 l3) h w
    perform_rightly (Invoke x es) h w = plain_rightly (Invoke x es) h w
    perform_rightly Continue h w = plain_rightly Continue h w
    perform_rightly (Stop n) h w = plain_rightly (Stop n) h w
    perform_rightly Return h w = plain_rightly Return h w
    perform_rightly (Read u k es) h w = plain_rightly (Read u k es) h w
    perform_rightly (Write u k es) h w = plain_rightly (Write u k es) h w
    perform_rightly (Format fs) h w = plain_rightly (Format fs) h w
    perform_rightly (Typed t ds) h w = plain_rightly (Typed t ds) h w
    perform_rightly (Dimension ds) h w = plain_rightly (Dimension ds) h w
    perform_rightly (Common areas) h w = plain_rightly (Common areas) h w
    perform_rightly (Equivalence es) h w = plain_rightly (Equivalence es) h w
    perform_rightly (Preset ps) h w = plain_rightly (Preset ps) h w

-- ---- units ----

-- with so many actuals the name calls a unit of the program that has as many dummies
abbrev pub LeadsToUnit : List Routine → Linkage → Text → ℕ → Type 0
LeadsToUnit rs l x n = (v : ℕ) × (l.find x ≡ Some v) × ((r : Routine) × (slice_get rs v ≡ Some r) × (length (dummies_of r.header) ≡ n))

abbrev pub IsLinked : List Routine → Linkage → Mention → Type 0
IsLinked rs l (ACall by_call x es) = LeadsToUnit rs l x (many es)
IsLinked rs l _ = ⊤

-- what the run of a unit rests on
pub record FitUnit (rs : List Routine) (l : Linkage) (codes : ℕ → List Line) (u : ℕ) (r : Routine) : Type 0 where
  pub context : Context
  pub judged : IsJudged context (l.context u)
  pub dummies : length (dummies_of (l.context u).header) ≡ length (dummies_of r.header)
  pub lines : FitLines (IsLinked rs l) context (l.context u) (codes u)

module _ (rs : List Routine) (l : Linkage) (codes : ℕ → List Line) (fit : (u : ℕ) (r : Routine) → slice_get rs u ≡ Some r → FitUnit rs l codes u r) where
  -- a unit that is called with as many actuals as it has dummies
  pub record IsEntered (f : Frame) : Type 0 where
    pub unit : Routine
    pub here : slice_get rs f.unit ≡ Some unit
    pub actuals : length (dummies_of unit.header) ≡ length f.actuals

  abbrev context_at : (f : Frame) → IsEntered f → Context
  context_at f h = (fit f.unit h.unit h.here).context

  abbrev FitRest : (f : Frame) → IsEntered f → List Line → Type 0
  FitRest f h rest = FitLines (IsLinked rs l) (context_at f h) (l.context f.unit) rest

  abbrev setting_at : ℕ → Setting
  setting_at n = target l codes n (exec l codes n)

  site_at : (n : ℕ) (f : Frame) (h : IsEntered f) → IsSite (setting_at n) f (context_at f h)
  site_at n f h = record { judged = (fit f.unit h.unit h.here).judged; actuals = (fit f.unit h.unit h.here).dummies ∙ h.actuals }

  -- that no run of a unit with so many statements to go ends Wrong
  abbrev RunsSo : ℕ → Type 0
  RunsSo n = (f : Frame) (h : IsEntered f) (rest : List Line) → FitRest f h rest → (pr : Progress) (w : World) → NeverWrong (exec l codes n f (stand rest pr) w)

  linked_rightly : (n : ℕ) → RunsSo n → (m : Mention) → IsLinked rs l m → IsRightly (setting_at n) m
  linked_rightly n runs (ACall by_call x es) h =
      let v = h.0 in
      let r = h.2.0 in (
        v,
        h.1,
        λ ps as_many w.
            let f : Frame = record { unit = v; actuals = ps; place = nowhere } in
            runs f (record { unit = r; here = h.2.1; actuals = h.2.2 ∙ sym as_many }) (codes v) (fit v r h.2.1).lines no_loops w,
      )
  linked_rightly n runs (AVariable x) h = tt
  linked_rightly n runs (AKnown x) h = tt

  abbrev moved_frame : (p : Place) (f : Frame) → IsEntered f → IsEntered (moved_to p f)
  moved_frame p f h = record { unit = h.unit; here = h.here; actuals = h.actuals }

  pub exec_rightly : (n : ℕ) → RunsSo n
  exec_rightly zero f h rest r pr w = tt
  exec_rightly (suc n) f h rest r pr w = by_rest (runnable rest) (runnable_fit (IsLinked rs l) (context_at f h) (l.context f.unit) rest r) (exec_rightly n)
    where
      by_rest : (q : List Line) → FitRest f h q → RunsSo n → NeverWrong (fetch (setting_at n) f (codes f.unit) q (exec l codes n f) pr w)
      by_rest [] i runs = past_rightly (is_main (l.context f.unit).header) w
      by_rest (a ∷ q) i runs =
          bind_any (λ _ _. ⊤) (take_one w) _ (begin_rightly w)
          (λ _ w1. perform_rightly (IsLinked rs l) (setting_at n) (linked_rightly n runs) (moved_to a.place f) (context_at f h) (site_at n (moved_to a.place f) (moved_frame a.place f h)) begin_rightly
          (codes f.unit) (fit f.unit h.unit h.here).lines (exec l codes n f) (λ k j pr1 w2. runs f h k j pr1 w2) a.label q i.1 pr a.act i.0 w1)
