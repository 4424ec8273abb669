-- One statement that the rules let pass, in a run whose calls never go wrong, never ends Wrong; and the statements that a unit goes
-- through are such ones, wherever labels and DO loops lead.
use Rattle.std.proofs.Common.{◌≡◌, ℕ, Bool, true, false, List, [], ◌∷◌, ◌++◌, Option, Some, None}
use Rattle.std.specs.Prelude.{nat_eq, is_some, not, ◌&&◌, ⊤}
use Rattle.std.proofs.lemmas.Bool.{and_parts, or_parts, not-false}
use Rattle.f66_tree.specs.declared.editing.Way.{Way}
use Rattle.f66_tree.specs.declared.editing.Way.TheVariants.{Reading, Writing}
use Rattle.f66_tree.specs.Syntax.{Formula, Par, Entries, Act, Assign, Goto, Computed, Sign, When, Loop, Invoke, Continue, Stop, Return, Read, Write, Line}
use Rattle.f66_tree.specs.World.{World}
use Rattle.f66_tree.specs.Units.{Context, is_main, is_note, format_of, Setting, Frame, around}
use Rattle.f66_tree.specs.Statements.{record_by, returned, does}
use Rattle.f66_tree.specs.Execution.{runnable, has_label, from_label, Closer, closer_of, closers, closers_at}
use Rattle.f66_tree.proofs.Tries.{if_both}
use Rattle.f66_names.specs.Shapes.{is_parameter, are_items, has_shape}
use Rattle.f66_names.specs.Uses.{uses_of, uses_of_all, uses_of_par, uses_of_target, uses_of_entries, uses_in}
use Rattle.f66_names.specs.Kinds.{is_counting, are_entries}
use Rattle.f66_names.specs.NameRules.{miscounts}
use Rattle.f66_names.specs.StoreRules.{store_entries, stores_wrong}
use Rattle.f66_soundness.specs.Rightly.{NeverWrong}
use Rattle.f66_soundness.specs.SoundUnits.{finds_format}
use Rattle.f66_soundness.proofs.KindLemmas.{none_of_both}
use Rattle.f66_soundness.proofs.ValueLemmas.{FitCounts}
use Rattle.unit_rules.specs.Called.{passed_in}
use Rattle.unit_rules.specs.Forms.{has_form}
use Rattle.unit_rules.specs.Types.{clashes}
use Rattle.f66_program.specs.Mentions.{Mention, mentions_of, mentions_of_par, mentions_of_entries, mentions_in}
use Rattle.std.specs.List.{AllByRecursion}
use Rattle.linked_soundness.proofs.PartLemmas.{all_parts}
use Rattle.linked_soundness.proofs.PlaceLemmas.{IsSite}
use Rattle.linked_soundness.proofs.ValueLemmas.{IsRightly, AllCall}
use Rattle.linked_soundness.proofs.StatementLemmas.{assigns_rightly, invokes_rightly, selects_rightly, signs_rightly}
use Rattle.linked_soundness.proofs.ItemLemmas.{record_rightly}

-- What a statement's run rests on: by the context c the rules hold; in the run's context d its FORMAT is there, and of the names that
-- it calls P holds.
pub record FitAct (P : Mention → Type 0) (c d : Context) (a : Act) : Type 0 where
  pub form : has_form a ≡ true
  pub kinds : clashes c a ≡ false
  pub counts : FitCounts c (uses_in a)
  pub passed : FitCounts c (uses_of_all (passed_in a))
  pub stores : stores_wrong c a ≡ false
  pub formats : finds_format d.notes a ≡ true
  pub calls : AllByRecursion P (mentions_in d a)

abbrev pub FitLines : (Mention → Type 0) → Context → Context → List Line → Type 0
FitLines P c d [] = ⊤
FitLines P c d (s ∷ rest) = FitAct P c d s.act × FitLines P c d rest

-- ---- the statements that a unit goes through ----

module _ (P : Mention → Type 0) (c d : Context) where
  -- the statement of a logical IF
  pub inner_fit : (e : Formula) (a : Act) → FitAct P c d (When e a) → FitAct P c d a
  inner_fit e a h = record {
    form = (and_parts (has_shape (When e a)) _ h.form).1;
    kinds = (or_parts _ _ h.kinds).1;
    counts = (none_of_both (miscounts c) (uses_of e) (uses_in a) h.counts).1;
    passed = h.passed;
    stores = h.stores;
    formats = h.formats;
    calls = (all_parts P (mentions_of d e) (mentions_in d a) h.calls).1;
  }

  pub runnable_fit : (code : List Line) → FitLines P c d code → FitLines P c d (runnable code)
  runnable_fit [] h = tt
  runnable_fit (s ∷ rest) h = if_both (FitLines P c d) (is_note s.act) (runnable rest) (s ∷ rest) (runnable_fit rest h.1) h

  pub from_fit : (l : ℕ) (code : List Line) → FitLines P c d code → FitLines P c d (from_label l code)
  from_fit l [] h = tt
  from_fit l (s ∷ rest) h = if_both (FitLines P c d) (has_label l s.label) (s ∷ rest) (from_label l rest) h (from_fit l rest h.1)

  abbrev pub FitClosers : List Closer → Type 0
  FitClosers [] = ⊤
  FitClosers (k ∷ ks) = FitLines P c d k.inner × FitClosers ks

  closers_append : (ks js : List Closer) → FitClosers ks → FitClosers js → FitClosers (ks ++ js)
  closers_append [] js h k = k
  closers_append (i ∷ ks) js h k = (h.0, closers_append ks js h.1 k)

  closer_fit : (l : ℕ) (a : Act) (rest : List Line) (found : List Closer) → FitLines P c d rest → FitClosers found → FitClosers (closer_of l a rest found)
  closer_fit l (Loop k x p q r) rest found h i =
      if_both FitClosers (nat_eq k l) (found ++ record { variable = x; inner = rest } ∷ []) found (closers_append found (record { variable = x; inner = rest } ∷ []) i (h, tt)) i
  closer_fit l _ rest found h i = i

  closers_fit : (l : ℕ) (code : List Line) → FitLines P c d code → FitClosers (closers l code)
  closers_fit l [] h = tt
  closers_fit l (s ∷ rest) h = closer_fit l s.act rest (closers l rest) h.1 (closers_fit l rest h.1)

  pub closers_at_fit : (o : Option ℕ) (code : List Line) → FitLines P c d code → FitClosers (closers_at o code)
  closers_at_fit None code h = tt
  closers_at_fit (Some l) code h = closers_fit l code h

-- ---- one statement ----

returns_rightly : (main : Bool) (w : World) → NeverWrong (returned main w)
returns_rightly true w = tt
returns_rightly false w = tt

module _ (s : Setting) (f : Frame) (c : Context) (site : IsSite s f c) (begins : (w : World) → NeverWrong (s.begin w)) where
  listed_rightly : (way : Way) (u : Par) (l : ℕ) (es : Entries) → (is_parameter u && are_items es) ≡ true → not (is_counting c u && are_entries way c es) ≡ false → not (store_entries way c es) ≡ false →
      FitCounts c (uses_of_par u ++ uses_of_entries es) → is_some (format_of l (around s f).notes) ≡ true → AllCall s (mentions_of_par u ++ mentions_of_entries (around s f) es) → (w : World) → NeverWrong (record_by s f way u l es w)
  listed_rightly way u l es shape kinds stores counts there calls w =
      let fit = and_parts (is_counting c u) (are_entries way c es) (not-false _ kinds) in
      record_rightly s f c site begins way u l es fit.0 there (record {
        shapes = (and_parts (is_parameter u) (are_items es) shape).1;
        kinds = fit.1;
        stores = not-false _ stores;
        counts = (none_of_both (miscounts c) (uses_of_par u) (uses_of_entries es) counts).1;
        calls = (all_parts (IsRightly s) (mentions_of_par u) (mentions_of_entries (around s f) es) calls).1;
      }) w

  pub does_rightly : (a : Act) → FitAct (IsRightly s) c (around s f) a → (w : World) → NeverWrong (does s f a w)
  does_rightly (Assign x e) h w =
      let counts = none_of_both (miscounts c) (uses_of_target x) (uses_of e) h.counts in
      let calls = all_parts (IsRightly s) (mentions_of (around s f) x) (mentions_of (around s f) e) h.calls in
      assigns_rightly s f c site x e (not-false _ h.kinds) (not-false _ h.stores) counts.0 counts.1 calls.0 calls.1 w
  does_rightly (Goto l) h w = tt
  does_rightly (Computed ls x) h w = selects_rightly s f c site ls x (not-false _ h.kinds) w
  does_rightly (Sign e l1 l2 l3) h w = signs_rightly s f c site e l1 l2 l3 (not-false _ h.kinds) h.counts h.calls w
  does_rightly (When e a) h w = tt
  does_rightly (Loop l x p q r) h w = tt
  does_rightly (Invoke x es) h w = invokes_rightly s f c site x es (not-false _ h.kinds) h.passed h.calls.0 h.calls.1 w
  does_rightly Continue h w = tt
  does_rightly (Stop None) h w = tt
  does_rightly (Stop (Some n)) h w = tt
  does_rightly Return h w = returns_rightly (is_main (around s f).header) w
  does_rightly (Read u l es) h w = listed_rightly Reading u l es h.form h.kinds h.stores h.counts h.formats h.calls w
  does_rightly (Write u l es) h w = listed_rightly Writing u l es h.form h.kinds h.stores h.counts h.formats h.calls w
  does_rightly _ h w = tt
