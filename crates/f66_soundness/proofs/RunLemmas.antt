-- A run of a main unit whose statements the rules let pass never ends Wrong, whatever its labels and its DO loops are.
use Rattle.std.proofs.Common.{◌≡◌, ℕ, zero, suc, true, false, List, [], ◌∷◌, ◌++◌, length, Option, Some, None}
use Rattle.std.specs.Prelude.{nat_eq, is_some, not, ◌&&◌, ⊤}
use Rattle.std.proofs.lemmas.Bool.{and_parts, or_parts, not-false}
use Rattle.f66_tree.specs.declared.editing.Way.{Way}
use Rattle.f66_tree.specs.declared.editing.Way.TheVariants.{Reading, Writing}
use Rattle.f66_tree.specs.Syntax.{Text, Formula, Par, Entries, Act, Assign, Goto, Computed, Sign, When, Loop, Invoke, Continue, Stop, Return, Read, Write, Format, Typed, Dimension, Common, Equivalence, Preset, Line}
use Rattle.f66_tree.specs.World.{World, Out, bind, take_one, take_from}
use Rattle.f66_tree.specs.Units.{Note, Context, is_note, kind_of, format_of, sizes_of, Setting, Frame, moved_to}
use Rattle.f66_tree.specs.Evaluation.{sort_of, asks}
use Rattle.f66_tree.specs.Statements.{Exit, Normal, To, Back, loop_start, loop_turn, record_by, does}
use Rattle.f66_tree.specs.Execution.{runnable, has_label, from_label, Progress, begun, Stand, stand, Closer, closer_of, closers, closers_at, Onward, close, leads, perform, fetch, target, exec, nowhere, no_loops}
use Rattle.f66_tree.specs.OneUnit.{one_unit}
use Rattle.f66_tree.proofs.Tries.{if_both}
use Rattle.f66_names.specs.Shapes.{stands, is_parameter, are_items, is_branch, has_shape}
use Rattle.f66_names.specs.Uses.{uses_of, uses_of_par, uses_of_target, uses_of_entries, uses_in}
use Rattle.f66_names.specs.Sorts.{is_foreign, is_integer}
use Rattle.f66_names.specs.Kinds.{is_counting, are_entries, clashes}
use Rattle.f66_names.specs.NameRules.{miscounts}
use Rattle.f66_names.specs.StoreRules.{store_entries, stores_wrong}
use Rattle.f66_names.specs.BuiltActs.{is_built_form}
use Rattle.f66_soundness.specs.Rightly.{NeverWrong}
use Rattle.f66_soundness.specs.SoundUnits.{in_main, finds_format}
use Rattle.f66_soundness.proofs.RightlyLemmas.{bind_any, choose_rightly}
use Rattle.f66_soundness.proofs.KindLemmas.{none_of_both}
use Rattle.f66_soundness.proofs.ValueLemmas.{FitSizes, Main, setting_of, FitCounts, asks_rightly}
use Rattle.f66_soundness.proofs.StatementLemmas.{assigns_rightly, selects_rightly, signs_rightly, start_rightly, turn_rightly}
use Rattle.f66_soundness.proofs.RecordLemmas.{record_rightly}

-- what a statement's run rests on
pub record FitAct (c : Context) (notes : List Note) (a : Act) : Type 0 where
  pub built : is_built_form a ≡ true
  pub shape : has_shape a ≡ true
  pub kinds : clashes c a ≡ false
  pub counts : FitCounts c (uses_in a)
  pub stores : stores_wrong c a ≡ false
  pub formats : finds_format notes a ≡ true

abbrev pub FitLines : Context → List Note → List Line → Type 0
FitLines c notes [] = ⊤
FitLines c notes (s ∷ rest) = FitAct c notes s.act × FitLines c notes rest

-- the statement of a logical IF
inner_fit : (c : Context) (notes : List Note) (e : Formula) (a : Act) → FitAct c notes (When e a) → FitAct c notes a
inner_fit c notes e a h = record {
  built = h.built;
  shape = (and_parts (is_branch a) _ (and_parts (stands 0 e) _ h.shape).1).1;
  kinds = (or_parts _ _ h.kinds).1;
  counts = (none_of_both (miscounts c) (uses_of e) (uses_in a) h.counts).1;
  stores = h.stores;
  formats = h.formats;
}

runnable_fit : (c : Context) (notes : List Note) (code : List Line) → FitLines c notes code → FitLines c notes (runnable code)
runnable_fit c notes [] h = tt
runnable_fit c notes (s ∷ rest) h = if_both (FitLines c notes) (is_note s.act) (runnable rest) (s ∷ rest) (runnable_fit c notes rest h.1) h

from_fit : (c : Context) (notes : List Note) (l : ℕ) (code : List Line) → FitLines c notes code → FitLines c notes (from_label l code)
from_fit c notes l [] h = tt
from_fit c notes l (s ∷ rest) h = if_both (FitLines c notes) (has_label l s.label) (s ∷ rest) (from_label l rest) h (from_fit c notes l rest h.1)

abbrev FitClosers : Context → List Note → List Closer → Type 0
FitClosers c notes [] = ⊤
FitClosers c notes (k ∷ ks) = FitLines c notes k.inner × FitClosers c notes ks

closers_append : (c : Context) (notes : List Note) (ks js : List Closer) → FitClosers c notes ks → FitClosers c notes js → FitClosers c notes (ks ++ js)
closers_append c notes [] js h k = k
closers_append c notes (i ∷ ks) js h k = (h.0, closers_append c notes ks js h.1 k)

closer_fit : (c : Context) (notes : List Note) (l : ℕ) (a : Act) (rest : List Line) (found : List Closer) → FitLines c notes rest → FitClosers c notes found → FitClosers c notes (closer_of l a rest found)
closer_fit c notes l (Loop k x p q r) rest found h i =
    if_both (FitClosers c notes) (nat_eq k l) (found ++ record { variable = x; inner = rest } ∷ []) found (closers_append c notes found (record { variable = x; inner = rest } ∷ []) i (h, tt)) i
closer_fit c notes l _ rest found h i = i

closers_fit : (c : Context) (notes : List Note) (l : ℕ) (code : List Line) → FitLines c notes code → FitClosers c notes (closers l code)
closers_fit c notes l [] h = tt
closers_fit c notes l (s ∷ rest) h = closer_fit c notes l s.act rest (closers l rest) h.1 (closers_fit c notes l rest h.1)

closers_at_fit : (c : Context) (notes : List Note) (o : Option ℕ) (code : List Line) → FitLines c notes code → FitClosers c notes (closers_at o code)
closers_at_fit c notes None code h = tt
closers_at_fit c notes (Some l) code h = closers_fit c notes l code h

module _ (m : Main) where
  abbrev s : Setting
  s = setting_of m

  abbrev c : Context
  c = m.context

  listed_rightly : (f : Frame) (way : Way) (u : Par) (l : ℕ) (es : Entries) → (is_parameter u && are_items es) ≡ true → not (is_counting c u && are_entries way c es) ≡ false → not (store_entries way c es) ≡ false →
      FitCounts c (uses_of_par u ++ uses_of_entries es) → is_some (format_of l m.notes) ≡ true → (w : World) → NeverWrong (record_by s f way u l es w)
  listed_rightly f way u l es shape kinds stores counts there w =
      let fit = and_parts (is_counting c u) (are_entries way c es) (not-false _ kinds) in
      record_rightly m f way u l es fit.0 there (record {
        shapes = (and_parts (is_parameter u) (are_items es) shape).1;
        kinds = fit.1;
        stores = not-false _ stores;
        counts = (none_of_both (miscounts c) (uses_of_par u) (uses_of_entries es) counts).1;
      }) w

  does_rightly : (f : Frame) (a : Act) → FitAct c m.notes a → (w : World) → NeverWrong (does s f a w)
  does_rightly f (Assign x e) h w =
      let counts = none_of_both (miscounts c) (uses_of_target x) (uses_of e) h.counts in
      assigns_rightly m f x e (not-false _ h.kinds) (not-false _ h.stores) counts.0 counts.1 w
  does_rightly f (Goto l) h w = tt
  does_rightly f (Computed ls x) h w = selects_rightly m f ls x (not-false _ h.kinds) w
  does_rightly f (Sign e l1 l2 l3) h w = signs_rightly m f e l1 l2 l3 (not-false _ h.kinds) h.counts w
  does_rightly f (When e a) h w = tt
  does_rightly f (Loop l x p q r) h w = tt
  does_rightly f (Invoke x es) h w = let b = h.built in let q : ⊥ = cc in absurd q
  does_rightly f Continue h w = tt
  does_rightly f (Stop None) h w = tt
  does_rightly f (Stop (Some n)) h w = tt
  does_rightly f Return h w = tt
  does_rightly f (Read u l es) h w = listed_rightly f Reading u l es h.shape h.kinds h.stores h.counts h.formats w
  does_rightly f (Write u l es) h w = listed_rightly f Writing u l es h.shape h.kinds h.stores h.counts h.formats w
  does_rightly f _ h w = tt

  module _ (code : List Line) (fit : FitLines c m.notes code) (f : Frame) (go : Onward) (goes : (rest : List Line) → FitLines c m.notes rest → (pr : Progress) (w : World) → NeverWrong (go (stand rest pr) w)) where
    close_rightly : (ks : List Closer) → FitClosers c m.notes ks → (rest : List Line) → FitLines c m.notes rest → (pr : Progress) (w : World) → NeverWrong (close s f ks rest go pr w)
    close_rightly [] h rest r pr w = goes rest r pr w
    close_rightly (k ∷ ks) h rest r pr w =
        bind_any (λ _ _. ⊤) (loop_turn s f k.variable (pr (length k.inner)) w) _ (turn_rightly m f k.variable (pr (length k.inner)) w)
        (λ on w1. choose_rightly (λ _ _. ⊤) on (go (stand k.inner pr) w1) (close s f ks rest go pr w1) (goes k.inner h.0 pr w1) (close_rightly ks h.1 rest r pr w1))

    leads_rightly : (l : Option ℕ) (rest : List Line) → FitLines c m.notes rest → (pr : Progress) (y : Exit) (w : World) → NeverWrong (leads s f code l rest go pr y w)
    leads_rightly l rest r pr Normal w = close_rightly (closers_at l code) (closers_at_fit c m.notes l code fit) rest r pr w
    leads_rightly l rest r pr (To k) w = goes (from_label k code) (from_fit c m.notes k code fit) pr w
    leads_rightly l rest r pr Back w = tt

    module _ (l : Option ℕ) (rest : List Line) (r : FitLines c m.notes rest) (pr : Progress) where
      plain_rightly : (a : Act) → FitAct c m.notes a → (w : World) → NeverWrong (bind (does s f a w) (λ y w1. leads s f code l rest go pr y w1))
      plain_rightly a h w = bind_any (λ _ _. ⊤) (does s f a w) _ (does_rightly f a h w) (λ y w1. leads_rightly l rest r pr y w1)

      pub perform_rightly : (a : Act) → FitAct c m.notes a → (w : World) → NeverWrong (perform s f code l a rest go pr w)
      perform_rightly (When e a) h w =
          let counts = none_of_both (miscounts c) (uses_of e) (uses_in a) h.counts in
          bind_any (λ _ _. ⊤) (asks s f e w) _ (asks_rightly m f e (not-false _ (or_parts _ _ h.kinds).0) counts.0 w) (λ holds w1.
          choose_rightly (λ _ _. ⊤) holds (go (stand (record { label = l; place = f.place; act = a } ∷ rest) pr) w1) (leads s f code l rest go pr Normal w1)
          (goes (record { label = l; place = f.place; act = a } ∷ rest) (inner_fit c m.notes e a h, r) pr w1) (leads_rightly l rest r pr Normal w1))
      perform_rightly (Loop k x p q t) h w =
          let kinds = and_parts (is_integer (kind_of c x)) _ (not-false _ h.kinds) in
          let first = and_parts (is_counting c p) _ kinds.1 in
          let others = and_parts (is_counting c q) (is_counting c t) first.1 in
          bind_any (λ _ _. ⊤) (loop_start s f x p q t w) _ (start_rightly m f x p q t first.0 others.0 others.1 w) (λ i w1. goes rest r (begun (length rest) i pr) w1)
      perform_rightly (Assign x e) h w = plain_rightly (Assign x e) h w
      perform_rightly (Goto k) h w = plain_rightly (Goto k) h w
      perform_rightly (Computed ls x) h w = plain_rightly (Computed ls x) h w
      perform_rightly (Sign e l1 l2 l3) h w = plain_rightly (Sign e l1 l2 l3) h w
      perform_rightly (Invoke x es) h w = plain_rightly (Invoke x es) h w
      perform_rightly Continue h w = plain_rightly Continue h w
      perform_rightly (Stop n) h w = plain_rightly (Stop n) h w
      perform_rightly Return h w = plain_rightly Return h w
      perform_rightly (Read u k es) h w = plain_rightly (Read u k es) h w
      perform_rightly (Write u k es) h w = plain_rightly (Write u k es) h w
      perform_rightly (Format fs) h w = plain_rightly (Format fs) h w
      perform_rightly (Typed t ds) h w = plain_rightly (Typed t ds) h w
      perform_rightly (Dimension ds) h w = plain_rightly (Dimension ds) h w
      perform_rightly (Common areas) h w = plain_rightly (Common areas) h w
      perform_rightly (Equivalence es) h w = plain_rightly (Equivalence es) h w
      perform_rightly (Preset ps) h w = plain_rightly (Preset ps) h w

begin_rightly : (w : World) → NeverWrong (take_one w)
begin_rightly w = by_left w.left
  where
    by_left : (k : ℕ) → NeverWrong (take_from w.state k w.count)
    by_left zero = tt
    by_left (suc k) = tt

module _ (notes : List Note) (c : Context) (kinds : (x : Text) → kind_of c x ≡ kind_of (in_main notes) x) (own : (x : Text) → is_foreign c x ≡ false) (sorts : (x : Text) → sort_of c x ≡ sort_of (in_main notes) x)
    (sizes : (x : Text) → FitSizes (sizes_of x notes)) (code : List Line) (fit : FitLines c notes code) where
  abbrev run : ℕ → Frame → Stand → World → Out ⊤
  run n = exec (one_unit notes) (λ u. code) n

  abbrev around_run : ℕ → Main
  around_run n = record {
    notes = notes;
    context = c;
    kinds = kinds;
    own = own;
    sorts = sorts;
    sizes = sizes;
    call = λ v ps w. run n (record { unit = v; actuals = ps; place = nowhere }) (stand code no_loops) w;
    begin = take_one;
    begins = begin_rightly;
    most = n;
    tick = λ k. k;
  }

  pub exec_rightly : (n : ℕ) (f : Frame) (rest : List Line) → FitLines c notes rest → (pr : Progress) (w : World) → NeverWrong (exec (one_unit notes) (λ u. code) n f (stand rest pr) w)
  exec_rightly zero f rest h pr w = tt
  exec_rightly (suc n) f rest h pr w = by_rest (runnable rest) (runnable_fit c notes rest h) (λ q i pr1 w1. exec_rightly n f q i pr1 w1)
    where
      by_rest : (q : List Line) → FitLines c notes q → ((r : List Line) → FitLines c notes r → (pr1 : Progress) (w1 : World) → NeverWrong (run n f (stand r pr1) w1)) → NeverWrong (fetch (target (one_unit notes) (λ u. code) n (run n)) f code q (run n f) pr w)
      by_rest [] i goes = tt
      by_rest (a ∷ q) i goes =
          bind_any (λ _ _. ⊤) (take_one w) _ (begin_rightly w)
          (λ _ w1. perform_rightly (around_run n) code fit (moved_to a.place f) (run n f) goes a.label q i.1 pr a.act i.0 w1)
