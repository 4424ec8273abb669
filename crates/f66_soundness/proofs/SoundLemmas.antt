-- A main unit that is sound has what its run rests on, and so never goes wrong.
use Rattle.std.proofs.Common.{◌≡◌, ◌≢◌, ℕ, zero, suc, Bool, true, false, true≢false, List, [], ◌∷◌, Some, None, slice_get, refl, ap, sym, ◌∙◌, subst}
use Rattle.std.specs.Prelude.{not, ◌&&◌, if◌then◌else◌, ⊤}
use Rattle.std.specs.List.{list_any}
use Rattle.std.specs.Str.{bytes_eq}
use Rattle.std.proofs.lemmas.Bool.{and_parts, or_parts, or_from, not-false}
use Rattle.rule_table.specs.declared.rule.Rule.TheVariants.{Syntax, OutOfProfileType, TypeClash, WrongCount, BadConstant, NotAssignable}
use Rattle.f66_tree.specs.declared.declaration.TypeWord.{TypeWord}
use Rattle.f66_tree.specs.declared.declaration.TypeWord.TheVariants.{Integer}
use Rattle.f66_tree.specs.Syntax.{Text, Par, Constant, Named, Declared, MainUnit, Act, Typed, Dimension, Common, Line}
use Rattle.f66_tree.specs.World.{Wrong, Ended, Out, Gives, Halts, shown}
use Rattle.f66_tree.specs.Units.{Note, Context, is_note, notes_of, if_any, sizes_in, sizes_by, sizes_of, lists, typed_by, type_in, by_letter, kind_by, kind_of}
use Rattle.f66_tree.specs.Evaluation.{array_or, sort_of}
use Rattle.f66_tree.specs.Execution.{nowhere, first_state, no_loops}
use Rattle.f66_tree.specs.OneUnit.{one_unit}
use Rattle.f66_tree.proofs.Tries.{if_both}
use Rattle.f66_names.specs.BuiltActs.{is_built_form}
use Rattle.f66_names.specs.Declaring.{noted, context_by}
use Rattle.f66_names.specs.StoreRules.{is_bad_size, has_bad_size, has_bad_constant}
use Rattle.f66_names.specs.Sorts.{is_other, is_foreign, is_dummy, is_counter}
use Rattle.f66_names.specs.NameRules.{gives_other}
use Rattle.f66_soundness.specs.Rightly.{IsRightEnd, NeverWrong}
use Rattle.f66_soundness.specs.SoundUnits.{acts_in_unit, main_context, IsSoundMain, RunsRightly, SoundNeverWrong, SoundByActs}
use Rattle.f66_soundness.proofs.ValueLemmas.{is_unfit, FitSizes}
use Rattle.f66_soundness.proofs.RunLemmas.{FitAct, FitLines, exec_rightly}

-- ---- dimensions ----

any_fit : (ns others : List Par) → FitSizes ns → FitSizes others → FitSizes (if_any ns others)
any_fit [] others h k = k
any_fit (n ∷ ns) others h k = h

-- where there are no dummies a dimension that the rules let pass is a constant above zero
pub sized_fit : (c : Context) (y : Text) → is_dummy c y ≡ false → (ns : List Par) → list_any (is_bad_size c y) ns ≡ false → FitSizes ns
sized_fit c y own [] h = refl
sized_fit c y own (Constant z ∷ ns) h =
    let p = or_parts (is_bad_size c y (Constant z)) _ h in
    or_from (is_unfit (Constant z)) _ p.0 (sized_fit c y own ns p.1)
sized_fit c y own (Named n ∷ ns) h =
    let p = or_parts (is_bad_size c y (Named n)) _ h in
    absurd (true≢false (sym (ap (λ b. not (b && (is_dummy c n && is_counter c n))) own) ∙ p.0))

in_fit : (c : Context) → ((y : Text) → is_dummy c y ≡ false) → (x : Text) (ds : List Declared) (others : List Par) → list_any (has_bad_size c) ds ≡ false → FitSizes others → FitSizes (sizes_in x ds others)
in_fit c own x [] others h k = k
in_fit c own x (d ∷ ds) others h k =
    let p = or_parts (has_bad_size c d) _ h in
    let behind = in_fit c own x ds others p.1 k in
    if_both FitSizes (bytes_eq x d.name) (if_any d.sizes (sizes_in x ds others)) (sizes_in x ds others) (any_fit d.sizes (sizes_in x ds others) (sized_fit c d.name (own d.name) d.sizes p.0) behind) behind

by_fit : (c : Context) → ((y : Text) → is_dummy c y ≡ false) → (x : Text) (a : Act) (others : List Par) → is_built_form a ≡ true → has_bad_constant c a ≡ false → FitSizes others → FitSizes (sizes_by x a others)
by_fit c own x (Typed t ds) others built h k = in_fit c own x ds others h k
by_fit c own x (Dimension ds) others built h k = in_fit c own x ds others h k
by_fit c own x (Common areas) others built h k = let q : ⊥ = cc in absurd q
by_fit c own x _ others built h k = k

sizes_fit : (c : Context) → ((y : Text) → is_dummy c y ≡ false) → (x : Text) (code : List Line) → ((i : ℕ) (a : Act) → slice_get (acts_in_unit code) i ≡ Some a → (is_built_form a ≡ true) × (has_bad_constant c a ≡ false)) → FitSizes (sizes_of x (notes_of code))
sizes_fit c own x [] h = refl
sizes_fit c own x (s ∷ rest) h =
    let behind = sizes_fit c own x rest (λ i a e. h (suc i) a e) in
    let here = h zero s.act refl in
    if_both (λ notes. FitSizes (sizes_of x notes)) (is_note s.act) (record { label = s.label; act = s.act } ∷ notes_of rest) (notes_of rest) (by_fit c own x s.act (sizes_of x (notes_of rest)) here.0 here.1 behind) behind

-- ---- types ----

-- no name is declared of a type outside the profile where no statement gives one
profile_types : (x : Text) (code : List Line) → ((i : ℕ) (a : Act) → slice_get (acts_in_unit code) i ≡ Some a → gives_other a ≡ false) → is_other (type_in x (notes_of code) Integer) ≡ false
profile_types x [] h = refl
profile_types x (s ∷ rest) h =
    let behind = profile_types x rest (λ i a e. h (suc i) a e) in
    if_both (λ notes. is_other (type_in x notes Integer) ≡ false) (is_note s.act) (record { label = s.label; act = s.act } ∷ notes_of rest) (notes_of rest)
    (by_act s.act (type_in x (notes_of rest) Integer) (h zero s.act refl) behind) behind
  where
    by_act : (a : Act) (t : TypeWord) → gives_other a ≡ false → is_other t ≡ false → is_other (typed_by x a t) ≡ false
    by_act (Typed w ds) t g e = if_both (λ v. is_other v ≡ false) (lists x ds) w t g e
    by_act _ t g e = e

-- ---- statements ----

lines_fit : (c : Context) (notes : List Note) (code : List Line) → ((i : ℕ) (a : Act) → slice_get (acts_in_unit code) i ≡ Some a → FitAct c notes a) → FitLines c notes code
lines_fit c notes [] h = tt
lines_fit c notes (s ∷ rest) h = (h zero s.act refl, lines_fit c notes rest (λ i a e. h (suc i) a e))

act_fit : (c : Context) (code : List Line) → IsSoundMain c code → (i : ℕ) (a : Act) → slice_get (acts_in_unit code) i ≡ Some a → FitAct c (notes_of code) a
act_fit c code h i a e = record {
  built = (and_parts _ _ (h.built i a e)).0;
  shape = not-false _ (h.clean i a e Syntax);
  kinds = h.clean i a e TypeClash;
  counts = (or_parts _ _ (h.clean i a e WrongCount)).1;
  stores = h.clean i a e NotAssignable;
  formats = h.formats i a e;
}

-- ---- the law ----

end_right : (o : Out ⊤) → NeverWrong o → (shown o).end ≢ Ended Wrong
end_right (Gives a w) h e = cc
end_right (Halts d w) h e = subst IsRightEnd e h

-- of statements that fit, for every context in which names mean what they mean in the unit
pub fit_runs_rightly : (c : Context) (code : List Line) → ((x : Text) → kind_of c x ≡ kind_of (main_context code) x) → ((x : Text) → is_foreign c x ≡ false) → ((x : Text) → sort_of c x ≡ sort_of (main_context code) x) → ((x : Text) → FitSizes (sizes_of x (notes_of code))) → FitLines c (notes_of code) code →
    RunsRightly code
fit_runs_rightly c code kinds own sorts sizes fit input n =
    end_right _
    (exec_rightly (notes_of code) c kinds own sorts sizes code fit (suc n) (record { unit = 0; actuals = []; place = nowhere }) code fit no_loops (record { state = first_state (one_unit (notes_of code)) input; left = n; count = 0 }))

runs_rightly : (c : Context) (code : List Line) → ((x : Text) → kind_of c x ≡ kind_of (main_context code) x) → ((x : Text) → is_foreign c x ≡ is_other (type_in x (notes_of code) Integer)) → ((x : Text) → is_dummy c x ≡ false) → ((x : Text) → sort_of c x ≡ sort_of (main_context code) x) → IsSoundMain c code → RunsRightly code
runs_rightly c code kinds same own sorts h =
    fit_runs_rightly c code kinds (λ x. same x ∙ profile_types x code (λ i a e. (or_parts (gives_other a) _ (h.clean i a e OutOfProfileType)).0)) sorts
    (λ x. sizes_fit c own x code (λ i a e. ((and_parts _ _ (h.built i a e)).0, h.clean i a e BadConstant)))
    (lines_fit c (notes_of code) code (act_fit c code h))

pub never_wrong : SoundNeverWrong
never_wrong code h = runs_rightly (main_context code) code (λ x. refl) (λ x. refl) (λ x. refl) (λ x. refl) h

-- ---- labels say nothing of names ----

-- what holds of two lists of notes holds of those with one statement more in front
behind_note : (P : List Note → List Note → Type 0) (s : Line) (xs ys : List Note) → P (record { label = None; act = s.act } ∷ xs) (record { label = s.label; act = s.act } ∷ ys) → P xs ys →
    (b : Bool) → P (if b then (record { label = None; act = s.act } ∷ xs) else xs) (if b then (record { label = s.label; act = s.act } ∷ ys) else ys)
behind_note P s xs ys h k true = h
behind_note P s xs ys h k false = k

types_same : (x : Text) (t : TypeWord) (code : List Line) → type_in x (noted (acts_in_unit code)) t ≡ type_in x (notes_of code) t
types_same x t [] = refl
types_same x t (s ∷ rest) =
    behind_note (λ xs ys. type_in x xs t ≡ type_in x ys t) s (noted (acts_in_unit rest)) (notes_of rest) (ap (typed_by x s.act) (types_same x t rest)) (types_same x t rest) (is_note s.act)

pub sizes_same : (x : Text) (code : List Line) → sizes_of x (noted (acts_in_unit code)) ≡ sizes_of x (notes_of code)
sizes_same x [] = refl
sizes_same x (s ∷ rest) =
    behind_note (λ xs ys. sizes_of x xs ≡ sizes_of x ys) s (noted (acts_in_unit rest)) (notes_of rest) (ap (sizes_by x s.act) (sizes_same x rest)) (sizes_same x rest) (is_note s.act)

pub never_wrong_by_acts : SoundByActs
never_wrong_by_acts code h = runs_rightly (context_by MainUnit (acts_in_unit code)) code (λ x. ap kind_by (types_same x (by_letter x) code)) (λ x. ap is_other (types_same x Integer code)) (λ x. refl) (λ x. ap (λ ns. array_or ns x) (sizes_same x code)) h
