-- The plans of the units of a program.
use Rattle.std.proofs.Common.{◌≡◌, ℕ, ◌+◌, inl, inr, List, [], ◌∷◌, ◌++◌, length, refl, ap, sym, subst, ◌∙◌, append_assoc, arith, length-append, map, Some, slice_get}
use Rattle.f66_tree.specs.Fields.{Fields}
use Rattle.f66_tree.specs.Syntax.{Act, Format, Line}
use Rattle.f66_tree.specs.Units.{notes_of}
use Rattle.code_gen.specs.Layout.{Layout}
use Rattle.code_gen.specs.Behaves.{HavePlans, IsAmong}
use Rattle.code_gen.specs.Statements.{unit_size}
use Rattle.code_gen.specs.LayingOut.{before, AreDistinct, layout, spread}
use Rattle.code_gen.proofs.LaidOut.{layout_fits}
use Rattle.code_emit.specs.Entries.{entries_from}
use Rattle.code_emit.specs.Laws.{LayoutIsReady}
use Rattle.code_emit.specs.Plans.{ArePlanned, all_formats, format_count, format_then, formats_count, formats_in, plan_at, plan_in}
use Rattle.code_emit.proofs.EntryLemmas.{apart, entries_before, first_before, later_before}
use Rattle.code_emit.proofs.PlanLemmas.{have_plans}

then_long : (a : Act) (rest : List Fields) → length (format_then a rest) ≡ format_count a + length rest
then_long (Format fs) rest = omega arith
then_long _ rest = omega arith

pub formats_long : (lines : List Line) → length (formats_in lines) ≡ formats_count lines
formats_long [] = refl
formats_long (s ∷ rest) = then_long s.act (formats_in rest) ∙ ap (λ n. format_count s.act + n) (formats_long rest)

-- distinct units whose formats are numbered as they stand
pub planned_from : (y : Layout) (n : ℕ) (us : List ℕ) → AreDistinct us → ((u : ℕ) → IsAmong u us → (l : ℕ) → y.plan u l ≡ plan_in (n + before (λ v. formats_count (y.lines v)) us u) (y.lines u) l) → ArePlanned y n us
planned_from y n [] distinct plans = tt
planned_from y n (v ∷ us) distinct plans =
    let count : ℕ → ℕ = λ w. formats_count (y.lines w) in
    let first : n + before count (v ∷ us) v ≡ n = (let none = first_before count v v us refl in omega arith) in
    let next : (u : ℕ) → IsAmong u us → n + before count (v ∷ us) u ≡ (n + count v) + before count us u = λ u m. (let e = later_before count u v us (apart u v us distinct.0 m) in omega arith) in (
      λ l. plans v (inl refl) l ∙ ap (λ k. plan_in k (y.lines v) l) first,
      planned_from y (n + count v) us distinct.1 (λ u m l. plans u (inr m) l ∙ ap (λ k. plan_in k (y.lines u) l) (next u m)),
    )

-- where the formats of a unit stand among all
abbrev IsPart : (ℕ → List Line) → List ℕ → ℕ → Type 0
IsPart lines us u = (front : List Fields) × ((after : List Fields) × ((all_formats lines us ≡ front ++ (formats_in (lines u) ++ after)) × (length front ≡ before (λ v. formats_count (lines v)) us u)))

part_of : (lines : ℕ → List Line) (us : List ℕ) (u : ℕ) → AreDistinct us → IsAmong u us → IsPart lines us u
part_of lines [] u distinct m = absurd m
part_of lines (v ∷ us) u distinct (inl e) =
    ([], (all_formats lines us, (ap (λ w. formats_in (lines w) ++ all_formats lines us) (sym e), sym (first_before (λ w. formats_count (lines w)) u v us e))))
part_of lines (v ∷ us) u distinct (inr m) =
    let count : ℕ → ℕ = λ w. formats_count (lines w) in
    let p = part_of lines us u distinct.1 m in
    let fs = formats_in (lines v) in
    let e = later_before count u v us (apart u v us distinct.0 m) in
    let long : length (fs ++ p.0) ≡ before count (v ∷ us) u = omega (arith, length-append fs p.0, formats_long (lines v), p.1.1.1) in
    (fs ++ p.0, (p.1.0, (ap (λ z. fs ++ z) p.1.1.0 ∙ sym (append_assoc fs p.0 (formats_in (lines u) ++ p.1.0)), long)))

pub all_have_plans : (y : Layout) (us : List ℕ) (u : ℕ) → AreDistinct us → IsAmong u us → (y.linked.context u).notes ≡ notes_of (y.lines u) → ((l : ℕ) → y.plan u l ≡ plan_at y.lines us u l) → HavePlans y u (all_formats y.lines us)
all_have_plans y us u distinct m notes plans =
    let p = part_of y.lines us u distinct m in
    subst (HavePlans y u) (sym p.1.1.0) (have_plans y u p.0 p.1.0 notes (λ l. plans l ∙ ap (λ k. plan_in k (y.lines u) l) (sym p.1.1.1)))

-- ---- a layout ----

entry_at : (size : ℕ → ℕ) (us : List ℕ) (k u : ℕ) → AreDistinct us → slice_get us k ≡ Some u → slice_get (entries_from 0 (map size us)) k ≡ Some (before size us u)
entry_at size us k u distinct is = (let none : 0 + before size us u ≡ before size us u = omega arith in entries_before size us 0 k u distinct is ∙ ap Some none)

pub ready : LayoutIsReady
ready l lines presets bound rank us distinct =
    let y : Layout = layout l lines (plan_at lines us) presets bound rank us in
    let sized : Layout = spread l lines (plan_at lines us) presets bound rank us in
    let count : ℕ → ℕ = λ v. formats_count (lines v) in
    let none : (u : ℕ) → before count us u ≡ 0 + before count us u = λ u. omega arith in
    record {
      entered = (layout_fits l lines (plan_at lines us) presets bound rank us distinct).entered;
      entries = λ k u is. entry_at (unit_size sized) us k u distinct is;
      planned = planned_from y 0 us distinct (λ u m k. ap (λ n. plan_in n (lines u) k) (none u));
      plans = λ u m notes. all_have_plans y us u distinct m notes (λ k. refl);
    }
