-- The code of the units of a linked program in their order.
use Rattle.std.proofs.Common.{◌≡◌, ◌≤◌, ◌<◌, ◌^◌, ◌∷◌, ℕ, true, List, [], Option, Some, None, length, map, refl, sym, ap, subst, ◌∙◌, inl, inr, arith}
use Rattle.std.specs.List.{All, slice_get}
use Rattle.std.proofs.lemmas.List.{length-map}
use Rattle.std.proofs.lemmas.List.Elements.{All-nil, All-cons, All-head, All-tail, All-weaker, All-contains}
use Rattle.ground.specs.Content.{Content}
use Rattle.f66_tree.specs.Syntax.{Routine}
use Rattle.f66_tree.specs.Views.{routine_of}
use Rattle.f66_check.specs.Answers.{IsSoundUnit}
use Rattle.f66_program.specs.Calls.{Leads}
use Rattle.f66_program.specs.Initial.{Preset, presets_of}
use Rattle.format_io.specs.Places.{depth}
use Rattle.linker.specs.CallViews.{units_in}
use Rattle.linker.proofs.PartLemmas.{contains_got, got_inside}
use Rattle.whole_program.specs.declared.linked.Linked.{Linked}
use Rattle.whole_program.specs.Linkage.{linkage_of}
use Rattle.stack_code.specs.declared.valid.Code.{Code}
use Rattle.stack_code.specs.Bounds.{IsChecked, IsVerified}
use Rattle.stack_code.specs.ValidCode.{is_small, IsValid}
use Rattle.stack_code.specs.Views.{code_of}
use Rattle.code_gen.specs.Layout.{Layout}
use Rattle.code_gen.specs.Statements.{units_code}
use Rattle.code_gen.specs.Behaves.{AreEntered, IsAmong, program}
use Rattle.code_gen.specs.Linked.{IsRanked}
use Rattle.code_validity.specs.Valid.{storage_size}
use Rattle.code_validity.proofs.Presets.{initial_are_values}
use Rattle.code_validity.proofs.Programs.{compiled_is_valid}
use Rattle.code_emit.specs.declared.planned.PlannedCode.{PlannedCode}
use Rattle.code_emit.specs.Laws.{IsReady}
use Rattle.code_emit.specs.Planned.{program_in}
use Rattle.code_emit.specs.Plans.{all_formats, plan_at, formats_in, ArePlanned}
use Rattle.code_emit.specs.Units.{AllEntered, AllPlanned}
use Rattle.code_emit.proofs.ProgramLemmas.{ready}
use Rattle.code_emit.proofs.UnitLemmas.{entered_in, planned_in}
use Rattle.code_layout.specs.declared.linked_unit.LinkedUnit.{LinkedUnit}
use Rattle.code_layout.specs.declared.program_tables.ProgramTables.{ProgramTables}
use Rattle.code_layout.specs.declared.spread.Spread.{Spread}
use Rattle.code_layout.specs.Compiled.{IsCompiled, IsSoundProgram}
use Rattle.code_layout.specs.Order.{others_of}
use Rattle.code_layout.specs.Placing.{AreOrdered, IsCoded, IsLaidByRanks}
use Rattle.code_layout.specs.Ranked.{bound_of, contents_in, initial_of}
use Rattle.code_layout.specs.Spreading.{layout_of, spread_of}
use Rattle.code_layout.specs.Tabled.{layout_in, lines_or, lines_in, order_in}
use Rattle.code_layout.proofs.OrderLemmas.{distinct}
use Rattle.code_layout.proofs.EnterLemmas.{inside}
use Rattle.code_layout.proofs.RankedLemmas.{ranked}
use Rattle.code_layout.proofs.ShallowLemmas.{unit_shallow}

all_among : (P : ℕ → Type 0) (us : List ℕ) → ((u : ℕ) → IsAmong u us → P u) → All P us
all_among P [] each = All-nil P
all_among P (u ∷ us) each = All-cons P u us (each u (inl refl)) (all_among P us (λ v m. each v (inr m)))

-- each number in the order is that of a unit
pub order_inside : (main n : ℕ) → main < n → All (λ u. u < n) (main ∷ others_of main n)
order_inside main n lt = all_among (λ u. u < n) (main ∷ others_of main n) (inside main n lt)

-- ---- the units in one layout ----

module _ (t : ProgramTables) (m : Spread) (placed : IsLaidByRanks t m) (units : List LinkedUnit) (ordered : AreOrdered t m units) where
  abbrev l : Linked
  l = t.linked.now

  abbrev in_layout : LinkedUnit → Layout
  in_layout v = layout_in v.tables.now v.spread.now

  abbrev number_of : LinkedUnit → ℕ
  number_of v = v.number

  is_ready : IsReady (layout_of l placed.rank) (spread_of l placed.rank) (order_in l)
  is_ready = ready (linkage_of l) (lines_in l) (initial_of l) (bound_of l) placed.rank (order_in l) (distinct l.main (length (units_in l.calls)))

  pub are_entered : AllEntered in_layout number_of 0 units
  are_entered =
      entered_in in_layout number_of (layout_in t m) 0 units ordered.one
      (subst (AreEntered (layout_in t m) 0) (sym ordered.numbers) (subst (λ y. AreEntered y 0 (order_in l)) (sym placed.laid) is_ready.entered))

  pub are_planned : AllPlanned in_layout number_of 0 units
  are_planned =
      planned_in in_layout number_of (layout_in t m) 0 units ordered.one
      (subst (ArePlanned (layout_in t m) 0) (sym ordered.numbers) (subst (λ y. ArePlanned y 0 (order_in l)) (sym placed.laid) is_ready.planned))

  module _ (all_sound : All IsSoundUnit (units_in l.calls)) where
    lines_shallow : (u : ℕ) → All (λ f. depth f ≤ 2) (formats_in (lines_in l u))
    lines_shallow u = by_unit (slice_get (units_in l.calls) u) refl
      where
        by_unit : (o : Option Routine) → slice_get (units_in l.calls) u ≡ o → All (λ f. depth f ≤ 2) (formats_in (lines_or o))
        by_unit None e = All-nil (λ f. depth f ≤ 2)
        by_unit (Some r) e = unit_shallow r (All-contains IsSoundUnit (units_in l.calls) r all_sound (contains_got (units_in l.calls) u r e))

    pub are_shallow : All (λ v. All (λ f. depth f ≤ 2) (formats_in ((in_layout v).lines (number_of v)))) units
    are_shallow =
        All-weaker (λ v. in_layout v ≡ layout_in t m) (λ v. All (λ f. depth f ≤ 2) (formats_in ((in_layout v).lines (number_of v))))
        (λ v same. subst (λ y. All (λ f. depth f ≤ 2) (formats_in (y.lines (number_of v)))) (sym same) (lines_shallow (number_of v))) units ordered.one

  module _ (made : PlannedCode) (size : ℕ)
      (said : (y : Layout) (others : List ℕ) → All (λ v. in_layout v ≡ y) units → map number_of units ≡ y.linked.main ∷ others → program_in made ≡ program y others (all_formats y.lines (y.linked.main ∷ others)))
      (sized : (y : Layout) → All (λ v. in_layout v ≡ y) units → size ≡ storage_size y (map number_of units)) (few : size < 2 ^ 31) where
    pub are_coded : IsCoded l (layout_in t m) made size
    are_coded =
        let is = said (layout_in t m) (others_of l.main (length (units_in l.calls))) ordered.one ordered.numbers in
        record {
          code = ap (λ p. p.code) is;
          plans = ap (λ p. p.plans) is;
          size_is = sized (layout_in t m) ordered.one ∙ ap (storage_size (layout_in t m)) ordered.numbers;
          few = few;
        }

-- ---- the code is valid ----

abbrev IsValue : ℕ × Content → Type 0
IsValue p = is_small p.1 ≡ true

abbrev GivesValue : Preset → Type 0
GivesValue q = is_small q.value ≡ true

contents_small : (ns : List ℕ) (ps : List Preset) → All GivesValue ps → All IsValue (contents_in ns ps)
contents_small [] ps all = All-nil IsValue
contents_small (n ∷ ns) [] all = All-nil IsValue
contents_small (n ∷ ns) (p ∷ ps) all = All-cons IsValue (n, p.value) (contents_in ns ps) (All-head GivesValue p ps all) (contents_small ns ps (All-tail GivesValue p ps all))

module _ (l : Linked) (is : IsSoundProgram l) where
  pub main_inside : l.main < length l.calls.units.now
  main_inside =
      let at = got_inside (units_in l.calls) l.main is.linked.main.0 is.linked.main.1 in
      let n = length-map l.calls.units.now routine_of in
      omega (arith, at, n)

  module _ (rank : ℕ → ℕ) (falls : (u v : ℕ) → Leads (units_in l.calls) u v → rank v < rank u) where
    pub is_ranked : IsRanked (units_in l.calls) (linkage_of l) (lines_in l) (plan_at (lines_in l) (order_in l)) (initial_of l) (bound_of l) rank (others_of l.main (length (units_in l.calls))) (all_formats (lines_in l) (order_in l))
    is_ranked = ranked l is.finish is.whole is.linked is.sound rank falls

    valid_for : (size : ℕ) → storage_size (layout_of l rank) (order_in l) ≡ size → IsValid (units_code (layout_of l rank) (order_in l)) (length (all_formats (lines_in l) (order_in l))) size
    valid_for size same =
        compiled_is_valid (record { units = units_in l.calls; finish = is.finish }) (linkage_of l) (lines_in l) (plan_at (lines_in l) (order_in l)) (initial_of l) (bound_of l) rank (others_of l.main (length (units_in l.calls))) (all_formats (lines_in l) (order_in l)) size
        is.whole is_ranked (contents_small l.numbers.items (presets_of (units_in l.calls)) (initial_are_values (units_in l.calls) is.sound)) (omega (arith, same))

    pub is_valid : (y : Layout) (made : PlannedCode) (size : ℕ) → y ≡ layout_of l rank → IsCoded l y made size → IsValid (code_of made.ops.items) (length made.plans.items) size
    is_valid y made size laid coded =
        let code : code_of made.ops.items ≡ units_code (layout_of l rank) (order_in l) = coded.code ∙ ap (λ z. units_code z (order_in l)) laid in
        let same : storage_size (layout_of l rank) (order_in l) ≡ size = sym (coded.size_is ∙ ap (λ z. storage_size z (order_in l)) laid) in
        subst (λ ps. IsValid (code_of made.ops.items) (length ps) size) (sym coded.plans)
        (subst (λ code. IsValid code (length (all_formats (lines_in l) (order_in l))) size) (sym code) (valid_for size same))

    pub is_compiled : (y : Layout) (made : PlannedCode) (size : ℕ) → y ≡ layout_of l rank → IsCoded l y made size → (code : Code) → IsVerified made.ops.items made.plans.items size code.ops.items code.plans.items code.units code.stack code.dummies code.depth → IsCompiled l code
    is_compiled y made size laid coded code verified = record {
      rank = rank;
      ranked = is_ranked;
      code = ap code_of verified.same ∙ coded.code ∙ ap (λ z. units_code z (order_in l)) laid;
      plans = verified.same_plans ∙ coded.plans;
      checked = subst (λ u. IsChecked (code_of code.ops.items) (length code.plans.items) u code.stack code.dummies code.depth) (sym verified.same_units)
          (subst (λ ps. IsChecked (code_of code.ops.items) (length ps) size code.stack code.dummies code.depth) (sym verified.same_plans)
          (subst (λ ops. IsChecked (code_of ops) (length made.plans.items) size code.stack code.dummies code.depth) (sym verified.same) verified.checked));
      few = subst (λ u. u < 2 ^ 31) (sym verified.same_units) coded.few;
    }
