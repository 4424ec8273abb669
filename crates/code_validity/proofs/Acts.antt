-- The code of a statement finds the stack empty and no record statement open, and leaves them so.
use Rattle.std.proofs.Common.{◌≡◌, ⊎_elim, ℕ, ◌+◌, ◌-◌, ◌<◌, ◌≤◌, Bool, true, false, true≢false, not, ◌&&◌, ◌||◌, List, [], ◌∷◌, ◌++◌, length, Option, Some, None, refl, sym, subst, arith, is_some}
use Rattle.std.specs.List.{AllByRecursion}
use Rattle.std.proofs.lemmas.Bool.{and_parts, or_parts, or_cases, not-false}
use Rattle.std.proofs.lemmas.Option.{slice_get_within}
use Rattle.ground.specs.declared.place.Place.{Place}
use Rattle.ground.specs.declared.value.Kind.{Kind}
use Rattle.ground.specs.declared.value.Kind.TheVariants.{Integer, Logical}
use Rattle.f66_tree.specs.declared.editing.Way.TheVariants.{Reading, Writing}
use Rattle.f66_tree.specs.declared.editing.Way.{Way}
use Rattle.f66_tree.specs.Syntax.{Text, Formula, Ref, Item, Formulas, Par, Entries, Act, Assign, Goto, Computed, Sign, When, Loop, Invoke, Stop, Return, Read, Write}
use Rattle.f66_tree.specs.Fields.{Fields}
use Rattle.f66_tree.specs.Units.{Context, format_of}
use Rattle.f66_names.specs.Shapes.{stands, is_place, is_parameter, are_items, has_shape}
use Rattle.f66_names.specs.Sorts.{name_form, is_array_name}
use Rattle.f66_names.specs.Uses.{many, uses_of, uses_of_par, uses_of_entries, uses_of_target, uses_in}
use Rattle.f66_names.specs.NameRules.{miscounts}
use Rattle.f66_names.specs.Kinds.{takes_kind, is_counting, are_entries}
use Rattle.f66_names.specs.StoreRules.{is_assignable, store_entries}
use Rattle.f66_soundness.proofs.KindLemmas.{none_of_both}
use Rattle.f66_soundness.proofs.ValueLemmas.{FitCounts}
use Rattle.f66_soundness.proofs.StatementLemmas.{stored_takes}
use Rattle.unit_rules.specs.Types.{fits, assigns}
use Rattle.f66_program.specs.Mentions.{mentions_of, mentions_in, Mention}
use Rattle.linked_soundness.proofs.PartLemmas.{all_parts}
use Rattle.linked_soundness.proofs.ActLemmas.{FitAct, inner_fit}
use Rattle.stack_code.specs.declared.shape.EntryKind.{EntryKind}
use Rattle.stack_code.specs.declared.shape.EntryKind.TheVariants as e
use Rattle.stack_code.specs.declared.fact.Fact.{Fact}
use Rattle.stack_code.specs.Instructions as i
use Rattle.stack_code.specs.Instructions.{Instruction}
use Rattle.stack_code.specs.ValidCode.{entry_kind, after}
use Rattle.code_gen.specs.Layout.{Layout}
use Rattle.code_gen.specs.Expressions.{count, variable_code, value_code, actuals_code, place_code, room_of, rooms_to_hand}
use Rattle.code_gen.specs.Statements.{limit_unit, step_unit, leave_code, start_code, record_size, record_code, entries_room, invoked_code, act_size, act_code, target, targets, leave}
use Rattle.code_gen.specs.Coded.{act_room}
use Rattle.code_gen.specs.Behaves.{HavePlans}
use Rattle.code_validity.proofs.Plain as plain
use Rattle.code_validity.proofs.Plain.{fact, more, after_call, IsFit}
use Rattle.code_validity.proofs.Places as places
use Rattle.code_validity.proofs.Places.{Site, Leads, MayCall}
use Rattle.code_validity.proofs.Values as values
use Rattle.code_validity.proofs.Values.{arguments_stand}
use Rattle.code_validity.proofs.Pieces as pieces
use Rattle.code_validity.proofs.Lists as lists
use Rattle.f66_soundness.proofs.FitLemmas.{FitEntries}
use Rattle.code_validity.proofs.Lists.{counts_of}

module _ (plans : List Fields) (callee : ℕ → ℕ → Type 0) (units n : ℕ) (y : Layout) (u : ℕ) (c : Context) (site : Site callee (length plans) units n y u c) where
  abbrev d : Context
  d = y.linked.context u

  abbrev May : Mention → Type 0
  May = MayCall callee (length plans) units y

  abbrev Runs : List Instruction → Fact → Fact → Type 0
  Runs = plain.Runs callee (length plans) units

  append : (a b : List Instruction) (f g h : Fact) → Runs a f g → Runs b g h → Runs (a ++ b) f h
  append = plain.runs_append callee (length plans) units

  one : (j : Instruction) (f g : Fact) → after j f ≡ Some g → IsFit callee (length plans) units j → Runs (j ∷ []) f g
  one = plain.runs_one callee (length plans) units

  abbrev on : List EntryKind → Fact
  on s = fact n None s

  abbrev value : (a : Formula) (l : ℕ) (k : Kind) → stands l a ≡ true → fits c a k ≡ true → FitCounts c (uses_of a) → AllByRecursion May (mentions_of d a) → y.spare u + room_of d a ≤ units → (s : List EntryKind) → Runs (value_code y u a) (on s) (on (entry_kind k ∷ s))
  value = values.value_runs callee (length plans) units n y u c site

  -- ---- assignments and calls ----

  place_of_target : (x : Formula) → is_place x ≡ true → is_assignable c x ≡ true → (k : Kind) → takes_kind c x k ≡ true → FitCounts c (uses_of_target x) → Runs (place_code y u x) (on []) (on (e.Spot ∷ []))
  place_of_target (Ref x) form stored k takes counts = let b = places.base callee (length plans) units n y u c site x in one _ (on []) (on (e.Spot ∷ [])) (b.gives None []) b.fit
  place_of_target (Item x es) form stored k takes counts =
      let p = or_parts _ _ counts in
      lists.place_runs callee (length plans) units n y u c site x es stored (stored_takes (name_form c x) (many es) stored p.0) (arguments_stand es (and_parts _ _ form).1) (subscripted (is_array_name c x) _ _ stored takes) None []
    where
      subscripted : (b t v : Bool) → b ≡ true → (not b || (t && v)) ≡ true → t ≡ true
      subscripted true t v p q = (and_parts t v q).0
      subscripted false t v p q = absurd (true≢false (sym p))
  place_of_target _ form stored k takes counts = absurd (true≢false (sym stored))

  store_runs : (k : Kind) (s : List EntryKind) → Runs (i.Store ∷ []) (on (entry_kind k ∷ e.Spot ∷ s)) (on s)
  store_runs Integer s = one i.Store (on (e.Int ∷ e.Spot ∷ s)) (on s) refl tt
  store_runs Logical s = one i.Store (on (e.Log ∷ e.Spot ∷ s)) (on s) refl tt

  assign_as : (x a : Formula) (k : Kind) → assigns c x a k ≡ true → is_place x ≡ true → stands 0 a ≡ true → is_assignable c x ≡ true → FitCounts c (uses_of_target x) → FitCounts c (uses_of a) → AllByRecursion May (mentions_of d a) → y.spare u + room_of d a ≤ units →
      Runs (place_code y u x ++ (value_code y u a ++ i.Store ∷ [])) (on []) (on [])
  assign_as x a k h form form1 stored counts counts1 may room =
      let p = and_parts (takes_kind c x k) _ h in
      append (place_code y u x) (value_code y u a ++ i.Store ∷ []) (on []) (on (e.Spot ∷ [])) (on []) (place_of_target x form stored k p.0 counts)
      (append (value_code y u a) (i.Store ∷ []) (on (e.Spot ∷ [])) (on (entry_kind k ∷ e.Spot ∷ [])) (on []) (value a 0 k form1 p.1 counts1 may room (e.Spot ∷ [])) (store_runs k []))

  invoke_runs : (x : Text) (es : Formulas) → Leads callee (length plans) units y true x (count es) → Runs (actuals_code y u es) (on []) (on (more e.Spot (count es) [])) → Runs (invoked_code y u (y.linked.find x) (count es) (actuals_code y u es)) (on []) (on [])
  invoke_runs x es to h =
      subst (λ o. Runs (invoked_code y u o (count es) (actuals_code y u es)) (on []) (on [])) (sym to.found)
      (append (actuals_code y u es) (i.Call (y.entry to.unit) (count es) ∷ []) (on []) (on (more e.Spot (count es) [])) (on []) h (one (i.Call (y.entry to.unit) (count es)) (on (more e.Spot (count es) [])) (on []) (after_call (y.entry to.unit) (count es) n []) to.entered))

  -- ---- statements ----

  module _ (R Q : ℕ → Instruction → Fact → Type 0) (fit : (at : ℕ) (j : Instruction) (b : Fact) → IsFit callee (length plans) units j → Q at j b)
      (back : (at turn limit step : ℕ) (f : Fact) → R turn i.Step f → limit < units → step < units → Q at (i.LoopTurn limit step turn) f) where
    abbrev Fine : ℕ → List Instruction → Fact → Fact → Type 0
    Fine = pieces.Fine R Q

    plainly : (at : ℕ) (is : List Instruction) (f g : Fact) → Runs is f g → Fine at is f g
    plainly = pieces.fine_plain R Q callee (length plans) units fit

    -- where branches lead, past the end of a statement apart, and what ends a unit's run
    pub record Branches : Type 0 where
      pub jump : (at l : ℕ) (f : Fact) → R at (i.Jump (target y u l)) f → Q at (i.Jump (target y u l)) (on [])
      pub table : (at : ℕ) (ls : List ℕ) (f : Fact) → R at (i.JumpTable (targets y u ls)) f → Q at (i.JumpTable (targets y u ls)) (on [])
      pub sign : (at l m k : ℕ) (f : Fact) → R at (i.JumpSign (target y u l) (target y u m) (target y u k)) f → Q at (i.JumpSign (target y u l) (target y u m) (target y u k)) (on [])
      pub leave : (at : ℕ) → Q at (leave_code y u) (on [])
      pub halt : (at : ℕ) (m : Option ℕ) → Q at (i.Halt m) (on [])

    leave_after : (b : Bool) → after (leave b) (on []) ≡ Some (on [])
    leave_after true = refl
    leave_after false = refl

    pub leave_fine : Branches → (at : ℕ) → Fine at (leave_code y u ∷ []) (on []) (on [])
    leave_fine ways at = pieces.fine_one R Q at (leave_code y u) (on []) (on []) (leave_after _) (λ r. ways.leave at)

    record_fits : (way : Way) (p : Par) (es : Entries) → (is_parameter p && are_items es) ≡ true → not (is_counting c p && are_entries way c es) ≡ false → not (store_entries way c es) ≡ false → FitCounts c (uses_of_par p ++ uses_of_entries es) →
        (is_parameter p ≡ true) × (is_counting c p ≡ true) × FitEntries way c es
    record_fits way p es form kinds stores counts =
        let a = and_parts (is_parameter p) (are_items es) form in
        let b = and_parts (is_counting c p) (are_entries way c es) (not-false _ kinds) in
        (a.0, b.0, record { shapes = a.1; kinds = b.1; stores = not-false _ stores; counts = (none_of_both (miscounts c) (uses_of_par p) (uses_of_entries es) counts).1 })

    -- a READ or WRITE that ends at a place
    listed_fine : (way : Way) (at next : ℕ) (p : Par) (plan : ℕ) (es : Entries) → plan < length plans → (is_parameter p ≡ true) × (is_counting c p ≡ true) × FitEntries way c es → y.spare u + entries_room d es ≤ units → at + record_size y u way p es ≡ next →
        Fine at (record_code y u way (next - record_size y u way p es) p plan es) (on []) (on [])
    listed_fine way at next p plan es there h room end =
        let here : at ≡ next - record_size y u way p es = omega arith in
        subst (λ q. Fine at (record_code y u way q p plan es) (on []) (on [])) here (lists.record_fine callee (length plans) units n y u c site way plan R Q fit back at p es there h.1 h.0 h.2 room)

    module _ (planned : HavePlans y u plans) (low : y.loops u ≤ units) where
      plan_there : (l : ℕ) → is_some (format_of l d.notes) ≡ true → y.plan u l < length plans
      plan_there l h = by_format (format_of l d.notes) refl h
        where
          by_format : (o : Option Fields) → format_of l d.notes ≡ o → is_some o ≡ true → y.plan u l < length plans
          by_format None is g = absurd (true≢false (sym g))
          by_format (Some f) is g = slice_get_within plans (y.plan u l) f (planned.by l f is)

      module _ (ways : Branches) (key : ℕ) (place : Place) (loops : step_unit y u key < units) where
        pub act_fine : (a : Act) (at next : ℕ) → FitAct May c d a → y.spare u + act_room d a ≤ y.loops u → at + act_size y u a ≡ next → ((p : ℕ) → p < next → Q p (i.JumpFalse next) (on [])) → Fine at (act_code y u key next place a) (on []) (on [])
        act_fine (Assign x a) at next h room end skip =
            let counts = none_of_both (miscounts c) (uses_of_target x) (uses_of a) h.counts in
            let calls = all_parts May (mentions_of d x) (mentions_of d a) h.calls in
            let form = and_parts (is_place x) (stands 0 a) h.form in
            let r : y.spare u + room_of d a ≤ units = omega (arith, room, low) in
            let stored = not-false _ h.stores in
            let given : (k : Kind) → assigns c x a k ≡ true → Runs (place_code y u x ++ (value_code y u a ++ i.Store ∷ [])) (on []) (on []) = λ k t. assign_as x a k t form.0 form.1 stored counts.0 counts.1 calls.1 r in
            plainly at (place_code y u x ++ (value_code y u a ++ i.Store ∷ [])) (on []) (on []) (⊎_elim (given Integer) (given Logical) (or_cases (assigns c x a Integer) (assigns c x a Logical) (not-false _ h.kinds)))
        act_fine (Goto l) at next h room end skip = pieces.fine_one R Q at (i.Jump (target y u l)) (on []) (on []) refl (ways.jump at l (on []))
        act_fine (Computed ls x) at next h room end skip =
            pieces.fine_append R Q at (variable_code y u x) (i.JumpTable (targets y u ls) ∷ []) (on []) (on (e.Int ∷ [])) (on []) (plainly at (variable_code y u x) (on []) (on (e.Int ∷ [])) (places.counter_runs callee (length plans) units n y u c site x (not-false _ h.kinds) None []))
            (pieces.fine_one R Q _ (i.JumpTable (targets y u ls)) (on (e.Int ∷ [])) (on []) refl (ways.table _ ls (on (e.Int ∷ []))))
        act_fine (Sign a l m k) at next h room end skip =
            let r : y.spare u + room_of d a ≤ units = omega (arith, room, low) in
            let jump = i.JumpSign (target y u l) (target y u m) (target y u k) in
            pieces.fine_append R Q at (value_code y u a) (jump ∷ []) (on []) (on (e.Int ∷ [])) (on []) (plainly at (value_code y u a) (on []) (on (e.Int ∷ [])) (value a 0 Integer h.form (not-false _ h.kinds) h.counts h.calls r []))
            (pieces.fine_one R Q _ jump (on (e.Int ∷ [])) (on []) refl (ways.sign _ l m k (on (e.Int ∷ []))))
        act_fine (When a b) at next h room end skip =
            let r : y.spare u + room_of d a ≤ units = omega (arith, room, low) in
            let r1 : y.spare u + act_room d b ≤ y.loops u = omega (arith, room) in
            let long = length (value_code y u a) in
            let end1 : at + long + 1 + 1 + act_size y u b ≡ next = omega (arith, end) in
            let lt : at + long < next = omega (arith, end) in
            let form = (and_parts (stands 0 a) _ (and_parts (has_shape (When a b)) _ h.form).0).0 in
            let counts = (none_of_both (miscounts c) (uses_of a) (uses_in b) h.counts).0 in
            let calls = (all_parts May (mentions_of d a) (mentions_in d b) h.calls).0 in
            let kinds = not-false _ (or_parts (not (fits c a Logical)) _ h.kinds).0 in
            let inner = act_code y u key next place b in
            let rest : Fine (at + long) (i.JumpFalse next ∷ i.Begin place ∷ inner) (on (e.Log ∷ [])) (on []) =
            λ r2. (on [], refl, skip (at + long) lt, λ r3. (on [], refl, fit _ (i.Begin place) (on []) tt, act_fine b (at + long + 1 + 1) next (inner_fit May c d a b h) r1 end1 skip)) in
            pieces.fine_append R Q at (value_code y u a) (i.JumpFalse next ∷ i.Begin place ∷ inner) (on []) (on (e.Log ∷ [])) (on []) (plainly at (value_code y u a) (on []) (on (e.Log ∷ [])) (value a 0 Logical form kinds counts calls r [])) rest
        act_fine (Loop l x p q r) at next h room end skip =
            let limits : limit_unit y u key < units = omega (arith, loops) in
            let form = (and_parts _ _ h.form).1 in
            plainly at (start_code y u x p q r (limit_unit y u key) (step_unit y u key)) (on []) (on []) (lists.start_runs callee (length plans) units n y u c site x p q r (counts_of c x p q r (not-false _ h.kinds) form) (limit_unit y u key) (step_unit y u key) limits loops None [])
        act_fine (Invoke x es) at next h room end skip =
            let r : y.spare u + rooms_to_hand d es ≤ units = omega (arith, room, low) in
            let calls = h.calls in
            plainly at (invoked_code y u (y.linked.find x) (count es) (actuals_code y u es)) (on []) (on []) (invoke_runs x es calls.0 (values.actuals_run callee (length plans) units n y u c site es (and_parts _ _ h.form).1 (not-false _ h.kinds) h.passed calls.1 r []))
        act_fine (Stop m) at next h room end skip = pieces.fine_one R Q at (i.Halt m) (on []) (on []) refl (λ r. ways.halt at m)
        act_fine Return at next h room end skip = leave_fine ways at
        act_fine (Read p l es) at next h room end skip =
            listed_fine Reading at next p (y.plan u l) es (plan_there l h.formats) (record_fits Reading p es h.form h.kinds h.stores h.counts) (omega (arith, room, low)) end
        act_fine (Write p l es) at next h room end skip =
            listed_fine Writing at next p (y.plan u l) es (plan_there l h.formats) (record_fits Writing p es h.form h.kinds h.stores h.counts) (omega (arith, room, low)) end
        act_fine _ at next h room end skip = refl
