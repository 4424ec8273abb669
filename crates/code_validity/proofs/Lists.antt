-- The code of a READ or WRITE, and of its list, leaves what it found: each item is taken or put while the record statement is open.
use Rattle.std.proofs.Common.{◌≡◌, ℕ, suc, ◌+◌, ◌<◌, ◌≤◌, true, false, true≢false, ◌&&◌, List, [], ◌∷◌, ◌++◌, length, Some, None, refl, sym, ap, ◌∙◌, subst, arith}
use Rattle.std.proofs.lemmas.Bool.{and_parts, or_parts, eqb-true}
use Rattle.ground.specs.declared.value.Kind.{Kind}
use Rattle.f66_tree.specs.declared.editing.Way.{Way}
use Rattle.f66_tree.specs.declared.editing.Way.TheVariants.{Reading, Writing}
use Rattle.f66_tree.specs.Syntax.{Text, Formula, Ref, Item, Formulas, Par, Entry, One, Many, Entries, NoEntry, AndEntry}
use Rattle.f66_tree.specs.Units.{Context, kind_of, sizes_of}
use Rattle.f66_tree.specs.Evaluation.{Sort, AnArray, AnIntrinsic, AFunction, sort_of}
use Rattle.f66_names.specs.Shapes.{stand_all, is_parameter, are_some_items}
use Rattle.f66_names.specs.Sorts.{form_by, name_form, is_array_form, is_array_name, is_integer, takes}
use Rattle.f66_names.specs.Uses.{many}
use Rattle.f66_names.specs.Kinds.{are_subscripts, is_counting, counts, are_entries}
use Rattle.f66_soundness.proofs.FitLemmas.{FitEntries, FitEntry, first_fit, others_fit, inner_fit, element_fit}
use Rattle.f66_soundness.proofs.StatementLemmas.{stored_takes}
use Rattle.stack_code.specs.declared.shape.EntryKind.{EntryKind}
use Rattle.stack_code.specs.declared.shape.EntryKind.TheVariants as e
use Rattle.stack_code.specs.declared.fact.Fact.{Fact}
use Rattle.stack_code.specs.Instructions as i
use Rattle.stack_code.specs.Instructions.{Instruction}
use Rattle.stack_code.specs.ValidCode.{Open, and_then, pops, after}
use Rattle.code_gen.specs.Layout.{Layout}
use Rattle.code_gen.specs.Expressions.{base_code, par_code, pars_code, values_code, place_by, place_code}
use Rattle.code_gen.specs.Statements.{start_code, start_size, whole_code, item_code, entries_room, entry_room, entry_size, turn_code, items_code, entry_code, record_code}
use Rattle.code_gen.proofs.Lengths.{start_length, entry_length}
use Rattle.code_validity.proofs.Plain as plain
use Rattle.code_validity.proofs.Plain.{fact, more, pops_more, IsFit}
use Rattle.code_validity.proofs.Places as places
use Rattle.code_validity.proofs.Places.{Site, AreParameters, HasParameters, many_is}
use Rattle.code_validity.proofs.Values.{arguments_stand}
use Rattle.code_validity.proofs.Pieces as pieces

after_item : (way : Way) (k : Kind) (n plan : ℕ) (s : List EntryKind) → after (i.Item way k) (fact n (Some (plan, way)) (e.Spot ∷ s)) ≡ Some (fact n (Some (plan, way)) s)
after_item Reading k n plan s = refl
after_item Writing k n plan s = refl

after_row : (way : Way) (k : Kind) (m n plan : ℕ) (s : List EntryKind) → after (i.Row way k m) (fact n (Some (plan, way)) (more e.Int m (e.Spot ∷ s))) ≡ Some (fact n (Some (plan, way)) s)
after_row Reading k m n plan s =
    ap (λ q. and_then (and_then q (λ t. and_then (pops e.Log 0 t) (pops e.Spot 1))) (λ t. Some (fact n (Some (plan, Reading)) t))) (pops_more e.Int m (e.Spot ∷ s))
after_row Writing k m n plan s =
    ap (λ q. and_then (and_then q (λ t. and_then (pops e.Log 0 t) (pops e.Spot 1))) (λ t. Some (fact n (Some (plan, Writing)) t))) (pops_more e.Int m (e.Spot ∷ s))

-- ---- what the rules say of a DO ----

-- the variable and the parameters of a DO
pub record Counts (c : Context) (p q r : Par) : Type 0 where
  pub counting : (is_counting c p ≡ true) × (is_counting c q ≡ true) × (is_counting c r ≡ true)
  pub parameters : (is_parameter p ≡ true) × (is_parameter q ≡ true) × (is_parameter r ≡ true)

pub counts_of : (c : Context) (x : Text) (p q r : Par) → counts c x p q r ≡ true → (is_parameter p && (is_parameter q && is_parameter r)) ≡ true → Counts c p q r
counts_of c x p q r h g =
    let a = and_parts (is_counting c p) _ (and_parts (is_integer (kind_of c x)) _ h).1 in
    let b = and_parts (is_counting c q) _ a.1 in
    let s = and_parts (is_parameter p) _ g in
    let t = and_parts (is_parameter q) _ s.1 in
    record { counting = (a.0, b.0, b.1); parameters = (s.0, t.0, t.1) }

module _ (callee : ℕ → ℕ → Type 0) (plans units n : ℕ) (y : Layout) (u : ℕ) (c : Context) (site : Site callee plans units n y u c) where
  abbrev d : Context
  d = y.linked.context u

  abbrev Runs : List Instruction → Fact → Fact → Type 0
  Runs = plain.Runs callee plans units

  append : (a b : List Instruction) (f g h : Fact) → Runs a f g → Runs b g h → Runs (a ++ b) f h
  append = plain.runs_append callee plans units

  -- an element of an array that is stored into or taken
  place_by_runs : (x : Text) (es : Formulas) (so : Sort) → HasParameters c so → is_array_form (form_by so) ≡ true → takes (form_by so) (many es) ≡ true → stand_all es ≡ true → are_subscripts c es ≡ true → (o : Open) (s : List EntryKind) →
      Runs (place_by y u x so (values_code y u es)) (fact n o s) (fact n o (e.Spot ∷ s))
  place_by_runs x es (AnArray ns) params array as_many form subs o s =
      places.element_runs callee plans units n y u c site x ns es params (sym (many_is es) ∙ eqb-true (many es) (length ns) as_many) form subs o s
  place_by_runs x es (AnIntrinsic g) params array as_many form subs o s = absurd (true≢false (sym array))
  place_by_runs x es AFunction params array as_many form subs o s = absurd (true≢false (sym array))

  pub place_runs : (x : Text) (es : Formulas) → is_array_name c x ≡ true → takes (name_form c x) (many es) ≡ true → stand_all es ≡ true → are_subscripts c es ≡ true → (o : Open) (s : List EntryKind) → Runs (place_code y u (Item x es)) (fact n o s) (fact n o (e.Spot ∷ s))
  place_runs x es array as_many form subs o s =
      let sorts = site.judged.sorts x in
      place_by_runs x es (sort_of d x) (places.sort_parameters callee plans units n y u c site x) (subst (λ so. is_array_form (form_by so) ≡ true) sorts array) (subst (λ so. takes (form_by so) (many es) ≡ true) sorts as_many) form subs o s

  pub start_runs : (x : Text) (p q r : Par) → Counts c p q r → (limit step : ℕ) → limit < units → step < units → (o : Open) (s : List EntryKind) → Runs (start_code y u x p q r limit step) (fact n o s) (fact n o s)
  start_runs x p q r h limit step low high o s =
      let b = places.base callee plans units n y u c site x in
      let par = places.par_runs callee plans units n y u c site in
      let t = e.Spot ∷ s in
      let last = plain.runs_one callee plans units (i.LoopStart limit step) (fact n o (e.Int ∷ e.Int ∷ e.Int ∷ t)) (fact n o s) refl (low, high) in (
        fact n o t,
        b.gives o s,
        b.fit,
        append (par_code y u p) _ _ (fact n o (e.Int ∷ t)) _ (par p h.counting.0 h.parameters.0 o t)
            (append (par_code y u q) _ _ (fact n o (e.Int ∷ e.Int ∷ t)) _ (par q h.counting.1 h.parameters.1 o (e.Int ∷ t))
            (append (par_code y u r) (i.LoopStart limit step ∷ []) _ (fact n o (e.Int ∷ e.Int ∷ e.Int ∷ t)) _ (par r h.counting.2 h.parameters.2 o (e.Int ∷ e.Int ∷ t)) last)),
      )

  module _ (way : Way) (plan : ℕ) where
    -- while the record statement is open
    abbrev now : List EntryKind → Fact
    now s = fact n (Some (plan, way)) s

    whole_runs : (k : Kind) (ns : List Par) → AreParameters c ns → Runs (whole_code y u way k ns) (now (e.Spot ∷ [])) (now [])
    whole_runs k [] h = plain.runs_one callee plans units (i.Item way k) (now (e.Spot ∷ [])) (now []) (after_item way k n plan []) tt
    whole_runs k (p ∷ ns) h =
        append (pars_code y u (p ∷ ns)) (i.Row way k (length (p ∷ ns)) ∷ []) (now (e.Spot ∷ [])) (now (more e.Int (length (p ∷ ns)) (e.Spot ∷ []))) (now []) (places.pars_runs callee plans units n y u c site (p ∷ ns) h (Some (plan, way)) (e.Spot ∷ []))
        (plain.runs_one callee plans units (i.Row way k (length (p ∷ ns))) (now (more e.Int (length (p ∷ ns)) (e.Spot ∷ []))) (now []) (after_row way k (length (p ∷ ns)) n plan []) tt)

    item_runs : (a : Formula) → FitEntry way c (One a) → Runs (item_code y u way a) (now []) (now [])
    item_runs (Ref x) h =
        let b = places.base callee plans units n y u c site x in
        (now (e.Spot ∷ []), b.gives (Some (plan, way)) [], b.fit, whole_runs (kind_of d x) (sizes_of x d.notes) (site.judged.sizes x, site.parameters x))
    item_runs (Item x es) h =
        let p = or_parts _ _ h.count in
        let q = element_fit way c x es h.kind h.store in
        let form = arguments_stand es (and_parts _ _ h.shape).1 in
        append (place_code y u (Item x es)) (i.Item way (kind_of d x) ∷ []) (now []) (now (e.Spot ∷ [])) (now []) (place_runs x es q.0 (stored_takes (name_form c x) (many es) q.0 p.0) form q.1 (Some (plan, way)) [])
        (plain.runs_one callee plans units (i.Item way (kind_of d x)) (now (e.Spot ∷ [])) (now []) (after_item way (kind_of d x) n plan []) tt)
    item_runs a h = absurd (let g = h.shape in cc)

    module _ (R Q : ℕ → Instruction → Fact → Type 0) (fit : (at : ℕ) (j : Instruction) (b : Fact) → IsFit callee plans units j → Q at j b)
        (back : (at turn limit step : ℕ) (f : Fact) → R turn i.Step f → limit < units → step < units → Q at (i.LoopTurn limit step turn) f) where
      abbrev Fine : ℕ → List Instruction → Fact → Fact → Type 0
      Fine = pieces.Fine R Q

      plainly : (at : ℕ) (is : List Instruction) (f g : Fact) → Runs is f g → Fine at is f g
      plainly = pieces.fine_plain R Q callee plans units fit

      -- a turn of an implied DO, by its items
      turn_fine : (x : Text) (q turn : ℕ) (items : List Instruction) → suc q < units → Fine (suc turn) items (now []) (now []) → Fine turn (turn_code y u x q turn items) (now []) (now [])
      turn_fine x q turn items low h = λ r.
          let b = places.base callee plans units n y u c site x in
          let last : Fine (turn + 1 + length items) (base_code y u x ∷ i.LoopTurn q (suc q) turn ∷ []) (now []) (now []) =
          λ r1. (now (e.Spot ∷ []), b.gives (Some (plan, way)) [], fit _ _ _ b.fit, λ r2. (now [], refl, back _ turn q (suc q) (now []) r (omega arith) low, refl)) in
          (now [], refl, fit turn i.Step (now []) tt, pieces.fine_append R Q (turn + 1) items (base_code y u x ∷ i.LoopTurn q (suc q) turn ∷ []) (now []) (now []) (now []) (pieces.fine_at R Q (suc turn) (turn + 1) items (now []) (now []) (omega arith) h) last)

      mutual
        pub items_fine : (at : ℕ) (es : Entries) → FitEntries way c es → y.spare u + entries_room d es ≤ units → Fine at (items_code y u way at es) (now []) (now [])
        items_fine at NoEntry h room = refl
        items_fine at (AndEntry a es) h room =
            let first : y.spare u + entry_room d a ≤ units = omega arith in
            let others : y.spare u + entries_room d es ≤ units = omega arith in
            let long = entry_length y u way at a in
            pieces.fine_append R Q at (entry_code y u way at a) (items_code y u way (at + entry_size y u way a) es) (now []) (now []) (now []) (entry_fine at a (first_fit way c a es h) first)
            (pieces.fine_at R Q (at + entry_size y u way a) (at + length (entry_code y u way at a)) (items_code y u way (at + entry_size y u way a) es) (now []) (now []) (omega arith) (items_fine (at + entry_size y u way a) es (others_fit way c a es h) others))

        entry_fine : (at : ℕ) (a : Entry) → FitEntry way c a → y.spare u + entry_room d a ≤ units → Fine at (entry_code y u way at a) (now []) (now [])
        entry_fine at (One a) h room = plainly at (item_code y u way a) (now []) (now []) (item_runs a h)
        entry_fine at (Many es x p q r) h room =
            let limit = y.spare u + entries_room d es in
            let turn = at + start_size y u p q r in
            let start = start_code y u x p q r limit (suc limit) in
            let long : length start ≡ start_size y u p q r = start_length y u x p q r limit (suc limit) in
            let low : limit < units = omega arith in
            let high : suc limit < units = omega arith in
            let inner : y.spare u + entries_room d es ≤ units = omega arith in
            let here : turn ≡ at + length start = omega (arith, long) in
            let counted = counts_of c x p q r (and_parts (are_entries way c es) _ h.kind).1 (and_parts _ _ (and_parts (are_some_items es) _ h.shape).1).1 in
            let turns = turn_code y u x limit turn (items_code y u way (suc turn) es) in
            pieces.fine_append R Q at start turns (now []) (now []) (now []) (plainly at start (now []) (now []) (start_runs x p q r counted limit (suc limit) low high (Some (plan, way)) []))
            (pieces.fine_at R Q turn (at + length start) turns (now []) (now []) here (turn_fine x limit turn (items_code y u way (suc turn) es) high (items_fine (suc turn) es (inner_fit way c es x p q r h) inner)))

      -- the statement, where its plan is there
      pub record_fine : (at : ℕ) (p : Par) (es : Entries) → plan < plans → is_counting c p ≡ true → is_parameter p ≡ true → FitEntries way c es → y.spare u + entries_room d es ≤ units → Fine at (record_code y u way at p plan es) (fact n None []) (fact n None [])
      record_fine at p es there counting parameter h room =
          let par = par_code y u p in
          let inside = items_code y u way (suc (at + length par)) es in
          let items = pieces.fine_at R Q (suc (at + length par)) (at + length par + 1) inside (now []) (now []) (omega arith) (items_fine (suc (at + length par)) es h room) in
          let finish = pieces.fine_append R Q (at + length par + 1) inside (i.Finish ∷ []) (now []) (now []) (fact n None []) items (pieces.fine_one R Q _ i.Finish (now []) (fact n None []) refl (λ r. fit _ i.Finish _ tt)) in
          let rest : Fine (at + length par) (i.Start way plan ∷ (inside ++ i.Finish ∷ [])) (fact n None (e.Int ∷ [])) (fact n None []) = λ r. (now [], refl, fit _ _ _ there, finish) in
          pieces.fine_append R Q at par (i.Start way plan ∷ (inside ++ i.Finish ∷ [])) (fact n None []) (fact n None (e.Int ∷ [])) (fact n None []) (plainly at par _ _ (places.par_runs callee plans units n y u c site p counting parameter None [])) rest
