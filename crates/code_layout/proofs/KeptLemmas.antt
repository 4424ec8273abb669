-- What units keep, by numbers in memory.
use Rattle.std.proofs.Common.{◌≡◌, ◌<◌, ◌≤◌, ◌+◌, ℕ, zero, suc, nat_lt, Bool, true, false, List, [], ◌∷◌, None, length, slice_index_or, inl, inr, refl, sym, ap, ◌∙◌, arith}
use Rattle.std.specs.Prelude.{if◌then◌else◌}
use Rattle.std.specs.List.{slice_get}
use Rattle.std.proofs.Math.Path.{fun_ext}
use Rattle.std.proofs.lemmas.Bool.{cases_lt, ltb-true}
use Rattle.std.proofs.lemmas.List.{get_or_past, length-map}
use Rattle.f66_tree.specs.Syntax.{Routine}
use Rattle.f66_tree.specs.Views.{routine_of}
use Rattle.linker.specs.CallViews.{units_in}
use Rattle.whole_program.specs.declared.linked.Linked.{Linked}
use Rattle.whole_program.specs.Linkage.{context_or, linkage_of}
use Rattle.code_gen.specs.LayingOut.{beneath, most_room, need}
use Rattle.code_layout.specs.Ranked.{bound_of}
use Rattle.code_layout.specs.Spreading.{kept_below}
use Rattle.code_layout.specs.Tabled.{lines_or, lines_in, order_in}

-- nothing is beneath rank 0
none_beneath : (rank size : ℕ → ℕ) (us : List ℕ) → beneath rank size us 0 ≡ 0
none_beneath rank size [] = refl
none_beneath rank size (v ∷ vs) = by_less (nat_lt (rank v) 0) refl (none_beneath rank size vs)
  where
    by_less : (b : Bool) → nat_lt (rank v) 0 ≡ b → beneath rank size vs 0 ≡ 0 → (if b then (size v + beneath rank size vs 0) else beneath rank size vs 0) ≡ 0
    by_less true e h = (let lt = ltb-true (rank v) 0 e in absurd (omega (arith, lt)))
    by_less false e h = h

got_past : (rs : List Routine) (u : ℕ) → length rs ≤ u → slice_get rs u ≡ None
got_past [] u le = refl
got_past (r ∷ rs) zero le = absurd (omega (arith, le))
got_past (r ∷ rs) (suc u) le = got_past rs u (omega (arith, le))

module _ (l : Linked) (ranks : List ℕ) (rooms needs spares loops : List ℕ) (many : length ranks ≡ length l.calls.units.now)
    (rooms_are : (u : ℕ) → slice_index_or rooms u 0 ≡ most_room ((linkage_of l).context u) (lines_in l u)) (needs_are : (u : ℕ) → slice_index_or needs u 0 ≡ need (linkage_of l) (lines_in l) u)
    (long : length spares ≡ length ranks) (each : (u d : ℕ) → u < length ranks → slice_index_or spares u d ≡ bound_of l + beneath (λ w. slice_index_or ranks w 0) (λ w. slice_index_or needs w 0) (order_in l) (slice_index_or ranks u 0)) where
  abbrev rank : ℕ → ℕ
  rank u = slice_index_or ranks u 0

  pub spares_kept : (u : ℕ) → slice_index_or spares u (bound_of l) ≡ kept_below l rank u
  spares_kept u = elim (cases_lt u (length ranks)) [
    | inl lt ↦ each u (bound_of l) lt ∙ ap (λ f. bound_of l + beneath rank f (order_in l) (rank u)) (fun_ext needs_are)
    | inr ge ↦
        let past : slice_index_or spares u (bound_of l) ≡ bound_of l = get_or_past spares u (bound_of l) (omega (arith, long, ge)) in
        let low : rank u ≡ 0 = get_or_past ranks u 0 ge in
        let none : beneath rank (need (linkage_of l) (lines_in l)) (order_in l) (rank u) ≡ 0 = ap (beneath rank (need (linkage_of l) (lines_in l)) (order_in l)) low ∙ none_beneath rank (need (linkage_of l) (lines_in l)) (order_in l) in
        omega (arith, past, none)
  ]

  module _ (loops_each : (u d : ℕ) → u < length spares → slice_index_or loops u d ≡ slice_index_or spares u d + slice_index_or rooms u 0) (loops_long : length loops ≡ length spares) where
    pub loops_kept : (u : ℕ) → slice_index_or loops u (bound_of l) ≡ kept_below l rank u + most_room ((linkage_of l).context u) (lines_in l u)
    loops_kept u = elim (cases_lt u (length spares)) [
      | inl lt ↦ (let a = loops_each u (bound_of l) lt in let b = spares_kept u in let c = rooms_are u in omega (arith, a, b, c))
      | inr ge ↦
          let past : slice_index_or loops u (bound_of l) ≡ bound_of l = get_or_past loops u (bound_of l) (omega (arith, loops_long, ge)) in
          let other : slice_index_or spares u (bound_of l) ≡ bound_of l = get_or_past spares u (bound_of l) ge in
          let b = spares_kept u in
          let gone : slice_get (units_in l.calls) u ≡ None = got_past (units_in l.calls) u (let n = length-map l.calls.units.now routine_of in omega (arith, many, long, ge, n)) in
          let none : most_room ((linkage_of l).context u) (lines_in l u) ≡ 0 = ap (λ o. most_room (context_or o) (lines_or o)) gone in
          omega (arith, past, other, b, none)
    ]

-- ---- what is no unit takes nothing ----

module _ (l : Linked) where
  abbrev count : ℕ
  count = length l.calls.units.now

  gone : (u : ℕ) → count ≤ u → slice_get (units_in l.calls) u ≡ None
  gone u ge = got_past (units_in l.calls) u (let n = length-map l.calls.units.now routine_of in omega (arith, ge, n))

  pub rooms_all : (rooms : List ℕ) → length rooms ≡ count → ((u d : ℕ) → u < count → slice_index_or rooms u d ≡ most_room ((linkage_of l).context u) (lines_in l u)) →
      (u : ℕ) → slice_index_or rooms u 0 ≡ most_room ((linkage_of l).context u) (lines_in l u)
  rooms_all rooms long each u = elim (cases_lt u count) [
    | inl lt ↦ each u 0 lt
    | inr ge ↦ get_or_past rooms u 0 (omega (arith, long, ge)) ∙ sym (ap (λ o. most_room (context_or o) (lines_or o)) (gone u ge))
  ]

  pub needs_all : (needs : List ℕ) → length needs ≡ count → ((u d : ℕ) → u < count → slice_index_or needs u d ≡ need (linkage_of l) (lines_in l) u) →
      (u : ℕ) → slice_index_or needs u 0 ≡ need (linkage_of l) (lines_in l) u
  needs_all needs long each u = elim (cases_lt u count) [
    | inl lt ↦ each u 0 lt
    | inr ge ↦ get_or_past needs u 0 (omega (arith, long, ge)) ∙ sym (ap (λ o. most_room (context_or o) (lines_or o) + (length (lines_or o) + length (lines_or o))) (gone u ge))
  ]
