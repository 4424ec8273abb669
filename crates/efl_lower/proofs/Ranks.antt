-- Where no call leads back to its procedure, the procedures of a program of EFL have ranks that fall along its calls.
use Rattle.std.proofs.Common.{◌≡◌, ◌<◌, ℕ, zero, suc, ◌+◌, Bool, true, false, List, [], ◌∷◌, map, length, get_or, refl, sym, ap, ◌∙◌, subst, arith, inl, inr}
use Rattle.std.specs.Prelude.{◌&&◌, ◌||◌, nat_eq, slice_index_or}
use Rattle.std.specs.List.{Contains, list_any, range_with_len}
use Rattle.std.proofs.lemmas.Bool.{eq-eqb, eqb-true, false_from_ne_true}
use Rattle.call_cycles.specs.declared.edge.Edge.{Edge}
use Rattle.call_cycles.specs.Cycles.{Reaches, at_once, further, IsOnCycle, edge_at, HasNoCycle, AreWithin, Fall}
use Rattle.call_ranks.proofs.WayLemmas.{way, edge_way, joined, way_holds}
use Rattle.call_ranks.proofs.CountLemmas.{count, count_less, count_all}

module _ (edges : List Edge) (many : ℕ) (within : AreWithin many edges) (none : HasNoCycle edges) where
  abbrev is_from : ℕ → ℕ → Edge → Bool
  is_from u v e = nat_eq e.from u && nat_eq e.to v

  abbrev leads : ℕ → ℕ → Bool
  leads u v = list_any (is_from u v) edges

  both : (a b : Bool) → (a && b) ≡ true → (a ≡ true) × (b ≡ true)
  both true true h = (refl, refl)
  both true false h = absurd (cc)
  both false b h = absurd (cc)

  any_at : (u v : ℕ) (es : List Edge) → list_any (is_from u v) es ≡ true → (j : ℕ) × (j < length es) × (is_from u v (edge_at es j) ≡ true)
  any_at u v [] h = absurd (cc)
  any_at u v (e ∷ es) h = by_first (is_from u v e) refl (any_at u v es) h
    where
      by_first : (b : Bool) → is_from u v e ≡ b → (list_any (is_from u v) es ≡ true → (j : ℕ) × (j < length es) × (is_from u v (edge_at es j) ≡ true)) →
          (b || list_any (is_from u v) es) ≡ true → (j : ℕ) × (j < length (e ∷ es)) × (is_from u v (edge_at (e ∷ es) j) ≡ true)
      by_first true t rest g = (0, omega arith, t)
      by_first false t rest g = let r = rest g in (suc r.0, omega (arith, r.1), r.2)

  at_any : (u v : ℕ) (es : List Edge) (j : ℕ) → j < length es → is_from u v (edge_at es j) ≡ true → list_any (is_from u v) es ≡ true
  at_any u v [] j lt h = absurd (omega (arith, lt))
  at_any u v (e ∷ es) zero lt h = ap (λ b. b || list_any (is_from u v) es) h
  at_any u v (e ∷ es) (suc j) lt h = by_first (is_from u v e) (at_any u v es j (omega (arith, lt)) h)
    where
      by_first : (b : Bool) → list_any (is_from u v) es ≡ true → (b || list_any (is_from u v) es) ≡ true
      by_first true g = refl
      by_first false g = g

  edge_there : (es : List Edge) (j : ℕ) → j < length es → Contains es (edge_at es j)
  edge_there [] j lt = absurd (omega (arith, lt))
  edge_there (e ∷ es) zero lt = (0, omega arith, refl)
  edge_there (e ∷ es) (suc j) lt = let c = edge_there es j (omega (arith, lt)) in (suc c.0, omega (arith, c.1), c.2)

  there_edge : (es : List Edge) (j : ℕ) (e : Edge) → j < length es → get_or es j e ≡ e → edge_at es j ≡ e
  there_edge [] j e lt h = absurd (omega (arith, lt))
  there_edge (d ∷ es) zero e lt h = h
  there_edge (d ∷ es) (suc j) e lt h = there_edge es j e (omega (arith, lt)) h

  no_way_back : (e : Edge) → Contains edges e → ¬ IsOnCycle edges e
  no_way_back e c = subst (λ x. ¬ IsOnCycle edges x) (there_edge edges c.0 e c.1 c.2) (none c.0 c.1)

  leads_sound : (u v : ℕ) → leads u v ≡ true → Reaches edges u v
  leads_sound u v h =
      let a = any_at u v edges h in
      let e = edge_at edges a.0 in
      let ends = both (nat_eq e.from u) (nat_eq e.to v) a.2 in
      subst (λ x. Reaches edges x v) (eqb-true e.from u ends.0) (subst (λ y. Reaches edges e.from y) (eqb-true e.to v ends.1) (at_once e (edge_there edges a.0 a.1)))

  reached : {u w v : ℕ} → Reaches edges u w → Reaches edges w v → Reaches edges u v
  reached (at_once e c) k = further e c k
  reached (further e c h) k = further e c (reached h k)

  not_reached : {u v : ℕ} → Reaches edges u v → ¬ (u ≡ v)
  not_reached (at_once e c) same = no_way_back e c (inl (sym same))
  not_reached {u} {v} (further e c h) same = no_way_back e c (inr (subst (Reaches edges e.to) (sym same) h))

  comes : ℕ → ℕ → Bool
  comes = way leads many

  pub rank : ℕ → ℕ
  rank u = count many (comes u)

  comes_sound : (u v : ℕ) → comes u v ≡ true → Reaches edges u v
  unfolding comes
  comes_sound u v e = way_holds leads (Reaches edges) (λ u v e. leads_sound u v e) (λ u w v h k. reached h k) many u v e

  not_back : (u : ℕ) → comes u u ≡ false
  not_back u = false_from_ne_true (comes u u) (λ e. not_reached (comes_sound u u e) refl)

  falls : (u v : ℕ) → leads u v ≡ true → v < many → rank v < rank u
  unfolding rank comes
  falls u v l v_in =
      let at = edge_way leads many u v l in
      count_less many (comes v) (comes u) (λ i lt e. joined leads many v u i v_in at e) v v_in (not_back v) at

  below : (u : ℕ) → u < many → rank u < many
  unfolding rank
  below u lt = subst (λ n. count many (comes u) < n) (count_all many) (count_less many (comes u) (λ i. true) (λ i l e. refl) u lt (not_back u) refl)

  -- ---- as a list ----

  listed : (k n i : ℕ) → i < n → slice_index_or (map rank (range_with_len k n)) i 0 ≡ rank (k + i)
  listed k zero i lt = absurd (omega (arith, lt))
  listed k (suc n) zero lt = ap rank (omega arith)
  listed k (suc n) (suc i) lt = listed (k + 1) n i (omega (arith, lt)) ∙ ap rank (omega arith)

  abbrev pub ranks : List ℕ
  ranks = map rank (range_with_len 0 many)

  rank_at : (u : ℕ) → u < many → slice_index_or ranks u 0 ≡ rank u
  rank_at u lt = listed 0 many u lt ∙ ap rank (omega arith)

  pub ranks_fall : Fall ranks edges
  ranks_fall j lt =
      let e = edge_at edges j in
      let in' = within j lt in
      let one = at_any e.from e.to edges j lt (ap (λ b. b && nat_eq e.to e.to) (eq-eqb e.from e.from refl) ∙ eq-eqb e.to e.to refl) in
      subst (λ m. m < slice_index_or ranks e.from 0) (sym (rank_at e.to in'.1)) (subst (λ m. rank e.to < m) (sym (rank_at e.from in'.0)) (falls e.from e.to one in'.1))

  pub ranks_low : (u : ℕ) → u < many → slice_index_or ranks u 0 < many
  ranks_low u lt = subst (λ m. m < many) (sym (rank_at u lt)) (below u lt)
