-- Ways along edges between numbered nodes: one node more is allowed in between at a time.
use Rattle.std.proofs.Common.{◌≡◌, ◌<◌, ◌⊎◌, inl, inr, ℕ, zero, suc, Bool, true, false, subst, arith}
use Rattle.std.specs.Prelude.{◌&&◌, ◌||◌}
use Rattle.std.proofs.lemmas.Bool.{cases_lt, and_from, and_parts, or_left, or_right}

module _ (edge : ℕ → ℕ → Bool) where
  -- a way from u to v that goes through nodes below k alone
  abbrev pub way : ℕ → ℕ → ℕ → Bool
  way zero u v = edge u v
  way (suc k) u v = way k u v || (way k u k && way k k v)

  pub past : (k u v : ℕ) → way k u v ≡ true → way (suc k) u v ≡ true
  past k u v e = or_left (way k u v) (way k u k && way k k v) e

  pub through : (k u v : ℕ) → way k u k ≡ true → way k k v ≡ true → way (suc k) u v ≡ true
  through k u v e f = or_right (way k u v) (way k u k && way k k v) (and_from (way k u k) (way k k v) e f)

  either : (a b : Bool) → (a || b) ≡ true → (a ≡ true) ⊎ (b ≡ true)
  either true b e = inl e
  either false b e = inr e

  -- a way of one node more goes through that node, or not
  pub parted : (k u v : ℕ) → way (suc k) u v ≡ true → (way k u v ≡ true) ⊎ ((way k u k ≡ true) × (way k k v ≡ true))
  parted k u v e = elim (either (way k u v) (way k u k && way k k v) e) [ inl h ↦ inl h | inr h ↦ inr (and_parts (way k u k) (way k k v) h) ]

  -- an edge is a way
  pub edge_way : (k u v : ℕ) → edge u v ≡ true → way k u v ≡ true
  edge_way zero u v e = e
  edge_way (suc k) u v e = past k u v (edge_way k u v e)

  -- a way that begins or ends at the node goes through none but those below
  from_last : (k v : ℕ) → way (suc k) k v ≡ true → way k k v ≡ true
  from_last k v e = elim (parted k k v e) [ inl h ↦ h | inr h ↦ h.1 ]

  to_last : (k u : ℕ) → way (suc k) u k ≡ true → way k u k ≡ true
  to_last k u e = elim (parted k u k e) [ inl h ↦ h | inr h ↦ h.0 ]

  -- ways that meet in a node below k are one
  pub joined : (k j u v : ℕ) → j < k → way k u j ≡ true → way k j v ≡ true → way k u v ≡ true
  joined zero j u v lt e f = absurd (omega (arith, lt))
  joined (suc k) j u v lt e f = elim (cases_lt j k) [
    | inl l ↦ elim (parted k u j e) [
      | inl a ↦ elim (parted k j v f) [
        | inl b ↦ past k u v (joined k j u v l a b)
        | inr b ↦ through k u v (joined k j u k l a b.0) b.1
      ]
      | inr a ↦ elim (parted k j v f) [
        | inl b ↦ through k u v a.0 (joined k j k v l a.1 b)
        | inr b ↦ through k u v a.0 b.1
      ]
    ]
    | inr l ↦
        let e' : j ≡ k = omega (arith, lt, l) in
        let a : way (suc k) u k ≡ true = subst (λ i. way (suc k) u i ≡ true) e' e in
        let b : way (suc k) k v ≡ true = subst (λ i. way (suc k) i v ≡ true) e' f in
        through k u v (to_last k u a) (from_last k v b)
  ]

  -- what holds along each edge, and of two ways one behind the other, holds along each way
  pub way_holds : (P : ℕ → ℕ → Type 0) → ((u v : ℕ) → edge u v ≡ true → P u v) → ((u w v : ℕ) → P u w → P w v → P u v) → (k u v : ℕ) → way k u v ≡ true → P u v
  way_holds P at then zero u v e = at u v e
  way_holds P at then (suc k) u v e = elim (parted k u v e) [
    | inl h ↦ way_holds P at then k u v h
    | inr h ↦ then u k v (way_holds P at then k u k h.0) (way_holds P at then k k v h.1)
  ]
