-- The layout of distinct units has its entries one behind the other, and what units keep in order.
use Rattle.std.proofs.Common.{◌≡◌, cond, ℕ, ◌+◌, ◌<◌, ◌≤◌, inl, inr, nat_lt, Bool, true, false, List, [], ◌∷◌, refl, ap, subst, arith}
use Rattle.std.proofs.lemmas.Bool.{eq-eqb, ne_eqb, ltb-true, ltb-false}
use Rattle.f66_tree.specs.Syntax.{Line}
use Rattle.code_gen.specs.Layout.{Layout}
use Rattle.code_gen.specs.Statements.{unit_size}
use Rattle.code_gen.specs.Coded.{HasRoom}
use Rattle.code_gen.specs.Behaves.{IsAmong, AreEntered}
use Rattle.code_gen.specs.LayingOut.{most_room, need, before, spread, with_entries, beneath, AreDistinct, LayoutFits}
use Rattle.code_gen.proofs.Sizes.{same_size}

before_here : (size : ℕ → ℕ) (u v : ℕ) (vs : List ℕ) → u ≡ v → before size (v ∷ vs) u ≡ 0
before_here size u v vs e = ap (λ b. cond b 0 (size v + before size vs u)) (eq-eqb u v e)

before_later : (size : ℕ → ℕ) (u v : ℕ) (vs : List ℕ) → (u ≡ v → ⊥) → before size (v ∷ vs) u ≡ size v + before size vs u
before_later size u v vs ne = ap (λ b. cond b 0 (size v + before size vs u)) (ne_eqb u v ne)

-- one of a list is not what is not in it
apart : (u v : ℕ) (vs : List ℕ) → (IsAmong v vs → ⊥) → IsAmong u vs → u ≡ v → ⊥
apart u v vs absent m e = absent (subst (λ w. IsAmong w vs) e m)

-- ---- entries ----

entered_by : (y : Layout) (size : ℕ → ℕ) → ((u : ℕ) → unit_size y u ≡ size u) → (at : ℕ) (us : List ℕ) → AreDistinct us → ((u : ℕ) → IsAmong u us → y.entry u ≡ at + before size us u) → AreEntered y at us
entered_by y size is at [] distinct h = tt
entered_by y size is at (u ∷ us) distinct h =
    let here : y.entry u ≡ at = let a = h u (inl refl) in let b = before_here size u u us refl in omega arith in
    let same = is u in
    (here, entered_by y size is (at + unit_size y u) us distinct.1 (λ v m. let a = h v (inr m) in let b = before_later size v u us (apart v u us distinct.0 m) in omega arith))

-- ---- what units keep ----

more_beneath : (rank size : ℕ → ℕ) (us : List ℕ) (m n : ℕ) → m ≤ n → beneath rank size us m ≤ beneath rank size us n
more_beneath rank size [] m n le = omega arith
more_beneath rank size (v ∷ vs) m n le = more_by (nat_lt (rank v) m) (nat_lt (rank v) n) rank size v vs m n le refl refl (more_beneath rank size vs m n le)
  where
    more_by : (a b : Bool) (rank size : ℕ → ℕ) (v : ℕ) (vs : List ℕ) (m n : ℕ) → m ≤ n → nat_lt (rank v) m ≡ a → nat_lt (rank v) n ≡ b → beneath rank size vs m ≤ beneath rank size vs n → cond a (size v + beneath rank size vs m) (beneath rank size vs m) ≤ cond b (size v + beneath rank size vs n) (beneath rank size vs n)
    more_by true true rank size v vs m n le ea eb h = omega arith
    more_by true false rank size v vs m n le ea eb h = let lt = ltb-true (rank v) m ea in let ge = ltb-false (rank v) n eb in absurd (omega arith)
    more_by false true rank size v vs m n le ea eb h = omega arith
    more_by false false rank size v vs m n le ea eb h = h

-- a unit of lesser rank is beneath
beneath_less : (rank size : ℕ → ℕ) (v n : ℕ) (us : List ℕ) → IsAmong v us → rank v < n → beneath rank size us (rank v) + size v ≤ beneath rank size us n
beneath_less rank size v n [] m lt = absurd m
beneath_less rank size v n (w ∷ ws) (inl e) lt =
    subst (λ x. beneath rank size (x ∷ ws) (rank v) + size v ≤ beneath rank size (x ∷ ws) n) e (here_by (nat_lt (rank v) (rank v)) (nat_lt (rank v) n) refl refl)
  where
    here_by : (a b : Bool) → nat_lt (rank v) (rank v) ≡ a → nat_lt (rank v) n ≡ b → cond a (size v + beneath rank size ws (rank v)) (beneath rank size ws (rank v)) + size v ≤ cond b (size v + beneath rank size ws n) (beneath rank size ws n)
    here_by true b ea eb = let l1 = ltb-true (rank v) (rank v) ea in absurd (omega arith)
    here_by false true ea eb = let h = more_beneath rank size ws (rank v) n (omega arith) in omega arith
    here_by false false ea eb = let ge = ltb-false (rank v) n eb in absurd (omega arith)
beneath_less rank size v n (w ∷ ws) (inr m) lt = later_by (nat_lt (rank w) (rank v)) (nat_lt (rank w) n) refl refl (beneath_less rank size v n ws m lt)
  where
    later_by : (a b : Bool) → nat_lt (rank w) (rank v) ≡ a → nat_lt (rank w) n ≡ b → beneath rank size ws (rank v) + size v ≤ beneath rank size ws n → cond a (size w + beneath rank size ws (rank v)) (beneath rank size ws (rank v)) + size v ≤ cond b (size w + beneath rank size ws n) (beneath rank size ws n)
    later_by true true ea eb h = omega arith
    later_by true false ea eb h = let l1 = ltb-true (rank w) (rank v) ea in let ge = ltb-false (rank w) n eb in absurd (omega arith)
    later_by false true ea eb h = omega arith
    later_by false false ea eb h = h

rooms : (y : Layout) (u : ℕ) (rest : List Line) → y.spare u + most_room (y.linked.context u) rest ≤ y.loops u → HasRoom y u rest
rooms y u [] h = tt
rooms y u (s ∷ rest) h = (omega arith, rooms y u rest (omega arith))

pub layout_fits : LayoutFits
layout_fits l lines plan presets bound rank us distinct =
    let s = spread l lines plan presets bound rank us in
    let y = with_entries s (before (unit_size s) us) in
    record {
      entered = entered_by y (unit_size s) (same_size s (before (unit_size s) us)) 0 us distinct (λ u m. omega arith);
      above = λ u. omega arith;
      below = λ u. omega arith;
      room = λ u. rooms y u (lines u) (omega arith);
      calls = λ v u m lt. let le = beneath_less rank (need l lines) v (rank u) us m lt in omega arith;
    }
