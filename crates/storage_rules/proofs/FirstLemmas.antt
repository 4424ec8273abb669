-- The first statement that passes a test, and those before it.
use Rattle.std.proofs.Common.{◌≡◌, ◌<◌, ◌∙◌, ℕ, zero, suc, Bool, true, false, cond, List, [], ◌∷◌, Option, None, Some, find, option_map, refl, sym, ap, arith}
use Rattle.std.specs.List.{slice_get}

pub record IsFirstAt {X : Type 0} (test : X → Bool) (xs : List X) (x : X) : Type 0 where
  pub index : ℕ
  pub here : slice_get xs index ≡ Some x
  pub passes : test x ≡ true
  pub earlier : (i : ℕ) (y : X) → i < index → slice_get xs i ≡ Some y → test y ≡ false

pub first_at : {X : Type 0} (test : X → Bool) (xs : List X) (x : X) → find test xs ≡ Some x → IsFirstAt test xs x
first_at test [] x e = absurd (cc)
first_at {X} test (y ∷ xs) x e = at (test y) refl (first_at test xs x) e
  where
    at : (b : Bool) → test y ≡ b → (find test xs ≡ Some x → IsFirstAt test xs x) → cond b (Some y) (find test xs) ≡ Some x → IsFirstAt test (y ∷ xs) x
    at true t rest f = (let same : y ≡ x = cc in record { index = 0; here = f; passes = ap test (sym same) ∙ t; earlier = λ i z lt. absurd (omega (arith, lt)) })
    at false t rest f =
        let h = rest f in
        record { index = suc h.index; here = h.here; passes = h.passes; earlier = before h }
      where
        before : (h : IsFirstAt test xs x) (i : ℕ) (z : X) → i < suc h.index → slice_get (y ∷ xs) i ≡ Some z → test z ≡ false
        before h zero z lt g = (let same : y ≡ z = (let k : Some y ≡ Some z = g in cc) in ap test (sym same) ∙ t)
        before h (suc i) z lt g = h.earlier i z (omega (arith, lt)) g

pub none_at : {X : Type 0} (test : X → Bool) (xs : List X) → find test xs ≡ None → (i : ℕ) (x : X) → slice_get xs i ≡ Some x → test x ≡ false
none_at test [] e i x h = absurd (cc)
none_at {X} test (y ∷ xs) e i x h = at (test y) refl (none_at test xs) e i h
  where
    at : (b : Bool) → test y ≡ b → (find test xs ≡ None → (i : ℕ) (x : X) → slice_get xs i ≡ Some x → test x ≡ false) → cond b (Some y) (find test xs) ≡ None →
        (i : ℕ) → slice_get (y ∷ xs) i ≡ Some x → test x ≡ false
    at true t rest f i g = absurd (cc)
    at false t rest f zero g = (let same : y ≡ x = (let k : Some y ≡ Some x = g in cc) in ap test (sym same) ∙ t)
    at false t rest f (suc i) g = rest f i x g

pub placed : {X Y : Type 0} (f : X → Y) (o : Option X) (y : Y) → option_map f o ≡ Some y → (x : X) × (o ≡ Some x) × (f x ≡ y)
placed f None y e = absurd (cc)
placed f (Some x) y e = (x, refl, (let g : Some (f x) ≡ Some y = e in cc))

pub not_placed : {X Y : Type 0} (f : X → Y) (o : Option X) → option_map f o ≡ None → o ≡ None
not_placed f None e = refl
not_placed f (Some x) e = absurd (cc)
