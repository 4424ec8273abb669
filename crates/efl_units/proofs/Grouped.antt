-- Numbers in groups, by what each group gets.
use Rattle.std.proofs.Common.{◌≡◌, ◌<◌, ℕ, zero, suc, nat_eq, Bool, true, false, cond, List, [], ◌∷◌, ◌++◌, replicate, Option, None, Some, option_map, refl, sym, ap, ◌∙◌, append_assoc, arith}
use Rattle.std.specs.List.{slice_get}
use Rattle.std.proofs.lemmas.List.{append-nil}
use Rattle.efl_units.proofs.Equals.{equal_suc, not_before, not_zero}
use Rattle.efl_units.specs.Groups.{put_in, put_all}

-- the numbers that a group gets
abbrev pub got : ℕ → List (ℕ × ℕ) → List ℕ
got m [] = []
got m (p ∷ ps) = cond (nat_eq p.0 m) (p.1 ∷ got m ps) (got m ps)

-- a group with a number more, if it is this one
abbrev with_if : Bool → ℕ → List ℕ → List ℕ
with_if b x g = cond b (g ++ x ∷ []) g

map_same : (o : Option (List ℕ)) → o ≡ option_map (λ g. g) o
map_same None = refl
map_same (Some g) = refl

with_at : (x : ℕ) (gs : List (List ℕ)) (m : ℕ) (a b : Bool) → a ≡ b → option_map (with_if a x) (slice_get gs m) ≡ option_map (with_if b x) (slice_get gs m)
with_at x gs m a b same = ap (λ c. option_map (with_if c x) (slice_get gs m)) same

put_at : (gs : List (List ℕ)) (n x m : ℕ) → slice_get (put_in gs n x) m ≡ option_map (with_if (nat_eq n m) x) (slice_get gs m)
put_at [] n x m = refl
put_at (g ∷ gs) zero x zero = refl
put_at (g ∷ gs) zero x (suc m) = map_same (slice_get gs m) ∙ with_at x gs m false (nat_eq 0 (suc m)) (sym (not_before m))
put_at (g ∷ gs) (suc n) x zero = ap (λ b. Some (with_if b x g)) (sym (not_zero n))
put_at (g ∷ gs) (suc n) x (suc m) = put_at gs n x m ∙ with_at x gs m (nat_eq n m) (nat_eq (suc n) (suc m)) (equal_suc n m)

with_got : (b : Bool) (x : ℕ) (rest : List ℕ) (o : Option (List ℕ)) → option_map (λ g. g ++ rest) (option_map (with_if b x) o) ≡ option_map (λ g. g ++ cond b (x ∷ rest) rest) o
with_got b x rest None = refl
with_got true x rest (Some g) = ap (λ all. Some all) (append_assoc g (x ∷ []) rest)
with_got false x rest (Some g) = refl

nil_got : (o : Option (List ℕ)) → o ≡ option_map (λ g. g ++ []) o
nil_got None = refl
nil_got (Some g) = ap (λ all. Some all) (sym (append-nil g))

-- each group gets its numbers, in order
pub all_at : (ps : List (ℕ × ℕ)) (gs : List (List ℕ)) (m : ℕ) → slice_get (put_all ps gs) m ≡ option_map (λ g. g ++ got m ps) (slice_get gs m)
all_at [] gs m = nil_got (slice_get gs m)
all_at (p ∷ ps) gs m = all_at ps (put_in gs p.0 p.1) m ∙ ap (option_map (λ g. g ++ got m ps)) (put_at gs p.0 p.1 m) ∙ with_got (nat_eq p.0 m) p.1 (got m ps) (slice_get gs m)

abbrev none : List ℕ
none = []

empty_at : (c m : ℕ) → m < c → slice_get (replicate c none) m ≡ Some none
empty_at zero m lt = absurd (omega (arith, lt))
empty_at (suc c) zero lt = refl
empty_at (suc c) (suc m) lt = empty_at c m (omega (arith, lt))

pub group_is : (ps : List (ℕ × ℕ)) (c m : ℕ) → m < c → slice_get (put_all ps (replicate c none)) m ≡ Some (got m ps)
group_is ps c m lt = all_at ps (replicate c none) m ∙ ap (option_map (λ g. g ++ got m ps)) (empty_at c m lt)

pub got_both : (m : ℕ) (ps qs : List (ℕ × ℕ)) → got m (ps ++ qs) ≡ got m ps ++ got m qs
got_both m [] qs = refl
got_both m (p ∷ ps) qs = each (nat_eq p.0 m) (got_both m ps qs)
  where
    each : (b : Bool) → got m (ps ++ qs) ≡ got m ps ++ got m qs → cond b (p.1 ∷ got m (ps ++ qs)) (got m (ps ++ qs)) ≡ cond b (p.1 ∷ got m ps) (got m ps) ++ got m qs
    each true rest = ap (λ all. p.1 ∷ all) rest
    each false rest = rest
