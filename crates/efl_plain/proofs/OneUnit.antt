-- A unit without ties, whose names have one place each, has as many storage units as names with places. They are no more than the texts of
-- a list that has each such name.
use Rattle.std.proofs.Common.{◌≡◌, ◌<◌, ◌≤◌, ◌↔◌, ℕ, zero, suc, pos, ◌-ℤ◌, Bool, true, false, true≢false, List, [], ◌∷◌, ◌++◌, length, get_or, Option, None, Some, refl, sym, ap, ◌∙◌, subst, arith, ◌||◌}
use Rattle.std.specs.List.{Contains, list_any, slice_get}
use Rattle.std.specs.Str.{bytes_eq}
use Rattle.std.proofs.lemmas.List.Folds.{Any-from_list_any}
use Rattle.std.proofs.lemmas.Option.{none-some, same_Some, slice_get-get_or, slice_get_within}
use Rattle.rule_table.specs.Words.{first_place}
use Rattle.f66_tree.specs.Syntax.{Text, Routine}
use Rattle.f66_program.specs.Mentions.{context_of, has_places}
use Rattle.f66_program.specs.Association.{Own, IsSame, itself, size_in, unit_ties, ties_of, IsReal, HasUnits}
use Rattle.plain_units.proofs.Places.{first_at, first_some, first_is}
use Rattle.efl_typed.proofs.Each.{Each}
use Rattle.efl_lowered.proofs.Lists.{same_text, text_is}
use Rattle.efl_lowered.proofs.TypedChecks.{at_each}
use Rattle.f66_program.proofs.Untied.{not_tied}
use Rattle.efl_plain.proofs.Distinct.{IsOther, Distinct, one_place}

-- ---- the texts of a list that pass, each once ----

others : (x : Text) (ys : List Text) → list_any (bytes_eq x) ys ≡ false → Each (IsOther x) ys
others x [] h = tt
others x (y ∷ ys) h = by_first (bytes_eq x y) refl h (others x ys)
  where
    by_first : (b : Bool) → bytes_eq x y ≡ b → (b || list_any (bytes_eq x) ys) ≡ false → (list_any (bytes_eq x) ys ≡ false → Each (IsOther x) ys) → Each (IsOther x) (y ∷ ys)
    by_first true e g later = absurd (true≢false g)
    by_first false e g later = (λ same. true≢false (sym (same_text x) ∙ ap (bytes_eq x) same ∙ e), later g)

module _ (passes : Text → Bool) where
  record AreOnce (xs ys : List Text) : Type 0 where
    once : Distinct ys
    pass : Each (λ y. passes y ≡ true) ys
    all : (x : Text) → Contains xs x → passes x ≡ true → (i : ℕ) × (slice_get ys i ≡ Some x)
    few : length ys ≤ length xs

  module _ (x : Text) (xs ys : List Text) (old : AreOnce xs ys) where
    abbrev AllThere : List Text → Type 0
    AllThere zs = (z : Text) → Contains (x ∷ xs) z → passes z ≡ true → (i : ℕ) × (slice_get zs i ≡ Some z)

    -- the first text stands there, or does not pass
    also : (passes x ≡ true → (i : ℕ) × (slice_get ys i ≡ Some x)) → AllThere ys
    also first z (zero, lt, e) h = subst (λ w. (i : ℕ) × (slice_get ys i ≡ Some w)) e (first (ap passes e ∙ h))
    also first z (suc i, lt, e) h = old.all z (i, omega (lt, arith), e) h

    skipped : (passes x ≡ true → (i : ℕ) × (slice_get ys i ≡ Some x)) → AreOnce (x ∷ xs) ys
    skipped first = record { once = old.once; pass = old.pass; all = also first; few = let le = old.few in omega (le, arith) }

    front : AllThere (x ∷ ys)
    front z (zero, lt, e) h = (0, ap Some e)
    front z (suc i, lt, e) h = let a = old.all z (i, omega (lt, arith), e) h in (suc a.0, a.1)

    added : passes x ≡ true → list_any (bytes_eq x) ys ≡ false → AreOnce (x ∷ xs) (x ∷ ys)
    added t new = record { once = (others x ys new, old.once); pass = (t, old.pass); all = front; few = let le = old.few in omega (le, arith) }

    there : list_any (bytes_eq x) ys ≡ true → (i : ℕ) × (slice_get ys i ≡ Some x)
    there h =
        let a = Any-from_list_any (bytes_eq x) ys h in
        (a.0, slice_get-get_or ys a.0 a.1 a.2 ∙ ap Some (a.3 ∙ sym (text_is x a.1 a.4)))

    one_more : (zs : List Text) × AreOnce (x ∷ xs) zs
    one_more = by_test (passes x) refl (list_any (bytes_eq x) ys) refl
      where
        by_test : (b : Bool) → passes x ≡ b → (c : Bool) → list_any (bytes_eq x) ys ≡ c → (zs : List Text) × AreOnce (x ∷ xs) zs
        by_test false t c e = (ys, skipped (λ h. absurd (true≢false (sym h ∙ t))))
        by_test true t true e = (ys, skipped (λ h. there e))
        by_test true t false e = (x ∷ ys, added t e)

  once_each : (xs : List Text) → (ys : List Text) × AreOnce xs ys
  once_each [] = ([], record { once = tt; pass = tt; all = λ x c h. absurd (let lt = c.1 in omega (lt, arith)); few = omega arith })
  once_each (x ∷ xs) = let old = once_each xs in one_more x xs old.0 old.1

-- ---- a unit ----

module _ (r : Routine) (no_ties : unit_ties 0 r ≡ []) (one : (x : Text) → size_in (context_of r) x ≡ 1) (ys : List Text) (once : Distinct ys) (placed : Each (λ y. has_places r y ≡ true) ys)
    (all : (x : Text) → has_places r x ≡ true → (i : ℕ) × (slice_get ys i ≡ Some x)) where
  abbrev Rs : List Routine
  Rs = r ∷ []

  -- the unit has the number 0, as each place has
  abbrev number : ℕ → Text → ℕ → Option ℕ
  number zero x zero = first_place (bytes_eq x) ys
  number zero x (suc o) = None
  number (suc u) x o = None

  real : (u : ℕ) (x : Text) (o n : ℕ) → number u x o ≡ Some n → IsReal Rs u x o
  real zero x zero n e =
      let a = first_at (bytes_eq x) ys n e in
      let size = one x in
      record { unit = r; here = refl; named = subst (λ y. has_places r y ≡ true) (sym (text_is x a.0 a.2)) (at_each (λ y. has_places r y ≡ true) ys placed n a.0 a.1); inside = omega (size, arith) }
  real zero x (suc o) n e = absurd (none-some n e)
  real (suc u) x o n e = absurd (none-some n e)

  no_second : (x : Text) (o : ℕ) → ¬ IsReal Rs 0 x (suc o)
  no_second x o q =
      let size = ap (λ s. size_in (context_of s) x) (sym (same_Some r q.unit q.here)) ∙ one x in
      let lt = q.inside in
      omega (lt, size, arith)

  no_other : (u : ℕ) (x : Text) (o : ℕ) → ¬ IsReal Rs (suc u) x o
  no_other u x o q = none-some q.unit q.here

  numbered : (x : Text) → IsReal Rs 0 x 0 → (n : ℕ) × (first_place (bytes_eq x) ys ≡ Some n)
  numbered x q =
      let a = all x (ap (λ s. has_places s x) (same_Some r q.unit q.here) ∙ q.named) in
      first_some (bytes_eq x) ys a.0 x a.1 (same_text x)

  stands : (x : Text) (n : ℕ) → first_place (bytes_eq x) ys ≡ Some n → slice_get ys n ≡ Some x
  stands x n e = let a = first_at (bytes_eq x) ys n e in a.1 ∙ ap Some (sym (text_is x a.0 a.2))

  below : (u : ℕ) (x : Text) (o : ℕ) → IsReal Rs u x o → (n : ℕ) × (number u x o ≡ Some n) × (n < length ys)
  below zero x zero q = let n = numbered x q in (n.0, n.1, slice_get_within ys n.0 x (stands x n.0 n.1))
  below zero x (suc o) q = absurd (no_second x o q)
  below (suc u) x o q = absurd (no_other u x o q)

  onto : (n : ℕ) → n < length ys → (u : ℕ) × (x : Text) × (o : ℕ) × (number u x o ≡ Some n)
  onto n lt =
      let x = get_or ys n [] in
      let at = slice_get-get_or ys n [] lt in
      (0, x, 0, first_is (bytes_eq x) ys n x at (same_text x) (λ j y e t. one_place ys once j n x (e ∙ ap Some (sym (text_is x y t))) at))

  same_name : (x y : Text) → IsReal Rs 0 x 0 → first_place (bytes_eq x) ys ≡ first_place (bytes_eq y) ys → x ≡ y
  same_name x y q e = let n = numbered x q in same_Some x y (sym (stands x n.0 n.1) ∙ stands y n.0 (sym e ∙ n.1))

  no_unit_ties : ties_of Rs ≡ []
  no_unit_ties = ap (λ ts. ts ++ []) no_ties

  same : (u : ℕ) (x : Text) (o v : ℕ) (y : Text) (p : ℕ) → IsReal Rs u x o → IsReal Rs v y p → (number u x o ≡ number v y p) ↔ IsSame (ties_of Rs) (Own u x) (Own v y) (pos p -ℤ pos o)
  same zero x zero zero y zero q k = (
    λ e. subst (λ z. IsSame (ties_of Rs) (Own 0 x) (Own 0 z) (pos 0)) (same_name x y q e) (itself (Own 0 x)),
    λ h. let rows : Own 0 x ≡ Own 0 y = (not_tied (subst (λ ts. IsSame ts (Own 0 x) (Own 0 y) (pos 0)) no_unit_ties h)).0 in
        let names : x ≡ y = cc in
        ap (λ z. first_place (bytes_eq z) ys) names,
  )
  same zero x zero zero y (suc p) q k = absurd (no_second y p k)
  same zero x zero (suc v) y p q k = absurd (no_other v y p k)
  same zero x (suc o) v y p q k = absurd (no_second x o q)
  same (suc u) x o v y p q k = absurd (no_other u x o q)

  has_units : HasUnits Rs (length ys)
  has_units = (number, record { real = real; below = below; onto = onto; same = same })

pub few_in_unit : (r : Routine) → unit_ties 0 r ≡ [] → ((x : Text) → size_in (context_of r) x ≡ 1) → (xs : List Text) → ((x : Text) → has_places r x ≡ true → Contains xs x) → (total : ℕ) × HasUnits (r ∷ []) total × (total ≤ length xs)
few_in_unit r no_ties one xs listed =
    let w = once_each (has_places r) xs in
    (length w.0, has_units r no_ties one w.0 w.1.once w.1.pass (λ x h. w.1.all x (listed x h) h), w.1.few)
