-- Variables each once, and one more.
use Rattle.std.proofs.Common.{◌≡◌, Bool, true, false, List, [], ◌∷◌, ◌++◌, if◌then◌else◌, refl, sym, ap, ◌∙◌}
use Rattle.std.specs.Prelude.{◌||◌}
use Rattle.std.specs.List.{list_any}
use Rattle.std.proofs.lemmas.List.{append-nil}
use Rattle.efl_scope.specs.Marks.{Located, same_located, distinct}
use Rattle.efl_variables.specs.Numbered.{with_one}
use Rattle.efl_variables.proofs.KeyLemmas.{located_same}

any_same : (x y : Located) → same_located x y ≡ true → (zs : List Located) → list_any (same_located x) zs ≡ list_any (same_located y) zs
any_same x y same [] = refl
any_same x y same (z ∷ zs) = ap (λ b. b || list_any (same_located x) zs) (located_same x y same z) ∙ ap (λ b. same_located y z || b) (any_same x y same zs)

or_true : (b : Bool) → (b || true) ≡ true
or_true true = refl
or_true false = refl

or_moved : (a b c : Bool) → ((a || b) || c) ≡ (b || (a || c))
or_moved true b c = sym (or_true b)
or_moved false true c = refl
or_moved false false c = refl

-- the variable where it is a new one
abbrev pub new_one : Bool → Located → List Located
new_one b x = if b then [] else x ∷ []

-- a variable that is there, and another that is the same as it
already : (before ys : List Located) (x y : Located) → list_any (same_located y) before ≡ true → (b : Bool) → same_located x y ≡ b →
    (list_any (same_located x) before || list_any (same_located x) ys) ≡ (list_any (same_located x) before || (b || list_any (same_located x) ys))
already before ys x y there false is = refl
already before ys x y there true is =
    let e : list_any (same_located x) before ≡ true = any_same x y is before ∙ there in
    ap (λ b. b || list_any (same_located x) ys) e ∙ sym (ap (λ b. b || true) e)

-- one variable more
pub distinct_more : (before xs : List Located) (x : Located) →
    distinct before (xs ++ x ∷ []) ≡ distinct before xs ++ new_one (list_any (same_located x) before || list_any (same_located x) xs) x
distinct_more before [] x = each (list_any (same_located x) before)
  where
    each : (b : Bool) → (if b then [] else x ∷ []) ≡ new_one (b || false) x
    each true = refl
    each false = refl
distinct_more before (y ∷ ys) x = each (list_any (same_located y) before) refl (distinct_more before ys x) (distinct_more (y ∷ before) ys x)
  where
    each : (b : Bool) → list_any (same_located y) before ≡ b →
        distinct before (ys ++ x ∷ []) ≡ distinct before ys ++ new_one (list_any (same_located x) before || list_any (same_located x) ys) x →
        distinct (y ∷ before) (ys ++ x ∷ []) ≡ distinct (y ∷ before) ys ++ new_one ((same_located x y || list_any (same_located x) before) || list_any (same_located x) ys) x →
        (if b then distinct before (ys ++ x ∷ []) else y ∷ distinct (y ∷ before) (ys ++ x ∷ []))
        ≡ (if b then distinct before ys else y ∷ distinct (y ∷ before) ys) ++ new_one (list_any (same_located x) before || (same_located x y || list_any (same_located x) ys)) x
    each true there rest other = rest ∙ ap (λ c. distinct before ys ++ new_one c x) (already before ys x y there (same_located x y) refl)
    each false none rest other =
        ap (λ zs. y ∷ zs) (other ∙ ap (λ c. distinct (y ∷ before) ys ++ new_one c x) (or_moved (same_located x y) (list_any (same_located x) before) (list_any (same_located x) ys)))

-- one of these is the same
abbrev among : Located → List Located → Bool
among x zs = list_any (same_located x) zs

-- among variables each once is the same as among all
any_distinct : (x : Located) (before xs : List Located) → (among x before || among x (distinct before xs)) ≡ (among x before || among x xs)
any_distinct x before [] = refl
any_distinct x before (y ∷ ys) = each (list_any (same_located y) before) refl (any_distinct x before ys) (any_distinct x (y ∷ before) ys)
  where
    each : (b : Bool) → list_any (same_located y) before ≡ b → (among x before || among x (distinct before ys)) ≡ (among x before || among x ys) →
        ((same_located x y || among x before) || among x (distinct (y ∷ before) ys)) ≡ ((same_located x y || among x before) || among x ys) →
        (among x before || among x (if b then distinct before ys else y ∷ distinct (y ∷ before) ys)) ≡ (among x before || (same_located x y || among x ys))
    each true there rest other = rest ∙ already before ys x y there (same_located x y) refl
    each false none rest other =
        sym (or_moved (same_located x y) (among x before) (among x (distinct (y ∷ before) ys))) ∙ other ∙ or_moved (same_located x y) (among x before) (among x ys)

pub any_each_once : (x : Located) (xs : List Located) → list_any (same_located x) (distinct [] xs) ≡ list_any (same_located x) xs
any_each_once x xs = any_distinct x [] xs

-- all but the last each once, and the last
pub distinct_one : (xs : List Located) (x : Located) → distinct [] (xs ++ x ∷ []) ≡ with_one (distinct [] xs) x
distinct_one xs x =
    distinct_more [] xs x ∙ each (list_any (same_located x) xs) ∙ ap (λ b. if b then distinct [] xs else distinct [] xs ++ x ∷ []) (sym (any_each_once x xs))
  where
    each : (b : Bool) → distinct [] xs ++ new_one b x ≡ (if b then distinct [] xs else distinct [] xs ++ x ∷ [])
    each true = append-nil (distinct [] xs)
    each false = refl
