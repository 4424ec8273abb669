-- Each instruction does what its place says.
use Rattle.std.specs.Prelude.{◌≡◌, ℕ, zero, suc, ◌+◌, ◌-◌, ◌<◌, ◌≤◌, true, List, [], ◌∷◌, ◌++◌, Option, Some, None, length, get_or, set, slice_get, nat_lt, ◌⊎◌, refl, if◌then◌else◌}
use Rattle.std.proofs.Common.{sym, ◌∙◌, ap, subst, inl, inr, arith, append_assoc, length-append}
use Rattle.std.proofs.lemmas.Bool.{lt-ltb, le-ltb}
use Rattle.std.proofs.lemmas.List.{get_or-set_same, get_or-set_other}
use Rattle.f66_tree.specs.Fields.{Fields, NoField, Single, Group, copies}
use Rattle.format_io.specs.Places.{Code, Once, Enter, Leave, size, code, Move, Does, Turns, moves, moves_at}

-- the instruction at a place
abbrev pub code_at : ℕ → Fields → ℕ → Option Code
code_at lv NoField pc = None
code_at lv (Single n s fs) zero = Some (Once n s)
code_at lv (Single n s fs) (suc pc) = code_at lv fs pc
code_at lv (Group n inside fs) zero = Some (Enter lv n (size inside))
code_at lv (Group n inside fs) (suc pc) =
    if nat_lt (size inside) pc then code_at lv fs (pc - suc (size inside))
    else (if nat_lt pc (size inside) then code_at (suc lv) inside pc else Some (Leave lv (size inside)))

abbrev pub Walk : Type 0
Walk = ℕ → ℕ → List ℕ → List Move

abbrev pub Goes : Walk → ℕ → ℕ → ℕ → ℕ → List ℕ → Option Code → Type 0
Goes m lv z pc past counts None = m pc past counts ≡ []
Goes m lv z pc past counts (Some (Once n s)) = m pc past counts ≡ copies (n - past) (Does s ∷ []) ++ Turns ∷ m (pc + 1) 0 counts
Goes m lv z pc past counts (Some (Enter l n y)) =
    (lv ≤ l) × (pc + 1 + y < z) × (l < length counts → m pc past counts ≡ Turns ∷ m (pc + 1 + y) 0 (set counts l n))
Goes m lv z pc past counts (Some (Leave l y)) =
    (lv ≤ l) × (y < pc) × (l < length counts → get_or counts l 0 ≡ 0 → m pc past counts ≡ Turns ∷ m (pc + 1) 0 counts)
    × ((t : ℕ) → l < length counts → get_or counts l 0 ≡ suc t → m pc past counts ≡ Turns ∷ m (pc - y) 0 (set counts l t))

-- ---- a walk that stands k further on ----

further : (m w : Walk) (k : ℕ) → ((p x : ℕ) (c : List ℕ) → w (k + p) x c ≡ m p x c) → (r q x : ℕ) (c : List ℕ) → r ≡ k + q → w r x c ≡ m q x c
further m w k same r q x c e = ap (λ v. w v x c) e ∙ same q x c

shifted : (m w : Walk) (k lv z y pc past : ℕ) (counts : List ℕ) (o : Option Code)
    → ((p x : ℕ) (c : List ℕ) → w (k + p) x c ≡ m p x c) → k + z ≤ y
    → Goes m lv z pc past counts o → Goes w lv y (k + pc) past counts o
shifted m w k lv z y pc past counts None same le h = same pc past counts ∙ h
shifted m w k lv z y pc past counts (Some (Once n s)) same le h =
    same pc past counts ∙ h ∙ ap (λ v. copies (n - past) (Does s ∷ []) ++ Turns ∷ v) (sym (further m w k same (k + pc + 1) (pc + 1) 0 counts (omega arith)))
shifted m w k lv z y pc past counts (Some (Enter l n v)) same le h = (
  h.0,
  (let b : pc + 1 + v < z = h.1 in omega arith),
  λ room. same pc past counts ∙ h.2 room ∙ ap (λ v1. Turns ∷ v1) (sym (further m w k same (k + pc + 1 + v) (pc + 1 + v) 0 (set counts l n) (omega arith))),
)
shifted m w k lv z y pc past counts (Some (Leave l v)) same le h = (
  h.0,
  (let b : v < pc = h.1 in omega arith),
  (λ room e. same pc past counts ∙ h.2 room e ∙ ap (λ v1. Turns ∷ v1) (sym (further m w k same (k + pc + 1) (pc + 1) 0 counts (omega arith)))),
  (λ t room e. let b : v < pc = h.1 in same pc past counts ∙ h.3 t room e ∙ ap (λ v1. Turns ∷ v1) (sym (further m w k same (k + pc - v) (pc - v) 0 (set counts l t) (omega arith)))),
)

-- ---- a walk inside of a group ----

enclosed : (m w : Walk) (tail : List ℕ → List Move) (lv z y pc past : ℕ) (counts : List ℕ) (o : Option Code)
    → ((p x : ℕ) (c : List ℕ) → p ≤ z → w (p + 1) x c ≡ m p x c ++ tail c)
    → ((c : List ℕ) (l n : ℕ) → lv < l → tail (set c l n) ≡ tail c)
    → pc < z → z + 1 < y
    → Goes m (lv + 1) z pc past counts o → (o ≡ None → ⊥) → Goes w lv y (pc + 1) past counts o
enclosed m w tail lv z y pc past counts None same kept lt le h some = absurd (some refl)
enclosed m w tail lv z y pc past counts (Some (Once n s)) same kept lt le h some =
    same pc past counts (omega arith) ∙ ap (λ v. v ++ tail counts) h
    ∙ append_assoc (copies (n - past) (Does s ∷ [])) (Turns ∷ m (pc + 1) 0 counts) (tail counts)
    ∙ ap (λ v. copies (n - past) (Does s ∷ []) ++ Turns ∷ v) (sym (same (pc + 1) 0 counts (omega arith)))
enclosed m w tail lv z y pc past counts (Some (Enter l n v)) same kept lt le h some =
    let low : lv + 1 ≤ l = h.0 in let b : pc + 1 + v < z = h.1 in (
      (omega arith),
      (omega arith),
      λ room. same pc past counts (omega arith) ∙ ap (λ u. u ++ tail counts) (h.2 room)
          ∙ ap (λ u. Turns ∷ (m (pc + 1 + v) 0 (set counts l n) ++ u)) (sym (kept counts l n (omega arith)))
          ∙ ap (λ u. Turns ∷ u) (sym (same (pc + 1 + v) 0 (set counts l n) (omega arith)))
          ∙ ap (λ u. Turns ∷ w u 0 (set counts l n)) (let e : pc + 1 + v + 1 ≡ pc + 1 + 1 + v = omega arith in e),
    )
enclosed m w tail lv z y pc past counts (Some (Leave l v)) same kept lt le h some =
    let low : lv + 1 ≤ l = h.0 in let b : v < pc = h.1 in (
      (omega arith),
      (omega arith),
      (λ room e. same pc past counts (omega arith) ∙ ap (λ u. u ++ tail counts) (h.2 room e)
          ∙ ap (λ u. Turns ∷ u) (sym (same (pc + 1) 0 counts (omega arith)))),
      (λ t room e. same pc past counts (omega arith) ∙ ap (λ u. u ++ tail counts) (h.3 t room e)
          ∙ ap (λ u. Turns ∷ (m (pc - v) 0 (set counts l t) ++ u)) (sym (kept counts l t (omega arith)))
          ∙ ap (λ u. Turns ∷ u) (sym (same (pc - v) 0 (set counts l t) (omega arith)))
          ∙ ap (λ u. Turns ∷ w u 0 (set counts l t)) (let e2 : pc - v + 1 ≡ pc + 1 - v = omega arith in e2)),
    )

-- ---- the places of a list of fields ----

pub start_moves : (lv : ℕ) (fs : Fields) (counts : List ℕ) → moves_at lv fs 0 0 counts ≡ moves fs
start_moves lv NoField counts = refl
start_moves lv (Single n s fs) counts = ap (λ k. copies k (Does s ∷ []) ++ Turns ∷ moves fs) (let e : n - 0 ≡ n = omega arith in e)
start_moves lv (Group n inside fs) counts = refl

abbrev rest_of_group : ℕ → Fields → Fields → List ℕ → List Move
rest_of_group lv inside fs c = copies (get_or c lv 0) (Turns ∷ moves inside) ++ Turns ∷ moves fs

pub group_behind : (lv n : ℕ) (inside fs : Fields) (p x : ℕ) (c : List ℕ) → moves_at lv (Group n inside fs) (suc (suc (size inside + p))) x c ≡ moves_at lv fs p x c
group_behind lv n inside fs p x c =
    let yes : nat_lt (size inside) (suc (size inside + p)) ≡ true = lt-ltb (size inside) (suc (size inside + p)) (omega arith) in
    let e : suc (size inside + p) - suc (size inside) ≡ p = omega arith in
    ap (λ b. if b then moves_at lv fs (suc (size inside + p) - suc (size inside)) x c else (moves_at (suc lv) inside (suc (size inside + p)) x c ++ rest_of_group lv inside fs c)) yes
    ∙ ap (λ q. moves_at lv fs q x c) e

group_inside : (lv n : ℕ) (inside fs : Fields) (p x : ℕ) (c : List ℕ) → p ≤ size inside → moves_at lv (Group n inside fs) (suc p) x c ≡ moves_at (suc lv) inside p x c ++ rest_of_group lv inside fs c
group_inside lv n inside fs p x c le =
    ap (λ b. if b then moves_at lv fs (p - suc (size inside)) x c else (moves_at (suc lv) inside p x c ++ rest_of_group lv inside fs c)) (le-ltb (size inside) p le)

-- where a number is: below z, at z, or behind it
pub where_is : (p z : ℕ) → (p < z) ⊎ ((p ≡ z) ⊎ ((q : ℕ) × (p ≡ suc (z + q))))
where_is zero zero = inr (inl refl)
where_is zero (suc z) = inl (omega arith)
where_is (suc p) zero = inr (inr (p, (omega arith)))
where_is (suc p) (suc z) = elim (where_is p z) [
  | inl lt ↦ inl (omega arith)
  | inr r ↦ elim r [ inl e ↦ inr (inl (ap suc e)) | inr (q, e) ↦ inr (inr (q, (omega arith))) ]
]

pub code_behind : (lv n : ℕ) (inside fs : Fields) (p : ℕ) → code_at lv (Group n inside fs) (suc (suc (size inside + p))) ≡ code_at lv fs p
code_behind lv n inside fs p =
    let yes : nat_lt (size inside) (suc (size inside + p)) ≡ true = lt-ltb (size inside) (suc (size inside + p)) (omega arith) in
    let e : suc (size inside + p) - suc (size inside) ≡ p = omega arith in
    ap (λ b. if b then code_at lv fs (suc (size inside + p) - suc (size inside)) else (if nat_lt (suc (size inside + p)) (size inside) then code_at (suc lv) inside (suc (size inside + p)) else Some (Leave lv (size inside)))) yes
    ∙ ap (λ q. code_at lv fs q) e

pub code_inside : (lv n : ℕ) (inside fs : Fields) (p : ℕ) → p < size inside → code_at lv (Group n inside fs) (suc p) ≡ code_at (suc lv) inside p
code_inside lv n inside fs p lt =
    ap (λ b. if b then code_at lv fs (p - suc (size inside)) else (if nat_lt p (size inside) then code_at (suc lv) inside p else Some (Leave lv (size inside)))) (le-ltb (size inside) p (omega arith))
    ∙ ap (λ b. if b then code_at (suc lv) inside p else Some (Leave lv (size inside))) (lt-ltb p (size inside) lt)

pub code_end : (lv n : ℕ) (inside fs : Fields) → code_at lv (Group n inside fs) (suc (size inside)) ≡ Some (Leave lv (size inside))
code_end lv n inside fs =
    ap (λ b. if b then code_at lv fs (size inside - suc (size inside)) else (if nat_lt (size inside) (size inside) then code_at (suc lv) inside (size inside) else Some (Leave lv (size inside)))) (le-ltb (size inside) (size inside) (omega arith))
    ∙ ap (λ b. if b then code_at (suc lv) inside (size inside) else Some (Leave lv (size inside))) (le-ltb (size inside) (size inside) (omega arith))

-- past the end there is nothing
pub end_moves : (lv : ℕ) (fs : Fields) (x : ℕ) (c : List ℕ) → moves_at lv fs (size fs) x c ≡ []
end_moves lv NoField x c = refl
end_moves lv (Single n s fs) x c = end_moves lv fs x c
end_moves lv (Group n inside fs) x c =
    ap (λ q. moves_at lv (Group n inside fs) (suc q) x c) (let e : size inside + suc (size fs) ≡ suc (size inside + size fs) = omega arith in e)
    ∙ group_behind lv n inside fs (size fs) x c ∙ end_moves lv fs x c

abbrev IsThere : {A : Type 0} → Option A → Type 0
IsThere None = ⊥
IsThere (Some x) = Unit {0}

some_is : {A : Type 0} {x : A} {o : Option A} → o ≡ Some x → o ≡ None → ⊥
some_is e f = subst IsThere (sym e ∙ f) tt

some_code : (lv : ℕ) (fs : Fields) (pc : ℕ) → pc < size fs → code_at lv fs pc ≡ None → ⊥
some_code lv NoField pc lt e = omega arith
some_code lv (Single n s fs) zero lt e = some_is refl e
some_code lv (Single n s fs) (suc pc) lt e = some_code lv fs pc (omega arith) e
some_code lv (Group n inside fs) zero lt e = some_is refl e
some_code lv (Group n inside fs) (suc pc) lt e = elim (where_is pc (size inside)) [
  | inl below ↦ some_code (suc lv) inside pc below (sym (code_inside lv n inside fs pc below) ∙ e)
  | inr r ↦ elim r [
    | inl at ↦ some_is (ap (λ v. code_at lv (Group n inside fs) (suc v)) at ∙ code_end lv n inside fs) e
    | inr (q, f) ↦ some_code lv fs q (omega arith) (sym (code_behind lv n inside fs q) ∙ ap (λ v. code_at lv (Group n inside fs) (suc v)) (sym f) ∙ e)
  ]
]

at_leave : (lv n : ℕ) (inside fs : Fields) (past : ℕ) (counts : List ℕ) → Goes (moves_at lv (Group n inside fs)) lv (size (Group n inside fs)) (suc (size inside)) past counts (Some (Leave lv (size inside)))
at_leave lv n inside fs past counts =
    let w : Walk = moves_at lv (Group n inside fs) in
    let here : w (suc (size inside)) past counts ≡ rest_of_group lv inside fs counts
    = group_inside lv n inside fs (size inside) past counts (omega arith) ∙ ap (λ v. v ++ rest_of_group lv inside fs counts) (end_moves (suc lv) inside past counts) in (
      (omega arith),
      (omega arith),
      (λ room e. here ∙ ap (λ v. copies v (Turns ∷ moves inside) ++ Turns ∷ moves fs) e
          ∙ ap (λ v. Turns ∷ v) (sym (start_moves lv fs counts) ∙ sym (group_behind lv n inside fs 0 0 counts)
          ∙ ap (λ v. w v 0 counts) (let e1 : suc (suc (size inside + 0)) ≡ suc (size inside) + 1 = omega arith in e1))),
      (λ t room e. here ∙ ap (λ v. copies v (Turns ∷ moves inside) ++ Turns ∷ moves fs) e
          ∙ ap (λ v. Turns ∷ v) (append_assoc (moves inside) (copies t (Turns ∷ moves inside)) (Turns ∷ moves fs)
          ∙ ap (λ v. v ++ (copies t (Turns ∷ moves inside) ++ Turns ∷ moves fs)) (sym (start_moves (suc lv) inside (set counts lv t)))
          ∙ ap (λ v. moves_at (suc lv) inside 0 0 (set counts lv t) ++ (copies v (Turns ∷ moves inside) ++ Turns ∷ moves fs)) (sym (get_or-set_same counts lv t 0 room))
          ∙ sym (group_inside lv n inside fs 0 0 (set counts lv t) (omega arith))
          ∙ ap (λ v. w v 0 (set counts lv t)) (let e1 : 1 ≡ suc (size inside) - size inside = omega arith in e1))),
    )

-- each instruction does what its place says
pub goes : (lv : ℕ) (fs : Fields) (pc past : ℕ) (counts : List ℕ) → Goes (moves_at lv fs) lv (size fs) pc past counts (code_at lv fs pc)
goes lv NoField pc past counts = refl
goes lv (Single n s fs) zero past counts = ap (λ v. copies (n - past) (Does s ∷ []) ++ Turns ∷ v) (sym (start_moves lv fs counts))
goes lv (Single n s fs) (suc pc) past counts =
    let one : (p x : ℕ) (c : List ℕ) → moves_at lv (Single n s fs) (1 + p) x c ≡ moves_at lv fs p x c
    = λ p x c. ap (λ v. moves_at lv (Single n s fs) v x c) (let e : 1 + p ≡ suc p = omega arith in e) in
    subst (λ v. Goes (moves_at lv (Single n s fs)) lv (suc (size fs)) v past counts (code_at lv fs pc)) (let e : 1 + pc ≡ suc pc = omega arith in e)
    (shifted (moves_at lv fs) (moves_at lv (Single n s fs)) 1 lv (size fs) (suc (size fs)) pc past counts (code_at lv fs pc) one (omega arith) (goes lv fs pc past counts))
goes lv (Group n inside fs) zero past counts = (
  (omega arith),
  (omega arith),
  λ room. ap (λ v. Turns ∷ (copies v (Turns ∷ moves inside) ++ Turns ∷ moves fs)) (sym (get_or-set_same counts lv n 0 room))
      ∙ ap (λ v. Turns ∷ (v ++ rest_of_group lv inside fs (set counts lv n))) (sym (end_moves (suc lv) inside 0 (set counts lv n)))
      ∙ ap (λ v. Turns ∷ v) (sym (group_inside lv n inside fs (size inside) 0 (set counts lv n) (omega arith)))
      ∙ ap (λ v. Turns ∷ moves_at lv (Group n inside fs) v 0 (set counts lv n)) (let e : suc (size inside) ≡ 0 + 1 + size inside = omega arith in e),
)
goes lv (Group n inside fs) (suc pc) past counts =
    let w : Walk = moves_at lv (Group n inside fs) in
    elim (where_is pc (size inside)) [
      | inl below ↦
          subst (λ v. Goes w lv (size (Group n inside fs)) (suc pc) past counts v) (sym (code_inside lv n inside fs pc below))
          (subst (λ v. Goes w lv (size (Group n inside fs)) v past counts (code_at (suc lv) inside pc)) (let e : pc + 1 ≡ suc pc = omega arith in e)
          (enclosed (moves_at (suc lv) inside) w (rest_of_group lv inside fs) lv (size inside) (size (Group n inside fs)) pc past counts (code_at (suc lv) inside pc)
          (λ p x c le. ap (λ v. w v x c) (let e : p + 1 ≡ suc p = omega arith in e) ∙ group_inside lv n inside fs p x c le)
          (λ c l m lt. ap (λ v. copies v (Turns ∷ moves inside) ++ Turns ∷ moves fs) (get_or-set_other c l lv m 0 (λ e. omega arith)))
          below (omega arith)
          (subst (λ v. Goes (moves_at (suc lv) inside) v (size inside) pc past counts (code_at (suc lv) inside pc)) (let e : suc lv ≡ lv + 1 = omega arith in e) (goes (suc lv) inside pc past counts))
          (some_code (suc lv) inside pc below)))
      | inr r ↦ elim r [
        | inl at ↦
            subst (λ v. Goes w lv (size (Group n inside fs)) (suc v) past counts (code_at lv (Group n inside fs) (suc v))) (sym at)
            (subst (λ v. Goes w lv (size (Group n inside fs)) (suc (size inside)) past counts v) (sym (code_end lv n inside fs))
            (at_leave lv n inside fs past counts))
        | inr (q, f) ↦
            subst (λ v. Goes w lv (size (Group n inside fs)) (suc v) past counts (code_at lv (Group n inside fs) (suc v))) (sym f)
            (subst (λ v. Goes w lv (size (Group n inside fs)) (suc (suc (size inside + q))) past counts v) (sym (code_behind lv n inside fs q))
            (subst (λ v. Goes w lv (size (Group n inside fs)) v past counts (code_at lv fs q)) (let e : suc (suc (size inside)) + q ≡ suc (suc (size inside + q)) = omega arith in e)
            (shifted (moves_at lv fs) w (suc (suc (size inside))) lv (size fs) (size (Group n inside fs)) q past counts (code_at lv fs q)
            (λ p x c. ap (λ v. w v x c) (let e : suc (suc (size inside)) + p ≡ suc (suc (size inside + p)) = omega arith in e) ∙ group_behind lv n inside fs p x c)
            (omega arith) (goes lv fs q past counts))))
      ]
    ]

-- ---- the code as a list ----

pub length_code : (lv : ℕ) (fs : Fields) → length (code lv fs) ≡ size fs
length_code lv NoField = refl
length_code lv (Single n s fs) = ap suc (length_code lv fs)
length_code lv (Group n inside fs) =
    ap suc (length-append (code (suc lv) inside) (Leave lv (size inside) ∷ code lv fs)
    ∙ (let a : length (code (suc lv) inside) ≡ size inside = length_code (suc lv) inside in let b : length (code lv fs) ≡ size fs = length_code lv fs in ap (λ v. v + suc (length (code lv fs))) a ∙ ap (λ v. size inside + suc v) b))

get_front : {A : Type 0} (xs ys : List A) (p : ℕ) → p < length xs → slice_get (xs ++ ys) p ≡ slice_get xs p
get_front [] ys p lt = let none_is : ⊥ = omega arith in absurd none_is
get_front (x ∷ xs) ys zero lt = refl
get_front (x ∷ xs) ys (suc p) lt = get_front xs ys p (omega arith)

get_back : {A : Type 0} (xs ys : List A) (p : ℕ) → slice_get (xs ++ ys) (length xs + p) ≡ slice_get ys p
get_back [] ys p = ap (slice_get ys) (let e : 0 + p ≡ p = omega arith in e)
get_back (x ∷ xs) ys p = ap (slice_get (x ∷ (xs ++ ys))) (let e : suc (length xs) + p ≡ suc (length xs + p) = omega arith in e) ∙ get_back xs ys p

pub code_is : (lv : ℕ) (fs : Fields) (pc : ℕ) → slice_get (code lv fs) pc ≡ code_at lv fs pc
code_is lv NoField pc = refl
code_is lv (Single n s fs) zero = refl
code_is lv (Single n s fs) (suc pc) = code_is lv fs pc
code_is lv (Group n inside fs) zero = refl
code_is lv (Group n inside fs) (suc pc) =
    let a : length (code (suc lv) inside) ≡ size inside = length_code (suc lv) inside in
    let tail : List Code = Leave lv (size inside) ∷ code lv fs in
    elim (where_is pc (size inside)) [
      | inl below ↦ get_front (code (suc lv) inside) tail pc (omega (arith, a)) ∙ code_is (suc lv) inside pc ∙ sym (code_inside lv n inside fs pc below)
      | inr r ↦ elim r [
        | inl at ↦ ap (slice_get (code (suc lv) inside ++ tail)) (let e : pc ≡ length (code (suc lv) inside) + 0 = omega (arith, a) in e) ∙ get_back (code (suc lv) inside) tail 0
            ∙ sym (ap (λ v. code_at lv (Group n inside fs) (suc v)) at ∙ code_end lv n inside fs)
        | inr (q, f) ↦ ap (slice_get (code (suc lv) inside ++ tail)) (let e : pc ≡ length (code (suc lv) inside) + suc q = omega (arith, a) in e) ∙ get_back (code (suc lv) inside) tail (suc q)
            ∙ code_is lv fs q ∙ sym (ap (λ v. code_at lv (Group n inside fs) (suc v)) f ∙ code_behind lv n inside fs q)
      ]
    ]
