-- A text has at most one first fault, and none where it is accepted, for every grammar and every meter.
use Rattle.std.proofs.Common.{◌≡◌, ◌<◌, ◌≤◌, ℕ, zero, suc, arith, List, [], ◌∷◌, ◌++◌, take, ◌⊎◌, inl, inr, Some, refl, sym, ◌∙◌, ap, subst}
use Rattle.std.specs.Prelude.{slice_get}
use Rattle.ground.specs.declared.token.Token.{Token}
use Rattle.ground.specs.declared.fault.Fault.{Fault}
use Rattle.ground.specs.declared.fault.FaultKind.TheVariants.{Syntax, Limit}
use Rattle.grammar.specs.Grammar.{Grammar, Parse, Begins}
use Rattle.grammar.specs.Limits.{Meter, Passing, history_of, first_passing, IsWithin, Passes, IsAccepted}
use Rattle.grammar.specs.Answers.{SyntaxAt, LimitAt, IsFirstFault}

-- ---- beginnings of lists ----

appended : {A : Type 0} → (xs ys zs : List A) → (xs ++ ys) ++ zs ≡ xs ++ (ys ++ zs)
appended [] ys zs = refl
appended (x ∷ xs) ys zs = ap (λ us. x ∷ us) (appended xs ys zs)

-- a shorter beginning begins a longer one
front : {A : Type 0} → (ts : List A) → (i j : ℕ) → i ≤ j → (rest : List A) × (take j ts ≡ take i ts ++ rest)
front ts zero j l = (take j ts, refl)
front ts (suc i) zero l = absurd (omega arith)
front [] (suc i) (suc j) l = ([], refl)
front (t ∷ ts) (suc i) (suc j) l = let r = front ts i j (omega arith) in (r.0, ap (λ us. t ∷ us) r.1)

all_of : {A : Type 0} → (ts : List A) → (i : ℕ) → (rest : List A) × (ts ≡ take i ts ++ rest)
all_of ts zero = (ts, refl)
all_of [] (suc i) = ([], refl)
all_of (t ∷ ts) (suc i) = let r = all_of ts i in (r.0, ap (λ us. t ∷ us) r.1)

pub compare : (i j : ℕ) → (i < j) ⊎ ((i ≡ j) ⊎ (j < i))
compare zero zero = inr (inl refl)
compare zero (suc j) = inl (omega arith)
compare (suc i) zero = inr (inr (omega arith))
compare (suc i) (suc j) = elim (compare i j) [
  | inl less ↦ inl (omega arith)
  | inr other ↦ elim other [ inl same ↦ inr (inl (ap suc same)) | inr more ↦ inr (inr (omega arith)) ]
]

module _ {T N P V M : Type 0} (g : Grammar Token T N P V) (meter : Meter T P M) where
  -- ---- what holds of a beginning holds of what it begins ----

  begins_less : (a b c : List Token) → c ≡ a ++ b → Begins g c → Begins g a
  begins_less a b c e h = (b ++ h.0, subst (λ us. Parse g us) (ap (λ us. us ++ h.0) e ∙ appended a b h.0) h.1)

  passes_on : (a b c : List Token) → (at : Passing) → c ≡ a ++ b → Passes g meter a at → (parse : Parse g c) → first_passing meter (history_of g parse) ≡ Some at
  passes_on a b c at e h = subst (λ us. (parse : Parse g us) → first_passing meter (history_of g parse) ≡ Some at) (sym e) (h b)

  within_on : (a b c : List Token) → (i : ℕ) → c ≡ a ++ b → IsWithin g meter a i → (parse : Parse g c) → (at : Passing) → first_passing meter (history_of g parse) ≡ Some at → i ≤ at.token
  within_on a b c i e h = subst (λ us. (parse : Parse g us) → (at : Passing) → first_passing meter (history_of g parse) ≡ Some at → i ≤ at.token) (sym e) (h b)

  -- the token after which no tokens make a program is the last of the shortest beginning that begins none
  no_later : (ts : List Token) → (i j : ℕ) → i < j → (Begins g (take (suc i) ts) → ⊥) → Begins g (take j ts) → ⊥
  no_later ts i j l none some =
      let r = front ts (suc i) j (omega arith) in
      none (begins_less (take (suc i) ts) r.0 (take j ts) r.1 some)

  -- a limit that is passed is passed in each program that goes on
  limit_here : (ts : List Token) → (i j k : ℕ) → i ≤ j → Passes g meter (take (suc i) ts) (record { token = i; limit = k }) → (b : Begins g (take (suc j) ts)) →
      first_passing meter (history_of g b.1) ≡ Some (record { token = i; limit = k })
  limit_here ts i j k l h b =
      let r = front ts (suc i) (suc j) (omega arith) in
      passes_on (take (suc i) ts) (r.0 ++ b.0) (take (suc j) ts ++ b.0) (record { token = i; limit = k })
      (ap (λ us. us ++ b.0) r.1 ∙ appended (take (suc i) ts) r.0 b.0)
      h
      b.1

  token_of_some : (a b : Passing) → Some a ≡ Some b → a.token ≡ b.token
  token_of_some a b e = cc

  limit_of_some : (a b : Passing) → Some a ≡ Some b → a.limit ≡ b.limit
  limit_of_some a b e = cc

  -- ---- two faults of one text ----

  syntax_alone : (ts : List Token) → (i j : ℕ) → SyntaxAt g meter ts i → SyntaxAt g meter ts j → i ≡ j
  syntax_alone ts i j h k = elim (compare i j) [
    | inl less ↦ absurd (no_later ts i j less h.1 k.0)
    | inr other ↦ elim other [ inl same ↦ same | inr more ↦ absurd (no_later ts j i more k.1 h.0) ]
  ]

  limit_alone : (ts : List Token) → (i j k l : ℕ) → LimitAt g meter ts i k → LimitAt g meter ts j l → (i ≡ j) × (k ≡ l)
  limit_alone ts i j k l a b = elim (compare i j) [
    | inl less ↦ ordered i j k l (omega arith) a b
    | inr other ↦ elim other [
      | inl same ↦ ordered i j k l (omega arith) a b
      | inr more ↦ let r = ordered j i l k (omega arith) b a in (sym r.0, sym r.1)
    ]
  ]
    where
      ordered : (x y m n : ℕ) → x ≤ y → LimitAt g meter ts x m → LimitAt g meter ts y n → (x ≡ y) × (m ≡ n)
      ordered x y m n le h h' =
          let first = limit_here ts x y m le h.1 h'.0 in
          let second = h'.1 h'.0.0 h'.0.1 in
          let both : Some (record { token = x; limit = m }) ≡ Some (record { token = y; limit = n }) = sym first ∙ second in
          (token_of_some (record { token = x; limit = m }) (record { token = y; limit = n }) both, limit_of_some (record { token = x; limit = m }) (record { token = y; limit = n }) both)

  syntax_or_limit : (ts : List Token) → (i j k : ℕ) → SyntaxAt g meter ts i → LimitAt g meter ts j k → ⊥
  syntax_or_limit ts i j k h l = elim (compare i j) [
    | inl less ↦ no_later ts i (suc j) (omega arith) h.1 l.0
    | inr other ↦ elim other [
      | inl same ↦ no_later ts i (suc j) (omega arith) h.1 l.0
      | inr more ↦ later more
    ]
  ]
    where
      later : j < i → ⊥
      later less =
          let r = front ts (suc j) i (omega arith) in
          let b = h.0 in
          let passed = passes_on (take (suc j) ts) (r.0 ++ b.0) (take i ts ++ b.0) (record { token = j; limit = k }) (ap (λ us. us ++ b.0) r.1 ∙ appended (take (suc j) ts) r.0 b.0) l.1 b.1 in
          let le = h.2 b.0 b.1 (record { token = j; limit = k }) passed in
          omega (arith, le)

  same_token : (ts : List Token) → (i j : ℕ) → (t u : Token) → i ≡ j → slice_get ts i ≡ Some t → slice_get ts j ≡ Some u → t ≡ u
  same_token ts i j t u e a b = let c : slice_get ts j ≡ Some t = subst (λ n. slice_get ts n ≡ Some t) e a in cc

  pub one_fault : (ts : List Token) → (a b : Fault) → IsFirstFault g meter ts a → IsFirstFault g meter ts b → a ≡ b
  one_fault ts a b (i, t, at_i, inl h) (j, u, at_j, inl k) =
      let same = same_token ts i j t u (syntax_alone ts i j h.1 k.1) at_i at_j in
      h.0 ∙ (ap (λ x. record { kind = Syntax; place = x.place; number = 0 }) same ∙ sym k.0)
  one_fault ts a b (i, t, at_i, inl h) (j, u, at_j, inr k) = absurd (syntax_or_limit ts i j b.number h.1 k.1)
  one_fault ts a b (i, t, at_i, inr h) (j, u, at_j, inl k) = absurd (syntax_or_limit ts j i a.number k.1 h.1)
  one_fault ts a b (i, t, at_i, inr h) (j, u, at_j, inr k) =
      let both = limit_alone ts i j a.number b.number h.1 k.1 in
      let same = same_token ts i j t u both.0 at_i at_j in
      h.0 ∙ (ap (λ x. record { kind = Limit; place = x.place; number = a.number }) same ∙ (ap (λ n. record { kind = Limit; place = u.place; number = n }) both.1 ∙ sym k.0))

  -- ---- a fault of an accepted text ----

  pub no_fault : (ts : List Token) → (v : V) → (fault : Fault) → IsAccepted g meter ts v → IsFirstFault g meter ts fault → ⊥
  no_fault ts v fault accepted (i, t, at_i, found) =
      let parse = ((accepted.value v).1 refl).0 in
      let r = all_of ts (suc i) in
      elim found [
        | inl h ↦ h.1.1 (r.0, subst (λ us. Parse g us) r.1 parse)
        | inr h ↦
            let passed = passes_on (take (suc i) ts) r.0 ts (record { token = i; limit = fault.number }) r.1 h.1.1 parse in
            let quiet = accepted.within parse in
            cc
      ]
