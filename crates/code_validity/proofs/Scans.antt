-- The marks of a stretch of code: what holds before each of its instructions, found from the first one on.
use Rattle.std.proofs.Common.{◌≡◌, ◌⊎◌, inl, inr, ℕ, zero, suc, ◌+◌, List, [], ◌∷◌, ◌++◌, length, Option, Some, None, refl, sym, ap, ◌∙◌, subst, arith, slice_get}
use Rattle.std.proofs.lemmas.Option.{same_Some}
use Rattle.stack_code.specs.declared.fact.Fact.{Fact}
use Rattle.stack_code.specs.Instructions.{Instruction}
use Rattle.stack_code.specs.ValidCode.{after}
use Rattle.code_gen.proofs.Steps.{HasAt}
use Rattle.code_validity.proofs.Marks.{Mark, mark}
use Rattle.code_validity.proofs.Pieces as pieces

abbrev pub or_else : Option Fact → Fact → Fact
or_else None f = f
or_else (Some g) f = g

abbrev pub behind : Instruction → Fact → Fact
behind j f = or_else (after j f) f

abbrev pub scanned : ℕ → List Instruction → Fact → List Mark
scanned u [] f = []
scanned u (j ∷ is) f = mark f u ∷ scanned u is (behind j f)

-- these marks stand from a place on
abbrev pub Marked : List Mark → ℕ → ℕ → List Instruction → Fact → Type 0
Marked marks u pc [] f = Unit {0}
Marked marks u pc (j ∷ is) f = (slice_get marks pc ≡ Some (mark f u)) × Marked marks u (pc + 1) is (behind j f)

pub marked_at : (marks : List Mark) (u pc to : ℕ) (is : List Instruction) (f : Fact) → pc ≡ to → Marked marks u pc is f → Marked marks u to is f
marked_at marks u pc to is f e h = subst (λ p. Marked marks u p is f) e h

-- a stretch of which each instruction finds what it needs, as far as that is all that is asked
abbrev pub Goes : ℕ → List Instruction → Fact → Fact → Type 0
Goes = pieces.Fine (λ at j f. Unit {0}) (λ at j f. Unit {0})

pub marked_front : (marks : List Mark) (u pc : ℕ) (a b : List Instruction) (f : Fact) → Marked marks u pc (a ++ b) f → Marked marks u pc a f
marked_front marks u pc [] b f h = tt
marked_front marks u pc (j ∷ a) b f h = (h.0, marked_front marks u (pc + 1) a b (behind j f) h.1)

pub marked_back : (marks : List Mark) (u pc at : ℕ) (a b : List Instruction) (f g : Fact) → Goes at a f g → Marked marks u pc (a ++ b) f → Marked marks u (pc + length a) b g
marked_back marks u pc at [] b f g e h = subst (λ x. Marked marks u (pc + 0) b x) e (marked_at marks u pc (pc + 0) b f (omega arith) h)
marked_back marks u pc at (j ∷ a) b f g e h =
    let s = e tt in
    let same : behind j f ≡ s.0 = ap (λ o. or_else o f) s.1 in
    let rest = subst (λ x. Marked marks u (pc + 1) (a ++ b) x) same h.1 in
    marked_at marks u (pc + 1 + length a) (pc + suc (length a)) b g (omega arith) (marked_back marks u (pc + 1) (at + 1) a b s.0 g s.3 rest)

-- ---- stretches within longer lists ----

later : (m : Mark) (marks : List Mark) (u pc : ℕ) (is : List Instruction) (f : Fact) → Marked marks u pc is f → Marked (m ∷ marks) u (suc pc) is f
later m marks u pc [] f h = tt
later m marks u pc (j ∷ is) f h = (h.0, marked_at (m ∷ marks) u (suc (pc + 1)) (suc pc + 1) is (behind j f) (omega arith) (later m marks u (pc + 1) is (behind j f) h.1))

pub marked_behind : (pre marks : List Mark) (u pc : ℕ) (is : List Instruction) (f : Fact) → Marked marks u pc is f → Marked (pre ++ marks) u (length pre + pc) is f
marked_behind [] marks u pc is f h = marked_at marks u pc (0 + pc) is f (omega arith) h
marked_behind (m ∷ pre) marks u pc is f h = marked_at (m ∷ (pre ++ marks)) u (suc (length pre + pc)) (suc (length pre) + pc) is f (omega arith) (later m (pre ++ marks) u (length pre + pc) is f (marked_behind pre marks u pc is f h))

pub marked_here : (u : ℕ) (is : List Instruction) (f : Fact) (post : List Mark) → Marked (scanned u is f ++ post) u 0 is f
marked_here u [] f post = tt
marked_here u (j ∷ is) f post = (refl, marked_at (mark f u ∷ (scanned u is (behind j f) ++ post)) u (suc 0) (0 + 1) is (behind j f) (omega arith) (later (mark f u) (scanned u is (behind j f) ++ post) u 0 is (behind j f) (marked_here u is (behind j f) post)))

pub has_to : (code : List Instruction) (pc to : ℕ) (is : List Instruction) → pc ≡ to → HasAt code pc is → HasAt code to is
has_to code pc to is e h = subst (λ p. HasAt code p is) e h

has_later : (i : Instruction) (code : List Instruction) (pc : ℕ) (is : List Instruction) → HasAt code pc is → HasAt (i ∷ code) (suc pc) is
has_later i code pc [] h = tt
has_later i code pc (j ∷ is) h = (h.0, has_to (i ∷ code) (suc (pc + 1)) (suc pc + 1) is (omega arith) (has_later i code (pc + 1) is h.1))

pub has_behind : (pre code : List Instruction) (pc : ℕ) (is : List Instruction) → HasAt code pc is → HasAt (pre ++ code) (length pre + pc) is
has_behind [] code pc is h = has_to code pc (0 + pc) is (omega arith) h
has_behind (i ∷ pre) code pc is h = has_to (i ∷ (pre ++ code)) (suc (length pre + pc)) (suc (length pre) + pc) is (omega arith) (has_later i (pre ++ code) (length pre + pc) is (has_behind pre code pc is h))

pub has_here : (is post : List Instruction) → HasAt (is ++ post) 0 is
has_here [] post = tt
has_here (j ∷ is) post = (refl, has_to (j ∷ (is ++ post)) (suc 0) (0 + 1) is (omega arith) (has_later j (is ++ post) 0 is (has_here is post)))

pub scanned_length : (u : ℕ) (is : List Instruction) (f : Fact) → length (scanned u is f) ≡ length is
scanned_length u [] f = refl
scanned_length u (j ∷ is) f = ap suc (scanned_length u is (behind j f))

-- ---- the last instruction ----

abbrev pub EndsIn : Instruction → List Instruction → Type 0
EndsIn x [] = ⊥
EndsIn x (j ∷ []) = j ≡ x
EndsIn x (j ∷ k ∷ is) = EndsIn x (k ∷ is)

ends_cons : (x j : Instruction) (is : List Instruction) → EndsIn x is → EndsIn x (j ∷ is)
ends_cons x j [] h = absurd h
ends_cons x j (k ∷ is) h = h

pub ends_append : (x : Instruction) (a b : List Instruction) → EndsIn x b → EndsIn x (a ++ b)
ends_append x [] b h = h
ends_append x (j ∷ a) b h = ends_cons x j (a ++ b) (ends_append x a b h)

pub last_at : (x : Instruction) (is : List Instruction) (k : ℕ) (j : Instruction) → EndsIn x is → slice_get is k ≡ Some j → slice_get is (suc k) ≡ None → j ≡ x
last_at x [] k j h e g = absurd h
last_at x (i ∷ []) zero j h e g = sym (same_Some _ _ e) ∙ h
last_at x (i ∷ []) (suc k) j h e g = absurd (let q : ⊥ = cc in q)
last_at x (i ∷ l ∷ is) zero j h e g = absurd (let q : ⊥ = cc in q)
last_at x (i ∷ l ∷ is) (suc k) j h e g = last_at x (l ∷ is) k j h e g

-- ---- one instruction of a stretch ----

module _ (R Q : ℕ → Instruction → Fact → Type 0) (marks : List Mark) (u : ℕ) where
  -- what holds of an instruction, and of the one behind it
  pub record Known (is : List Instruction) (at k : ℕ) (f : Fact) : Type 0 where
    pub instruction : Instruction
    pub stands : slice_get is k ≡ Some instruction
    pub then : Fact
    pub gives : after instruction f ≡ Some then
    pub right : Q (at + k) instruction then
    pub next : (slice_get is (suc k) ≡ None) ⊎ (slice_get marks (at + k + 1) ≡ Some (mark then u))

  next_mark : (pc : ℕ) (j : Instruction) (is : List Instruction) (f g : Fact) → behind j f ≡ g → Marked marks u pc is (behind j f) → (slice_get is 0 ≡ None) ⊎ (slice_get marks pc ≡ Some (mark g u))
  next_mark pc j [] f g e h = inl refl
  next_mark pc j (l ∷ is) f g e h = inr (subst (λ x. slice_get marks pc ≡ Some (mark x u)) e h.0)

  pub known_at : (is : List Instruction) (at : ℕ) (f g : Fact) → pieces.Fine R Q at is f g → Marked marks u at is f → ((k : ℕ) (j : Instruction) (x : Fact) → slice_get is k ≡ Some j → slice_get marks (at + k) ≡ Some (mark x u) → R (at + k) j x) →
      (k : ℕ) (m : Mark) → slice_get (scanned u is f) k ≡ Some m → (m ≡ mark m.fact u) × Known is at k m.fact
  known_at [] at f g fine h grants k m e = absurd (let q : ⊥ = cc in q)
  known_at (j ∷ is) at f g fine h grants zero m e =
      let here : at + 0 ≡ at = omega arith in
      let same : mark f u ≡ m = same_Some _ _ e in
      let fact : f ≡ m.fact = ap (λ x. x.fact) same in
      let s = fine (subst (λ p. R p j f) here (grants zero j f refl (subst (λ p. slice_get marks p ≡ Some (mark f u)) (sym here) h.0))) in
      let next = next_mark (at + 1) j is f s.0 (ap (λ o. or_else o f) s.1) h.1 in (
        sym same ∙ ap (λ x. mark x u) fact,
        record {
          instruction = j;
          stands = refl;
          then = s.0;
          gives = subst (λ x. after j x ≡ Some s.0) fact s.1;
          right = subst (λ p. Q p j s.0) (sym here) s.2;
          next = subst (λ p. (slice_get is 0 ≡ None) ⊎ (slice_get marks (p + 1) ≡ Some (mark s.0 u))) (sym here) next;
        },
      )
  known_at (j ∷ is) at f g fine h grants (suc k) m e =
      let s = fine (subst (λ p. R p j f) (omega arith) (grants zero j f refl (subst (λ p. slice_get marks p ≡ Some (mark f u)) (omega arith) h.0))) in
      let same : behind j f ≡ s.0 = ap (λ o. or_else o f) s.1 in
      let step : at + 1 + k ≡ at + suc k = omega arith in
      let r = known_at is (at + 1) s.0 g s.3 (subst (λ x. Marked marks u (at + 1) is x) same h.1)
      (λ l i x e1 e2. subst (λ p. R p i x) (omega arith) (grants (suc l) i x e1 (subst (λ p. slice_get marks p ≡ Some (mark x u)) (omega arith) e2))) k m (subst (λ x. slice_get (scanned u is x) k ≡ Some m) same e) in
      let t = r.1 in (
        r.0,
        record {
          instruction = t.instruction;
          stands = t.stands;
          then = t.then;
          gives = t.gives;
          right = subst (λ p. Q p t.instruction t.then) step t.right;
          next = subst (λ p. (slice_get is (suc k) ≡ None) ⊎ (slice_get marks (p + 1) ≡ Some (mark t.then u))) step t.next;
        },
      )
