-- What pieces of code do to what is known, wherever they stand: each instruction finds what it needs, and is as Q asks of it.
use Rattle.std.proofs.Common.{◌≡◌, ℕ, ◌+◌, List, [], ◌∷◌, ◌++◌, length, Some, refl, sym, subst, arith, suc}
use Rattle.stack_code.specs.declared.fact.Fact.{Fact}
use Rattle.stack_code.specs.Instructions.{Instruction}
use Rattle.stack_code.specs.ValidCode.{after}
use Rattle.code_validity.proofs.Plain.{IsFit}
use Rattle.code_validity.proofs.Plain as plain

-- R is what may be taken for granted of an instruction at its place, where this holds before it; Q is what is to be shown of it, where
-- this holds behind it
module _ (R Q : ℕ → Instruction → Fact → Type 0) where
  abbrev pub Fine : ℕ → List Instruction → Fact → Fact → Type 0
  Fine at [] f g = f ≡ g
  Fine at (j ∷ is) f g = R at j f → (b : Fact) × (after j f ≡ Some b) × Q at j b × Fine (at + 1) is b g

  pub fine_at : (at to : ℕ) (is : List Instruction) (f g : Fact) → at ≡ to → Fine at is f g → Fine to is f g
  fine_at at to is f g e h = subst (λ p. Fine p is f g) e h

  pub fine_append : (at : ℕ) (a b : List Instruction) (f g h : Fact) → Fine at a f g → Fine (at + length a) b g h → Fine at (a ++ b) f h
  fine_append at [] b f g h p q = subst (λ x. Fine at b x h) (sym p) (fine_at (at + 0) at b g h (omega arith) q)
  fine_append at (j ∷ a) b f g h p q = λ r.
      let s = p r in
      (s.0, s.1, s.2, fine_append (at + 1) a b s.0 g h s.3 (fine_at (at + suc (length a)) (at + 1 + length a) b g h (omega arith) q))

  pub fine_one : (at : ℕ) (j : Instruction) (f g : Fact) → after j f ≡ Some g → (R at j f → Q at j g) → Fine at (j ∷ []) f g
  fine_one at j f g e h = λ r. (g, e, h r, refl)

  -- a stretch without branches
  pub fine_plain : (callee : ℕ → ℕ → Type 0) (plans units : ℕ) → ((at : ℕ) (j : Instruction) (b : Fact) → IsFit callee plans units j → Q at j b) → (at : ℕ) (is : List Instruction) (f g : Fact) → plain.Runs callee plans units is f g → Fine at is f g
  fine_plain callee plans units fit at [] f g h = h
  fine_plain callee plans units fit at (j ∷ is) f g h = λ r. (h.0, h.1, fit at j h.0 h.2, fine_plain callee plans units fit (at + 1) is h.0 g h.3)
