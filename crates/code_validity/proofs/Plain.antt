-- What stretches of code that have no branch do to what is known: from what holds before them to what holds behind them.
use Rattle.std.proofs.Common.{◌≡◌, ℕ, zero, suc, ◌+◌, ◌<◌, ◌≤◌, true, false, List, [], ◌∷◌, ◌++◌, Some, None, refl, sym, ap, ◌∙◌, subst, arith}
use Rattle.stack_code.specs.declared.shape.EntryKind.{EntryKind}
use Rattle.stack_code.specs.declared.shape.EntryKind.TheVariants.{Int, Log, Spot}
use Rattle.stack_code.specs.declared.fact.Fact.{Fact}
use Rattle.stack_code.specs.Instructions as i
use Rattle.stack_code.specs.Instructions.{Instruction}
use Rattle.stack_code.specs.ValidCode.{Open, and_then, pop, pops, after, is_small, is_relation, takes}

-- what is known in a frame of so many dummies, while this record statement is open
abbrev pub fact : ℕ → Open → List EntryKind → Fact
fact n o s = record { shape = s; count = n; format = o }

-- so many more entries of a kind
abbrev pub more : EntryKind → ℕ → List EntryKind → List EntryKind
more k zero s = s
more k (suc n) s = k ∷ more k n s

pub more_behind : (k : EntryKind) (n : ℕ) (s : List EntryKind) → more k n (k ∷ s) ≡ k ∷ more k n s
more_behind k zero s = refl
more_behind k (suc n) s = ap (λ t. k ∷ t) (more_behind k n s)

pop_same : (k : EntryKind) (s : List EntryKind) → pop k (k ∷ s) ≡ Some s
pop_same Int s = refl
pop_same Log s = refl
pop_same Spot s = refl

pub pops_more : (k : EntryKind) (n : ℕ) (s : List EntryKind) → pops k n (more k n s) ≡ Some s
pops_more k zero s = refl
pops_more k (suc n) s = ap (λ o. and_then o (pops k n)) (pop_same k (more k n s)) ∙ pops_more k n s

more_more : (k : EntryKind) (m n : ℕ) (s : List EntryKind) → more k (m + n) s ≡ more k m (more k n s)
more_more k zero n s = let e : zero + n ≡ n = omega arith in ap (λ j. more k j s) e
more_more k (suc m) n s = let e : suc m + n ≡ suc (m + n) = omega arith in ap (λ j. more k j s) e ∙ ap (λ t. k ∷ t) (more_more k m n s)

-- the subscripts and the dimensions of an element, over its array's spot
pub after_element : (n count : ℕ) (o : Open) (s : List EntryKind) → after (i.Element n) (fact count o (more Int n (more Int n (Spot ∷ s)))) ≡ Some (fact count o (Spot ∷ s))
after_element n count o s =
    ap (λ q. and_then (and_then q (λ t. and_then (pops Log 0 t) (pops Spot 1))) (λ t. Some (fact count o (Spot ∷ t))))
    (ap (pops Int (n + n)) (sym (more_more Int n n (Spot ∷ s))) ∙ pops_more Int (n + n) (Spot ∷ s))

pub after_known : (g n count : ℕ) (o : Open) (s : List EntryKind) → after (i.Known g n) (fact count o (more Int n s)) ≡ Some (fact count o (Int ∷ s))
after_known g n count o s =
    ap (λ q. and_then (and_then q (λ t. and_then (pops Log 0 t) (pops Spot 0))) (λ t. Some (fact count o (Int ∷ t)))) (pops_more Int n s)

-- a call stands where no record statement is open
pub after_call : (to n count : ℕ) (s : List EntryKind) → after (i.Call to n) (fact count None (more Spot n s)) ≡ Some (fact count None s)
after_call to n count s = ap (λ q. and_then q (λ t. Some (fact count None t))) (pops_more Spot n s)

-- ---- stretches ----

-- what the operands of an instruction have to be where it is no branch, no return and no end
abbrev pub IsFit : (ℕ → ℕ → Type 0) → ℕ → ℕ → Instruction → Type 0
IsFit callee plans units (i.Push v) = is_small v ≡ true
IsFit callee plans units (i.PushSpot first size) = (0 < size) × (first + size ≤ units)
IsFit callee plans units (i.Lend q) = q < units
IsFit callee plans units (i.Both op) = is_relation op ≡ false
IsFit callee plans units (i.Compare op) = is_relation op ≡ true
IsFit callee plans units (i.Known g n) = takes g n ≡ true
IsFit callee plans units (i.Jump to) = ⊥
IsFit callee plans units (i.JumpFalse to) = ⊥
IsFit callee plans units (i.JumpSign a b c) = ⊥
IsFit callee plans units (i.JumpTable ts) = ⊥
IsFit callee plans units (i.LoopStart limit step) = (limit < units) × (step < units)
IsFit callee plans units (i.LoopTurn limit step to) = ⊥
IsFit callee plans units (i.Call to n) = callee to n
IsFit callee plans units i.Return = ⊥
IsFit callee plans units (i.Start way n) = n < plans
IsFit callee plans units (i.Halt n) = ⊥
IsFit callee plans units _ = Unit {0}

module _ (callee : ℕ → ℕ → Type 0) (plans units : ℕ) where
  -- each instruction finds what it needs, from f to g
  abbrev pub Runs : List Instruction → Fact → Fact → Type 0
  Runs [] f g = f ≡ g
  Runs (j ∷ is) f g = (b : Fact) × (after j f ≡ Some b) × IsFit callee plans units j × Runs is b g

  pub runs_one : (j : Instruction) (f g : Fact) → after j f ≡ Some g → IsFit callee plans units j → Runs (j ∷ []) f g
  runs_one j f g e h = (g, e, h, refl)

  pub runs_append : (a b : List Instruction) (f g h : Fact) → Runs a f g → Runs b g h → Runs (a ++ b) f h
  runs_append [] b f g h p q = subst (λ x. Runs b x h) (sym p) q
  runs_append (j ∷ a) b f g h p q = (p.0, p.1, p.2, runs_append a b p.0 g h p.3 q)
