-- The values on the stack, shared out among the productions under way.
use Rattle.std.proofs.Common.{◌≡◌, ◌≤◌, ◌⊎◌, ℕ, suc, length, take, drop, ◌++◌, List, [], ◌∷◌, refl, sym, ◌∙◌, ap, arith, subst, inl, inr, append_assoc, reverse}
use Rattle.std.proofs.Math.Seq.{take-append_seam, drop-append_seam}
use Rattle.std.proofs.lemmas.List.{append-nil, take_all, drop_all, reverse-append}
use Rattle.grammar.specs.declared.stack.Frame.{Frame}
use Rattle.grammar.specs.Stack.{piled, item, shares, outer_shares, IsSplit}
use Rattle.grammar.proofs.ListLemmas.{piled-append, length-values}

piled-join : {A B : Type 0} → (f : A → B) → (xs ys : List A) → (old : List B) → piled f (xs ++ ys) old ≡ piled f ys (piled f xs old)
piled-join f [] ys old = refl
piled-join f (x ∷ xs) ys old = piled-join f xs ys (f x ∷ old)

piled-onto : {A B : Type 0} → (f : A → B) → (xs : List A) → (old : List B) → piled f xs old ≡ piled f xs [] ++ old
piled-onto f [] old = refl
piled-onto f (x ∷ xs) old =
    piled-onto f xs (f x ∷ old) ∙ (sym (append_assoc (piled f xs []) (f x ∷ []) old) ∙ ap (λ ys. ys ++ old) (sym (piled-onto f xs (f x ∷ []))))

-- the parts' values, and behind them those of the rest
parted : {A B : Type 0} → (f : A → B) → (all rest parts : List A) → all ≡ rest ++ parts → piled f all [] ≡ piled f parts [] ++ piled f rest []
parted f all rest parts e = ap (λ xs. piled f xs []) e ∙ (piled-join f rest parts [] ∙ piled-onto f parts (piled f rest []))

taken : {A B : Type 0} → (f : A → B) → (n : ℕ) → (all rest parts : List A) → all ≡ rest ++ parts → (length parts ≡ n) ⊎ ((rest ≡ []) × (length parts ≤ n)) →
    take n (piled f all []) ≡ piled f parts []
taken f n all rest parts e (inl h) =
    ap (take n) (parted f all rest parts e)
    ∙ (ap (λ m. take m (piled f parts [] ++ piled f rest [])) (sym (length-values f parts ∙ h)) ∙ take-append_seam (piled f parts []) (piled f rest []))
taken f n all rest parts e (inr h) =
    ap (take n) (parted f all rest parts e ∙ (ap (λ xs. piled f parts [] ++ piled f xs []) h.0 ∙ append-nil (piled f parts [])))
    ∙ take_all n (piled f parts []) (omega (arith, length-values f parts, h.1))

dropped : {A B : Type 0} → (f : A → B) → (n : ℕ) → (all rest parts : List A) → all ≡ rest ++ parts → (length parts ≡ n) ⊎ ((rest ≡ []) × (length parts ≤ n)) →
    drop n (piled f all []) ≡ piled f rest []
dropped f n all rest parts e (inl h) =
    ap (drop n) (parted f all rest parts e)
    ∙ (ap (λ m. drop m (piled f parts [] ++ piled f rest [])) (sym (length-values f parts ∙ h)) ∙ drop-append_seam (piled f parts []) (piled f rest []))
dropped f n all rest parts e (inr h) =
    ap (drop n) (parted f all rest parts e ∙ (ap (λ xs. piled f parts [] ++ piled f xs []) h.0 ∙ append-nil (piled f parts [])))
    ∙ (drop_all n (piled f parts []) (omega (arith, length-values f parts, h.1)) ∙ ap (λ xs. piled f xs []) (sym h.0))

pub split_parts : {A B : Type 0} → (f : A → B) → (n : ℕ) → (all rest parts : List A) → IsSplit all n rest parts → piled f parts [] ≡ take n (piled f all [])
split_parts f n all rest parts s = sym (taken f n all rest parts s.joined s.many)

pub split_rest : {A B : Type 0} → (f : A → B) → (n : ℕ) → (all rest parts : List A) → IsSplit all n rest parts → piled f rest [] ≡ drop n (piled f all [])
split_rest f n all rest parts s = sym (dropped f n all rest parts s.joined s.many)

pub split_none : {A : Type 0} → (all : List A) → IsSplit all 0 all []
split_none all = record { joined = sym (append-nil all); many = inl refl }

no_end : {A : Type 0} → (xs : List A) → (x : A) → xs ++ x ∷ [] ≡ [] → ⊥
no_end [] x e = cc
no_end (y ∷ xs) x e = cc

pub split_more : {A : Type 0} → (all rest ps : List A) → (n : ℕ) → (x : A) → IsSplit all n (rest ++ x ∷ []) (reverse ps) → IsSplit all (suc n) rest (reverse (ps ++ x ∷ []))
split_more all rest ps n x s =
    subst (λ xs. IsSplit all (suc n) rest xs) (sym (reverse-append ps (x ∷ []))) (record {
      joined = s.joined ∙ append_assoc rest (x ∷ []) (reverse ps);
      many = longer s.many;
    })
  where
    longer : (length (reverse ps) ≡ n) ⊎ ((rest ++ x ∷ [] ≡ []) × (length (reverse ps) ≤ n)) → (suc (length (reverse ps)) ≡ suc n) ⊎ ((rest ≡ []) × (suc (length (reverse ps)) ≤ suc n))
    longer (inl e) = inl (ap suc e)
    longer (inr h) = absurd (no_end rest x h.0)

-- the production last put aside comes first
pub popped_shares : {P V : Type 0} → (outer rest : List (Frame P)) → (next : Frame P) → (vs : List V) → outer ≡ rest ++ next ∷ [] →
    outer_shares outer vs ≡ item next vs ∷ outer_shares rest (drop next.count vs)
popped_shares outer rest next vs e = ap (λ fs. outer_shares fs vs) e ∙ ap (λ fs. shares fs vs) (piled-append (λ f. f) rest next [])
