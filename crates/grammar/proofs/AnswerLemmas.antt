-- The parser's answers at the token that it has come to.
use Rattle.std.proofs.Common.{◌≡◌, ◌<◌, ◌+◌, ℕ, zero, suc, add-one, arith, List, [], ◌∷◌, ◌++◌, length, take, get_or, Some, None, refl, sym, ◌∙◌, ap, subst, inl, inr}
use Rattle.std.specs.Prelude.{Err, slice_get}
use Rattle.std.proofs.Math.Seq.{take-suc, take-length}
use Rattle.ground.specs.declared.token.Token.{Token}
use Rattle.ground.specs.declared.fault.FaultKind.TheVariants.{Syntax, Limit}
use Rattle.ground.specs.declared.fault.Refusal.{Refusal}
use Rattle.ground.specs.declared.fault.Refusal.TheVariants as refusals
use Rattle.grammar.specs.Grammar.{Grammar, Begins}
use Rattle.grammar.specs.Limits.{Meter, IsWithin, Passes}
use Rattle.grammar.specs.Certificate.{Certificate, IsSound}
use Rattle.grammar.specs.Descent.{Item, Linked, Takes, Refuses}
use Rattle.grammar.specs.Answers.{Answers}
use Rattle.grammar.proofs.RunLemmas.{Reached, reached_next, reached_begins, refused, within, taken_begins, passes}

at_is : {A : Type 0} → (ts : List A) → (i : ℕ) → (t : A) → i < length ts → t ≡ get_or ts i t → slice_get ts i ≡ Some t
at_is [] i t l e = absurd (omega arith)
at_is (x ∷ xs) zero t l e = ap Some (sym e)
at_is (x ∷ xs) (suc i) t l e = at_is xs i t (omega arith) e

length_take : {A : Type 0} → (ts : List A) → (i : ℕ) → i < length ts → length (take i ts) ≡ i
length_take [] i l = absurd (omega arith)
length_take (x ∷ xs) zero l = refl
length_take (x ∷ xs) (suc i) l = ap suc (length_take xs i (omega arith))

one_more : {A : Type 0} → (ts : List A) → (i : ℕ) → (t : A) → i < length ts → t ≡ get_or ts i t → take (suc i) ts ≡ take i ts ++ t ∷ []
one_more ts i t l e = take-suc ts i t l ∙ ap (λ x. take i ts ++ x ∷ []) (sym e)

module _ {T N P V M : Type 0} (g : Grammar Token T N P V) (c : Certificate Token T N P) (meter : Meter T P M) (sound : IsSound g c) where
  pub syntax_fault : {W : Type 0} → (view : W → V) → (ts : List Token) → (i : ℕ) → (t : Token) → (fs : List (Item P V)) → (m : M) → i < length ts → t ≡ get_or ts i t →
      Reached g c.predict meter (take i ts) fs m → Refuses g c.predict meter fs m t → (r : Refusal) →
      r ≡ refusals.Fault (record { kind = Syntax; place = t.place; number = 0 }) → Answers g meter view ts (Err r)
  syntax_fault view ts i t fs m l e reached refuses r is =
      subst (λ s. Answers g meter view ts (Err s)) (sym is) (
        i,
        t,
        at_is ts i t l e,
        inl (
          refl,
          (
            reached_begins g c meter sound (take i ts) fs m reached,
            λ b. refused g c meter sound (take i ts) fs m t reached refuses (subst (λ us. Begins g us) (one_more ts i t l e) b),
            subst (λ k. IsWithin g meter (take i ts) k) (length_take ts i l) (within g c meter sound (take i ts) fs m reached),
          ),
        ),
      )

  pub limit_fault : {W : Type 0} → (view : W → V) → (ts : List Token) → (i : ℕ) → (t : Token) → (fs : List (Item P V)) → (m : M) → (gs : List (Item P V)) → (n : M) → (k : ℕ) →
      i < length ts → t ≡ get_or ts i t → Reached g c.predict meter (take i ts) fs m → Takes g c.predict meter fs m t gs n → (Linked g fs → Linked g gs) →
      meter.passed n ≡ Some k → (r : Refusal) → r ≡ refusals.Fault (record { kind = Limit; place = t.place; number = k }) → Answers g meter view ts (Err r)
  limit_fault view ts i t fs m gs n k l e reached takes linked passed r is =
      subst (λ s. Answers g meter view ts (Err s)) (sym is) (
        i,
        t,
        at_is ts i t l e,
        inr (
          refl,
          (
            subst (λ us. Begins g us) (sym (one_more ts i t l e)) (taken_begins g c meter sound (take i ts) fs m t gs n reached takes linked),
            subst (λ us. Passes g meter us (record { token = i; limit = k })) (sym (one_more ts i t l e))
                (subst (λ j. Passes g meter (take i ts ++ t ∷ []) (record { token = j; limit = k })) (length_take ts i l)
                (passes g c meter sound (take i ts) fs m t gs n k reached takes linked passed)),
          ),
        ),
      )

  pub reached_more : (ts : List Token) → (i : ℕ) → (t : Token) → (fs : List (Item P V)) → (m : M) → (gs : List (Item P V)) → (n : M) → i < length ts → t ≡ get_or ts i t →
      Reached g c.predict meter (take i ts) fs m → Takes g c.predict meter fs m t gs n → (Linked g fs → Linked g gs) → meter.passed n ≡ None →
      Reached g c.predict meter (take (i + 1) ts) gs n
  reached_more ts i t fs m gs n l e reached takes linked passed =
      subst (λ us. Reached g c.predict meter us gs n) (sym (ap (λ j. take j ts) (add-one i) ∙ one_more ts i t l e))
      (reached_next g c meter sound (take i ts) fs m t gs n reached takes linked passed)

  pub reached_all : (ts : List Token) → (i : ℕ) → (fs : List (Item P V)) → (m : M) → i ≡ length ts → Reached g c.predict meter (take i ts) fs m → Reached g c.predict meter ts fs m
  reached_all ts i fs m full reached =
      subst (λ us. Reached g c.predict meter us fs m) (ap (λ j. take j ts) full ∙ take-length ts) reached
