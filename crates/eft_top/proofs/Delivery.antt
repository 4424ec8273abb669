-- Bytes that are put one after the other.
use Rattle.std.proofs.Common.{◌≡◌, ℕ, true, false, List, [], ◌∷◌, ◌++◌, refl, sym, ◌∙◌, ap, subst, append_assoc}
use Rattle.std.specs.Prelude.{Result, Ok, Err}
use Rattle.std.specs.Result.{is_err}
use Rattle.std.proofs.lemmas.List.{append-nil}
use Rattle.ports.specs.Causes.{Rose}
use Rattle.ports.specs.Puts.{PutsPrefix}
use Rattle.ports.proofs.PutsInARow.{puts_on}
use Rattle.record_flow.proofs.Puts.{none_behind}
use Rattle.eft_top.specs.Delivery.{Delivers, IsOnItsWay}

pub none_before : (xs ys : List ℕ) → xs ++ ys ≡ [] → xs ≡ []
none_before [] ys e = refl
none_before (x ∷ xs) ys e = absurd (cc)

module _ {S : Type 0} (puts : S → List ℕ → S → Type 0) (faults : S → ℕ) where
  pub longer : (a b : S) (xs ys : List ℕ) → PutsPrefix puts a xs b → PutsPrefix puts a (xs ++ ys) b
  longer a b xs ys p = record { front = p.front; back = p.back ++ ys; split = ap (λ (l : List ℕ). l ++ ys) p.split ∙ append_assoc p.front p.back ys; put = p.put }

  -- all of it
  pub whole_front : (a b : S) (xs : List ℕ) → puts a xs b → PutsPrefix puts a xs b
  whole_front a b xs p = record { front = xs; back = []; split = sym (append-nil xs); put = p }

  pub stopped : {T E : Type 0} → (a b : S) (xs ys : List ℕ) (r : Result T E) (e e1 : E) → r ≡ Err e → Delivers puts faults a b xs r → Delivers {T = T} puts faults a b (xs ++ ys) (Err e1)
  stopped a b xs ys r e e1 is d =
      let p = subst (λ r. Delivers puts faults a b xs r) is d in
      record { all = tt; steady = tt; front = longer a b xs ys p.front; cause = p.cause; some = λ none. p.some (none_before xs ys none) }

  module _ (in_a_row : (a b c : S) (xs ys : List ℕ) → puts a xs b → puts b ys c → puts a (xs ++ ys) c) where
    pub onward : {T E : Type 0} → (a b c : S) (xs ys : List ℕ) (r : Result T E) → puts a xs b → faults b ≡ faults a → Delivers puts faults b c ys r → Delivers puts faults a c (xs ++ ys) r
    onward a b c xs ys (Ok t) p steady q = record { all = in_a_row a b c xs ys p q.all; steady = q.steady ∙ steady; front = tt; cause = tt; some = tt }
    onward a b c xs ys (Err e) p steady q = record {
      all = tt;
      steady = tt;
      front = puts_on puts in_a_row a b c xs ys [] (xs ++ ys) p q.front (ap (λ (l : List ℕ). xs ++ l) (sym (append-nil ys)));
      cause = subst (λ (n : ℕ). Rose n (faults c)) steady q.cause;
      some = λ none. q.some (none_behind xs ys none);
    }

    pub both : {T E : Type 0} → (a b c : S) (xs ys : List ℕ) (r0 : Result T E) (t : T) (r : Result T E) → r0 ≡ Ok t → Delivers puts faults a b xs r0 → Delivers puts faults b c ys r → Delivers puts faults a c (xs ++ ys) r
    both a b c xs ys r0 t r is d q = let p = subst (λ r. Delivers puts faults a b xs r) is d in onward a b c xs ys r p.all p.steady q

    -- ---- a line on its way ----

    pub ended : {T E : Type 0} → (begun a b : S) (line hand : List ℕ) (r : Result T E) → IsOnItsWay puts faults begun line a hand false → Delivers puts faults a b hand r → Delivers puts faults begun b line r
    ended begun a b line hand r w d = subst (λ (l : List ℕ). Delivers puts faults begun b l r) (sym w.2) (onward begun a b w.0 hand r w.1 w.3 d)

    pub with_more : (begun a : S) (line hand piece : List ℕ) → IsOnItsWay puts faults begun line a hand false → IsOnItsWay puts faults begun (line ++ piece) a (hand ++ piece) false
    with_more begun a line hand piece w = (w.0, w.1, ap (λ (l : List ℕ). l ++ piece) w.2 ∙ append_assoc w.0 hand piece, w.3)

    pub sent_on : {T E : Type 0} → (begun a b : S) (line hand piece : List ℕ) (r : Result T E) → IsOnItsWay puts faults begun line a hand false → Delivers puts faults a b (hand ++ piece) r → IsOnItsWay puts faults begun (line ++ piece) b [] (is_err r)
    sent_on begun a b line hand piece (Ok t) w d =
        let all = ended begun a b (line ++ piece) (hand ++ piece) (Ok t) (with_more begun a line hand piece w) d in
        (line ++ piece, all.all, sym (append-nil (line ++ piece)), all.steady)
    sent_on begun a b line hand piece (Err e) w d =
        let all = ended begun a b (line ++ piece) (hand ++ piece) (Err e) (with_more begun a line hand piece w) d in
        (all.front, all.cause, all.some)

  pub failed_on : (begun a : S) (line hand piece : List ℕ) → IsOnItsWay puts faults begun line a hand true → IsOnItsWay puts faults begun (line ++ piece) a hand true
  failed_on begun a line hand piece w = (longer begun a line piece w.0, w.1, λ none. w.2 (none_before line piece none))

  pub failed_end : {T E : Type 0} → (begun a : S) (line hand : List ℕ) (e : E) → IsOnItsWay puts faults begun line a hand true → Delivers {T = T} puts faults begun a line (Err e)
  failed_end begun a line hand e w = record { all = tt; steady = tt; front = w.0; cause = w.1; some = w.2 }
