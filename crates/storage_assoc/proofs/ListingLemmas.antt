-- One name more in a list of names with numbers.
use Rattle.std.proofs.Common.{◌≡◌, ◌<◌, ◌+◌, ◌&&◌, ◌||◌, inl, inr, ℕ, Bool, true, false, cond, List, [], ◌∷◌, ◌++◌, length, Option, None, Some, refl, sym, ap, ◌∙◌, arith}
use Rattle.std.proofs.lemmas.Bool.{cases_lt}
use Rattle.std.proofs.lemmas.List.{get_or_append_left, length-append}
use Rattle.std.proofs.Math.Seq.{get_or-append_seam}
use Rattle.std.proofs.lemmas.Slice.Eq.{bytes_eq-Decides}
use Rattle.std.specs.Str.{bytes_eq}
use Rattle.f66_tree.specs.Syntax.{Text}
use Rattle.storage_assoc.specs.Listings.{AreNumberedFrom, is_found, name_at}

found_or : (b c : Bool) (n : ℕ) (o : Option ℕ) → b ≡ c → is_found (cond b (Some n) o) ≡ (is_found o || c)
found_or true true n None e = refl
found_or true true n (Some m) e = refl
found_or false false n None e = refl
found_or false false n (Some m) e = refl
found_or true false n o e = absurd (cc)
found_or false true n o e = absurd (cc)

without : (a w : Bool) → (a || (w && false)) ≡ a
without true w = refl
without false true = refl
without false false = refl

same_text : (x y : Text) → bytes_eq x y ≡ bytes_eq y x
same_text x y = grind (arith, bytes_eq-Decides x y, bytes_eq-Decides y x)

pub found_more : (find find' : Text → Option ℕ) (y : Text) (n : ℕ) → ((q : Text) → find' q ≡ cond (bytes_eq y q) (Some n) (find q)) →
    (q : Text) → is_found (find' q) ≡ (is_found (find q) || bytes_eq q y)
found_more find find' y n updated q = ap is_found (updated q) ∙ found_or (bytes_eq y q) (bytes_eq q y) n (find q) (same_text y q)

pub not_found : (o : Option ℕ) → is_found o ≡ false → o ≡ None
not_found None none = refl
not_found (Some n) none = cc

-- a name that is listed adds nothing, be it a dummy or not
pub found_already : (find : Text → Option ℕ) (y : Text) (v : Bool) → is_found (find y) ≡ true → (q : Text) → is_found (find q) ≡ (is_found (find q) || (v && bytes_eq q y))
found_already find y v listed q = by (bytes_eq q y) refl v
  where
    by : (b : Bool) → bytes_eq q y ≡ b → (w : Bool) → is_found (find q) ≡ (is_found (find q) || (w && bytes_eq q y))
    by true e w =
        let there : is_found (find q) ≡ true = ap (λ x. is_found (find x)) ((bytes_eq-Decides q y).0 e) ∙ listed in
        there ∙ sym (ap (λ o. o || (w && bytes_eq q y)) there)
    by false e w = sym (ap (λ b. is_found (find q) || (w && b)) e ∙ without (is_found (find q)) w)

module _ (first : ℕ) (names : List Text) (find find' : Text → Option ℕ) (y : Text) (l : AreNumberedFrom first names find) (absent : find y ≡ None)
    (updated : (q : Text) → find' q ≡ cond (bytes_eq y q) (Some (first + length names)) (find q)) where
  here : find' y ≡ Some (first + length names)
  here = updated y ∙ ap (λ b. cond b (Some (first + length names)) (find y)) ((bytes_eq-Decides y y).1 refl)

  other : (q : Text) → (y ≡ q → ⊥) → find' q ≡ find q
  other q apart = updated q ∙ ap (λ b. cond b (Some (first + length names)) (find q)) (not_same (bytes_eq y q) refl)
    where
      not_same : (b : Bool) → bytes_eq y q ≡ b → bytes_eq y q ≡ false
      not_same true e = absurd (apart ((bytes_eq-Decides y q).0 e))
      not_same false e = e

  has_before : (k : ℕ) → k < length names → find' (name_at (names ++ y ∷ []) k) ≡ Some (first + k)
  has_before k k_in =
      let same : name_at (names ++ y ∷ []) k ≡ name_at names k = get_or_append_left names (y ∷ []) [] k k_in in
      let apart : y ≡ name_at names k → ⊥ = λ e. (let f = l.has k k_in in let g : find y ≡ Some (first + k) = ap find e ∙ f in cc) in
      ap find' same ∙ other (name_at names k) apart ∙ l.has k k_in

  has_all : (k : ℕ) → k < length (names ++ y ∷ []) → find' (name_at (names ++ y ∷ []) k) ≡ Some (first + k)
  has_all k k_in = elim (cases_lt k (length names)) [
    | inl h ↦ has_before k h
    | inr h ↦
        let n : k < length names + 1 = rw length-append at k_in in
        let at : k ≡ length names = omega (arith, h, n) in
        rw at (ap find' (get_or-append_seam names y [] []) ∙ here)
  ]

  only_all : (x : Text) (i : ℕ) (b : Bool) → bytes_eq y x ≡ b → find' x ≡ Some i → (k : ℕ) × (k < length (names ++ y ∷ [])) × (i ≡ first + k) × (name_at (names ++ y ∷ []) k ≡ x)
  only_all x i true s e =
      let same : y ≡ x = (bytes_eq-Decides y x).0 s in
      let number : i ≡ first + length names = (let h = here in let f : find' y ≡ Some i = ap find' same ∙ e in cc) in
      (length names, (let n = length-append names (y ∷ []) in omega (arith, n)), number, get_or-append_seam names y [] [] ∙ same)
  only_all x i false s e =
      let found : find x ≡ Some i = sym (updated x ∙ ap (λ b. cond b (Some (first + length names)) (find x)) s) ∙ e in
      let o = l.only x i found in
      (o.0, (let n = length-append names (y ∷ []) in let m = o.1 in omega (arith, n, m)), o.2, get_or_append_left names (y ∷ []) [] o.0 o.1 ∙ o.3)

  pub listed_more : AreNumberedFrom first (names ++ y ∷ []) find'
  listed_more = record { has = has_all; only = λ x i e. only_all x i (bytes_eq y x) refl e }
