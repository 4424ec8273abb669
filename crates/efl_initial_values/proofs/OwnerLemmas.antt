-- Owners that share a number are the same, and those that are the same share it.
use Rattle.std.proofs.Common.{◌≡◌, ◌≤◌, ◌<◌, ◌+◌, ℕ, suc, nat_eq, Bool, true, false, ◌&&◌, List, [], ◌∷◌, length, take, get_or, Option, Some, None, refl, sym, ap, subst, ◌∙◌, arith}
use Rattle.std.specs.Option.{option_and_then}
use Rattle.std.specs.Str.{bytes_eq}
use Rattle.std.proofs.lemmas.List.{take_all}
use Rattle.std.proofs.lemmas.Slice.Eq.{bytes_eq-Decides}
use Rattle.std.proofs.Math.Seq.{take-suc}
use Rattle.efl_tree.specs.Syntax.{Text}
use Rattle.efl_types.specs.Presets.{Owner, Own, OfArea, same_owner}
use Rattle.efl_scoped.specs.Numbers.{Table, Grows, AreDistinct, AreAbove, along}
use Rattle.efl_scoped.specs.Seen.{Leads}
use Rattle.efl_scoped.proofs.DecodeLemmas.{some_of}
use Rattle.efl_scoped.proofs.WordLemmas.{grows_same, grows_on, leads_one, leads_both}
use Rattle.efl_initial_values.specs.Fills.{AreCodes}
use Rattle.efl_initial_values.specs.Owners.{owner_code, Codes}

-- ---- words from a beginning ----

-- the number behind words that came one by one, the last one first
abbrev reached : Table → ℕ → List ℕ → Option ℕ
reached g r [] = Some r
reached g r (w ∷ ws) = option_and_then (λ k. g k w) (reached g r ws)

abbrev turned : List ℕ → List ℕ → List ℕ
turned [] ws = ws
turned (w ∷ ws) before = turned ws (w ∷ before)

turned_length : (ws before : List ℕ) → length (turned ws before) ≡ length ws + length before
turned_length [] before = grind arith
turned_length (w ∷ ws) before = let e = turned_length ws (w ∷ before) in grind (arith, e)

turned_same : (ws vs before others : List ℕ) → length before ≡ length others → turned ws before ≡ turned vs others → (ws ≡ vs) × (before ≡ others)
turned_same [] [] before others long is = (refl, is)
turned_same [] (v ∷ vs) before others long is =
    let e = ap length is in let f = turned_length vs (v ∷ others) in absurd (grind (arith, e, f, long))
turned_same (w ∷ ws) [] before others long is =
    let e = ap length is in let f = turned_length ws (w ∷ before) in absurd (grind (arith, e, f, long))
turned_same (w ∷ ws) (v ∷ vs) before others long is =
    let rest = turned_same ws vs (w ∷ before) (v ∷ others) (ap (λ n. suc n) long) is in
    let heads : w ≡ v = ap (head_or 0) rest.1 in
    (ap (λ u. u ∷ ws) heads ∙ ap (λ us. v ∷ us) rest.0, ap rest_of rest.1)
  where
    head_or : ℕ → List ℕ → ℕ
    head_or d [] = d
    head_or d (x ∷ xs) = x

    rest_of : List ℕ → List ℕ
    rest_of [] = []
    rest_of (x ∷ xs) = xs

-- a pair's number, by its first number
step : (g : Table) (w n : ℕ) (o : Option ℕ) → option_and_then (λ k. g k w) o ≡ Some n → (k : ℕ) × (o ≡ Some k) × (g k w ≡ Some n)
step g w n None is = absurd cc
step g w n (Some k) is = (k, refl, is)

module _ (g : Table) (distinct : AreDistinct g) (above : AreAbove g) where
  reached_once : (r s n : ℕ) (ws vs : List ℕ) → r < 4 → s < 4 → reached g r ws ≡ Some n → reached g s vs ≡ Some n → (r ≡ s) × (ws ≡ vs)
  reached_once r s n [] [] low high one two = (some_of r n one ∙ sym (some_of s n two), refl)
  reached_once r s n [] (v ∷ vs) low high one two =
      let b = step g v n (reached g s vs) two in
      let e : r ≡ n = some_of r n one in
      let f : 4 ≤ n = above b.0 v n b.2 in
      absurd (omega (arith, low, e, f))
  reached_once r s n (w ∷ ws) [] low high one two =
      let a = step g w n (reached g r ws) one in
      let e : s ≡ n = some_of s n two in
      let f : 4 ≤ n = above a.0 w n a.2 in
      absurd (omega (arith, high, e, f))
  reached_once r s n (w ∷ ws) (v ∷ vs) low high one two =
      let a = step g w n (reached g r ws) one in
      let b = step g v n (reached g s vs) two in
      let same = distinct a.0 w b.0 v n a.2 b.2 in
      let rest = reached_once r s a.0 ws vs low high a.1 (b.1 ∙ ap (λ k. Some k) (sym same.0)) in
      (rest.0, ap (λ x. x ∷ ws) same.1 ∙ ap (λ us. v ∷ us) rest.1)

  along_step : (w : ℕ) (ws : List ℕ) (n : ℕ) (o : Option ℕ) → option_and_then (along g ws) o ≡ Some n → (k : ℕ) × (o ≡ Some k) × (along g ws k ≡ Some n)
  along_step w ws n None is = absurd cc
  along_step w ws n (Some k) is = (k, refl, is)

  along_reached : (r k n : ℕ) (ws before : List ℕ) → reached g r before ≡ Some k → along g ws k ≡ Some n → reached g r (turned ws before) ≡ Some n
  along_reached r k n [] before was is = was ∙ is
  along_reached r k n (w ∷ ws) before was is =
      let s = along_step w ws n (g k w) is in
      along_reached r s.0 n ws (w ∷ before) (ap (option_and_then (λ j. g j w)) was ∙ s.1) s.2

  -- words from a beginning to a number
  words_once : (r s n : ℕ) (ws vs : List ℕ) → r < 4 → s < 4 → along g ws r ≡ Some n → along g vs s ≡ Some n → (r ≡ s) × (ws ≡ vs)
  words_once r s n ws vs low high one two =
      let both = reached_once r s n (turned ws []) (turned vs []) low high (along_reached r r n ws [] refl one) (along_reached s s n vs [] refl two) in
      (both.0, (turned_same ws vs [] [] refl both.1).0)

-- ---- the same owners ----

-- the number of a name, and what goes on from it
name_first : (f : Table) (n p : ℕ) (h : List ℕ) (o : Option ℕ) → option_and_then (λ w. along f (n ∷ w ∷ h) 0) o ≡ Some p → (w : ℕ) × (o ≡ Some w) × (along f (n ∷ w ∷ h) 0 ≡ Some p)
name_first f n p h None is = absurd cc
name_first f n p h (Some w) is = (w, refl, is)

abbrev Same : Owner → Owner → Type 0
Same a b = same_owner a b ≡ true

both : (a b : Bool) → (a && b) ≡ true → (a ≡ true) × (b ≡ true)
both true b is = (refl, is)
both false b is = absurd cc

same_text : (x : Text) → bytes_eq x x ≡ true
same_text x = (bytes_eq-Decides x x).1 refl

is_equal : (a b : Owner) → Same a b → a ≡ b
is_equal (Own n h x) (Own m i y) same =
    let one = both (nat_eq n m) (bytes_eq h i && bytes_eq x y) same in
    let two = both (bytes_eq h i) (bytes_eq x y) one.1 in
    let first : n ≡ m = (let e = one.0 in grind (arith, e)) in
    ap (λ k. Own k h x) first ∙ ap (λ k. Own m k x) ((bytes_eq-Decides h i).0 two.0) ∙ ap (Own m i) ((bytes_eq-Decides x y).0 two.1)
is_equal (OfArea q i) (OfArea r j) same =
    let one = both (bytes_eq q r) (nat_eq i j) same in
    let last : i ≡ j = (let e = one.1 in grind (arith, e)) in
    ap (λ k. OfArea k i) ((bytes_eq-Decides q r).0 one.0) ∙ ap (OfArea r) last
is_equal (Own n h x) (OfArea q i) same = absurd cc
is_equal (OfArea q i) (Own n h x) same = absurd cc

same_itself : (a : Owner) → Same a a
same_itself (Own n h x) = ap (λ b. b && (bytes_eq h h && bytes_eq x x)) (number_itself n) ∙ ap (λ b. b && bytes_eq x x) (same_text h) ∙ same_text x
  where
    number_itself : (n : ℕ) → nat_eq n n ≡ true
    number_itself n = grind arith
same_itself (OfArea q i) = ap (λ b. b && nat_eq i i) (same_text q) ∙ number_itself i
  where
    number_itself : (n : ℕ) → nat_eq n n ≡ true
    number_itself n = grind arith

module _ (f : Table) (distinct : AreDistinct f) (above : AreAbove f) where
  shared : (a b : Owner) (n : ℕ) → owner_code f a ≡ Some n → owner_code f b ≡ Some n → a ≡ b
  shared (Own n h x) (Own m i y) p one two =
      let s = name_first f n p h (along f x 2) one in
      let t = name_first f m p i (along f y 2) two in
      let words : (n ∷ s.0 ∷ h) ≡ (m ∷ t.0 ∷ i) = (words_once f distinct above 0 0 p (n ∷ s.0 ∷ h) (m ∷ t.0 ∷ i) (omega arith) (omega arith) s.2 t.2).1 in
      let unit : n ≡ m = cc in
      let name : s.0 ≡ t.0 = cc in
      let home : h ≡ i = cc in
      let text : x ≡ y = (words_once f distinct above 2 2 t.0 x y (omega arith) (omega arith) (s.1 ∙ ap Some name) t.1).1 in
      ap (λ k. Own k h x) unit ∙ ap (λ k. Own m k x) home ∙ ap (Own m i) text
  shared (OfArea q i) (OfArea r j) p one two =
      let words : (i ∷ q) ≡ (j ∷ r) = (words_once f distinct above 1 1 p (i ∷ q) (j ∷ r) (omega arith) (omega arith) one two).1 in
      let number : i ≡ j = cc in
      let area : q ≡ r = cc in
      ap (λ k. OfArea k i) area ∙ ap (OfArea r) number
  shared (Own n h x) (OfArea q i) p one two =
      let s = name_first f n p h (along f x 2) one in
      let none : 0 ≡ 1 = (words_once f distinct above 0 1 p (n ∷ s.0 ∷ h) (i ∷ q) (omega arith) (omega arith) s.2 two).0 in
      absurd (omega (arith, none))
  shared (OfArea q i) (Own n h x) p one two =
      let s = name_first f n p h (along f x 2) two in
      let none : 1 ≡ 0 = (words_once f distinct above 1 0 p (i ∷ q) (n ∷ s.0 ∷ h) (omega arith) (omega arith) one s.2).0 in
      absurd (omega (arith, none))

  pub owner_codes : AreCodes (owner_code f)
  owner_codes a b m n one two = by (nat_eq m n) refl (same_owner a b) refl
    where
      by : (r : Bool) → nat_eq m n ≡ r → (s : Bool) → same_owner a b ≡ s → same_owner a b ≡ nat_eq m n
      by true e s is =
          let number : m ≡ n = grind (arith, e) in
          let same : a ≡ b = shared a b n (one ∙ ap Some number) two in
          ap (same_owner a) (sym same) ∙ same_itself a ∙ sym e
      by false e false is = is ∙ sym e
      by false e true is =
          let same : a ≡ b = is_equal a b is in
          let number : m ≡ n = some_of m n (sym one ∙ ap (owner_code f) same ∙ two) in
          absurd (grind (arith, e, number))

-- ---- numbers that come ----

pub leads_none : (f : Table) (k : ℕ) → Leads f [] k f k
leads_none f k = record { grows = grows_same f; leads = λ h more. refl }

-- a byte more
pub byte_leads : (f g h : Table) (bs : List ℕ) (i k n m : ℕ) → i < length bs → Leads f (take i bs) k g n → Grows g h → h n (get_or bs i 0) ≡ Some m → Leads f (take (i + 1) bs) k h m
byte_leads f g h bs i k n m within before grows is =
    subst (λ ws. Leads f ws k h m) (sym (ap (λ j. take j bs) (next i) ∙ take-suc bs i 0 within)) (leads_both f g h (take i bs) (get_or bs i 0 ∷ []) k n m before (leads_one g h n (get_or bs i 0) m grows is))
  where
    next : (i : ℕ) → i + 1 ≡ suc i
    next i = omega arith

pub all_bytes : (f g : Table) (bs : List ℕ) (i k n : ℕ) → length bs ≤ i → Leads f (take i bs) k g n → Leads f bs k g n
all_bytes f g bs i k n past before = subst (λ ws. Leads f ws k g n) (take_all i bs past) before

pub own_codes : (f g g' g'' h : Table) (unit word first second n : ℕ) (home : List ℕ) (name : Text) → Leads f name 2 g word → Grows g g' → g' 0 unit ≡ Some first → Grows g' g'' →
    g'' first word ≡ Some second → Leads g'' home second h n → Codes f (Own unit home name) h n
own_codes f g g' g'' h unit word first second n home name named more one later two at = record {
  grows = grows_on f g h named.grows (grows_on g g' h more (grows_on g' g'' h later at.grows));
  codes = λ t last.
      let begun = leads_one g g' 0 unit first more one in
      let both = leads_both g g' g'' (unit ∷ []) (word ∷ []) 0 first second begun (leads_one g' g'' first word second later two) in
      let all = leads_both g g'' h (unit ∷ word ∷ []) home 0 second n both at in
      let up = grows_on g h t (grows_on g g' h more (grows_on g' g'' h later at.grows)) last in
      ap (option_and_then (λ w. along t (unit ∷ w ∷ home) 0)) (named.leads t up) ∙ all.leads t last;
}

pub shared_codes : (f g h : Table) (number first n : ℕ) (area : Text) → Grows f g → g 1 number ≡ Some first → Leads g area first h n → Codes f (OfArea area number) h n
shared_codes f g h number first n area more one at =
    let all = leads_both f g h (number ∷ []) area 1 first n (leads_one f g 1 number first more one) at in
    record { grows = all.grows; codes = λ t last. all.leads t last }
