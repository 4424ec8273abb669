-- A variable's number is that of no other variable, and it stays while more pairs get numbers.
use Rattle.std.proofs.Common.{◌≡◌, ◌≤◌, ◌<◌, ◌+◌, ℕ, nat_eq, Bool, true, ◌&&◌, List, [], ◌∷◌, length, take, get_or, reverse, Option, Some, None, is_some, Result, Ok, Err, refl, sym, ap, ◌∙◌, arith}
use Rattle.std.proofs.lemmas.Bool.Decides.{Decides-eqb}
use Rattle.std.proofs.lemmas.List.{reverse-append, reverse-reverse, take_more}
use Rattle.std.proofs.lemmas.Slice.Eq.{bytes_eq-Decides}
use Rattle.std.specs.Result.{IfOk, OnOk}
use Rattle.std.specs.Str.{bytes_eq}
use Rattle.efl_tree.specs.Syntax.{Text}
use Rattle.efl_scope.specs.Marks.{Located, same_located}
use Rattle.efl_scoped.specs.Numbers.{Table, Grows, AreDistinct, AreAbove}
use Rattle.efl_scoped.proofs.DecodeLemmas.{some_of}
use Rattle.efl_scoped.proofs.MemberLemmas.{both_left, both_right}
use Rattle.efl_variables.specs.Keys.{pair, list_number, key_of, key, IsTextNumber, IsKey}

-- the two numbers of a pair that has one
paired : (f : Table) (o p : Option ℕ) (n : ℕ) → pair f o p ≡ Some n → (a : ℕ) × ((b : ℕ) × (o ≡ Some a) × (p ≡ Some b) × (f a b ≡ Some n))
paired f None p n is = absurd cc
paired f (Some a) None n is = absurd cc
paired f (Some a) (Some b) n is = (a, (b, refl, refl, is))

-- ---- numbers stay ----

pair_grows : (f g : Table) → Grows f g → (o p q r : Option ℕ) (n : ℕ) → ((a : ℕ) → o ≡ Some a → q ≡ Some a) → ((b : ℕ) → p ≡ Some b → r ≡ Some b) → pair f o p ≡ Some n → pair g q r ≡ Some n
pair_grows f g grows o p q r n first second is =
    let a = paired f o p n is in
    ap (λ x. pair g x r) (first a.0 a.1.1) ∙ ap (pair g (Some a.0)) (second a.1.0 a.1.2) ∙ grows a.0 a.1.0 n a.1.3

pub list_grows : (f g : Table) → Grows f g → (ws : List ℕ) (n : ℕ) → list_number f ws ≡ Some n → list_number g ws ≡ Some n
list_grows f g grows [] n is = is
list_grows f g grows (w ∷ ws) n is = pair_grows f g grows (Some w) (list_number f ws) (Some w) (list_number g ws) n (λ a e. e) (λ b e. list_grows f g grows ws b e) is

pub key_grows : (f g : Table) → Grows f g → (u : ℕ) (h : List ℕ) (x : Text) (n : ℕ) → key_of f u h x ≡ Some n → key_of g u h x ≡ Some n
key_grows f g grows u h x n is =
    pair_grows f g grows (pair f (Some u) (list_number f h)) (list_number f (reverse x)) (pair g (Some u) (list_number g h)) (list_number g (reverse x)) n
    (λ a e. pair_grows f g grows (Some u) (list_number f h) (Some u) (list_number g h) a (λ b q. q) (λ b q. list_grows f g grows h b q) e)
    (λ b e. list_grows f g grows (reverse x) b e) is

pub key_kept : (f g : Table) → Grows f g → (x : Located) → is_some (key f x) ≡ true → key g x ≡ key f x
key_kept f g grows x some = each (key f x) refl some
  where
    each : (o : Option ℕ) → key f x ≡ o → is_some o ≡ true → key g x ≡ o
    each None is has = absurd cc
    each (Some n) is has = key_grows f g grows x.unit x.variable.home x.variable.name n is

-- ---- the same variables alone share a number ----

pub both : (a b : Bool) → a ≡ true → b ≡ true → (a && b) ≡ true
both a b one two = ap (λ c. c && b) one ∙ two

-- the three parts of which a variable is known
unit_same : (x y : Located) → same_located x y ≡ true → x.unit ≡ y.unit
unit_same x y same = (Decides-eqb x.unit y.unit).0 (both_left (nat_eq x.unit y.unit) (bytes_eq x.variable.home y.variable.home && bytes_eq x.variable.name y.variable.name) same)

rest_same : (x y : Located) → same_located x y ≡ true → (bytes_eq x.variable.home y.variable.home && bytes_eq x.variable.name y.variable.name) ≡ true
rest_same x y same = both_right (nat_eq x.unit y.unit) (bytes_eq x.variable.home y.variable.home && bytes_eq x.variable.name y.variable.name) same

home_same : (x y : Located) → same_located x y ≡ true → x.variable.home ≡ y.variable.home
home_same x y same =
    (bytes_eq-Decides x.variable.home y.variable.home).0 (both_left (bytes_eq x.variable.home y.variable.home) (bytes_eq x.variable.name y.variable.name) (rest_same x y same))

name_same : (x y : Located) → same_located x y ≡ true → x.variable.name ≡ y.variable.name
name_same x y same =
    (bytes_eq-Decides x.variable.name y.variable.name).0 (both_right (bytes_eq x.variable.home y.variable.home) (bytes_eq x.variable.name y.variable.name) (rest_same x y same))

pub key_same : (f : Table) (x y : Located) → same_located x y ≡ true → key f x ≡ key f y
key_same f x y same =
    ap (λ u. key_of f u x.variable.home x.variable.name) (unit_same x y same) ∙ ap (λ h. key_of f y.unit h x.variable.name) (home_same x y same)
    ∙ ap (λ n. key_of f y.unit y.variable.home n) (name_same x y same)

abbrev known_as : ℕ → List ℕ → Text → Located → Bool
known_as u h x z = nat_eq u z.unit && (bytes_eq h z.variable.home && bytes_eq x z.variable.name)

pub located_same : (x y : Located) → same_located x y ≡ true → (z : Located) → same_located x z ≡ same_located y z
located_same x y same z =
    ap (λ u. known_as u x.variable.home x.variable.name z) (unit_same x y same) ∙ ap (λ h. known_as y.unit h x.variable.name z) (home_same x y same)
    ∙ ap (λ n. known_as y.unit y.variable.home n z) (name_same x y same)

module _ (f : Table) (distinct : AreDistinct f) (above : AreAbove f) where
  list_once : (ws vs : List ℕ) (n : ℕ) → list_number f ws ≡ Some n → list_number f vs ≡ Some n → ws ≡ vs
  list_once [] [] n one two = refl
  list_once [] (v ∷ vs) n one two =
      let b = paired f (Some v) (list_number f vs) n two in
      let e : 0 ≡ n = some_of 0 n one in
      let low : 4 ≤ n = above b.0 b.1.0 n b.1.3 in
      absurd (omega (arith, e, low))
  list_once (w ∷ ws) [] n one two =
      let a = paired f (Some w) (list_number f ws) n one in
      let e : 0 ≡ n = some_of 0 n two in
      let low : 4 ≤ n = above a.0 a.1.0 n a.1.3 in
      absurd (omega (arith, e, low))
  list_once (w ∷ ws) (v ∷ vs) n one two =
      let a = paired f (Some w) (list_number f ws) n one in
      let b = paired f (Some v) (list_number f vs) n two in
      let same = distinct a.0 a.1.0 b.0 b.1.0 n a.1.3 b.1.3 in
      let rest = list_once ws vs a.1.0 a.1.2 (b.1.2 ∙ ap (λ k. Some k) (sym same.1)) in
      let heads : w ≡ v = some_of w a.0 a.1.1 ∙ same.0 ∙ sym (some_of v b.0 b.1.1) in
      ap (λ x. x ∷ ws) heads ∙ ap (λ us. v ∷ us) rest

  pub key_once : (x y : Located) (n : ℕ) → key f x ≡ Some n → key f y ≡ Some n → same_located x y ≡ true
  key_once x y n one two =
      let a = paired f (pair f (Some x.unit) (list_number f x.variable.home)) (list_number f (reverse x.variable.name)) n one in
      let b = paired f (pair f (Some y.unit) (list_number f y.variable.home)) (list_number f (reverse y.variable.name)) n two in
      let same = distinct a.0 a.1.0 b.0 b.1.0 n a.1.3 b.1.3 in
      let c = paired f (Some x.unit) (list_number f x.variable.home) a.0 a.1.1 in
      let d = paired f (Some y.unit) (list_number f y.variable.home) b.0 b.1.1 in
      let inner = distinct c.0 c.1.0 d.0 d.1.0 a.0 c.1.3 (d.1.3 ∙ ap (λ k. Some k) (sym same.0)) in
      let names = list_once (reverse x.variable.name) (reverse y.variable.name) a.1.0 a.1.2 (b.1.2 ∙ ap (λ k. Some k) (sym same.1)) in
      let name : x.variable.name ≡ y.variable.name = sym (reverse-reverse x.variable.name) ∙ ap reverse names ∙ reverse-reverse y.variable.name in
      let unit : x.unit ≡ y.unit = some_of x.unit c.0 c.1.1 ∙ inner.0 ∙ sym (some_of y.unit d.0 d.1.1) in
      let home : x.variable.home ≡ y.variable.home = list_once x.variable.home y.variable.home c.1.0 c.1.2 (d.1.2 ∙ ap (λ k. Some k) (sym inner.1)) in
      both (nat_eq x.unit y.unit) (bytes_eq x.variable.home y.variable.home && bytes_eq x.variable.name y.variable.name) ((Decides-eqb x.unit y.unit).1 unit)
      (both (bytes_eq x.variable.home y.variable.home) (bytes_eq x.variable.name y.variable.name) ((bytes_eq-Decides x.variable.home y.variable.home).1 home)
      ((bytes_eq-Decides x.variable.name y.variable.name).1 name))

-- by the procedure and the name that a variable has
pub key_named : (f : Table) (x : Located) (u : ℕ) (name : Text) → x.unit ≡ u → x.variable.name ≡ name → key f x ≡ key_of f u x.variable.home name
key_named f x u name unit is = ap (λ n. key_of f n x.variable.home x.variable.name) unit ∙ ap (key_of f u x.variable.home) is

-- ---- numbers that are given ----

pub text_more : (f g h : Table) (ws : List ℕ) (w k n : ℕ) → IsTextNumber f ws g k → Grows g h → h w k ≡ Some n → IsTextNumber f (w ∷ ws) h n
text_more f g h ws w k n before grows made = record {
  grows = λ a b m is. grows a b m (before.grows a b m is);
  numbered = ap (pair h (Some w)) (list_grows g h grows ws k before.numbered) ∙ made;
}

pub turned_more : (xs : List ℕ) (i d : ℕ) → i < length xs → reverse (take (i + 1) xs) ≡ get_or xs i d ∷ reverse (take i xs)
turned_more xs i d lt = ap reverse (take_more xs i d lt) ∙ reverse-append (take i xs) (get_or xs i d ∷ [])

pub key_made : {E : Type 0} (f g1 g2 g3 : Table) (u home : ℕ) (x : Text) (b m : ℕ) → Grows f g1 → g1 u home ≡ Some b → IsTextNumber g1 (reverse x) g2 m → (r : Result ℕ E) →
    IfOk r (λ n. g3 b m ≡ Some n) → OnOk r (Grows g2 g3) → IfOk r (λ n. IsKey f u home x g3 n)
key_made f g1 g2 g3 u home x b m grows first word (Err e) numbered kept = tt
key_made f g1 g2 g3 u home x b m grows first word (Ok n) numbered kept = record {
  grows = λ p q k is. kept p q k (word.grows p q k (grows p q k is));
  numbered = λ h is.
      ap (λ o. pair g3 (pair g3 (Some u) o) (list_number g3 (reverse x))) (list_grows f g3 (λ p q k e. kept p q k (word.grows p q k (grows p q k e))) h home is)
      ∙ ap (λ o. pair g3 o (list_number g3 (reverse x))) (kept u home b (word.grows u home b first)) ∙ ap (pair g3 (Some b)) (list_grows g2 g3 kept (reverse x) m word.numbered) ∙ numbered;
}

pub key_is : (f g : Table) (x : Located) (u home k : ℕ) (name : Text) → x.unit ≡ u → list_number f x.variable.home ≡ Some home → x.variable.name ≡ name → IsKey f u home name g k → key g x ≡ Some k
key_is f g x u home k name unit at is given = key_named g x u name unit is ∙ given.numbered x.variable.home at
