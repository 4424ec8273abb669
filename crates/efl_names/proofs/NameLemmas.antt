-- What letters give to names, as rules come.
use Rattle.std.proofs.Common.{◌≡◌, ◌+◌, ◌<◌, ◌≤◌, ℕ, nat_eq, nat_le, nat_lt, Bool, true, false, cond, ◌&&◌, List, [], ◌∷◌, Option, Some, None, unwrap_or, refl, sym, ap, subst, arith, if◌then◌else◌}
use Rattle.std.specs.List.{slice_get}
use Rattle.ground.specs.declared.value.Kind.TheVariants.{Integer}
use Rattle.efl_tree.specs.Syntax.{Text}
use Rattle.efl_scope.specs.DataTypes.{DataType, Scalar, NoType}
use Rattle.efl_scope.specs.Scopes.{Implied, by_letter, implicit_type}
use Rattle.efl_scoped.specs.Numbers.{Table}
use Rattle.efl_expressions.specs.declared.types.DataType as types
use Rattle.efl_expressions.specs.declared.types.Structure.{Structure}
use Rattle.efl_expressions.specs.TypeViews.{IsType}
use Rattle.efl_names.specs.NameViews.{IsTypeIfAny}

-- ---- letters without a rule ----

plain_by : (f : Table) (ss : List Structure) (b : Bool) (c : ℕ) (t : DataType) (d : types.DataType) → (nat_le 73 c && nat_le c 78) ≡ b → (if b then Scalar Integer else NoType) ≡ t → IsType f ss t d →
    IsType f ss (by_letter [] c) d
plain_by f ss b c t d is gives made =
    subst (λ a. IsType f ss (if a then Scalar Integer else NoType) d) (sym is) (subst (λ u. IsType f ss u d) (sym gives) made)

and_on : (a b : Bool) → a ≡ true → b ≡ true → (a && b) ≡ true
and_on true b one two = two
and_on false b one two = one

and_off_left : (a b : Bool) → a ≡ false → (a && b) ≡ false
and_off_left true b one = absurd cc
and_off_left false b one = refl

and_off_right : (a b : Bool) → b ≡ false → (a && b) ≡ false
and_off_right true b one = one
and_off_right false b one = refl

pub plain_integer : (f : Table) (ss : List Structure) (c : ℕ) (d : types.DataType) → 73 ≤ c → c ≤ 78 → IsType f ss (Scalar Integer) d → IsType f ss (by_letter [] c) d
plain_integer f ss c d low high made =
    plain_by f ss true c (Scalar Integer) d
    (and_on (nat_le 73 c) (nat_le c 78) (let e : nat_le 73 c ≡ true = grind (arith, low) in e) (let e : nat_le c 78 ≡ true = grind (arith, high) in e)) refl made

pub plain_below : (f : Table) (ss : List Structure) (c : ℕ) (d : types.DataType) → c < 73 → IsType f ss NoType d → IsType f ss (by_letter [] c) d
plain_below f ss c d low made =
    plain_by f ss false c NoType d (and_off_left (nat_le 73 c) (nat_le c 78) (let e : nat_le 73 c ≡ false = grind (arith, low) in e)) refl made

pub plain_above : (f : Table) (ss : List Structure) (c : ℕ) (d : types.DataType) → 78 < c → IsType f ss NoType d → IsType f ss (by_letter [] c) d
plain_above f ss c d high made =
    plain_by f ss false c NoType d (and_off_right (nat_le 73 c) (nat_le c 78) (let e : nat_le c 78 ≡ false = grind (arith, high) in e)) refl made

pub letter_none : (f : Table) (ss : List Structure) (o : Option DataType) (t : DataType) (d : types.DataType) → IsTypeIfAny f ss o None → IsType f ss t d → IsType f ss (unwrap_or o t) d
letter_none f ss None t d none made = made
letter_none f ss (Some u) t d none made = absurd none

-- ---- names ----

pub no_letter : (rules : List Implied) (x : Text) → None ≡ slice_get x 0 → implicit_type rules x ≡ NoType
no_letter rules [] none = refl
no_letter rules (c ∷ cs) none = absurd cc

pub first_letter : (rules : List Implied) (x : Text) (c : ℕ) → Some c ≡ slice_get x 0 → implicit_type rules x ≡ by_letter rules c
first_letter rules [] c is = absurd cc
first_letter rules (b ∷ bs) c is = let e : b ≡ c = cc in ap (by_letter rules) e

-- ---- a rule, letter by letter ----

module _ (k : types.DataType) (o : Option types.DataType) where
  pub letters_begun : (first c : ℕ) → o ≡ (if nat_le first c && nat_lt c first then Some k else o)
  letters_begun first c = each (nat_le first c) (nat_lt c first) refl refl
    where
      each : (a b : Bool) → nat_le first c ≡ a → nat_lt c first ≡ b → o ≡ (if a && b then Some k else o)
      each true true low high = absurd (grind (arith, low, high))
      each true false low high = refl
      each false b low high = refl

  pub letters_next : (first i c : ℕ) → first ≤ i →
      cond (nat_eq i c) (Some k) (if nat_le first c && nat_lt c i then Some k else o) ≡ (if nat_le first c && nat_lt c (i + 1) then Some k else o)
  letters_next first i c from = each (nat_eq i c) (nat_le first c) (nat_lt c i) (nat_lt c (i + 1)) refl refl refl refl
    where
      each : (a b p q : Bool) → nat_eq i c ≡ a → nat_le first c ≡ b → nat_lt c i ≡ p → nat_lt c (i + 1) ≡ q →
          cond a (Some k) (if b && p then Some k else o) ≡ (if b && q then Some k else o)
      each true true p true same low before now = refl
      each true true p false same low before now = absurd (grind (arith, same, now))
      each true false p q same low before now = absurd (grind (arith, same, low, from))
      each false true true true same low before now = refl
      each false true true false same low before now = absurd (grind (arith, before, now))
      each false true false true same low before now = absurd (grind (arith, same, before, now))
      each false true false false same low before now = refl
      each false false p q same low before now = refl

  pub letters_ended : (first last i c : ℕ) → last + 1 ≤ i → (first ≤ last + 1 → i ≤ last + 1) → (last + 1 < first → i ≡ first) →
      (if nat_le first c && nat_lt c i then Some k else o) ≡ (if nat_le first c && nat_le c last then Some k else o)
  letters_ended first last i c past up none = each (nat_le first c) (nat_lt c i) (nat_le c last) refl refl refl
    where
      over : (b : Bool) → nat_le first (last + 1) ≡ b → nat_le first c ≡ true → nat_lt c i ≡ true → nat_le c last ≡ false → ⊥
      over true is low before now = let h : first ≤ last + 1 = grind (arith, is) in let e : i ≤ last + 1 = up h in grind (arith, e, before, now)
      over false is low before now = let h : last + 1 < first = grind (arith, is) in let e : i ≡ first = none h in grind (arith, e, before, low)

      each : (a b q : Bool) → nat_le first c ≡ a → nat_lt c i ≡ b → nat_le c last ≡ q → (if a && b then Some k else o) ≡ (if a && q then Some k else o)
      each true true true low before now = refl
      each true true false low before now = absurd (over (nat_le first (last + 1)) refl low before now)
      each true false true low before now = absurd (grind (arith, past, before, now))
      each true false false low before now = refl
      each false b q low before now = refl
