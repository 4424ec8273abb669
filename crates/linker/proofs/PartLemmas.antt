-- Units of a program in memory.
use Rattle.std.proofs.Common.{◌≡◌, ◌<◌, ℕ, zero, suc, List, [], ◌∷◌, length, map, get_or, Option, None, Some, refl, sym, ap, ◌∙◌, arith}
use Rattle.std.specs.List.{Contains, slice_get}
use Rattle.f66_tree.specs.Syntax.{Routine}
use Rattle.f66_program.specs.Linking.{Program, Part, place_in, place_of_part}

-- an element that a loop reads, seen by f
pub got_mapped : {X Y : Type 0} (f : X → Y) (xs : List X) (i : ℕ) (x : X) → i < length xs → x ≡ get_or xs i x → slice_get (map f xs) i ≡ Some (f x)
got_mapped f [] i x lt e = absurd (omega (arith, lt))
got_mapped f (y ∷ xs) zero x lt e = ap (λ z. Some (f z)) (sym e)
got_mapped f (y ∷ xs) (suc i) x lt e = got_mapped f xs i x (omega (arith, lt)) e

-- a list has nothing at its end
pub none_at_end : {X Y : Type 0} (f : X → Y) (xs : List X) → slice_get (map f xs) (length xs) ≡ None
none_at_end f [] = refl
none_at_end f (y ∷ xs) = none_at_end f xs

-- what a list has stands before its end
pub got_below : {X Y : Type 0} (f : X → Y) (xs : List X) (i : ℕ) (y : Y) → slice_get (map f xs) i ≡ Some y → i < length xs
got_below f [] i y e = absurd (cc)
got_below f (x ∷ xs) zero y e = omega arith
got_below f (x ∷ xs) (suc i) y e = (let l = got_below f xs i y e in omega (arith, l))

-- what a list has at a place, it contains
pub contains_got : {X : Type 0} (xs : List X) (i : ℕ) (x : X) → slice_get xs i ≡ Some x → Contains xs x
contains_got [] i x e = absurd (cc)
contains_got (y ∷ xs) zero x e = (0, omega arith, (let f : Some y ≡ Some x = e in cc))
contains_got (y ∷ xs) (suc i) x e = (let c = contains_got xs i x e in (suc c.0, (let l = c.1 in omega (arith, l)), c.2))

-- and what it contains, it has at a place
pub got_contained : {X : Type 0} (xs : List X) (i : ℕ) (x : X) → i < length xs → get_or xs i x ≡ x → slice_get xs i ≡ Some x
got_contained [] i x lt e = absurd (omega (arith, lt))
got_contained (y ∷ xs) zero x lt e = ap Some e
got_contained (y ∷ xs) (suc i) x lt e = got_contained xs i x (omega (arith, lt)) e

pub got_inside : {X : Type 0} (xs : List X) (i : ℕ) (x : X) → slice_get xs i ≡ Some x → i < length xs
got_inside [] i x e = absurd (cc)
got_inside (y ∷ xs) zero x e = omega arith
got_inside (y ∷ xs) (suc i) x e = (let l = got_inside xs i x e in omega (arith, l))

pub same_unit : {r s : Routine} (o : Option Routine) → o ≡ Some r → o ≡ Some s → r ≡ s
same_unit o e f = (let g = sym e ∙ f in cc)

-- the place of a part of a unit, and that behind all units
pub place_here : (p : Program) (q : Part) (r : Routine) → slice_get p.units q.unit ≡ Some r → place_in p q ≡ place_of_part r q.part
place_here p q r e = ap (λ o. elim o [ Some r ↦ place_of_part r q.part | None ↦ Some p.finish ]) e

pub place_behind : (p : Program) (q : Part) → slice_get p.units q.unit ≡ None → place_in p q ≡ Some p.finish
place_behind p q e = ap (λ o. elim o [ Some r ↦ place_of_part r q.part | None ↦ Some p.finish ]) e
