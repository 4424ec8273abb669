-- The first unit up to which a program has too many storage units.
use Rattle.std.proofs.Common.{◌≡◌, ◌<◌, ◌≤◌, ◌+◌, ◌∷◌, [], ℕ, zero, suc, List, length, map, take, Option, None, Some, refl, sym, ◌∙◌, ap, arith, inl, inr, subst}
use Rattle.std.proofs.lemmas.List.{take_all}
use Rattle.std.proofs.lemmas.Option.{slice_get_within}
use Rattle.std.specs.List.{All, slice_get}
use Rattle.ground.specs.declared.fault.Fault.{Fault}
use Rattle.ground.specs.declared.fault.FaultKind.TheVariants.{Limit}
use Rattle.f66_tree.specs.Syntax.{Text, Routine}
use Rattle.f66_program.specs.Association.{IsBadUnit, IsNumbering, HasUnits}
use Rattle.f66_program.specs.Linking.{Program, Part, at_part, first_of, place_of_part, IsEarlier, IsTooLarge}
use Rattle.linker.specs.Rules.{IsKept, IsFirstBroken}
use Rattle.linker.proofs.PartLemmas.{place_here}
use Rattle.program_storage.specs.Limits.{IsLargeAt, IsSmallAt, IsFirstLarge}
use Rattle.program_storage.proofs.FewerLemmas.{fewer_units}

pub small_earlier : (most : ℕ) (rs : List Routine) → All (λ r. ¬ IsBadUnit r) rs → (i u : ℕ) → i ≤ u → IsSmallAt most rs u → ¬ IsLargeAt most rs i
small_earlier most rs well i u le small large =
    let few : large.0 ≤ small.0 = fewer_units rs well (suc i) (suc u) large.0 small.0 (omega (arith, le)) large.1 small.1 in
    let least = small.2 in
    let more = large.2 in
    omega (arith, few, least, more)

map_take : {X Y : Type 0} (f : X → Y) (n : ℕ) (xs : List X) → map f (take n xs) ≡ take n (map f xs)
map_take f zero xs = refl
map_take f (suc n) [] = refl
map_take f (suc n) (x ∷ xs) = ap (λ ys. f x ∷ ys) (map_take f n xs)

-- the units up to one, counted
pub counted : {X : Type 0} (f : X → Routine) (units : List X) (u total : ℕ) (number : ℕ → Text → ℕ → Option ℕ) → IsNumbering (map f (take (u + 1) units)) number total → HasUnits (take (suc u) (map f units)) total
counted f units u total number n =
    let e : u + 1 ≡ suc u = omega arith in
    (number, subst (λ rs. IsNumbering rs number total) (map_take f (u + 1) units ∙ ap (λ k. take k (map f units)) e) n)

too_large : (p : Program) (q : Part) → IsTooLarge p q → IsLargeAt 2000000 p.units q.unit
too_large p q b = (b.total, b.has, b.large)

unit_inside : (p : Program) (q : Part) → IsTooLarge p q → q.unit < length p.units
unit_inside p q b = slice_get_within p.units q.unit b.unit b.here

-- all units are the units up to the last one
all_taken : {X : Type 0} (xs : List X) → take (length xs) xs ≡ xs
all_taken xs = take_all (length xs) xs (omega arith)

pub all_small : (p : Program) → All (λ r. ¬ IsBadUnit r) p.units → (total : ℕ) → HasUnits p.units total → total ≤ 2000000 → IsKept Limit p
all_small p well total has small q b =
    let l = unit_inside p q b in
    let whole : HasUnits (take (length p.units) p.units) total = subst (λ rs. HasUnits rs total) (sym (all_taken p.units)) has in
    let few : b.total ≤ total = fewer_units p.units well (suc q.unit) (length p.units) b.total total (omega (arith, l)) b.has whole in
    let more = b.large in
    omega (arith, few, small, more)

-- a program of no units has no storage units
pub some_units : (rs : List Routine) (total : ℕ) → HasUnits rs total → 0 < total → 0 < length rs
some_units [] total has lt = absurd (let w = has.1.onto 0 lt in let r = has.1.real w.0 w.1 w.2 0 w.3 in let e : None ≡ Some r.unit = r.here in cc)
some_units (r ∷ rs) total has lt = omega arith

pub all_large : (most : ℕ) (rs : List Routine) (last total : ℕ) → suc last ≡ length rs → HasUnits rs total → most < total → IsLargeAt most rs last
all_large most rs last total e has large = (total, subst (λ rs. HasUnits rs total) (sym (ap (λ n. take n rs) e ∙ all_taken rs)) has, large)

pub first_large : (p : Program) (u : ℕ) (r : Routine) → slice_get p.units u ≡ Some r → IsFirstLarge 2000000 p.units u → (f : Fault) → f.kind ≡ Limit → f.number ≡ 8 →
    place_of_part r (first_of r) ≡ Some f.place → IsFirstBroken Limit p f
first_large p u r here l f kind number place = record {
  kind = kind;
  number = number;
  part = at_part u (first_of r);
  broken = record { unit = r; here = here; number = refl; total = l.large.0; has = l.large.1; large = l.large.2 };
  earlier = none_earlier;
  place = place_here p (at_part u (first_of r)) r here ∙ place;
}
  where
    none_earlier : (q : Part) → IsEarlier q (at_part u (first_of r)) → ¬ IsTooLarge p q
    none_earlier q (inl lt) b = l.earlier q.unit lt (too_large p q b)
    none_earlier q (inr e) b =
        let same : b.unit ≡ r = (let at : Some b.unit ≡ Some r = sym b.here ∙ subst (λ n. slice_get p.units n ≡ Some r) (sym e.0) here in cc) in
        let at : q.part ≡ first_of r = b.number ∙ ap first_of same in
        let lt = e.1 in
        omega (arith, at, lt)
