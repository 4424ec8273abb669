-- Units of a program in memory, and its main.
use Rattle.std.proofs.Common.{◌≡◌, ◌<◌, ℕ, zero, suc, List, [], ◌∷◌, length, map, slice_index_or, None, Some, refl, sym, ap, arith}
use Rattle.std.specs.List.{slice_get}
use Rattle.std.proofs.lemmas.List.{length-map}
use Rattle.ground.specs.declared.place.Place.{Place}
use Rattle.ground.specs.declared.fault.FaultKind.TheVariants.{MainCount}
use Rattle.f66_tree.specs.declared.unit.Unit.{Unit}
use Rattle.f66_tree.specs.Views.{routine_of}
use Rattle.linker.specs.Mains.{HasNoMain}
use Rattle.linker.specs.Rules.{IsKept, program_of}
use Rattle.linker.proofs.MainLemmas.{no_main}
use Rattle.linker.proofs.PartLemmas.{none_at_end}

-- an element that is read at its index, seen by f
pub unit_at : {X Y : Type 0} (f : X → Y) (xs : List X) (i : ℕ) (x : X) → i < length xs → x ≡ slice_index_or xs i x → slice_get (map f xs) i ≡ Some (f x)
unit_at f [] i x lt e = absurd (omega (arith, lt))
unit_at f (y ∷ xs) zero x lt e = ap (λ z. Some (f z)) (sym e)
unit_at f (y ∷ xs) (suc i) x lt e = unit_at f xs i x (omega (arith, lt)) e

-- where the rule on mains is kept, there is a main
pub main_there : (units : List Unit) (finish : Place) → IsKept MainCount (program_of units finish) → HasNoMain (map routine_of units) (length units) → ⊥
main_there units finish kept none =
    let p = program_of units finish in
    let all : HasNoMain p.units (length p.units) = rw (length-map {A = _} units routine_of) none in
    let behind : slice_get (map routine_of units) (length (map routine_of units)) ≡ None = rw (length-map {A = _} units routine_of) (none_at_end routine_of units) in
    let b = no_main p all behind (record { kind = MainCount; place = finish; number = 0 }) refl refl refl in
    kept b.part b.broken
