-- A program links that says what one that links says.
use Rattle.std.specs.Prelude.{◌≤◌, ◌+◌, ℕ, List, length}
use Rattle.std.specs.List.{All}
use Rattle.ground.specs.declared.place.Place.{Place}
use Rattle.f66_program.specs.Association.{IsBadUnit, HasUnits}
use Rattle.f66_program.specs.Linking.{IsWhole}
use Rattle.spared_units.specs.Spared.{Pair, said_units, made_units, Twins, ones, others}

-- its units are not bad either
abbrev pub SparedIsWell : Type 0
SparedIsWell = (p : Pair) → ¬ IsBadUnit p.said → ¬ IsBadUnit p.made

-- and there is room for one spare variable of each
abbrev pub SparedIsWhole : Type 0
SparedIsWhole =
    (ps : List Pair) (finish : Place) (total : ℕ) → All (λ p. ¬ IsBadUnit p.said) ps → HasUnits (said_units ps) total → total + length ps ≤ 2000000 →
    IsWhole (record { units = said_units ps; finish = finish }) → IsWhole (record { units = made_units ps; finish = finish })

-- Of twins the ones link where the others do, and have as many storage units.
abbrev pub TwinsLink : Type 0
TwinsLink =
    (ts : List Twins) (finish : Place) (total : ℕ) → All (λ t. ¬ IsBadUnit t.one) ts → HasUnits (others ts) total → total ≤ 2000000 →
    IsWhole (record { units = others ts; finish = finish }) → HasUnits (ones ts) total × IsWhole (record { units = ones ts; finish = finish })
