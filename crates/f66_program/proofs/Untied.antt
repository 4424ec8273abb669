-- Units without ties, as those without COMMON and EQUIVALENCE are: no two places are one, so the association is not bad.
use Rattle.std.proofs.Common.{◌≡◌, ℤ, pos, [], refl, sym, ◌∙◌, subst, arith}
use Rattle.std.proofs.lemmas.Int.{ints}
use Rattle.f66_tree.specs.Syntax.{Routine}
use Rattle.f66_program.specs.Association.{Row, IsSame, by_tie, itself, back, onward, AreBad, twice, joined, before, IsBadUnit, unit_ties}

-- a place is one with itself alone
pub not_tied : {a b : Row} {d : ℤ} → IsSame [] a b d → (a ≡ b) × (d ≡ pos 0)
not_tied (by_tie t c) = absurd (omega (arith, c.1))
not_tied (itself a) = (refl, refl)
not_tied (back h) = (let w = not_tied h in (sym w.0, omega (arith, ints, w.1)))
not_tied (onward h k) = (let v = not_tied h in let w = not_tied k in (v.0 ∙ w.0, omega (arith, ints, v.1, w.1)))

pub none_bad : ¬ AreBad []
none_bad (twice ne h) = ne (not_tied h).1
none_bad (joined ne h) = ne (let e = (not_tied h).0 in cc)
none_bad (before less h) = (let e = (not_tied h).1 in absurd (omega (arith, ints, less, e)))

pub untied_good : (r : Routine) → unit_ties 0 r ≡ [] → ¬ IsBadUnit r
untied_good r none bad = none_bad (subst AreBad none bad)
