-- Facts on tests.
use Rattle.std.proofs.Common.{◌≡◌, Bool, true, false, refl, ◌⊎◌, inl, inr}
use Rattle.std.specs.Prelude.{◌&&◌, ◌||◌, not}
use Rattle.grammar.specs.Lookahead.{implies}

pub or_left : (a b : Bool) → a ≡ true → a || b ≡ true
or_left true b h = refl
or_left false b h = cc

pub or_right : (a b : Bool) → b ≡ true → a || b ≡ true
or_right true b h = refl
or_right false b h = h

pub or_cases : (a b : Bool) → a || b ≡ true → (a ≡ true) ⊎ (b ≡ true)
or_cases true b h = inl refl
or_cases false b h = inr h

pub and_both : (a b : Bool) → a ≡ true → b ≡ true → a && b ≡ true
and_both true b h g = g
and_both false b h g = cc

pub and_left : (a b : Bool) → a && b ≡ true → a ≡ true
and_left true b h = refl
and_left false b h = h

pub and_right : (a b : Bool) → a && b ≡ true → b ≡ true
and_right true b h = h
and_right false b h = cc

pub apply : (a b : Bool) → implies a b ≡ true → a ≡ true → b ≡ true
apply true b h g = h
apply false b h g = cc

pub implied : (a b : Bool) → (a ≡ true → b ≡ true) → implies a b ≡ true
implied true b h = h refl
implied false b h = refl

pub never_both : (b : Bool) → b ≡ true → not b ≡ true → ⊥
never_both true h g = cc
never_both false h g = cc

pub no_true : false ≡ true → ⊥
no_true h = cc
