-- The variables of a type of each procedure.
use Rattle.std.proofs.Common.{◌≡◌, ℕ, ◌+◌, nat_eq, Bool, true, false, cond, List, [], ◌∷◌, map, refl, sym, ap, ◌∙◌}
use Rattle.std.specs.Prelude.{filter, ◌&&◌, if◌then◌else◌}
use Rattle.std.specs.List.{AllZip, enumerate_from}
use Rattle.ground.specs.declared.value.Kind.{Kind}
use Rattle.ground.specs.declared.value.Kind.TheVariants.{Integer, Logical}
use Rattle.efl_scope.specs.DataTypes.{DataType, NoType, Scalar, Structured, Array}
use Rattle.efl_scope.specs.Marks.{Located}
use Rattle.efl_scoped.specs.Numbers.{Table}
use Rattle.efl_lowered.specs.Lowering.{is_scalar, stands_in}
use Rattle.efl_variables.specs.declared.variables.Variable.{Variable}
use Rattle.efl_variables.specs.Numbered.{scalar_kind, IsListed}
use Rattle.efl_units.specs.Groups.{is_kind, owned_in}
use Rattle.efl_units.proofs.Grouped.{got}

same_kind : (k : Kind) (t : DataType) → is_kind k (scalar_kind t) ≡ is_scalar k t
same_kind Integer (Scalar Integer) = refl
same_kind Integer (Scalar Logical) = refl
same_kind Logical (Scalar Integer) = refl
same_kind Logical (Scalar Logical) = refl
same_kind Integer NoType = refl
same_kind Logical NoType = refl
same_kind Integer (Structured ms) = refl
same_kind Logical (Structured ms) = refl
same_kind Integer (Array bs t) = refl
same_kind Logical (Array bs t) = refl

module _ (f : Table) (m : ℕ) (k : Kind) where
  abbrev others : ℕ → List Located → List (ℕ × Located)
  others i xs = filter (λ y. stands_in m k y.1) (enumerate_from i xs)

  -- with the first, or without it
  abbrev chosen : ℕ → Located → List Located → Bool → List ℕ
  chosen i x xs b = map (λ y. y.0) (cond b ((i, x) ∷ others (i + 1) xs) (others (i + 1) xs))

  pub owned_by : (xs : List Located) (vs : List Variable) (i : ℕ) → AllZip (IsListed f) xs vs → got m (owned_in k i vs) ≡ map (λ x. x.0) (filter (λ x. stands_in m k x.1) (enumerate_from i xs))
  owned_by [] [] i h = refl
  owned_by [] (v ∷ vs) i h = absurd h
  owned_by (x ∷ xs) [] i h = absurd h
  owned_by (x ∷ xs) (v ∷ vs) i h =
      ap (λ b. got m (if b then (v.unit, i) ∷ owned_in k (i + 1) vs else owned_in k (i + 1) vs)) kind ∙ each (is_scalar k x.variable.kind) (owned_by xs vs (i + 1) h.1) ∙ ap (chosen i x xs) (sym units)
    where
      kind : is_kind k v.kind ≡ is_scalar k x.variable.kind
      kind = ap (is_kind k) h.0.kind ∙ same_kind k x.variable.kind

      units : (nat_eq x.unit m && is_scalar k x.variable.kind) ≡ (nat_eq v.unit m && is_scalar k x.variable.kind)
      units = ap (λ u. nat_eq u m && is_scalar k x.variable.kind) (sym h.0.unit)

      by_unit : (a : Bool) → got m (owned_in k (i + 1) vs) ≡ map (λ y. y.0) (others (i + 1) xs) → cond a (i ∷ got m (owned_in k (i + 1) vs)) (got m (owned_in k (i + 1) vs)) ≡ chosen i x xs (a && true)
      by_unit true rest = ap (λ all. i ∷ all) rest
      by_unit false rest = rest

      none : (a : Bool) → got m (owned_in k (i + 1) vs) ≡ map (λ y. y.0) (others (i + 1) xs) → got m (owned_in k (i + 1) vs) ≡ chosen i x xs (a && false)
      none true rest = rest
      none false rest = rest

      each : (b : Bool) → got m (owned_in k (i + 1) vs) ≡ map (λ y. y.0) (others (i + 1) xs) → got m (if b then (v.unit, i) ∷ owned_in k (i + 1) vs else owned_in k (i + 1) vs) ≡ chosen i x xs (nat_eq v.unit m && b)
      each true rest = by_unit (nat_eq v.unit m) rest
      each false rest = none (nat_eq v.unit m) rest
