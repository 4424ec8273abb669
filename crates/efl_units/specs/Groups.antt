-- Numbers in groups, which have numbers too.
use Rattle.std.specs.Prelude.{ℕ, zero, suc, ◌+◌, Bool, true, false, List, [], ◌∷◌, ◌++◌, map, slice_get, Option, Some, unwrap_or, if◌then◌else◌}
use Rattle.std.specs.declared.vec.Vec.{Vec}
use Rattle.std.specs.declared.alloc.Global.{Global}
use Rattle.ground.specs.declared.value.Kind.{Kind}
use Rattle.ground.specs.declared.value.Kind.TheVariants.{Integer, Logical}
use Rattle.efl_tree.specs.Syntax.{EflProcedure}
use Rattle.efl_lowered.specs.Lowering.{gives}
use Rattle.efl_variables.specs.declared.variables.Variable.{Variable}

abbrev pub groups_of : List (Vec ℕ Global) → List (List ℕ)
groups_of groups = map (λ g. g.items) groups

-- a number more in a group, where there is one
abbrev pub put_in : List (List ℕ) → ℕ → ℕ → List (List ℕ)
put_in [] n x = []
put_in (g ∷ gs) zero x = (g ++ x ∷ []) ∷ gs
put_in (g ∷ gs) (suc n) x = g ∷ put_in gs n x

-- numbers more, each behind that of its group
abbrev pub put_all : List (ℕ × ℕ) → List (List ℕ) → List (List ℕ)
put_all [] gs = gs
put_all (p ∷ ps) gs = put_all ps (put_in gs p.0 p.1)

-- whether a variable is a scalar of this type
abbrev pub is_kind : Kind → Option Kind → Bool
is_kind Integer (Some Integer) = true
is_kind Logical (Some Logical) = true
is_kind k o = false

-- the variables of this type, from a number on, each behind that of its procedure
abbrev pub owned_in : Kind → ℕ → List Variable → List (ℕ × ℕ)
owned_in k i [] = []
owned_in k i (v ∷ vs) = if is_kind k v.kind then (v.unit, i) ∷ owned_in k (i + 1) vs else owned_in k (i + 1) vs

abbrev pub group_at : List (List ℕ) → ℕ → List ℕ
group_at gs n = unwrap_or (slice_get gs n) []

-- the functions of this type, from a number on, each behind those of its callers
abbrev pub called_in : Kind → List (List ℕ) → ℕ → List EflProcedure → List (ℕ × ℕ)
called_in k gs i [] = []
called_in k gs i (u ∷ us) = if gives k u then map (λ n. (n, i)) (group_at gs i) ++ called_in k gs (i + 1) us else called_in k gs (i + 1) us
