-- Numbers that come into groups one after another.
use Rattle.std.proofs.Common.{◌≡◌, ◌<◌, ◌≤◌, ℕ, zero, suc, ◌+◌, Bool, true, false, List, [], ◌∷◌, ◌++◌, length, get_or, map, Vec, Global, refl, sym, ap, ◌∙◌, arith}
use Rattle.std.proofs.Math.ListN.{set}
use Rattle.std.specs.Prelude.{if◌then◌else◌}
use Rattle.std.proofs.lemmas.List.{append-nil}
use Rattle.ground.specs.declared.value.Kind.{Kind}
use Rattle.efl_tree.specs.Syntax.{EflProcedure}
use Rattle.efl_lowered.specs.Lowering.{gives}
use Rattle.efl_variables.specs.declared.variables.Variable.{Variable}
use Rattle.efl_units.specs.Groups.{groups_of, put_in, put_all, group_at, is_kind, owned_in, called_in}

pub put_both : (ps qs : List (ℕ × ℕ)) (gs : List (List ℕ)) → put_all qs (put_all ps gs) ≡ put_all (ps ++ qs) gs
put_both [] qs gs = refl
put_both (p ∷ ps) qs gs = put_both ps qs (put_in gs p.0 p.1)

-- a variable more
owned_step : (k : Kind) (i : ℕ) (v : Variable) (vs : List Variable) (gs : List (List ℕ)) → put_all (owned_in k (i + 1) vs) (put_all (owned_in k i (v ∷ [])) gs) ≡ put_all (owned_in k i (v ∷ vs)) gs
owned_step k i v vs gs = each (is_kind k v.kind)
  where
    each : (b : Bool) → put_all (owned_in k (i + 1) vs) (put_all (if b then (v.unit, i) ∷ [] else []) gs) ≡ put_all (if b then (v.unit, i) ∷ owned_in k (i + 1) vs else owned_in k (i + 1) vs) gs
    each true = refl
    each false = refl

pub owned_more : (k : Kind) (i : ℕ) (v : Variable) (here left : List Variable) (old new : List (List ℕ)) → here ≡ v ∷ left → new ≡ put_all (owned_in k i (v ∷ [])) old → put_all (owned_in k (i + 1) left) new ≡ put_all (owned_in k i here) old
owned_more k i v here left old new is put = ap (put_all (owned_in k (i + 1) left)) put ∙ owned_step k i v left old ∙ ap (λ vs. put_all (owned_in k i vs) old) (sym is)

-- a procedure more
called_step : (k : Kind) (cs : List (List ℕ)) (i : ℕ) (u : EflProcedure) (us : List EflProcedure) (gs : List (List ℕ)) →
    put_all (called_in k cs (i + 1) us) (put_all (called_in k cs i (u ∷ [])) gs) ≡ put_all (called_in k cs i (u ∷ us)) gs
called_step k cs i u us gs = each (gives k u)
  where
    each : (b : Bool) → put_all (called_in k cs (i + 1) us) (put_all (if b then map (λ n. (n, i)) (group_at cs i) ++ [] else []) gs)
        ≡ put_all (if b then map (λ n. (n, i)) (group_at cs i) ++ called_in k cs (i + 1) us else called_in k cs (i + 1) us) gs
    each true = ap (λ ps. put_all (called_in k cs (i + 1) us) (put_all ps gs)) (append-nil (map (λ n. (n, i)) (group_at cs i))) ∙ put_both (map (λ n. (n, i)) (group_at cs i)) (called_in k cs (i + 1) us) gs
    each false = refl

pub called_more : (k : Kind) (cs : List (List ℕ)) (i : ℕ) (u : EflProcedure) (here left : List EflProcedure) (old new : List (List ℕ)) → here ≡ u ∷ left → new ≡ put_all (called_in k cs i (u ∷ [])) old →
    put_all (called_in k cs (i + 1) left) new ≡ put_all (called_in k cs i here) old
called_more k cs i u here left old new is put = ap (put_all (called_in k cs (i + 1) left)) put ∙ called_step k cs i u left old ∙ ap (λ us. put_all (called_in k cs i us) old) (sym is)

-- ---- in memory ----

pub put_set : (gs : List (Vec ℕ Global)) (n x : ℕ) (old new : Vec ℕ Global) → n < length gs → old ≡ get_or gs n old → new.items ≡ old.items ++ x ∷ [] → groups_of (set gs n new) ≡ put_in (groups_of gs) n x
put_set [] n x old new lt is more = absurd (omega (arith, lt))
put_set (g ∷ gs) zero x old new lt is more = ap (λ xs. xs ∷ groups_of gs) (more ∙ ap (λ v. v.items ++ x ∷ []) is)
put_set (g ∷ gs) (suc n) x old new lt is more = ap (λ all. g.items ∷ all) (put_set gs n x old new (omega (arith, lt)) is more)

pub put_past : (gs : List (Vec ℕ Global)) (n x : ℕ) → length gs ≤ n → groups_of gs ≡ put_in (groups_of gs) n x
put_past [] n x le = refl
put_past (g ∷ gs) zero x le = absurd (omega (arith, le))
put_past (g ∷ gs) (suc n) x le = ap (λ all. g.items ∷ all) (put_past gs n x (omega (arith, le)))
