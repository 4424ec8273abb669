-- The variables of the outer block of a procedure.
use Rattle.std.proofs.Common.{◌≡◌, ◌≤◌, ℕ, zero, suc, Bool, true, false, List, [], ◌∷◌, ◌++◌, map, Option, None, Some, refl, sym, nat_eq, arith}
use Rattle.std.specs.Prelude.{if◌then◌else◌}
use Rattle.std.specs.List.{list_any}
use Rattle.std.specs.Str.{bytes_eq}
use Rattle.std.specs.Option.{option_or}
use Rattle.std.proofs.lemmas.Bool.{eq-eqb}
use Rattle.std.proofs.lemmas.Option.{same_Some}
use Rattle.std.proofs.lemmas.Slice.Eq.{bytes_eq-Decides}
use Rattle.rule_table.specs.Words.{find_map}
use Rattle.efl_tree.specs.Syntax.{Text, EflVar, EflGroups, NoGroup, AndGroup, EflDecl, EflDeclKind, Implicit, Initial, Variables, Area, Structure, EflProcedure}
use Rattle.efl_scope.specs.DataTypes.{DataType}
use Rattle.efl_scope.specs.Scopes.{Variable, Blocks, Implied, Meaning, IsVariable, variable_of, meaning, data_type, behind, behind_declaration, variable, group_variables, declared_by, declared_in, naming, implied_of, undeclared, own_variables, outer}
use Rattle.efl_scope.specs.Marks.{by_letter_of, meant_by}
use Rattle.efl_scoped.specs.Numbers.{Table, AreAbove}
use Rattle.efl_units.proofs.Equals.{not_zero}
use Rattle.efl_variables.specs.Keys.{pair, list_number}

abbrev AreTop : List Variable → Type 0
AreTop [] = Unit {0}
AreTop (v ∷ vs) = (v.home ≡ []) × AreTop vs

both_top : (vs ws : List Variable) → AreTop vs → AreTop ws → AreTop (vs ++ ws)
both_top [] ws a b = b
both_top (v ∷ vs) ws a b = (a.0, both_top vs ws a.1 b)

listed_top : (q : Option Text) (t : DataType) (vs : List EflVar) → AreTop (map (variable [] q t) vs)
listed_top q t [] = tt
listed_top q t (v ∷ vs) = (refl, listed_top q t vs)

groups_top : (q : Text) (bs : Blocks) (gs : EflGroups) → AreTop (group_variables q bs gs)
groups_top q bs NoGroup = tt
groups_top q bs (AndGroup a vs p gs) = both_top (map (variable [] (Some q) (data_type bs a)) vs) (group_variables q (behind bs a) gs) (listed_top (Some q) (data_type bs a) vs) (groups_top q (behind bs a) gs)

declaration_top : (bs : Blocks) (k : EflDeclKind) → AreTop (declared_by [] bs k)
declaration_top bs (Implicit rs a) = tt
declaration_top bs (Initial ps) = tt
declaration_top bs (Variables q a vs) = listed_top q (data_type bs a) vs
declaration_top bs (Area q gs) = groups_top q bs gs
declaration_top bs (Structure x gs) = tt

declared_top : (bs : Blocks) (ds : List EflDecl) → AreTop (declared_in [] bs ds)
declared_top bs [] = tt
declared_top bs (d ∷ ds) = both_top (declared_by [] bs d.kind) (declared_in [] (behind_declaration bs d.kind) ds) (declaration_top bs d.kind) (declared_top (behind_declaration bs d.kind) ds)

undeclared_top : (rules : List Implied) (vs : List Variable) (xs : List Text) → AreTop (undeclared rules vs xs)
undeclared_top rules vs [] = tt
undeclared_top rules vs (x ∷ xs) = each (list_any (λ v. bytes_eq x v.name) vs) (undeclared_top rules vs xs)
  where
    each : (b : Bool) → AreTop (undeclared rules vs xs) → AreTop (if b then undeclared rules vs xs else by_letter_of rules x ∷ undeclared rules vs xs)
    each true rest = rest
    each false rest = (refl, rest)

-- what a name means there, or else what its letter gives, is of the outer block and has the name
abbrev pub IsTop : Text → Variable → Type 0
IsTop x v = (v.home ≡ []) × (v.name ≡ x)

found_top : (x : Text) (vs : List Variable) → AreTop vs → IsTop x (meant_by [] x (find_map (variable_of x) vs))
found_top x [] h = (refl, refl)
found_top x (v ∷ vs) h = each (bytes_eq x v.name) refl (found_top x vs h.1)
  where
    each : (b : Bool) → bytes_eq x v.name ≡ b → IsTop x (meant_by [] x (find_map (variable_of x) vs)) → IsTop x (meant_by [] x (option_or (if b then Some (IsVariable v) else None) (find_map (variable_of x) vs)))
    each true e rest = (h.0, sym ((bytes_eq-Decides x v.name).0 e))
    each false e rest = rest

alone : (x : Text) (o : Option Meaning) → IsTop x (meant_by [] x o) → IsTop x (meant_by [] x (option_or o None))
alone x None h = h
alone x (Some m) h = h

pub meant_top : (u : EflProcedure) (x : Text) → IsTop x (meant_by [] x (meaning (outer u) x))
meant_top u x =
    let own = own_variables u in
    let others = undeclared (implied_of u) own u.formals in
    alone x (find_map (variable_of x) (own ++ others)) (found_top x (own ++ others) (both_top own others (declared_top (naming u.declarations ∷ []) u.declarations) (undeclared_top (implied_of u) own u.formals)))

-- ---- numbers of places ----

-- the outer block alone has the number 0
pub is_outer : (f : Table) → AreAbove f → (h : List ℕ) (n : ℕ) → list_number f h ≡ Some n → nat_eq n 0 ≡ bytes_eq h []
is_outer f above [] n is = each n is
  where
    each : (n : ℕ) → Some 0 ≡ Some n → nat_eq n 0 ≡ true
    each n e = eq-eqb n 0 (sym (same_Some 0 n e))
is_outer f above (w ∷ ws) n is = below (list_number f ws) is
  where
    below : (o : Option ℕ) → pair f (Some w) o ≡ Some n → nat_eq n 0 ≡ false
    below None e = absurd cc
    below (Some m) e = positive n (above w m n e)
      where
        positive : (k : ℕ) → 4 ≤ k → nat_eq k 0 ≡ false
        positive zero h = absurd (omega (arith, h))
        positive (suc k) h = not_zero k
