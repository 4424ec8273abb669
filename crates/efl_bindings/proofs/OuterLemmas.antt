-- Formals that come into the outer block.
use Rattle.std.proofs.Common.{◌≡◌, ℕ, Bool, true, false, ◌||◌, List, [], ◌∷◌, ◌++◌, Option, Some, None, refl, sym, subst, ◌∙◌, append_assoc, if◌then◌else◌}
use Rattle.std.specs.List.{list_any}
use Rattle.std.specs.Option.{option_or}
use Rattle.std.specs.Str.{bytes_eq}
use Rattle.std.proofs.lemmas.List.{append-nil}
use Rattle.std.proofs.lemmas.Slice.Eq.{bytes_eq-Decides}
use Rattle.rule_table.specs.Words.{find_map}
use Rattle.efl_tree.specs.Syntax.{Text, EflProcedure}
use Rattle.efl_scope.specs.Scopes.{Variable, Meaning, IsVariable, variable_of, Implied, implicit_type, implied_of, undeclared, own_variables, naming}
use Rattle.efl_scope.specs.Marks.{Located}
use Rattle.efl_typed_tree.specs.declared.expression.Scalar as scalars
use Rattle.efl_variables.specs.declared.variables.Variables.{Variables}
use Rattle.efl_variables.specs.Numbered.{AreVariables}
use Rattle.efl_bindings.specs.declared.scopes.Table.{Table}
use Rattle.efl_bindings.specs.declared.letters.Letters.{Letters}
use Rattle.efl_bindings.specs.declared.homes.Home.{Home}
use Rattle.efl_bindings.specs.Bindings.{IsScalar, IsMeant, scalar_in, kind_by, AreScalars, AreLetters}
use Rattle.efl_bindings.specs.Declarations.{IsHome, AreDeclared, DeclaresFormals, IsOuter}
use Rattle.efl_bindings.proofs.TableLemmas.{or_none, more_variables, Comes, variable_comes, IsNumber}

-- one of these names goes before what comes later
declared_first : (x : Text) (vs us : List Variable) (o : Option Meaning) → list_any (λ v. bytes_eq x v.name) vs ≡ true →
    option_or (find_map (variable_of x) (vs ++ us)) o ≡ find_map (variable_of x) (vs ++ us)
declared_first x [] us o is = absurd (let f : false ≡ true = is in cc)
declared_first x (v ∷ vs) us o is = each (bytes_eq x v.name) is (λ there. declared_first x vs us o there)
  where
    each : (b : Bool) → (b || list_any (λ w. bytes_eq x w.name) vs) ≡ true →
        (list_any (λ w. bytes_eq x w.name) vs ≡ true → option_or (find_map (variable_of x) (vs ++ us)) o ≡ find_map (variable_of x) (vs ++ us)) →
        option_or (option_or (if b then Some (IsVariable v) else None) (find_map (variable_of x) (vs ++ us))) o ≡
        option_or (if b then Some (IsVariable v) else None) (find_map (variable_of x) (vs ++ us))
    each true there on = refl
    each false there on = on there

declared_already : (x q : Text) (v : Variable) (vs us : List Variable) → list_any (λ w. bytes_eq x w.name) vs ≡ true →
    option_or (find_map (variable_of q) (vs ++ us)) (if bytes_eq q x then Some (IsVariable v) else None) ≡ find_map (variable_of q) (vs ++ us)
declared_already x q v vs us is = each (bytes_eq q x) refl
  where
    each : (b : Bool) → bytes_eq q x ≡ b → option_or (find_map (variable_of q) (vs ++ us)) (if b then Some (IsVariable v) else None) ≡ find_map (variable_of q) (vs ++ us)
    each false same = or_none (find_map (variable_of q) (vs ++ us))
    each true same =
        subst (λ p. option_or (find_map (variable_of p) (vs ++ us)) (Some (IsVariable v)) ≡ find_map (variable_of p) (vs ++ us)) (sym ((bytes_eq-Decides q x).0 same))
        (declared_first x vs us (Some (IsVariable v)) is)

abbrev formal_by : List Implied → Text → Variable
formal_by rules x = record { name = x; home = []; kind = implicit_type rules x; area = None }

formal_comes : (xs : List Located) (n : ℕ) (rules : List Implied) (vs us : List Variable) (old new : Table) (x : Text) (s : scalars.Scalar) (rest all : List Variable) (b : Bool) →
    list_any (λ v. bytes_eq x v.name) vs ≡ b → AreScalars xs n (vs ++ us) old → IsScalar xs n (formal_by rules x) s → Comes old x s new →
    us ++ (if b then rest else formal_by rules x ∷ rest) ≡ all → (ws : List Variable) × AreScalars xs n (vs ++ ws) new × (ws ++ rest ≡ all)
formal_comes xs n rules vs us old new x s rest all true there are made comes is = (
  us,
  λ q.
      subst (λ m. IsMeant xs n m (scalar_in new q))
      (more_variables q (vs ++ us) (formal_by rules x) ∙ declared_already x q (formal_by rules x) vs us there)
      (variable_comes xs n (vs ++ us) old new (formal_by rules x) s are made comes q),
  is,
)
formal_comes xs n rules vs us old new x s rest all false there are made comes is = (
  us ++ formal_by rules x ∷ [],
  subst (λ ws. AreScalars xs n ws new) (append_assoc vs us (formal_by rules x ∷ [])) (variable_comes xs n (vs ++ us) old new (formal_by rules x) s are made comes),
  append_assoc us (formal_by rules x ∷ []) rest ∙ is,
)

-- those before have come
pub record FormalsLeft (h : Home) (letters : Letters) (old : Table) (fs : List Text) (now : Table) (rest : List Text) : Type 0 where
  pub left : (xs : List Located) (rules : List Implied) (vs : List Variable) → IsHome xs [] h → AreLetters rules letters → AreScalars xs h.unit vs old →
      (us : List Variable) × AreScalars xs h.unit (vs ++ us) now × (us ++ undeclared rules vs rest ≡ undeclared rules vs fs)

pub formals_begun : (h : Home) (letters : Letters) (old : Table) (fs : List Text) → FormalsLeft h letters old fs old fs
formals_begun h letters old fs = record {
  left = λ xs rules vs home given are. ([], subst (λ ws. AreScalars xs h.unit ws old) (sym (append-nil vs)) are, refl);
}

pub formal_passed : (h : Home) (letters : Letters) (old now new : Table) (fs : List Text) (x : Text) (rest : List Text) (n : ℕ) → FormalsLeft h letters old fs now (x ∷ rest) → IsNumber h x n →
    Comes now x (record { variable = n; kind = kind_by letters x }) new → FormalsLeft h letters old fs new rest
formal_passed h letters old now new fs x rest n before numbered comes = record {
  left = λ xs rules vs home given are.
      let at = before.left xs rules vs home given are in
      let s : scalars.Scalar = record { variable = n; kind = kind_by letters x } in
      let made : IsScalar xs h.unit (formal_by rules x) s = record { number = numbered xs (formal_by rules x) home refl; kind = given x } in
      formal_comes xs h.unit rules vs at.0 now new x s (undeclared rules vs rest) (undeclared rules vs fs) (list_any (λ v. bytes_eq x v.name) vs) refl at.1 made comes at.2;
}

pub formals_ended : (h : Home) (letters : Letters) (old new : Table) (fs : List Text) → FormalsLeft h letters old fs new [] → DeclaresFormals h letters old fs new
formals_ended h letters old new fs all xs rules vs home given are =
    let at = all.left xs rules vs home given are in subst (λ us. AreScalars xs h.unit (vs ++ us) new) (sym (append-nil at.0) ∙ at.2) at.1

pub outer_opened : (n : ℕ) (u : EflProcedure) (letters : Letters) (variables : Variables) (h : Home) (own new : Table) → h.unit ≡ n → h.place ≡ Some 0 → h.variables.now ≡ variables →
    AreDeclared h u.declarations own → DeclaresFormals h letters own u.formals new → IsOuter n u letters variables new
outer_opened n u letters variables h own new same first same_variables declared formals xs are built given =
    subst (λ m. AreScalars xs m (own_variables u ++ undeclared (implied_of u) (own_variables u) u.formals) new) same
    (formals xs (implied_of u) (own_variables u) home given (declared xs [] (naming u.declarations ∷ []) home built))
  where
    home : IsHome xs [] h
    home = record { variables = subst (AreVariables xs) (sym same_variables) are; numbered = sym first }
