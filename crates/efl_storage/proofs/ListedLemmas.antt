-- Variables that parts list are counted one by one, and formals are variables of the outer block of their procedure, which have no places.
use Rattle.std.proofs.Common.{◌≡◌, ◌<◌, ℕ, Bool, true, false, not, ◌&&◌, ◌||◌, List, [], ◌∷◌, ◌++◌, length, get_or, map, Option, Some, None, if◌then◌else◌, refl, sym, ap, subst, ◌∙◌}
use Rattle.std.specs.Borrow.{Bor}
use Rattle.std.specs.List.{list_any, slice_get, cons_option}
use Rattle.std.specs.Option.{option_or}
use Rattle.std.specs.Str.{bytes_eq}
use Rattle.std.proofs.Math.Bool.{or-true}
use Rattle.std.proofs.lemmas.List.Folds.{list_any-append, list_any_at}
use Rattle.std.proofs.lemmas.Slice.Eq.{bytes_eq-Decides}
use Rattle.rule_table.specs.Words.{find_map}
use Rattle.ground.specs.declared.value.Kind.{Kind}
use Rattle.efl_tree.specs.Syntax.{Text, EflVar, EflGroups, NoGroup, AndGroup, EflDeclKind, Implicit, Initial, Variables, Area, Structure, EflDecl, EflProcedure}
use Rattle.efl_scope.specs.DataTypes.{DataType}
use Rattle.efl_scope.specs.Scopes.{Variable, Blocks, Implied, Meaning, IsVariable, variable_of, meaning, variable_if, data_type, behind, behind_declaration, variable, group_variables, declared_by, declared_in, naming, implied_of, undeclared, own_variables, outer}
use Rattle.efl_scope.specs.ScopeRules.{holds}
use Rattle.efl_scope.specs.Marks.{by_letter_of}
use Rattle.efl_scoped.proofs.DecodeLemmas.{some_of}
use Rattle.efl_types.specs.Storage.{counted, is_first_of}
use Rattle.efl_variables.specs.Numbered.{scalar_kind}
use Rattle.efl_storage.specs.declared.storage.Storage.{Storage}
use Rattle.efl_storage.specs.Named.{texts_of}
use Rattle.efl_storage.specs.Counted.{value_of, AreItsPlaces}
use Rattle.efl_storage.specs.Meets.{place_number, MeetsNamed}
use Rattle.efl_storage.specs.Parts.{Takes}
use Rattle.efl_storage.proofs.PartLemmas.{outer_value}

-- ---- one variable ----

pub its_places : (us : List EflProcedure) (n : ℕ) (u : EflProcedure) (v : Variable) (many : ℕ) → slice_get us n ≡ Some u → many ≡ value_of us n u (record { unit = n; variable = v }) →
    AreItsPlaces us (record { unit = n; variable = v }) many
its_places us n u v many found is w at = is ∙ ap (λ y. value_of us n y (record { unit = n; variable = v })) (some_of u w (sym found ∙ at))

pub variable_taken : (us : List EflProcedure) (n : ℕ) (v : Variable) (home : ℕ) (x : Text) (kind : Option Kind) (many : ℕ) (old new : Storage) → place_number old v.home ≡ Some home → v.name ≡ x →
    scalar_kind v.kind ≡ kind → AreItsPlaces us (record { unit = n; variable = v }) many → MeetsNamed old n home x kind many new → Takes us n (v ∷ []) old new
variable_taken us n v home x kind many old new at name is its meets xs known = meets us xs (record { unit = n; variable = v }) refl at name is its known

-- ---- where the variables of an outer block stand ----

abbrev AreTop : List Variable → Type 0
AreTop [] = Unit {0}
AreTop (v ∷ vs) = (v.home ≡ []) × AreTop vs

top_append : (vs ws : List Variable) → AreTop vs → AreTop ws → AreTop (vs ++ ws)
top_append [] ws first second = second
top_append (v ∷ vs) ws first second = (first.0, top_append vs ws first.1 second)

top_variables : (q : Option Text) (t : DataType) (vs : List EflVar) → AreTop (map (variable [] q t) vs)
top_variables q t [] = tt
top_variables q t (v ∷ vs) = (refl, top_variables q t vs)

top_groups : (q : Text) (bs : Blocks) (gs : EflGroups) → AreTop (group_variables q bs gs)
top_groups q bs NoGroup = tt
top_groups q bs (AndGroup a vs p gs) = top_append (map (variable [] (Some q) (data_type bs a)) vs) (group_variables q (behind bs a) gs) (top_variables (Some q) (data_type bs a) vs) (top_groups q (behind bs a) gs)

top_declared : (bs : Blocks) (k : EflDeclKind) → AreTop (declared_by [] bs k)
top_declared bs (Implicit rs a) = tt
top_declared bs (Initial ps) = tt
top_declared bs (Variables q a vs) = top_variables q (data_type bs a) vs
top_declared bs (Area q gs) = top_groups q bs gs
top_declared bs (Structure x gs) = tt

top_all : (bs : Blocks) (ds : List EflDecl) → AreTop (declared_in [] bs ds)
top_all bs [] = tt
top_all bs (d ∷ ds) = top_append (declared_by [] bs d.kind) (declared_in [] (behind_declaration bs d.kind) ds) (top_declared bs d.kind) (top_all (behind_declaration bs d.kind) ds)

-- these variables have the name
abbrev has_name : List Variable → Text → Bool
has_name vs x = list_any (λ v. bytes_eq x v.name) vs

top_undeclared : (rules : List Implied) (vs : List Variable) (xs : List Text) → AreTop (undeclared rules vs xs)
top_undeclared rules vs [] = tt
top_undeclared rules vs (x ∷ xs) = each (has_name vs x) (top_undeclared rules vs xs)
  where
    each : (b : Bool) → AreTop (undeclared rules vs xs) → AreTop (if b then undeclared rules vs xs else by_letter_of rules x ∷ undeclared rules vs xs)
    each true rest = rest
    each false rest = (refl, rest)

-- ---- a formal is one of them ----

same_text : (x : Text) → bytes_eq x x ≡ true
same_text x = (bytes_eq-Decides x x).1 refl

-- a formal is declared, or comes behind what is declared
formal_there : (rules : List Implied) (vs : List Variable) (xs : List Text) (x : Text) → holds xs x ≡ true → (has_name vs x || has_name (undeclared rules vs xs) x) ≡ true
formal_there rules vs [] x held = absurd (let e : false ≡ true = held in cc)
formal_there rules vs (y ∷ ys) x held = each (bytes_eq x y) refl held (has_name vs y) refl (λ rest. formal_there rules vs ys x rest)
  where
    rest_of : List Variable
    rest_of = undeclared rules vs ys

    one_more : (a b c : Bool) → (a || c) ≡ true → (a || (b || c)) ≡ true
    one_more true b c e = refl
    one_more false true c e = refl
    one_more false false c e = e

    each : (a : Bool) → bytes_eq x y ≡ a → (a || holds ys x) ≡ true → (b : Bool) → has_name vs y ≡ b → (holds ys x ≡ true → (has_name vs x || has_name rest_of x) ≡ true) →
        (has_name vs x || has_name (if b then rest_of else by_letter_of rules y ∷ rest_of) x) ≡ true
    each true is on true there rest = ap (λ c. c || has_name rest_of x) (ap (has_name vs) ((bytes_eq-Decides x y).0 is) ∙ there)
    each true is on false there rest = ap (λ c. has_name vs x || (c || has_name rest_of x)) is ∙ or-true (has_name vs x)
    each false is on true there rest = rest on
    each false is on false there rest = one_more (has_name vs x) (bytes_eq x y) (has_name rest_of x) (rest on)

-- a variable of this name in the outer block
record IsAtTop (x : Text) (o : Option Meaning) : Type 0 where
  variable : Variable
  is : variable_if o ≡ Some variable
  name : variable.name ≡ x
  home : variable.home ≡ []

first_there : (x : Text) (vs : List Variable) → AreTop vs → has_name vs x ≡ true → IsAtTop x (option_or (find_map (variable_of x) vs) None)
first_there x [] top held = absurd (let e : false ≡ true = held in cc)
first_there x (v ∷ vs) top held = each (bytes_eq x v.name) refl held (λ rest. first_there x vs top.1 rest)
  where
    each : (b : Bool) → bytes_eq x v.name ≡ b → (b || has_name vs x) ≡ true → (has_name vs x ≡ true → IsAtTop x (option_or (find_map (variable_of x) vs) None)) →
        IsAtTop x (option_or (option_or (if b then Some (IsVariable v) else None) (find_map (variable_of x) vs)) None)
    each true is on rest = record { variable = v; is = refl; name = sym ((bytes_eq-Decides x v.name).0 is); home = top.0 }
    each false is on rest = rest on

formal_found : (u : EflProcedure) (x : Text) → holds u.formals x ≡ true → IsAtTop x (meaning (outer u) x)
formal_found u x held =
    let own = own_variables u in
    let others = undeclared (implied_of u) own u.formals in
    first_there x (own ++ others) (top_append own others (top_all (naming u.declarations ∷ []) u.declarations) (top_undeclared (implied_of u) own u.formals))
    (list_any-append (λ v. bytes_eq x v.name) own others ∙ formal_there (implied_of u) own u.formals x held)

-- a formal has no places in its procedure
formal_value : (us : List EflProcedure) (n : ℕ) (u : EflProcedure) (v : Variable) → v.home ≡ [] → holds u.formals v.name ≡ true → 0 ≡ value_of us n u (record { unit = n; variable = v })
formal_value us n u v home held =
    sym (outer_value us n u v (ap (λ h. bytes_eq h []) home) ∙ ap (λ b. if not b && is_first_of us n v.area then counted v.kind else 0) held)

pub formal_taken : (us : List EflProcedure) (n : ℕ) (u : EflProcedure) (x : Text) (kind : Option Kind) (old new : Storage) → slice_get us n ≡ Some u → holds u.formals x ≡ true →
    ((v : Variable) → variable_if (meaning (outer u) x) ≡ Some v → scalar_kind v.kind ≡ kind) → MeetsNamed old n 0 x kind 0 new → Takes us n (cons_option (variable_if (meaning (outer u) x)) []) old new
formal_taken us n u x kind old new found held kinds meets =
    let one = formal_found u x held in
    let v = one.variable in
    subst (λ o. Takes us n (cons_option o []) old new) (sym one.is)
    (variable_taken us n v 0 x kind 0 old new (ap (place_number old) one.home) one.name (kinds v one.is)
    (its_places us n u v 0 found (formal_value us n u v one.home (ap (holds u.formals) one.name ∙ held))) meets)

-- ---- names in memory ----

held_by : (list : List (Bor Text)) (x : Text) → holds (texts_of list) x ≡ list_any (λ y. bytes_eq x y.now) list
held_by [] x = refl
held_by (y ∷ list) x = ap (λ b. bytes_eq x y.now || b) (held_by list x)

pub text_held : (list : List (Bor Text)) (i : ℕ) (d : Bor Text) → i < length list → holds (texts_of list) (get_or list i d).now ≡ true
text_held list i d lt =
    let x = (get_or list i d).now in
    held_by list x ∙ list_any_at (λ y. bytes_eq x y.now) list i d lt (same_text x)
