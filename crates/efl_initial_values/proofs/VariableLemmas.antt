-- What a name with initial values means, by where its block stands and by its area.
use Rattle.std.proofs.Common.{◌≡◌, ℕ, Bool, true, false, not, ◌&&◌, ◌||◌, List, [], ◌∷◌, Option, Some, None, is_none, option_map, refl, sym, ap, ◌∙◌, if◌then◌else◌}
use Rattle.std.specs.Option.{option_or, option_and_then}
use Rattle.std.specs.Str.{bytes_eq}
use Rattle.std.proofs.lemmas.Slice.Eq.{bytes_eq-Decides}
use Rattle.rule_table.specs.Words.{find_map}
use Rattle.efl_tree.specs.Syntax.{Text, EflProcedure}
use Rattle.efl_scope.specs.Scopes.{Variable, Shaped, Meaning, IsVariable, IsStructure, structure_of, variable_of, in_block, meaning, variable_if, outer}
use Rattle.efl_scope.specs.Scopes as scopes
use Rattle.efl_scope.specs.ScopeRules.{holds}
use Rattle.efl_types.specs.Presets.{Own, OfArea, area_if_outer, may_begin, number_in_area, by_area, owner_by}
use Rattle.efl_scoped.proofs.DecodeLemmas.{some_of}
use Rattle.efl_blocks.specs.declared.homes.Homes.{Homes}
use Rattle.efl_blocks.specs.HomeViews.{home_in, AreHomes}
use Rattle.efl_initial_values.specs.declared.areas.Areas.{Areas}
use Rattle.efl_initial_values.specs.Owners.{shared_of, shared_in, AreAreas, IsAt}

-- ---- a variable that is found has its name ----

named_first : (x : Text) (vs : List Variable) (v : Variable) → variable_if (find_map (variable_of x) vs) ≡ Some v → x ≡ v.name
named_first x [] v is = absurd (let f : None ≡ Some v = is in cc)
named_first x (w ∷ vs) v is = each (bytes_eq x w.name) refl (λ at. named_first x vs v at) is
  where
    each : (b : Bool) → bytes_eq x w.name ≡ b → (variable_if (find_map (variable_of x) vs) ≡ Some v → x ≡ v.name) →
        variable_if (option_or (if b then Some (IsVariable w) else None) (find_map (variable_of x) vs)) ≡ Some v → x ≡ v.name
    each true e rest at = let same : w ≡ v = (let f : Some w ≡ Some v = at in cc) in (bytes_eq-Decides x w.name).0 e ∙ ap (λ z. z.name) same
    each false e rest at = rest at

no_variable : (x : Text) (ss : List Shaped) (o : Option Meaning) (v : Variable) → (variable_if o ≡ Some v → x ≡ v.name) → variable_if (option_or (find_map (structure_of x) ss) o) ≡ Some v → x ≡ v.name
no_variable x [] o v known is = known is
no_variable x (s ∷ ss) o v known is = each (bytes_eq x s.name) (λ at. no_variable x ss o v known at) is
  where
    each : (b : Bool) → (variable_if (option_or (find_map (structure_of x) ss) o) ≡ Some v → x ≡ v.name) →
        variable_if (option_or (option_or (if b then Some (IsStructure s.members) else None) (find_map (structure_of x) ss)) o) ≡ Some v → x ≡ v.name
    each true rest at = absurd (let f : None ≡ Some v = at in cc)
    each false rest at = rest at

named_meaning : (x : Text) (bs : scopes.Blocks) (v : Variable) → variable_if (meaning bs x) ≡ Some v → x ≡ v.name
named_meaning x [] v is = absurd (let f : None ≡ Some v = is in cc)
named_meaning x (b ∷ bs) v is = each (in_block x b) (λ at. no_variable x b.structures (find_map (variable_of x) b.variables) v (λ first. named_first x b.variables v first) at) (λ at. named_meaning x bs v at) is
  where
    each : (o : Option Meaning) → (variable_if o ≡ Some v → x ≡ v.name) → (variable_if (meaning bs x) ≡ Some v → x ≡ v.name) → variable_if (option_or o (meaning bs x)) ≡ Some v → x ≡ v.name
    each None here beyond at = beyond at
    each (Some n) here beyond at = here at

-- ---- by the home of a name ----

pub record IsFound (u : EflProcedure) (areas : Areas) (x : Text) (h : List ℕ) (o : Option Meaning) : Type 0 where
  pub variable : Variable
  pub is : o ≡ Some (IsVariable variable)
  pub at : IsAt u areas x h variable

pub home_found : (u : EflProcedure) (bs : scopes.Blocks) (homes : Homes) (areas : Areas) (x : Text) (h : List ℕ) → AreHomes u bs homes → AreAreas u areas → Some h ≡ home_in homes x →
    IsFound u areas x h (meaning bs x)
home_found u bs homes areas x h are shared found = each (meaning bs x) (found ∙ are.told x) (are.outer x) (named_meaning x bs)
  where
    each : (o : Option Meaning) → Some h ≡ option_map (λ v. v.home) (variable_if o) → ((v : Variable) → variable_if o ≡ Some v → v.home ≡ [] → variable_if (meaning (outer u) x) ≡ Some v) →
        ((v : Variable) → variable_if o ≡ Some v → x ≡ v.name) → IsFound u areas x h o
    each (Some (IsVariable v)) at own named = record {
      variable = v;
      is = refl;
      at = record {
        home = let f : Some h ≡ Some v.home = at in cc;
        name = named v refl;
        shared = λ none. shared x ∙ ap (option_and_then (shared_of u)) (own v refl none);
      };
    }
    each (Some (IsStructure ms)) at own named = absurd (let f : Some h ≡ None = at in cc)
    each None at own named = absurd (let f : Some h ≡ None = at in cc)

no_home : (o : Option Meaning) → None ≡ option_map (λ v. v.home) (variable_if o) → variable_if o ≡ None
no_home None is = refl
no_home (Some (IsStructure ms)) is = refl
no_home (Some (IsVariable v)) is = absurd (let f : None ≡ Some v.home = is in cc)

-- ---- whether it may begin ----

pub begins_anyhow : (u : EflProcedure) (bs : scopes.Blocks) (homes : Homes) (x : Text) (is_outer : Bool) → AreHomes u bs homes → None ≡ home_in homes x → may_begin u is_outer (meaning bs x) ≡ true
begins_anyhow u bs homes x is_outer are none = each (meaning bs x) (no_home (meaning bs x) (none ∙ are.told x))
  where
    each : (o : Option Meaning) → variable_if o ≡ None → may_begin u is_outer o ≡ true
    each None is = refl
    each (Some (IsStructure ms)) is = refl
    each (Some (IsVariable v)) is = absurd (let f : Some v ≡ None = is in cc)

abbrev begins : EflProcedure → Bool → Variable → List ℕ → Bool
begins u is_outer v h = (is_outer || is_none (if bytes_eq h [] then v.area else None)) && not (bytes_eq h [] && holds u.formals v.name)

or_true : (b : Bool) → (b || true) ≡ true
or_true true = refl
or_true false = refl

pub begins_inside : (u : EflProcedure) (is_outer : Bool) (v : Variable) (n : ℕ) (h : List ℕ) → v.home ≡ n ∷ h → may_begin u is_outer (Some (IsVariable v)) ≡ true
begins_inside u is_outer v n h at = ap (begins u is_outer v) at ∙ ap (λ b. b && true) (or_true is_outer)

abbrev numbered : EflProcedure → Variable → Text → Text × ℕ
numbered u v q = (q, number_in_area u q v.name)

shared_none : (u : EflProcedure) (v : Variable) (o : Option Text) → is_none (option_map (numbered u v) o) ≡ is_none o
shared_none u v None = refl
shared_none u v (Some q) = refl

pub begins_outside : (u : EflProcedure) (areas : Areas) (x : Text) (is_outer : Bool) (fs : List Text) (v : Variable) → IsAt u areas x [] v → u.formals ≡ fs →
    may_begin u is_outer (Some (IsVariable v)) ≡ ((is_outer || is_none (shared_in areas x)) && not (holds fs x))
begins_outside u areas x is_outer fs v at formals =
    ap (λ h. (is_outer || is_none (area_if_outer v)) && not (bytes_eq h [] && holds u.formals v.name)) at.home
    ∙ ap (λ b. (is_outer || b) && not (holds u.formals v.name)) (sym (ap is_none (at.shared at.home) ∙ shared_none u v (area_if_outer v)))
    ∙ ap (λ y. (is_outer || is_none (shared_in areas x)) && not (holds u.formals y)) (sym at.name)
    ∙ ap (λ gs. (is_outer || is_none (shared_in areas x)) && not (holds gs x)) formals

-- ---- owners ----

pub owned_anyhow : (k : ℕ) (u : EflProcedure) (bs : scopes.Blocks) (homes : Homes) (x : Text) → AreHomes u bs homes → None ≡ home_in homes x → owner_by k u x (meaning bs x) ≡ Own k [] x
owned_anyhow k u bs homes x are none = each (meaning bs x) (no_home (meaning bs x) (none ∙ are.told x))
  where
    each : (o : Option Meaning) → variable_if o ≡ None → owner_by k u x o ≡ Own k [] x
    each None is = refl
    each (Some (IsStructure ms)) is = refl
    each (Some (IsVariable v)) is = absurd (let f : Some v ≡ None = is in cc)

own_of : (k : ℕ) (u : EflProcedure) (areas : Areas) (x : Text) (h : List ℕ) (v : Variable) → IsAt u areas x h v → area_if_outer v ≡ None → by_area k u v (area_if_outer v) ≡ Own k h x
own_of k u areas x h v at none = ap (by_area k u v) none ∙ ap (λ g. Own k g v.name) at.home ∙ ap (Own k h) (sym at.name)

pub owned_inside : (k : ℕ) (u : EflProcedure) (areas : Areas) (x : Text) (n : ℕ) (h : List ℕ) (v : Variable) → IsAt u areas x (n ∷ h) v → by_area k u v (area_if_outer v) ≡ Own k (n ∷ h) x
owned_inside k u areas x n h v at = own_of k u areas x (n ∷ h) v at (ap (λ g. if bytes_eq g [] then v.area else None) at.home)

pub owned_outside : (k : ℕ) (u : EflProcedure) (areas : Areas) (x : Text) (v : Variable) → IsAt u areas x [] v → None ≡ shared_in areas x → by_area k u v (area_if_outer v) ≡ Own k [] x
owned_outside k u areas x v at none = own_of k u areas x [] v at (each (area_if_outer v) (none ∙ at.shared at.home))
  where
    each : (o : Option Text) → None ≡ option_map (numbered u v) o → o ≡ None
    each None is = refl
    each (Some q) is = absurd (let f : None ≡ Some (numbered u v q) = is in cc)

abbrev pub pair : Text → ℕ → Text × ℕ
pair q i = (q, i)

pub owned_by_area : (k : ℕ) (u : EflProcedure) (areas : Areas) (x : Text) (v : Variable) (q : Text) (i : ℕ) → IsAt u areas x [] v → Some (pair q i) ≡ shared_in areas x →
    by_area k u v (area_if_outer v) ≡ OfArea q i
owned_by_area k u areas x v q i at some = each (area_if_outer v) (some ∙ at.shared at.home)
  where
    each : (o : Option Text) → Some (pair q i) ≡ option_map (numbered u v) o → by_area k u v o ≡ OfArea q i
    each None is = absurd (let f : Some (pair q i) ≡ None = is in cc)
    each (Some r) is = sym (ap (λ (t : Text × ℕ). OfArea t.0 t.1) (some_of (pair q i) (numbered u v r) is))
