-- What names mean among blocks: how it changes along declarations, and that the variables of a block are listed at their declarations.
use Rattle.std.proofs.Common.{◌≡◌, ℕ, Bool, true, false, true≢false, List, [], ◌∷◌, ◌++◌, map, Option, None, Some, refl, sym, ap, ◌∙◌, subst, inl, inr}
use Rattle.std.specs.Prelude.{◌⊎◌, ◌||◌, filter_map, if◌then◌else◌}
use Rattle.std.specs.Option.{option_or}
use Rattle.std.specs.List.{cons_option, list_any}
use Rattle.std.specs.Str.{bytes_eq}
use Rattle.std.proofs.lemmas.List.{append_assoc}
use Rattle.std.proofs.lemmas.Option.{none-some, same_Some}
use Rattle.rule_table.specs.Words.{find_map}
use Rattle.rule_table.proofs.WordLemmas.{find_map-push}
use Rattle.ground.specs.declared.place.Place.{Place}
use Rattle.efl_tree.specs.Syntax.{Text, EflVar, EflType, Integer, Logical, Real, Complex, Named, Shape, EflGroups, NoGroup, AndGroup, EflDeclKind, Implicit, Initial, Variables, Area, Structure, EflDecl, EflProcedure}
use Rattle.efl_scope.specs.DataTypes.{DataType, Members}
use Rattle.efl_scope.specs.Scopes.{Variable, Blocks, Implied, Meaning, IsVariable, IsStructure, structure_of, variable_of, variable_if, meaning, knowing, shape, behind, behind_groups, behind_declaration, behind_all, variable, declared_by, declared_in, data_type, undeclared, implicit_type}
use Rattle.efl_scope.specs.Parts.{Part, Around, part, Header, Declares, among, names_of, names_by, groups_by, declarations_in}
use Rattle.efl_scope.specs.ScopeRules.{holds, area_of, area_declared}
use Rattle.efl_scope.specs.Marks.{Located, located_at}
use Rattle.efl_typed.proofs.Each.{Each, each_right}
use Rattle.efl_lowered.proofs.Lists.{text_is, or_right}
use Rattle.efl_lowered.proofs.TypedChecks.{each_on}

-- ---- structures that become known ----

-- what a name means before and after: the same, or a structure
abbrev pub Grown : Option Meaning → Option Meaning → Type 0
Grown before after = (after ≡ before) ⊎ ((ms : Members) × (after ≡ Some (IsStructure ms)))

grown_on : (a b c : Option Meaning) → Grown a b → Grown b c → Grown a c
grown_on a b c h (inr w) = inr w
grown_on a b c (inl e) (inl f) = inl (f ∙ e)
grown_on a b c (inr (ms, e)) (inl f) = inr (ms, f ∙ e)

one_more : (ms : Members) (known : Option Meaning) (b : Bool) (variables around : Option Meaning) →
    Grown (option_or (option_or known variables) around) (option_or (option_or (option_or known (if b then Some (IsStructure ms) else None)) variables) around)
one_more ms None true variables around = inr (ms, refl)
one_more ms None false variables around = inl refl
one_more ms (Some m) b variables around = inl refl

grows_knowing : (o : Option Text) (ms : Members) (bs : Blocks) (y : Text) → Grown (meaning bs y) (meaning (knowing o ms bs) y)
grows_knowing None ms bs y = inl refl
grows_knowing (Some x) ms [] y = inl refl
grows_knowing (Some x) ms (b ∷ bs) y =
    subst (λ o. Grown (meaning (b ∷ bs) y) (option_or (option_or o (find_map (variable_of y) b.variables)) (meaning bs y))) (sym (find_map-push (structure_of y) b.structures (record { name = x; members = ms })))
    (one_more ms (find_map (structure_of y) b.structures) (bytes_eq y x) (find_map (variable_of y) b.variables) (meaning bs y))

mutual
  grows_behind : (bs : Blocks) (t : EflType) (y : Text) → Grown (meaning bs y) (meaning (behind bs t) y)
  grows_behind bs Integer y = inl refl
  grows_behind bs Logical y = inl refl
  grows_behind bs (Real long) y = inl refl
  grows_behind bs (Complex long) y = inl refl
  grows_behind bs (Named x) y = inl refl
  grows_behind bs (Shape o gs) y = grown_on _ (meaning (behind_groups bs gs) y) _ (grows_groups bs gs y) (grows_knowing o (shape bs gs) (behind_groups bs gs) y)

  grows_groups : (bs : Blocks) (gs : EflGroups) (y : Text) → Grown (meaning bs y) (meaning (behind_groups bs gs) y)
  grows_groups bs NoGroup y = inl refl
  grows_groups bs (AndGroup t vs p gs) y = grown_on _ (meaning (behind bs t) y) _ (grows_behind bs t y) (grows_groups (behind bs t) gs y)

pub grows_declaration : (bs : Blocks) (k : EflDeclKind) (y : Text) → Grown (meaning bs y) (meaning (behind_declaration bs k) y)
grows_declaration bs (Implicit rs t) y = grows_behind bs t y
grows_declaration bs (Initial ps) y = inl refl
grows_declaration bs (Variables q t vs) y = grows_behind bs t y
grows_declaration bs (Area q gs) y = grows_groups bs gs y
grows_declaration bs (Structure x gs) y = grows_behind bs (Shape (Some x) gs) y

pub grows_all : (bs : Blocks) (ds : List EflDecl) (y : Text) → Grown (meaning bs y) (meaning (behind_all bs ds) y)
grows_all bs [] y = inl refl
grows_all bs (d ∷ ds) y = grown_on _ (meaning (behind_declaration bs d.kind) y) _ (grows_declaration bs d.kind y) (grows_all (behind_declaration bs d.kind) ds y)

abbrev is_variable : Option Meaning → Bool
is_variable (Some (IsVariable v)) = true
is_variable _ = false

-- a variable was one before
pub variable_before : (before after : Option Meaning) (v : Variable) → Grown before after → after ≡ Some (IsVariable v) → before ≡ Some (IsVariable v)
variable_before before after v (inl e) h = sym e ∙ h
variable_before before after v (inr (ms, e)) h = absurd (no_structure ms v (sym e ∙ h))
  where
    no_structure : (ms : Members) (v : Variable) → Some (IsStructure ms) ≡ Some (IsVariable v) → ⊥
    no_structure ms v h = true≢false (sym (ap is_variable h))

-- ---- variables of a block ----

-- what is found is a variable of the name
pub found_is : (P : Variable → Type 0) (y : Text) (vs : List Variable) (m : Meaning) → Each P vs → find_map (variable_of y) vs ≡ Some m → (w : Variable) × (m ≡ IsVariable w) × (y ≡ w.name) × P w
found_is P y [] m h e = absurd (none-some m e)
found_is P y (v ∷ vs) m h e = by_test (bytes_eq y v.name) refl (found_is P y vs m h.1) e
  where
    by_test : (b : Bool) → bytes_eq y v.name ≡ b → (find_map (variable_of y) vs ≡ Some m → (w : Variable) × (m ≡ IsVariable w) × (y ≡ w.name) × P w) →
        option_or (if b then Some (IsVariable v) else None) (find_map (variable_of y) vs) ≡ Some m → (w : Variable) × (m ≡ IsVariable w) × (y ≡ w.name) × P w
    by_test true t later g = (v, sym (same_Some (IsVariable v) m g), text_is y v.name t, h.0)
    by_test false t later g = later g

abbrev pub HasHome : List ℕ → Variable → Type 0
HasHome home v = v.home ≡ home

abbrev pub NoArea : Part → Type 0
NoArea v = area_declared v.form ≡ None

home_of : (home : List ℕ) (q : Option Text) (t : DataType) (vs : List EflVar) → Each (HasHome home) (map (variable home q t) vs)
home_of home q t [] = tt
home_of home q t (v ∷ vs) = (refl, home_of home q t vs)

pub homes : (home : List ℕ) (bs : Blocks) (a : Around) (before : List Text) (ds : List EflDecl) → Each NoArea (declarations_in a before ds) → Each (HasHome home) (declared_in home bs ds)
homes home bs a before [] h = tt
homes home bs a before (d ∷ ds) h =
    each_on (HasHome home) (declared_by home bs d.kind) (declared_in home (behind_declaration bs d.kind) ds) (by_kind d.kind h.0)
    (homes home (behind_declaration bs d.kind) (among (behind_declaration a.blocks d.kind) a) (before ++ names_by d.kind) ds (each_right NoArea (groups_by a before d.kind) (declarations_in (among (behind_declaration a.blocks d.kind) a) (before ++ names_by d.kind) ds) h.1))
  where
    by_kind : (k : EflDeclKind) → area_of k ≡ None → Each (HasHome home) (declared_by home bs k)
    by_kind (Implicit rs t) e = tt
    by_kind (Initial ps) e = tt
    by_kind (Variables q t vs) e = home_of home q (data_type bs t) vs
    by_kind (Area q gs) e = absurd (none-some q (sym e))
    by_kind (Structure x gs) e = tt

pub undeclared_homes : (rules : List Implied) (vs : List Variable) (fs : List Text) → Each (HasHome []) (undeclared rules vs fs)
undeclared_homes rules vs [] = tt
undeclared_homes rules vs (x ∷ fs) = by_test (list_any (λ v. bytes_eq x v.name) vs) (undeclared_homes rules vs fs)
  where
    by_test : (b : Bool) → Each (HasHome []) (undeclared rules vs fs) → Each (HasHome []) (if b then (undeclared rules vs fs) else (record { name = x; home = []; kind = implicit_type rules x; area = None } ∷ undeclared rules vs fs))
    by_test true h = h
    by_test false h = (refl, h)

-- ---- variables that a part lists ----

module _ (us : List EflProcedure) (P : Located → Type 0) where
  abbrev pub Lists : Part → Type 0
  Lists v = Each P (located_at us v)

  listed_one : (n : ℕ) (bs : Blocks) (y : Text) (v : Variable) → meaning bs y ≡ Some (IsVariable v) → (xs : List Text) → holds xs y ≡ true → (rest : List Variable) →
      Each P (map (λ x. record { unit = n; variable = x }) (filter_map (λ x. variable_if (meaning bs x)) xs ++ rest)) → P (record { unit = n; variable = v })
  listed_one n bs y v e [] h rest k = absurd (true≢false (sym h))
  listed_one n bs y v e (x ∷ xs) h rest k = by_test (bytes_eq y x) refl (λ g. listed_one n bs y v e xs g rest (behind_it (variable_if (meaning bs x)) k)) h
    where
      behind_it : (o : Option Variable) → Each P (map (λ x. record { unit = n; variable = x }) (cons_option o (filter_map (λ x. variable_if (meaning bs x)) xs) ++ rest)) →
          Each P (map (λ x. record { unit = n; variable = x }) (filter_map (λ x. variable_if (meaning bs x)) xs ++ rest))
      behind_it None g = g
      behind_it (Some w) g = g.1

      by_test : (b : Bool) → bytes_eq y x ≡ b → (holds xs y ≡ true → P (record { unit = n; variable = v })) → (b || holds xs y) ≡ true → P (record { unit = n; variable = v })
      by_test true t later g =
          (subst (λ o. Each P (map (λ x. record { unit = n; variable = x }) (cons_option o (filter_map (λ x. variable_if (meaning bs x)) xs) ++ rest))) (ap (λ z. variable_if (meaning bs z)) (sym (text_is y x t)) ∙ ap variable_if e) k).0
      by_test false t later g = later g

  named_there : (home : List ℕ) (q : Option Text) (t : DataType) (y : Text) (vs : List EflVar) (rest : List Variable) (m : Meaning) → find_map (variable_of y) (map (variable home q t) vs ++ rest) ≡ Some m →
      (holds (names_of vs) y ≡ true) ⊎ (find_map (variable_of y) rest ≡ Some m)
  named_there home q t y [] rest m e = inr e
  named_there home q t y (v ∷ vs) rest m e = by_test (bytes_eq y v.name) (named_there home q t y vs rest m) e
    where
      by_test : (b : Bool) → (find_map (variable_of y) (map (variable home q t) vs ++ rest) ≡ Some m → (holds (names_of vs) y ≡ true) ⊎ (find_map (variable_of y) rest ≡ Some m)) → option_or (if b then Some (IsVariable (variable home q t v)) else None) (find_map (variable_of y) (map (variable home q t) vs ++ rest)) ≡ Some m →
          ((b || holds (names_of vs) y) ≡ true) ⊎ (find_map (variable_of y) rest ≡ Some m)
      by_test true later g = inl refl
      by_test false later g = later g

  -- the variables of one declaration, and others
  one_listed : (home : List ℕ) (bs : Blocks) (a : Around) (before : List Text) (p : Place) (k : EflDeclKind) → area_of k ≡ None → Lists (part a p (Declares before k)) → (y : Text) (v : Variable) →
      meaning a.blocks y ≡ Some (IsVariable v) → (more others : List Variable) (m : Meaning) → find_map (variable_of y) (declared_by home bs k ++ more ++ others) ≡ Some m →
      P (record { unit = a.unit; variable = v }) ⊎ (find_map (variable_of y) (more ++ others) ≡ Some m)
  one_listed home bs a before p (Implicit rs t) free h y v last more others m e = inr e
  one_listed home bs a before p (Initial ps) free h y v last more others m e = inr e
  one_listed home bs a before p (Variables q t vs) free h y v last more others m e =
      elim (named_there home q (data_type bs t) y vs (more ++ others) m (subst (λ ws. find_map (variable_of y) ws ≡ Some m) (append_assoc (map (variable home q (data_type bs t)) vs) more others) e)) [
        | inl g ↦ inl (listed_one a.unit a.blocks y v last (names_of vs) g [] h)
        | inr g ↦ inr g
      ]
  one_listed home bs a before p (Area q gs) free h y v last more others m e = absurd (none-some q (sym free))
  one_listed home bs a before p (Structure x gs) free h y v last more others m e = inr e

  -- a variable that declarations give, and that the name still means behind them, is listed at one of them, or is among the others
  pub declared_listed : (home : List ℕ) (bs : Blocks) (a : Around) (before : List Text) (ds : List EflDecl) → Each NoArea (declarations_in a before ds) → Each Lists (declarations_in a before ds) →
      (y : Text) (v : Variable) → meaning (behind_all a.blocks ds) y ≡ Some (IsVariable v) → (others : List Variable) (m : Meaning) → find_map (variable_of y) (declared_in home bs ds ++ others) ≡ Some m →
      P (record { unit = a.unit; variable = v }) ⊎ (find_map (variable_of y) others ≡ Some m)
  declared_listed home bs a before [] free h y v last others m e = inr e
  declared_listed home bs a before (d ∷ ds) free h y v last others m e =
      let next = among (behind_declaration a.blocks d.kind) a in
      let here = variable_before (meaning a.blocks y) (meaning (behind_all a.blocks (d ∷ ds)) y) v (grows_all a.blocks (d ∷ ds) y) last in
      elim (one_listed home bs a before d.place d.kind free.0 h.0 y v here (declared_in home (behind_declaration bs d.kind) ds) others m e) [
        | inl g ↦ inl g
        | inr g ↦ declared_listed home (behind_declaration bs d.kind) next (before ++ names_by d.kind) ds
            (each_right NoArea (groups_by a before d.kind) (declarations_in next (before ++ names_by d.kind) ds) free.1) (each_right Lists (groups_by a before d.kind) (declarations_in next (before ++ names_by d.kind) ds) h.1) y v last others m g
      ]

  -- a formal is listed at the header
  pub formal_listed : (n : ℕ) (a : Around) (p : Place) (o : Option EflType) (fs : List Text) → Lists (part a p (Header o fs)) → (y : Text) (v : Variable) → meaning a.blocks y ≡ Some (IsVariable v) → holds fs y ≡ true →
      P (record { unit = a.unit; variable = v })
  formal_listed n a p o fs h y v e k = listed_one a.unit a.blocks y v e fs k [] h

  pub undeclared_named : (rules : List Implied) (vs : List Variable) (fs : List Text) (y : Text) (m : Meaning) → find_map (variable_of y) (undeclared rules vs fs) ≡ Some m → holds fs y ≡ true
  undeclared_named rules vs [] y m e = absurd (none-some m e)
  undeclared_named rules vs (x ∷ fs) y m e = by_test (list_any (λ v. bytes_eq x v.name) vs) (undeclared_named rules vs fs y m) e
    where
      Later : Type 0
      Later = find_map (variable_of y) (undeclared rules vs fs) ≡ Some m → holds fs y ≡ true

      first : (b : Bool) → Later → option_or (if b then Some (IsVariable (record { name = x; home = []; kind = implicit_type rules x; area = None })) else None) (find_map (variable_of y) (undeclared rules vs fs)) ≡ Some m → (b || holds fs y) ≡ true
      first true later g = refl
      first false later g = later g

      by_test : (b : Bool) → Later → find_map (variable_of y) (if b then (undeclared rules vs fs) else (record { name = x; home = []; kind = implicit_type rules x; area = None } ∷ undeclared rules vs fs)) ≡ Some m → (bytes_eq y x || holds fs y) ≡ true
      by_test true later g = or_right (bytes_eq y x) (holds fs y) (later g)
      by_test false later g = first (bytes_eq y x) later g
