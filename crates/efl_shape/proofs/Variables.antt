-- The variables that names mean in a program without faults whose forms are built: each is a scalar, and in no area.
use Rattle.std.proofs.Common.{◌≡◌, ℕ, Bool, true, false, true≢false, List, [], ◌∷◌, ◌++◌, map, Option, None, Some, refl, sym, subst}
use Rattle.std.specs.Prelude.{⊤, not, ◌&&◌, ◌||◌, nat_le, filter_map, flat_map, reverse, unwrap_or, if◌then◌else◌}
use Rattle.std.specs.Option.{option_or}
use Rattle.std.specs.List.{cons_option, list_any}
use Rattle.std.specs.Str.{bytes_eq}
use Rattle.std.proofs.lemmas.List.{reverse-append}
use Rattle.rule_table.specs.Words.{find_map}
use Rattle.ground.specs.declared.value.Kind.TheVariants as kinds
use Rattle.efl_tree.specs.declared.declaration.EflBound.{EflBound}
use Rattle.efl_tree.specs.Syntax as efl
use Rattle.efl_tree.specs.Syntax.{Text, EflVar, EflType, Shape, EflDeclKind, Implicit, Initial, Variables, Area, Structure, EflDecl, EflProcedure}
use Rattle.efl_scope.specs.DataTypes as types
use Rattle.efl_scope.specs.DataTypes.{DataType, is_large}
use Rattle.efl_scope.specs.Scopes.{Variable, Shaped, Blocks, Meaning, IsVariable, IsStructure, structure_of, variable_of, in_block, meaning, variable_if, bounded, data_type, behind, behind_declaration, behind_all, variable, declared_by, declared_in, naming, entering, Implied, implied_by, implied_in, implied_of, gives, implicit_type, own_variables, undeclared, outer}
use Rattle.efl_scope.specs.Uses.{Use, Named, Applied, Laid}
use Rattle.efl_scope.specs.Marks.{by_letter_of, undeclared_by, met_by}
use Rattle.efl_types.specs.declared.rule.TypeRule.TheVariants.{OutOfProfileType, LargeVariable}
use Rattle.efl_types.specs.Signatures.{Names}
use Rattle.efl_types.specs.Expressions.{when, lacks_type, undeclared_faults}
use Rattle.efl_types.specs.Declarations.{formal_faults}
use Rattle.efl_typed.proofs.Each.{Each}
use Rattle.efl_typed.proofs.FoundLemmas.{neither}
use Rattle.efl_lowered.specs.Lowering.{is_scalar}
use Rattle.efl_lowered.proofs.TypedRules.{none_left, none_right, fails}
use Rattle.efl_lowered.proofs.TypedChecks.{each_on}
use Rattle.efl_built.specs.Unbuilt.{is_plain, has_bounds, unbuilt_declaration}
use Rattle.efl_shape.proofs.Uses.{IsFine}

-- ---- scalars ----

-- a scalar
abbrev pub IsScalar : DataType → Type 0
IsScalar t = (is_scalar kinds.Integer t || is_scalar kinds.Logical t) ≡ true

-- a scalar, or without a type
abbrev IsSingle : DataType → Type 0
IsSingle t = ((is_scalar kinds.Integer t || is_scalar kinds.Logical t) || lacks_type t) ≡ true

first_of_two : (a b : Bool) → (a || b) ≡ true → b ≡ false → a ≡ true
first_of_two true b h g = refl
first_of_two false true h g = absurd (true≢false g)
first_of_two false false h g = h

-- one that has a type is a scalar
typed : (t : DataType) → IsSingle t → lacks_type t ≡ false → IsScalar t
typed t h g = first_of_two (is_scalar kinds.Integer t || is_scalar kinds.Logical t) (lacks_type t) h g

single : (t : DataType) → IsScalar t → IsSingle t
single (types.Scalar kinds.Integer) h = refl
single (types.Scalar kinds.Logical) h = refl
single (types.Structured ms) h = absurd (true≢false (sym h))
single (types.Array bs t) h = absurd (true≢false (sym h))
single types.NoType h = refl

-- a plain type is one of a scalar
plain_type : (bs : Blocks) (t : EflType) → not (is_plain t) ≡ false → IsScalar (data_type bs t)
plain_type bs efl.Integer h = refl
plain_type bs efl.Logical h = refl
plain_type bs (efl.Real long) h = absurd (true≢false h)
plain_type bs (efl.Complex long) h = absurd (true≢false h)
plain_type bs (efl.Named x) h = absurd (true≢false h)
plain_type bs (Shape o gs) h = absurd (true≢false h)

-- ---- declarations ----

-- in no area, and a scalar
abbrev pub IsPlain : Variable → Type 0
IsPlain v = (v.area ≡ None) × IsScalar v.kind

abbrev pub AreBuilt : List EflDecl → Type 0
AreBuilt ds = Each (λ d. unbuilt_declaration d.kind ≡ false) ds

unbounded : (v : EflVar) → has_bounds v ≡ false → v.bounds ≡ []
unbounded v h = by v.bounds h
  where
    by : (bs : List EflBound) → has_bounds (record { name = v.name; bounds = bs }) ≡ false → bs ≡ []
    by [] g = refl
    by (b ∷ bs) g = absurd (true≢false g)

variables_plain : (home : List ℕ) (t : DataType) → IsScalar t → (vs : List EflVar) → list_any has_bounds vs ≡ false → Each IsPlain (map (variable home None t) vs)
variables_plain home t k [] h = tt
variables_plain home t k (v ∷ vs) h =
    let g = neither (has_bounds v) (list_any has_bounds vs) h in
    ((refl, subst (λ bs. IsScalar (bounded t bs)) (sym (unbounded v g.0)) k), variables_plain home t k vs g.1)

declared_by_plain : (home : List ℕ) (bs : Blocks) (k : EflDeclKind) → unbuilt_declaration k ≡ false → Each IsPlain (declared_by home bs k)
declared_by_plain home bs (Implicit rs t) h = tt
declared_by_plain home bs (Initial ps) h = absurd (true≢false h)
declared_by_plain home bs (Variables None t vs) h =
    let g = neither (not (is_plain t)) (list_any has_bounds vs) h in variables_plain home (data_type bs t) (plain_type bs t g.0) vs g.1
declared_by_plain home bs (Variables (Some q) t vs) h = absurd (true≢false h)
declared_by_plain home bs (Area q gs) h = absurd (true≢false h)
declared_by_plain home bs (Structure x gs) h = absurd (true≢false h)

pub declared_plain : (home : List ℕ) (bs : Blocks) (ds : List EflDecl) → AreBuilt ds → Each IsPlain (declared_in home bs ds)
declared_plain home bs [] h = tt
declared_plain home bs (d ∷ ds) h =
    let rest = declared_in home (behind_declaration bs d.kind) ds in
    each_on IsPlain (declared_by home bs d.kind) rest (declared_by_plain home bs d.kind h.0) (declared_plain home (behind_declaration bs d.kind) ds h.1)

-- ---- types by letters ----

abbrev pub AreSingle : List Implied → Type 0
AreSingle rules = Each (λ r. IsSingle r.kind) rules

implied_by_single : (bs : Blocks) (k : EflDeclKind) → unbuilt_declaration k ≡ false → AreSingle (implied_by bs k)
implied_by_single bs (Implicit rs t) h = by rs
  where
    by : (ls : List (ℕ × ℕ)) → AreSingle (map (λ r. record { first = r.0; last = r.1; kind = data_type bs t }) ls)
    by [] = tt
    by (l ∷ ls) = (single (data_type bs t) (plain_type bs t h), by ls)
implied_by_single bs (Initial ps) h = tt
implied_by_single bs (Variables q t vs) h = tt
implied_by_single bs (Area q gs) h = tt
implied_by_single bs (Structure x gs) h = tt

implied_in_single : (bs : Blocks) (ds : List EflDecl) → AreBuilt ds → AreSingle (implied_in bs ds)
implied_in_single bs [] h = tt
implied_in_single bs (d ∷ ds) h =
    let rest = implied_in (behind_declaration bs d.kind) ds in
    each_on (λ r. IsSingle r.kind) (implied_by bs d.kind) rest (implied_by_single bs d.kind h.0) (implied_in_single (behind_declaration bs d.kind) ds h.1)

pub implied_single : (u : EflProcedure) → AreBuilt u.declarations → AreSingle (implied_of u)
implied_single u h = implied_in_single (naming u.declarations ∷ []) u.declarations h

each_reverse : {X : Type 0} (P : X → Type 0) (xs : List X) → Each P xs → Each P (reverse xs)
each_reverse P [] h = tt
each_reverse P (x ∷ xs) h = subst (Each P) (sym (reverse-append (x ∷ []) xs)) (each_on P (reverse xs) (x ∷ []) (each_reverse P xs h.1) (h.0, tt))

given_single : (c : ℕ) (rules : List Implied) (d : DataType) → AreSingle rules → IsSingle d → IsSingle (unwrap_or (find_map (gives c) rules) d)
given_single c [] d h k = k
given_single c (r ∷ rules) d h k = by (nat_le r.first c && nat_le c r.last) (given_single c rules d h.1 k)
  where
    by : (b : Bool) → IsSingle (unwrap_or (find_map (gives c) rules) d) → IsSingle (unwrap_or (option_or (if b then Some r.kind else None) (find_map (gives c) rules)) d)
    by true later = h.0
    by false later = later

implicit_single : (rules : List Implied) (x : Text) → AreSingle rules → IsSingle (implicit_type rules x)
implicit_single rules [] h = refl
implicit_single rules (c ∷ cs) h = given_single c (reverse rules) _ (each_reverse (λ r. IsSingle r.kind) rules h) (by (nat_le 73 c && nat_le c 78))
  where
    by : (b : Bool) → IsSingle (if b then types.Scalar kinds.Integer else types.NoType)
    by true = refl
    by false = refl

-- an undeclared variable that breaks no rule
by_letter_plain : (rules : List Implied) (x : Text) → AreSingle rules → when (lacks_type (implicit_type rules x)) OutOfProfileType ++ when (is_large (implicit_type rules x)) LargeVariable ≡ [] →
    IsPlain (by_letter_of rules x)
by_letter_plain rules x h f =
    let t = implicit_type rules x in (refl, typed t (implicit_single rules x h) (fails (lacks_type t) OutOfProfileType (none_left (when (lacks_type t) OutOfProfileType) (when (is_large t) LargeVariable) f)))

-- formals without a declaration
pub undeclared_plain : (rules : List Implied) (vs : List Variable) (fs : List Text) → AreSingle rules → flat_map formal_faults (undeclared rules vs fs) ≡ [] → Each IsPlain (undeclared rules vs fs)
undeclared_plain rules vs [] h f = tt
undeclared_plain rules vs (x ∷ fs) h f = by (list_any (λ v. bytes_eq x v.name) vs) (undeclared_plain rules vs fs h) f
  where
    by : (b : Bool) → (flat_map formal_faults (undeclared rules vs fs) ≡ [] → Each IsPlain (undeclared rules vs fs)) →
        flat_map formal_faults (if b then (undeclared rules vs fs) else (by_letter_of rules x ∷ undeclared rules vs fs)) ≡ [] → Each IsPlain (if b then (undeclared rules vs fs) else (by_letter_of rules x ∷ undeclared rules vs fs))
    by true later g = later g
    by false later g =
        let own = formal_faults (by_letter_of rules x) in
        (by_letter_plain rules x h (none_left own (flat_map formal_faults (undeclared rules vs fs)) g), later (none_right own (flat_map formal_faults (undeclared rules vs fs)) g))

-- ---- blocks ----

abbrev pub ArePlain : Blocks → Type 0
ArePlain bs = Each (λ b. Each IsPlain b.variables) bs

pub behind_plain : (bs : Blocks) (ds : List EflDecl) → AreBuilt ds → ArePlain bs → ArePlain (behind_all bs ds)
behind_plain bs [] h k = k
behind_plain bs (d ∷ ds) h k = behind_plain (behind_declaration bs d.kind) ds h.1 (one d.kind h.0)
  where
    by_type : (t : EflType) → not (is_plain t) ≡ false → ArePlain (behind bs t)
    by_type efl.Integer g = k
    by_type efl.Logical g = k
    by_type (efl.Real long) g = k
    by_type (efl.Complex long) g = k
    by_type (efl.Named x) g = k
    by_type (Shape o gs) g = absurd (true≢false g)

    one : (j : EflDeclKind) → unbuilt_declaration j ≡ false → ArePlain (behind_declaration bs j)
    one (Implicit rs t) g = by_type t g
    one (Initial ps) g = k
    one (Variables None t vs) g = by_type t (neither (not (is_plain t)) (list_any has_bounds vs) g).0
    one (Variables (Some q) t vs) g = absurd (true≢false g)
    one (Area q gs) g = absurd (true≢false g)
    one (Structure x gs) g = absurd (true≢false g)

-- one declaration
pub next_plain : (bs : Blocks) (d : EflDecl) → unbuilt_declaration d.kind ≡ false → ArePlain bs → ArePlain (behind_declaration bs d.kind)
next_plain bs d h k = behind_plain bs (d ∷ []) (h, tt) k

pub entering_plain : (home : List ℕ) (ds : List EflDecl) (bs : Blocks) → AreBuilt ds → ArePlain bs → ArePlain (entering home ds bs)
entering_plain home ds bs h k = (declared_plain home (naming ds ∷ bs) ds h, k)

pub outer_plain : (u : EflProcedure) → AreBuilt u.declarations → flat_map formal_faults (undeclared (implied_of u) (own_variables u) u.formals) ≡ [] → ArePlain (outer u)
outer_plain u h f =
    let vs = own_variables u in
    let more = undeclared (implied_of u) vs u.formals in
    (each_on IsPlain vs more (declared_plain [] (naming u.declarations ∷ []) u.declarations h) (undeclared_plain (implied_of u) vs u.formals (implied_single u h) f), tt)

-- ---- what names mean ----

-- a name means a variable that is plain, or none
abbrev MeansPlain : Option Meaning → Type 0
MeansPlain None = ⊤
MeansPlain (Some (IsVariable v)) = IsPlain v
MeansPlain (Some (IsStructure ms)) = ⊤

either_plain : (a b : Option Meaning) → MeansPlain a → MeansPlain b → MeansPlain (option_or a b)
either_plain None b h k = k
either_plain (Some m) b h k = h

structures_plain : (y : Text) (ss : List Shaped) → MeansPlain (find_map (structure_of y) ss)
structures_plain y [] = tt
structures_plain y (s ∷ ss) = by (bytes_eq y s.name) (structures_plain y ss)
  where
    by : (b : Bool) → MeansPlain (find_map (structure_of y) ss) → MeansPlain (option_or (if b then Some (IsStructure s.members) else None) (find_map (structure_of y) ss))
    by true later = tt
    by false later = later

found_plain : (y : Text) (vs : List Variable) → Each IsPlain vs → MeansPlain (find_map (variable_of y) vs)
found_plain y [] h = tt
found_plain y (v ∷ vs) h = by (bytes_eq y v.name) (found_plain y vs h.1)
  where
    by : (b : Bool) → MeansPlain (find_map (variable_of y) vs) → MeansPlain (option_or (if b then Some (IsVariable v) else None) (find_map (variable_of y) vs))
    by true later = h.0
    by false later = later

meaning_plain : (bs : Blocks) (y : Text) → ArePlain bs → MeansPlain (meaning bs y)
meaning_plain [] y h = tt
meaning_plain (b ∷ bs) y h =
    either_plain (in_block y b) (meaning bs y)
    (either_plain (find_map (structure_of y) b.structures) (find_map (variable_of y) b.variables) (structures_plain y b.structures) (found_plain y b.variables h.0))
    (meaning_plain bs y h.1)

-- ---- what a part lists and meets ----

pub listed_plain : (bs : Blocks) → ArePlain bs → (xs : List Text) → Each IsPlain (filter_map (λ x. variable_if (meaning bs x)) xs)
listed_plain bs h [] = tt
listed_plain bs h (x ∷ xs) = by (meaning bs x) (meaning_plain bs x h) (listed_plain bs h xs)
  where
    by : (o : Option Meaning) → MeansPlain o → Each IsPlain (filter_map (λ y. variable_if (meaning bs y)) xs) → Each IsPlain (cons_option (variable_if o) (filter_map (λ y. variable_if (meaning bs y)) xs))
    by None k later = later
    by (Some (IsVariable v)) k later = (k, later)
    by (Some (IsStructure ms)) k later = later

pub met_plain : (n : Names) → AreSingle n.implied → (ws : List Use) → Each (IsFine n) ws → Each IsPlain (filter_map (met_by n.implied n.blocks) ws)
met_plain n h [] k = tt
met_plain n h (Named x ∷ ws) k = by (meaning n.blocks x) k.0 (met_plain n h ws k.1)
  where
    by : (o : Option Meaning) → undeclared_faults (implicit_type n.implied x) o ≡ [] → Each IsPlain (filter_map (met_by n.implied n.blocks) ws) →
        Each IsPlain (cons_option (undeclared_by n.implied x o) (filter_map (met_by n.implied n.blocks) ws))
    by None f later = (by_letter_plain n.implied x h f, later)
    by (Some m) f later = later
met_plain n h (Applied x ∷ ws) k = met_plain n h ws k.1
met_plain n h (Laid x ∷ ws) k = absurd k.0
