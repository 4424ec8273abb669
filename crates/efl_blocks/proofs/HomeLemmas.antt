-- Where the variables of blocks stand.
use Rattle.std.proofs.Common.{◌≡◌, ℕ, Bool, true, false, List, [], ◌∷◌, ◌++◌, map, Option, Some, None, refl, sym, ap, ◌∙◌, option_map, if◌then◌else◌}
use Rattle.std.specs.List.{list_any}
use Rattle.std.specs.Option.{option_or}
use Rattle.std.specs.Str.{bytes_eq}
use Rattle.rule_table.specs.Words.{find_map}
use Rattle.rule_table.proofs.WordLemmas.{find_map-push}
use Rattle.efl_tree.specs.Syntax.{Text, EflVar, EflType, Integer, Logical, Real, Complex, Named, Shape, EflGroups, NoGroup, AndGroup, EflDeclKind, Implicit, Initial, Variables, Area, Structure, EflDecl, EflProcedure}
use Rattle.efl_scope.specs.DataTypes.{DataType, Members}
use Rattle.efl_scope.specs.Scopes.{Variable, Shaped, Block, Meaning, IsVariable, IsStructure, Implied, structure_of, variable_of, in_block, meaning, variable_if, knowing, shape, behind, behind_groups, behind_declaration, behind_all, variable, data_type, group_variables, declared_by, declared_in, block_with, implicit_type, implied_of, undeclared, own_variables, naming, entering, outer}
use Rattle.efl_scope.specs.Scopes as scopes
use Rattle.efl_scoped.specs.Seen.{table_of}
use Rattle.efl_expressions.specs.declared.names.Meaning as meanings
use Rattle.efl_expressions.specs.declared.names.Meaning.TheVariants as m
use Rattle.efl_expressions.specs.declared.names.Block as memory
use Rattle.efl_expressions.specs.declared.names.Blocks.{Blocks}
use Rattle.efl_expressions.specs.NameViews.{entry_in, IsMeaningIfAny}
use Rattle.efl_blocks.specs.declared.types.Types.{Types}
use Rattle.efl_blocks.specs.declared.homes.Homes.{Homes}
use Rattle.efl_blocks.specs.Within.{Within}
use Rattle.efl_blocks.specs.HomeViews.{home_in, home_if, IsOuterOne, AreHomes, IsHome, HomesWithin, IsOutside, AreOutside}

-- ---- a block more ----

-- Where `inside` is a block at the position `h` with these homes around it.
pub homes_within : (y : Types) (u : EflProcedure) (b : Block) (bs : scopes.Blocks) (known : memory.Block) (beyond : Blocks) (homes inside : Homes) (h : List ℕ) →
    Within y (b ∷ bs) known beyond → IsHome u b h → AreHomes u bs homes → ((x : Text) → home_in inside x ≡ home_if h (entry_in known x) (home_in homes x)) → AreHomes u (b ∷ bs) inside
homes_within y u b bs known beyond homes inside h is own are made = record {
  told = λ x. made x ∙ each x (in_block x b) (entry_in known x) (is.0 x) (own.home x);
  outer = λ x. outside x (in_block x b) (own.outer x);
}
  where
    each : (x : Text) (n : Option Meaning) (o : Option meanings.Meaning) → IsMeaningIfAny (table_of y.numbers) y.structures.list.items n o → ((v : Variable) → variable_if n ≡ Some v → v.home ≡ h) →
        home_if h o (home_in homes x) ≡ option_map (λ v. v.home) (variable_if (option_or n (meaning bs x)))
    each x None None made at = are.told x
    each x (Some (IsVariable v)) (Some (m.Variable d)) made at = ap Some (sym (at v refl))
    each x (Some (IsStructure ms)) (Some (m.Structure d)) made at = refl
    each x None (Some o) made at = absurd made
    each x (Some n) None made at = absurd made
    each x (Some (IsVariable v)) (Some (m.Structure d)) made at = absurd made
    each x (Some (IsStructure ms)) (Some (m.Variable d)) made at = absurd made

    outside : (x : Text) (n : Option Meaning) → ((v : Variable) → variable_if n ≡ Some v → IsOuterOne u x v) → (v : Variable) → variable_if (option_or n (meaning bs x)) ≡ Some v → IsOuterOne u x v
    outside x None at v = are.outer x v
    outside x (Some n) at v = at v

-- blocks with the homes of those around the innermost
pub homes_at : (y : Types) (u : EflProcedure) (bs : scopes.Blocks) (known : memory.Block) (beyond : Blocks) (homes inside : Homes) (h : List ℕ) → Within y bs known beyond →
    HomesWithin u bs h homes → ((x : Text) → home_in inside x ≡ home_if h (entry_in known x) (home_in homes x)) → AreHomes u bs inside
homes_at y u [] known beyond homes inside h is own made = absurd is
homes_at y u (b ∷ bs) known beyond homes inside h is own made = homes_within y u b bs known beyond homes inside h is own.0 own.1 made

-- no blocks
pub homes_outside : (u : EflProcedure) (homes : Homes) → ((x : Text) → home_in homes x ≡ None) → AreHomes u [] homes
homes_outside u homes none = record { told = none; outer = λ x v is. absurd (let f : None ≡ Some v = is in cc) }

-- ---- what is known behind a text ----

-- a structure more hides variables, and brings none
hidden : (s v : Option Meaning) (c : Bool) (ms : Members) (w : Variable) → variable_if (option_or (option_or s (if c then Some (IsStructure ms) else None)) v) ≡ Some w → variable_if (option_or s v) ≡ Some w
hidden None v true ms w is = absurd (let f : None ≡ Some w = is in cc)
hidden None v false ms w is = is
hidden (Some n) v c ms w is = is

module _ (u : EflProcedure) (h : List ℕ) (beyond : Homes) where
  known_homes : (o : Option Text) (ms : Members) (bs : scopes.Blocks) → HomesWithin u bs h beyond → HomesWithin u (knowing o ms bs) h beyond
  known_homes None ms bs own = own
  known_homes (Some z) ms [] own = own
  known_homes (Some z) ms (b ∷ bs) own = (record { home = λ x v is. own.0.home x v (back x v is); outer = λ x v is. own.0.outer x v (back x v is) }, own.1)
    where
      n : Shaped
      n = record { name = z; members = ms }

      back : (x : Text) (v : Variable) → variable_if (option_or (find_map (structure_of x) (b.structures ++ n ∷ [])) (find_map (variable_of x) b.variables)) ≡ Some v → variable_if (in_block x b) ≡ Some v
      back x v is =
          hidden (find_map (structure_of x) b.structures) (find_map (variable_of x) b.variables) (bytes_eq x z) ms v
          (sym (ap (λ o. variable_if (option_or o (find_map (variable_of x) b.variables))) (find_map-push (structure_of x) b.structures n)) ∙ is)

  mutual
    pub behind_homes : (bs : scopes.Blocks) (t : EflType) → HomesWithin u bs h beyond → HomesWithin u (behind bs t) h beyond
    behind_homes bs Integer own = own
    behind_homes bs Logical own = own
    behind_homes bs (Real long) own = own
    behind_homes bs (Complex long) own = own
    behind_homes bs (Named x) own = own
    behind_homes bs (Shape o gs) own = known_homes o (shape bs gs) (behind_groups bs gs) (groups_homes bs gs own)

    pub groups_homes : (bs : scopes.Blocks) (gs : EflGroups) → HomesWithin u bs h beyond → HomesWithin u (behind_groups bs gs) h beyond
    groups_homes bs NoGroup own = own
    groups_homes bs (AndGroup a vs p gs) own = groups_homes (behind bs a) gs (behind_homes bs a own)

  pub declaration_homes : (bs : scopes.Blocks) (k : EflDeclKind) → HomesWithin u bs h beyond → HomesWithin u (behind_declaration bs k) h beyond
  declaration_homes bs (Implicit rs a) own = behind_homes bs a own
  declaration_homes bs (Initial ps) own = own
  declaration_homes bs (Variables q a vs) own = behind_homes bs a own
  declaration_homes bs (Area q gs) own = groups_homes bs gs own
  declaration_homes bs (Structure x gs) own = behind_homes bs (Shape (Some x) gs) own

  pub all_homes : (bs : scopes.Blocks) (ds : List EflDecl) → HomesWithin u bs h beyond → HomesWithin u (behind_all bs ds) h beyond
  all_homes bs [] own = own
  all_homes bs (d ∷ ds) own = all_homes (behind_declaration bs d.kind) ds (declaration_homes bs d.kind own)

-- ---- blocks before their first declaration ----

abbrev AllAt : List ℕ → List Variable → Type 0
AllAt h [] = Unit {0}
AllAt h (v ∷ vs) = (v.home ≡ h) × AllAt h vs

both_at : (h : List ℕ) (vs ws : List Variable) → AllAt h vs → AllAt h ws → AllAt h (vs ++ ws)
both_at h [] ws one two = two
both_at h (v ∷ vs) ws one two = (one.0, both_at h vs ws one.1 two)

list_at : (h : List ℕ) (q : Option Text) (t : DataType) (vs : List EflVar) → AllAt h (map (variable h q t) vs)
list_at h q t [] = tt
list_at h q t (v ∷ vs) = (refl, list_at h q t vs)

groups_at : (q : Text) (bs : scopes.Blocks) (gs : EflGroups) → AllAt [] (group_variables q bs gs)
groups_at q bs NoGroup = tt
groups_at q bs (AndGroup a vs p gs) = both_at [] (map (variable [] (Some q) (data_type bs a)) vs) (group_variables q (behind bs a) gs) (list_at [] (Some q) (data_type bs a) vs) (groups_at q (behind bs a) gs)

one_at : (h : List ℕ) (bs : scopes.Blocks) (k : EflDeclKind) → IsOutside h k → AllAt h (declared_by h bs k)
one_at h bs (Variables q a vs) out = list_at h q (data_type bs a) vs
one_at [] bs (Area q gs) out = groups_at q bs gs
one_at (n ∷ h) bs (Area q gs) out = absurd out
one_at h bs (Implicit rs a) out = tt
one_at h bs (Initial ps) out = tt
one_at h bs (Structure x gs) out = tt

all_at : (h : List ℕ) (bs : scopes.Blocks) (ds : List EflDecl) → AreOutside h ds → AllAt h (declared_in h bs ds)
all_at h bs [] out = tt
all_at h bs (d ∷ ds) out = both_at h (declared_by h bs d.kind) (declared_in h (behind_declaration bs d.kind) ds) (one_at h bs d.kind out.0) (all_at h (behind_declaration bs d.kind) ds out.1)

outer_outside : (ds : List EflDecl) → AreOutside [] ds
outer_outside [] = tt
outer_outside (d ∷ ds) = (tt, outer_outside ds)

undeclared_at : (rules : List Implied) (vs : List Variable) (xs : List Text) → AllAt [] (undeclared rules vs xs)
undeclared_at rules vs [] = tt
undeclared_at rules vs (x ∷ xs) = each (list_any (λ v. bytes_eq x v.name) vs) (undeclared_at rules vs xs)
  where
    each : (b : Bool) → AllAt [] (undeclared rules vs xs) →
        AllAt [] (if b then undeclared rules vs xs else record { name = x; home = []; kind = implicit_type rules x; area = None } ∷ undeclared rules vs xs)
    each true rest = rest
    each false rest = (refl, rest)

found_at : (h : List ℕ) (vs : List Variable) → AllAt h vs → (x : Text) (v : Variable) → variable_if (find_map (variable_of x) vs) ≡ Some v → v.home ≡ h
found_at h [] all x v is = absurd (let f : None ≡ Some v = is in cc)
found_at h (w ∷ vs) all x v is = each (bytes_eq x w.name) (λ at. found_at h vs all.1 x v at) is
  where
    each : (b : Bool) → (variable_if (find_map (variable_of x) vs) ≡ Some v → v.home ≡ h) → variable_if (option_or (if b then Some (IsVariable w) else None) (find_map (variable_of x) vs)) ≡ Some v →
        v.home ≡ h
    each true rest at = let same : w ≡ v = (let f : Some w ≡ Some v = at in cc) in sym (ap (λ z. z.home) same) ∙ all.0
    each false rest at = rest at

-- an inner block
pub entering_homes : (u : EflProcedure) (n : ℕ) (h : List ℕ) (ds : List EflDecl) (bs : scopes.Blocks) (beyond : Homes) → AreOutside (n ∷ h) ds → AreHomes u bs beyond →
    HomesWithin u (entering (n ∷ h) ds bs) (n ∷ h) beyond
entering_homes u n h ds bs beyond out are = (record { home = at; outer = λ x v is none. absurd (inner (sym (at x v is) ∙ none)) }, are)
  where
    at : (x : Text) (v : Variable) → variable_if (find_map (variable_of x) (declared_in (n ∷ h) (naming ds ∷ bs) ds)) ≡ Some v → v.home ≡ n ∷ h
    at x v is = found_at (n ∷ h) (declared_in (n ∷ h) (naming ds ∷ bs) ds) (all_at (n ∷ h) (naming ds ∷ bs) ds out) x v is

    inner : n ∷ h ≡ [] → ⊥
    inner is = cc

-- the outer block
pub outer_homes : (u : EflProcedure) (beyond : Homes) → AreHomes u [] beyond → HomesWithin u (outer u) [] beyond
outer_homes u beyond are = (record { home = at; outer = λ x v is none. ap variable_if (or_none (in_block x (block_with all))) ∙ is }, are)
  where
    all : List Variable
    all = own_variables u ++ undeclared (implied_of u) (own_variables u) u.formals

    at : (x : Text) (v : Variable) → variable_if (find_map (variable_of x) all) ≡ Some v → v.home ≡ []
    at x v is = found_at [] all (both_at [] (own_variables u) (undeclared (implied_of u) (own_variables u) u.formals) (all_at [] (naming u.declarations ∷ []) u.declarations (outer_outside u.declarations))
        (undeclared_at (implied_of u) (own_variables u) u.formals)) x v is

    or_none : (o : Option Meaning) → option_or o None ≡ o
    or_none None = refl
    or_none (Some n) = refl
