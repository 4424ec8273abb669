-- The structures' names among blocks: what becomes known, and what variables hide.
use Rattle.std.proofs.Common.{◌≡◌, ◌⊎◌, inl, inr, Bool, true, false, not, ◌&&◌, ◌||◌, ℕ, List, [], ◌∷◌, ◌++◌, Option, Some, None, map, refl, sym, ap, ◌∙◌, if◌then◌else◌}
use Rattle.std.specs.Option.{option_or}
use Rattle.std.specs.Str.{bytes_eq}
use Rattle.rule_table.specs.Words.{find_map, is_some_and}
use Rattle.rule_table.proofs.WordLemmas.{find_map-push}
use Rattle.efl_tree.specs.Syntax.{Text, EflVar, EflType, Integer, Logical, Real, Complex, Named, Shape, EflGroups, NoGroup, AndGroup, EflDeclKind, Implicit, Initial, Variables, Area, Structure, EflDecl, EflProcedure}
use Rattle.efl_scope.specs.DataTypes.{DataType, Members}
use Rattle.efl_scope.specs.Scopes.{Variable, Shaped, Block, Blocks, Meaning, IsVariable, IsStructure, structure_of, variable_of, in_block, members_if, knowing, shape, behind, behind_groups, behind_declaration, variable, group_variables, declared_by, declared_in, data_type, block_with, naming, entering, outer, own_variables, undeclared, implied_of}
use Rattle.efl_scope.specs.Parts.{names_of}
use Rattle.efl_scope.specs.ScopeRules.{Names, no_name, holds, is_structure}
use Rattle.efl_scope.specs.Sights.{with_name, without_names, knowing_if, hiding_list, hiding_by, hiding}
use Rattle.efl_scope.proofs.NameLemmas.{same_names, without_names-holds, without_names-append, and_false}

abbrev pub kept_by : Blocks → Bool
kept_by [] = false
kept_by (b ∷ bs) = true

-- ---- what becomes known ----

abbrev tells : Option Meaning → Bool
tells o = is_some_and (λ ms. true) (members_if o)

-- a structure is found, or none
abbrev Found : Option Meaning → Type 0
Found o = (o ≡ None) ⊎ ((ms : Members) × (o ≡ Some (IsStructure ms)))

found_first : (y : Text) (s : Shaped) (ss : List Shaped) (b : Bool) → bytes_eq y s.name ≡ b → Found (find_map (structure_of y) ss) → Found (find_map (structure_of y) (s ∷ ss))
found_first y s ss true is rest = inr (s.members, ap (λ b. option_or (if b then Some (IsStructure s.members) else None) (find_map (structure_of y) ss)) is)
found_first y s ss false is (inl none) = inl (ap (λ b. option_or (if b then Some (IsStructure s.members) else None) (find_map (structure_of y) ss)) is ∙ none)
found_first y s ss false is (inr (ms, some)) =
    inr (ms, ap (λ b. option_or (if b then Some (IsStructure s.members) else None) (find_map (structure_of y) ss)) is ∙ some)

found : (y : Text) (ss : List Shaped) → Found (find_map (structure_of y) ss)
found y [] = inl refl
found y (s ∷ ss) = found_first y s ss (bytes_eq y s.name) refl (found y ss)

or_true : (b : Bool) → true ≡ (b || true)
or_true true = refl
or_true false = refl

-- what is found with one structure more, where these were found before, and those are the variables and the blocks around
one_more : (ms : Members) (b : Bool) (before rest : Option Meaning) → (before ≡ None) ⊎ ((ns : Members) × (before ≡ Some (IsStructure ns))) →
    tells (option_or (option_or before (if b then Some (IsStructure ms) else None)) rest) ≡ (b || tells (option_or before rest))
one_more ms true before rest (inl none) = ap (λ o. tells (option_or (option_or o (Some (IsStructure ms))) rest)) none
one_more ms false before rest (inl none) = ap (λ o. tells (option_or (option_or o None) rest)) none ∙ sym (ap (λ o. tells (option_or o rest)) none)
one_more ms b before rest (inr (ns, some)) =
    ap (λ o. tells (option_or (option_or o (if b then Some (IsStructure ms) else None)) rest)) some ∙ or_true b ∙ sym (ap (λ o. b || tells (option_or o rest)) some)

option_or_assoc : {V : Type 0} (a b c : Option V) → option_or (option_or a b) c ≡ option_or a (option_or b c)
option_or_assoc None b c = refl
option_or_assoc (Some v) b c = refl

knowing-one : (x : Text) (ms : Members) (b : Block) (bs : Blocks) (y : Text) → is_structure (knowing (Some x) ms (b ∷ bs)) y ≡ with_name x (is_structure (b ∷ bs)) y
knowing-one x ms b bs y =
    let here = find_map (structure_of y) b.structures in
    let rest = option_or (find_map (variable_of y) b.variables) (find_map (in_block y) bs) in
    ap (λ o. tells (option_or (option_or o (find_map (variable_of y) b.variables)) (find_map (in_block y) bs))) (find_map-push (structure_of y) b.structures (record { name = x; members = ms }))
    ∙ ap tells (option_or_assoc (option_or here (if bytes_eq y x then Some (IsStructure ms) else None)) (find_map (variable_of y) b.variables) (find_map (in_block y) bs))
    ∙ one_more ms (bytes_eq y x) here rest (found y b.structures)
    ∙ ap (λ o. bytes_eq y x || tells o) (sym (option_or_assoc here (find_map (variable_of y) b.variables) (find_map (in_block y) bs)))

pub knowing-known : (o : Option Text) (ms : Members) (bs : Blocks) → is_structure (knowing o ms bs) ≡ knowing_if (kept_by bs) o (is_structure bs)
knowing-known None ms [] = refl
knowing-known None ms (b ∷ bs) = refl
knowing-known (Some x) ms [] = refl
knowing-known (Some x) ms (b ∷ bs) = same_names (is_structure (knowing (Some x) ms (b ∷ bs))) (with_name x (is_structure (b ∷ bs))) (knowing-one x ms b bs)

pub knowing-kept : (o : Option Text) (ms : Members) (bs : Blocks) → kept_by (knowing o ms bs) ≡ kept_by bs
knowing-kept None ms bs = refl
knowing-kept (Some x) ms [] = refl
knowing-kept (Some x) ms (b ∷ bs) = refl

mutual
  pub behind-kept : (bs : Blocks) (t : EflType) → kept_by (behind bs t) ≡ kept_by bs
  behind-kept bs Integer = refl
  behind-kept bs Logical = refl
  behind-kept bs (Real long) = refl
  behind-kept bs (Complex long) = refl
  behind-kept bs (Named x) = refl
  behind-kept bs (Shape o gs) = knowing-kept o (shape bs gs) (behind_groups bs gs) ∙ behind_groups-kept bs gs

  pub behind_groups-kept : (bs : Blocks) (gs : EflGroups) → kept_by (behind_groups bs gs) ≡ kept_by bs
  behind_groups-kept bs NoGroup = refl
  behind_groups-kept bs (AndGroup t vs p gs) = behind_groups-kept (behind bs t) gs ∙ behind-kept bs t

-- ---- what variables hide ----

abbrev named_in : List Variable → List Text
named_in vs = map (λ v. v.name) vs

abbrev Hidden : Text → List Variable → Option Meaning → Type 0
Hidden y vs rest = tells (option_or (find_map (variable_of y) vs) rest) ≡ (not (holds (named_in vs) y) && tells rest)

variable_first : (y : Text) (v : Variable) (vs : List Variable) (rest : Option Meaning) (b : Bool) → bytes_eq y v.name ≡ b → Hidden y vs rest → Hidden y (v ∷ vs) rest
variable_first y v vs rest true is later =
    ap (λ b. tells (option_or (option_or (if b then Some (IsVariable v) else None) (find_map (variable_of y) vs)) rest)) is
    ∙ sym (ap (λ b. not (b || holds (named_in vs) y) && tells rest) is)
variable_first y v vs rest false is later =
    ap (λ b. tells (option_or (option_or (if b then Some (IsVariable v) else None) (find_map (variable_of y) vs)) rest)) is
    ∙ later ∙ sym (ap (λ b. not (b || holds (named_in vs) y) && tells rest) is)

variable_found : (y : Text) (vs : List Variable) (rest : Option Meaning) → Hidden y vs rest
variable_found y [] rest = refl
variable_found y (v ∷ vs) rest = variable_first y v vs rest (bytes_eq y v.name) refl (variable_found y vs rest)

block_hides : (vs : List Variable) (bs : Blocks) → is_structure (block_with vs ∷ bs) ≡ without_names (named_in vs) (is_structure bs)
block_hides vs bs i y = (variable_found y vs (find_map (in_block y) bs) ∙ sym (without_names-holds (named_in vs) (is_structure bs) y)) i

names_as : (home : List ℕ) (q : Option Text) (t : DataType) (vs : List EflVar) → named_in (map (variable home q t) vs) ≡ names_of vs
names_as home q t [] = refl
names_as home q t (v ∷ vs) = ap (λ xs. v.name ∷ xs) (names_as home q t vs)

named-append : (vs ws : List Variable) → named_in (vs ++ ws) ≡ named_in vs ++ named_in ws
named-append [] ws = refl
named-append (v ∷ vs) ws = ap (λ xs. v.name ∷ xs) (named-append vs ws)

without-both : (vs ws : List Variable) (known : Names) → without_names (named_in (vs ++ ws)) known ≡ without_names (named_in ws) (without_names (named_in vs) known)
without-both vs ws known = ap (λ xs. without_names xs known) (named-append vs ws) ∙ without_names-append (named_in vs) (named_in ws) known

list_hides : (q : Text) (bs : Blocks) (gs : EflGroups) (known : Names) → without_names (named_in (group_variables q bs gs)) known ≡ hiding_list gs known
list_hides q bs NoGroup known = refl
list_hides q bs (AndGroup t vs p gs) known =
    without-both (map (variable [] (Some q) (data_type bs t)) vs) (group_variables q (behind bs t) gs) known
    ∙ list_hides q (behind bs t) gs (without_names (named_in (map (variable [] (Some q) (data_type bs t)) vs)) known)
    ∙ ap (λ xs. hiding_list gs (without_names xs known)) (names_as [] (Some q) (data_type bs t) vs)

declaration_hides : (home : List ℕ) (bs : Blocks) (k : EflDeclKind) (known : Names) → without_names (named_in (declared_by home bs k)) known ≡ hiding_by k known
declaration_hides home bs (Implicit rs t) known = refl
declaration_hides home bs (Initial ps) known = refl
declaration_hides home bs (Variables q t vs) known = ap (λ xs. without_names xs known) (names_as home q (data_type bs t) vs)
declaration_hides home bs (Area q gs) known = list_hides q bs gs known
declaration_hides home bs (Structure x gs) known = refl

declared_hide : (home : List ℕ) (bs : Blocks) (ds : List EflDecl) (known : Names) → without_names (named_in (declared_in home bs ds)) known ≡ hiding ds known
declared_hide home bs [] known = refl
declared_hide home bs (d ∷ ds) known =
    without-both (declared_by home bs d.kind) (declared_in home (behind_declaration bs d.kind) ds) known
    ∙ declared_hide home (behind_declaration bs d.kind) ds (without_names (named_in (declared_by home bs d.kind)) known)
    ∙ ap (hiding ds) (declaration_hides home bs d.kind known)

-- an inner block, and the outer one
pub entering-known : (home : List ℕ) (ds : List EflDecl) (bs : Blocks) → is_structure (entering home ds bs) ≡ hiding ds (is_structure bs)
entering-known home ds bs =
    block_hides (declared_in home (naming ds ∷ bs) ds) bs ∙ declared_hide home (naming ds ∷ bs) ds (is_structure bs)

pub outer-known : (u : EflProcedure) → is_structure (outer u) ≡ no_name
outer-known u =
    let vs = own_variables u ++ undeclared (implied_of u) (own_variables u) u.formals in
    block_hides vs [] ∙ same_names (without_names (named_in vs) (is_structure [])) no_name (λ y. without_names-holds (named_in vs) (is_structure []) y ∙ and_false (not (holds (named_in vs) y)))
