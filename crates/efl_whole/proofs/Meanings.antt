-- What names mean among blocks is what a walk over declarations keeps of them.
use Rattle.std.proofs.Common.{◌≡◌, Bool, true, false, ◌&&◌, ◌||◌, ℕ, List, [], ◌∷◌, ◌++◌, Option, Some, None, map, is_some, refl, sym, ap, ◌∙◌}
use Rattle.std.specs.Prelude.{nat_le, reverse, unwrap_or, option_map, if◌then◌else◌}
use Rattle.std.specs.List.{list_any}
use Rattle.std.specs.Option.{option_or}
use Rattle.std.specs.Str.{bytes_eq}
use Rattle.std.proofs.lemmas.List.{map-append, reverse-append}
use Rattle.std.proofs.lemmas.Slice.Eq.{bytes_eq-Decides}
use Rattle.ground.specs.declared.value.Kind.TheVariants as kinds
use Rattle.rule_table.specs.Words.{find_map}
use Rattle.efl_tree.specs.declared.declaration.EflBound.{EflBound}
use Rattle.efl_tree.specs.Syntax.{Text, EflVar, EflType, Integer, Logical, Real, Complex, Named, Shape, EflGroups, NoGroup, AndGroup, EflDeclKind, Implicit, Initial, Variables, Area, Structure, EflDecl, EflProcedure}
use Rattle.efl_scope.specs.DataTypes.{DataType, Scalar, Structured, Array, NoType, Members}
use Rattle.efl_scope.specs.Scopes.{Variable, Shaped, Block, Blocks, Meaning, IsVariable, IsStructure, structure_of, variable_of, in_block, meaning, members_if, knowing, shape, structured, bounded, behind, behind_groups, behind_declaration, behind_all, variable, group_variables, declared_by, declared_in, data_type, block_with, untyped, naming, entering, outer, own_variables, undeclared, implied_of, Implied, implied_by, implied_in, gives, implicit_type}
use Rattle.efl_scope.proofs.PartLemmas.{or_nothing}
use Rattle.efl_scope.proofs.WalkLemmas.{option_or_assoc, mapped}
use Rattle.efl_whole.specs.declared.roles.Role.{Role}
use Rattle.efl_whole.specs.declared.roles.Role.TheVariants.{Indexed, Single}
use Rattle.efl_whole.specs.declared.roles.Role.TheVariants as roles
use Rattle.efl_whole.specs.Roles.{Roles, no_role, inside, with_variable, with_structure, with_structure_if, named_role, type_role, variable_role, with_variables, no_letters, with_letter, with_letters, letter_role, with_formals, Listed, starting, listed}
use Rattle.efl_whole.specs.Roles as walk

-- ---- roles of meanings ----

abbrev pub kind_role : DataType → Role
kind_role (Structured ms) = Indexed
kind_role (Array bs t) = Indexed
kind_role _ = Single

abbrev pub role_of : Meaning → Role
role_of (IsStructure ms) = roles.Structure
role_of (IsVariable v) = kind_role v.kind

-- among blocks, and in the innermost of them
abbrev pub roles_by : Blocks → Roles
roles_by bs x = option_map role_of (meaning bs x)

abbrev pub own_roles : Block → Roles
own_roles b x = option_map role_of (in_block x b)

-- of variables
abbrev pub among : List Variable → Roles
among vs x = option_map role_of (find_map (variable_of x) vs)

pub roles_inside : (b : Block) (bs : Blocks) → roles_by (b ∷ bs) ≡ inside (own_roles b) (roles_by bs)
roles_inside b bs i x = mapped role_of (in_block x b) (meaning bs x) i

inside_nothing : (f : Roles) → f ≡ inside f no_role
inside_nothing f i x = sym (or_nothing (f x)) i

inside_assoc : (f g h : Roles) → inside (inside f g) h ≡ inside f (inside g h)
inside_assoc f g h i x = sym (option_or_assoc (f x) (g x) (h x)) i

find_map-append : {X V : Type 0} (f : X → Option V) (xs ys : List X) → find_map f (xs ++ ys) ≡ option_or (find_map f xs) (find_map f ys)
find_map-append f [] ys = refl
find_map-append f (x ∷ xs) ys = ap (option_or (f x)) (find_map-append f xs ys) ∙ option_or_assoc (f x) (find_map f xs) (find_map f ys)

among-append : (vs ws : List Variable) → among (vs ++ ws) ≡ inside (among vs) (among ws)
among-append vs ws i x =
    (ap (option_map role_of) (find_map-append (variable_of x) vs ws) ∙ mapped role_of (find_map (variable_of x) vs) (find_map (variable_of x) ws)) i

-- ---- types ----

structured_role : (o : Option Meaning) → kind_role (structured (members_if o)) ≡ named_role (option_map role_of o)
structured_role None = refl
structured_role (Some (IsStructure ms)) = refl
structured_role (Some (IsVariable v)) = by v.kind
  where
    by : (t : DataType) → Single ≡ named_role (Some (kind_role t))
    by (Scalar k) = refl
    by (Structured ms) = refl
    by (Array bs t) = refl
    by NoType = refl

type_role-is : (bs : Blocks) (t : EflType) → kind_role (data_type bs t) ≡ type_role (roles_by bs) t
type_role-is bs Integer = refl
type_role-is bs Logical = refl
type_role-is bs (Real long) = refl
type_role-is bs (Complex long) = refl
type_role-is bs (Named x) = structured_role (meaning bs x)
type_role-is bs (Shape o gs) = refl

bounded_role : (t : DataType) (cs : List EflBound) → kind_role (bounded t cs) ≡ variable_role (kind_role t) cs
bounded_role t [] = refl
bounded_role t (c ∷ cs) = refl

-- ---- variables that come ----

one_found : (b : Bool) (o : Option Role) (m : Meaning) (r : Role) (rest : Option Meaning) → role_of m ≡ r →
    option_or (option_or o (if b then Some r else None)) (option_map role_of rest) ≡ option_or o (option_map role_of (option_or (if b then Some m else None) rest))
one_found b (Some s) m r rest is = refl
one_found true None m r rest is = ap Some (sym is)
one_found false None m r rest is = refl

-- a variable that is found before others
one_variable : (r : Role) (f : Roles) (v : Variable) (vs : List Variable) → kind_role v.kind ≡ r → inside (with_variable v.name r f) (among vs) ≡ inside f (among (v ∷ vs))
one_variable r f v vs is i y = one_found (bytes_eq y v.name) (f y) (IsVariable v) r (find_map (variable_of y) vs) is i

pub variables_come : (home : List ℕ) (q : Option Text) (t : DataType) (vs : List EflVar) (f : Roles) →
    with_variables (kind_role t) vs f ≡ inside f (among (map (variable home q t) vs))
variables_come home q t [] f = inside_nothing f
variables_come home q t (v ∷ vs) f =
    variables_come home q t vs (with_variable v.name (variable_role (kind_role t) v.bounds) f)
    ∙ one_variable (variable_role (kind_role t) v.bounds) f (variable home q t v) (map (variable home q t) vs) (bounded_role t v.bounds)

-- ---- names that hide ----

hidden_variables : (home : List ℕ) (q : Option Text) (t : DataType) (vs : List EflVar) (f : Roles) →
    walk.hide_variables vs f ≡ inside f (among (map untyped (map (variable home q t) vs)))
hidden_variables home q t [] f = inside_nothing f
hidden_variables home q t (v ∷ vs) f =
    hidden_variables home q t vs (with_variable v.name Single f)
    ∙ one_variable Single f (untyped (variable home q t v)) (map untyped (map (variable home q t) vs)) refl

-- two lists of variables, one behind the other
hidden_both : (vs ws : List Variable) (f : Roles) → inside (inside f (among (map untyped vs))) (among (map untyped ws)) ≡ inside f (among (map untyped (vs ++ ws)))
hidden_both vs ws f =
    inside_assoc f (among (map untyped vs)) (among (map untyped ws)) ∙ ap (inside f) (sym (ap among (map-append untyped vs ws) ∙ among-append (map untyped vs) (map untyped ws)))

hidden_groups : (q : Text) (gs : EflGroups) (bs : Blocks) (f : Roles) → walk.hide_groups gs f ≡ inside f (among (map untyped (group_variables q bs gs)))
hidden_groups q NoGroup bs f = inside_nothing f
hidden_groups q (AndGroup t vs p gs) bs f =
    let own = map (variable [] (Some q) (data_type bs t)) vs in
    hidden_groups q gs (behind bs t) (walk.hide_variables vs f)
    ∙ ap (λ g. inside g (among (map untyped (group_variables q (behind bs t) gs)))) (hidden_variables [] (Some q) (data_type bs t) vs f)
    ∙ hidden_both own (group_variables q (behind bs t) gs) f

hidden_by : (home : List ℕ) (k : EflDeclKind) (bs : Blocks) (f : Roles) → walk.hide_by k f ≡ inside f (among (map untyped (declared_by home bs k)))
hidden_by home (Implicit rs t) bs f = inside_nothing f
hidden_by home (Initial ps) bs f = inside_nothing f
hidden_by home (Variables q t vs) bs f = hidden_variables home q (data_type bs t) vs f
hidden_by home (Area q gs) bs f = hidden_groups q gs bs f
hidden_by home (Structure x gs) bs f = inside_nothing f

hidden_all : (home : List ℕ) (ds : List EflDecl) (bs : Blocks) (f : Roles) → walk.hide_all ds f ≡ inside f (among (map untyped (declared_in home bs ds)))
hidden_all home [] bs f = inside_nothing f
hidden_all home (d ∷ ds) bs f =
    let rest = declared_in home (behind_declaration bs d.kind) ds in
    hidden_all home ds (behind_declaration bs d.kind) (walk.hide_by d.kind f)
    ∙ ap (λ g. inside g (among (map untyped rest))) (hidden_by home d.kind bs f)
    ∙ hidden_both (declared_by home bs d.kind) rest f

-- ---- structures that become known ----

push_structure : (y x : Text) (ms : Members) (ss : List Shaped) (rest : Option Meaning) →
    option_map role_of (option_or (find_map (structure_of y) (ss ++ record { name = x; members = ms } ∷ [])) rest)
    ≡ (if bytes_eq y x then Some roles.Structure else option_map role_of (option_or (find_map (structure_of y) ss) rest))
push_structure y x ms [] rest = by (bytes_eq y x)
  where
    by : (b : Bool) → option_map role_of (option_or (option_or (if b then Some (IsStructure ms) else None) None) rest) ≡ (if b then Some roles.Structure else option_map role_of rest)
    by true = refl
    by false = refl
push_structure y x ms (s ∷ ss) rest = by (bytes_eq y s.name) (bytes_eq y x) (push_structure y x ms ss rest)
  where
    more : Option Meaning
    more = find_map (structure_of y) (ss ++ record { name = x; members = ms } ∷ [])

    by : (c b : Bool) → option_map role_of (option_or more rest) ≡ (if b then Some roles.Structure else option_map role_of (option_or (find_map (structure_of y) ss) rest)) →
        option_map role_of (option_or (option_or (if c then Some (IsStructure s.members) else None) more) rest)
        ≡ (if b then Some roles.Structure else option_map role_of (option_or (option_or (if c then Some (IsStructure s.members) else None) (find_map (structure_of y) ss)) rest))
    by true true e = refl
    by true false e = refl
    by false b e = e

-- these blocks are one block, of whose names f tells, and those around
pub record Heads (bs around : Blocks) (f : Roles) : Type 0 where
  pub head : Block
  pub is : bs ≡ head ∷ around
  pub own : own_roles head ≡ f

pub heads_roles : (bs around : Blocks) (f : Roles) → Heads bs around f → roles_by bs ≡ inside f (roles_by around)
heads_roles bs around f h = ap roles_by h.is ∙ roles_inside h.head around ∙ ap (λ g. inside g (roles_by around)) h.own

known_structure : (x : Text) (ms : Members) (b : Block) → own_roles (record b { structures = b.structures ++ record { name = x; members = ms } ∷ [] }) ≡ with_structure x (own_roles b)
known_structure x ms b i y = push_structure y x ms b.structures (find_map (variable_of y) b.variables) i

knowing_heads : (o : Option Text) (ms : Members) (bs around : Blocks) (f : Roles) → Heads bs around f → Heads (knowing o ms bs) around (with_structure_if o f)
knowing_heads None ms bs around f h = h
knowing_heads (Some x) ms bs around f h = record {
  head = record h.head { structures = h.head.structures ++ record { name = x; members = ms } ∷ [] };
  is = ap (knowing (Some x) ms) h.is;
  own = known_structure x ms h.head ∙ ap (with_structure x) h.own;
}

mutual
  pub behind_heads : (t : EflType) (bs around : Blocks) (f : Roles) → Heads bs around f → Heads (behind bs t) around (walk.behind_type t f)
  behind_heads Integer bs around f h = h
  behind_heads Logical bs around f h = h
  behind_heads (Real long) bs around f h = h
  behind_heads (Complex long) bs around f h = h
  behind_heads (Named x) bs around f h = h
  behind_heads (Shape o gs) bs around f h = knowing_heads o (shape bs gs) (behind_groups bs gs) around (walk.behind_groups gs f) (groups_heads gs bs around f h)

  pub groups_heads : (gs : EflGroups) (bs around : Blocks) (f : Roles) → Heads bs around f → Heads (behind_groups bs gs) around (walk.behind_groups gs f)
  groups_heads NoGroup bs around f h = h
  groups_heads (AndGroup t vs p gs) bs around f h = groups_heads gs (behind bs t) around (walk.behind_type t f) (behind_heads t bs around f h)

pub kind_heads : (k : EflDeclKind) (bs around : Blocks) (f : Roles) → Heads bs around f → Heads (behind_declaration bs k) around (walk.behind_kind k f)
kind_heads (Implicit rs t) bs around f h = behind_heads t bs around f h
kind_heads (Initial ps) bs around f h = h
kind_heads (Variables q t vs) bs around f h = behind_heads t bs around f h
kind_heads (Area q gs) bs around f h = groups_heads gs bs around f h
kind_heads (Structure x gs) bs around f h = behind_heads (Shape (Some x) gs) bs around f h

pub all_heads : (ds : List EflDecl) (bs around : Blocks) (f : Roles) → Heads bs around f → Heads (behind_all bs ds) around (walk.behind_all ds f)
all_heads [] bs around f h = h
all_heads (d ∷ ds) bs around f h = all_heads ds (behind_declaration bs d.kind) around (walk.behind_kind d.kind f) (kind_heads d.kind bs around f h)

-- ---- letters ----

-- by rules of which the later one counts
abbrev ruled : List Implied → (ℕ → Role) → ℕ → Role
ruled [] f = f
ruled (i ∷ is') f = ruled is' (λ c. if nat_le i.first c && nat_le c i.last then kind_role i.kind else f c)

ruled-append : (is' js : List Implied) (f : ℕ → Role) → ruled (is' ++ js) f ≡ ruled js (ruled is' f)
ruled-append [] js f = refl
ruled-append (i ∷ is') js f = ruled-append is' js (λ c. if nat_le i.first c && nat_le c i.last then kind_role i.kind else f c)

letters_ruled : (t : DataType) (rs : List (ℕ × ℕ)) (f : ℕ → Role) → with_letters (kind_role t) rs f ≡ ruled (map (λ r. record { first = r.0; last = r.1; kind = t }) rs) f
letters_ruled t [] f = refl
letters_ruled t (r ∷ rs) f = letters_ruled t rs (with_letter (kind_role t) r f)

-- the latest rule is found first from behind
ruled_found : (is' : List Implied) (f : ℕ → Role) (c : ℕ) → ruled is' f c ≡ unwrap_or (option_map kind_role (find_map (gives c) (reverse is'))) (f c)
ruled_found [] f c = refl
ruled_found (i ∷ is') f c =
    ruled_found is' (λ d. if nat_le i.first d && nat_le d i.last then kind_role i.kind else f d) c
    ∙ by (nat_le i.first c && nat_le c i.last) (find_map (gives c) (reverse is'))
    ∙ sym (ap (λ o. unwrap_or (option_map kind_role o) (f c)) (ap (find_map (gives c)) (reverse-append (i ∷ []) is') ∙ find_map-append (gives c) (reverse is') (i ∷ [])))
  where
    by : (b : Bool) (o : Option DataType) →
        unwrap_or (option_map kind_role o) (if b then kind_role i.kind else f c) ≡ unwrap_or (option_map kind_role (option_or o (option_or (if b then Some i.kind else None) None))) (f c)
    by b (Some t) = refl
    by true None = refl
    by false None = refl

implicit_role : (rules : List Implied) (x : Text) → letter_role (ruled rules no_letters) x ≡ kind_role (implicit_type rules x)
implicit_role rules [] = refl
implicit_role rules (c ∷ cs) = ruled_found rules no_letters c ∙ by (find_map (gives c) (reverse rules)) (nat_le 73 c && nat_le c 78)
  where
    by : (o : Option DataType) (b : Bool) → unwrap_or (option_map kind_role o) Single ≡ kind_role (unwrap_or o (if b then Scalar kinds.Integer else NoType))
    by (Some t) b = refl
    by None true = refl
    by None false = refl

-- ---- the variables of a block ----

-- what comes of declarations: the blocks behind them, and the variables and rules that they give
pub record Lists (around bs : Blocks) (vs : List Variable) (rules : List Implied) (old new : Listed) : Type 0 where
  pub heads : Heads bs around new.names
  pub variables : new.variables ≡ inside old.variables (among vs)
  pub letters : new.letters ≡ ruled rules old.letters

lists_none : (around bs : Blocks) (l : Listed) (names : Roles) → Heads bs around names →
    Lists around bs [] [] l (record { names = names; variables = l.variables; letters = l.letters })
lists_none around bs l names h = record { heads = h; variables = inside_nothing l.variables; letters = refl }

lists_both : (around bs cs : Blocks) (vs ws : List Variable) (is' js : List Implied) (l m n : Listed) →
    Lists around bs vs is' l m → Lists around cs ws js m n → Lists around cs (vs ++ ws) (is' ++ js) l n
lists_both around bs cs vs ws is' js l m n a b = record {
  heads = b.heads;
  variables = b.variables ∙ ap (λ f. inside f (among ws)) a.variables ∙ inside_assoc l.variables (among vs) (among ws) ∙ ap (inside l.variables) (sym (among-append vs ws));
  letters = b.letters ∙ ap (ruled js) a.letters ∙ sym (ruled-append is' js l.letters);
}

role_here : (around bs : Blocks) (f : Roles) (t : EflType) → Heads bs around f → type_role (inside f (roles_by around)) t ≡ kind_role (data_type bs t)
role_here around bs f t h = ap (λ g. type_role g t) (sym (heads_roles bs around f h)) ∙ sym (type_role-is bs t)

group_lists : (home : List ℕ) (q : Option Text) (t : EflType) (vs : List EflVar) (around bs : Blocks) (l : Listed) → Heads bs around l.names →
    Lists around (behind bs t) (map (variable home q (data_type bs t)) vs) [] l (walk.list_group (roles_by around) t vs l)
group_lists home q t vs around bs l h = record {
  heads = behind_heads t bs around l.names h;
  variables = ap (λ r. with_variables r vs l.variables) (role_here around bs l.names t h) ∙ variables_come home q (data_type bs t) vs l.variables;
  letters = refl;
}

groups_list : (q : Text) (gs : EflGroups) (around bs : Blocks) (l : Listed) → Heads bs around l.names →
    Lists around (behind_groups bs gs) (group_variables q bs gs) [] l (walk.list_groups (roles_by around) gs l)
groups_list q NoGroup around bs l h = lists_none around bs l l.names h
groups_list q (AndGroup t vs p gs) around bs l h =
    let one = group_lists [] (Some q) t vs around bs l h in
    lists_both around (behind bs t) (behind_groups (behind bs t) gs) (map (variable [] (Some q) (data_type bs t)) vs) (group_variables q (behind bs t) gs) [] [] l
    (walk.list_group (roles_by around) t vs l) (walk.list_groups (roles_by around) gs (walk.list_group (roles_by around) t vs l)) one
    (groups_list q gs around (behind bs t) (walk.list_group (roles_by around) t vs l) one.heads)

kind_lists : (home : List ℕ) (k : EflDeclKind) (around bs : Blocks) (l : Listed) → Heads bs around l.names →
    Lists around (behind_declaration bs k) (declared_by home bs k) (implied_by bs k) l (walk.list_by (roles_by around) k l)
kind_lists home (Implicit rs t) around bs l h = record {
  heads = behind_heads t bs around l.names h;
  variables = inside_nothing l.variables;
  letters = ap (λ r. with_letters r rs l.letters) (role_here around bs l.names t h) ∙ letters_ruled (data_type bs t) rs l.letters;
}
kind_lists home (Initial ps) around bs l h = lists_none around bs l l.names h
kind_lists home (Variables q t vs) around bs l h = group_lists home q t vs around bs l h
kind_lists home (Area q gs) around bs l h = groups_list q gs around bs l h
kind_lists home (Structure x gs) around bs l h = lists_none around (behind_declaration bs (Structure x gs)) l (with_structure x (walk.behind_groups gs l.names)) (behind_heads (Shape (Some x) gs) bs around l.names h)

all_list : (home : List ℕ) (ds : List EflDecl) (around bs : Blocks) (l : Listed) → Heads bs around l.names →
    Lists around (behind_all bs ds) (declared_in home bs ds) (implied_in bs ds) l (walk.list_all (roles_by around) ds l)
all_list home [] around bs l h = lists_none around bs l l.names h
all_list home (d ∷ ds) around bs l h =
    let one = kind_lists home d.kind around bs l h in
    lists_both around (behind_declaration bs d.kind) (behind_all (behind_declaration bs d.kind) ds) (declared_by home bs d.kind) (declared_in home (behind_declaration bs d.kind) ds)
    (implied_by bs d.kind) (implied_in (behind_declaration bs d.kind) ds) l (walk.list_by (roles_by around) d.kind l) (walk.list_all (roles_by around) ds (walk.list_by (roles_by around) d.kind l)) one
    (all_list home ds around (behind_declaration bs d.kind) (walk.list_by (roles_by around) d.kind l) one.heads)

-- the names of a block hide what is around
naming_heads : (ds : List EflDecl) (around : Blocks) → Heads (naming ds ∷ around) around (walk.hide_all ds no_role)
naming_heads ds around = record { head = naming ds; is = refl; own = sym (hidden_all [] ds [] no_role) }

listed_lists : (home : List ℕ) (ds : List EflDecl) (around : Blocks) →
    Lists around (behind_all (naming ds ∷ around) ds) (declared_in home (naming ds ∷ around) ds) (implied_in (naming ds ∷ around) ds) (starting (walk.hide_all ds no_role)) (listed (roles_by around) ds)
listed_lists home ds around = all_list home ds around (naming ds ∷ around) (starting (walk.hide_all ds no_role)) (naming_heads ds around)

-- an inner block, before its first declaration
pub entering_heads : (home : List ℕ) (ds : List EflDecl) (around : Blocks) → Heads (entering home ds around) around (listed (roles_by around) ds).variables
entering_heads home ds around =
    let lists = listed_lists home ds around in
    record { head = block_with (declared_in home (naming ds ∷ around) ds); is = refl; own = sym lists.variables }

-- ---- formals ----

named_among : (vs : List Variable) (y : Text) → list_any (λ v. bytes_eq y v.name) vs ≡ true → is_some (among vs y) ≡ true
named_among [] y e = absurd (cc)
named_among (v ∷ vs) y e = by (bytes_eq y v.name) (named_among vs y) e
  where
    by : (b : Bool) → (list_any (λ w. bytes_eq y w.name) vs ≡ true → is_some (among vs y) ≡ true) → (b || list_any (λ w. bytes_eq y w.name) vs) ≡ true →
        is_some (option_map role_of (option_or (if b then Some (IsVariable v) else None) (find_map (variable_of y) vs))) ≡ true
    by true g h = refl
    by false g h = g h

kept_some : {V : Type 0} (o p : Option V) → is_some o ≡ true → is_some (option_or o p) ≡ true
kept_some None p e = absurd (cc)
kept_some (Some v) p e = refl

some_or : {V : Type 0} (o p q : Option V) → is_some o ≡ true → option_or (option_or o p) q ≡ option_or o q
some_or None p q e = absurd (cc)
some_or (Some v) p q e = refl

module _ (rules : List Implied) (vs : List Variable) (l : ℕ → Role) (by_rules : (x : Text) → letter_role l x ≡ kind_role (implicit_type rules x)) where
  -- a formal that is declared changes nothing
  declared_already : (x y : Text) (f : Roles) (rest : Option Role) (b : Bool) → bytes_eq y x ≡ b → (list_any (λ v. bytes_eq y v.name) vs ≡ true → is_some (f y) ≡ true) →
      list_any (λ v. bytes_eq x v.name) vs ≡ true → option_or (option_or (f y) (if b then Some (letter_role l x) else None)) rest ≡ option_or (f y) rest
  declared_already x y f rest true same kept found =
      some_or (f y) (Some (letter_role l x)) rest (kept (ap (λ z. list_any (λ v. bytes_eq z v.name) vs) ((bytes_eq-Decides y x).0 same) ∙ found))
  declared_already x y f rest false same kept found = ap (λ o. option_or o rest) (or_nothing (f y))

  formals_come : (xs : List Text) (f : Roles) (y : Text) → (list_any (λ v. bytes_eq y v.name) vs ≡ true → is_some (f y) ≡ true) →
      with_formals l xs f y ≡ option_or (f y) (among (undeclared rules vs xs) y)
  formals_come [] f y kept = sym (or_nothing (f y))
  formals_come (x ∷ xs) f y kept =
      formals_come xs (with_variable x (letter_role l x) f) y (λ e. kept_some (f y) (if bytes_eq y x then Some (letter_role l x) else None) (kept e))
      ∙ by (list_any (λ v. bytes_eq x v.name) vs) refl
    where
      by : (b : Bool) → list_any (λ v. bytes_eq x v.name) vs ≡ b →
          option_or (option_or (f y) (if bytes_eq y x then Some (letter_role l x) else None)) (among (undeclared rules vs xs) y)
          ≡ option_or (f y) (among (if b then undeclared rules vs xs else record { name = x; home = []; kind = implicit_type rules x; area = None } ∷ undeclared rules vs xs) y)
      by true found = declared_already x y f (among (undeclared rules vs xs) y) (bytes_eq y x) refl kept found
      by false found =
          one_found (bytes_eq y x) (f y) (IsVariable (record { name = x; home = []; kind = implicit_type rules x; area = None })) (letter_role l x) (find_map (variable_of y) (undeclared rules vs xs))
          (sym (by_rules x))

-- the outer block of a procedure, before its first declaration
abbrev pub outer_roles : EflProcedure → Roles
outer_roles u = let l = listed no_role u.declarations in with_formals l.letters u.formals l.variables

pub outer_heads : (u : EflProcedure) → Heads (outer u) [] (outer_roles u)
outer_heads u = record { head = block_with (vs ++ undeclared rules vs u.formals); is = refl; own = same }
  where
    vs : List Variable
    vs = own_variables u

    rules : List Implied
    rules = implied_of u

    l : Listed
    l = listed no_role u.declarations

    lists : Lists [] (behind_all (naming u.declarations ∷ []) u.declarations) vs rules (starting (walk.hide_all u.declarations no_role)) l
    lists = listed_lists [] u.declarations []

    by_rules : (x : Text) → letter_role l.letters x ≡ kind_role (implicit_type rules x)
    by_rules x = ap (λ f. letter_role f x) lists.letters ∙ implicit_role rules x

    same : own_roles (block_with (vs ++ undeclared rules vs u.formals)) ≡ with_formals l.letters u.formals l.variables
    same i y =
        (ap (λ f. f y) (among-append vs (undeclared rules vs u.formals))
        ∙ sym (formals_come rules vs l.letters by_rules u.formals (among vs) y (named_among vs y))
        ∙ ap (λ f. with_formals l.letters u.formals f y) (sym lists.variables)) i
