-- Variables that come into a block.
use Rattle.std.proofs.Common.{◌≡◌, Vec, Global, ℕ, Bool, true, false, List, [], ◌∷◌, ◌++◌, map, Option, Some, None, refl, sym, ap, subst, ◌∙◌, append_assoc, if◌then◌else◌}
use Rattle.std.specs.Option.{option_or}
use Rattle.std.specs.Str.{bytes_eq}
use Rattle.std.proofs.lemmas.List.{append-nil, map-append}
use Rattle.rule_table.specs.Words.{find_map}
use Rattle.ground.specs.declared.place.Place.{Place}
use Rattle.efl_tree.specs.declared.declaration.EflVar as vars
use Rattle.efl_tree.specs.declared.declaration.EflType as decl_types
use Rattle.efl_tree.specs.declared.declaration.EflGroup as decl_groups
use Rattle.efl_tree.specs.declared.declaration.EflDeclKind as decl_kinds
use Rattle.efl_tree.specs.declared.declaration.EflDeclKind.TheVariants as memory
use Rattle.efl_tree.specs.Views.{decl_kind_of}
use Rattle.efl_tree.specs.Syntax.{Text, EflVar, EflType, EflGroups, NoGroup, AndGroup, EflPreset, EflDeclKind, Implicit, Initial, Variables, Area, Structure, EflDecl}
use Rattle.efl_scope.specs.DataTypes.{DataType, NoType}
use Rattle.efl_scope.specs.Scopes.{Variable, variable, Meaning, IsVariable, variable_of, in_block, data_type, shape, behind, behind_groups, behind_declaration, group_variables, declared_by, declared_in, untyped, naming, block_with, entering, of_bounds}
use Rattle.efl_scope.specs.Scopes as scopes
use Rattle.efl_scope.specs.Parts.{names_of}
use Rattle.efl_scope.specs.Marks.{variables_listed}
use Rattle.efl_scoped.specs.Seen.{table_of}
use Rattle.efl_expressions.specs.declared.types.DataType as types
use Rattle.efl_expressions.specs.declared.names.Meaning as meanings
use Rattle.efl_expressions.specs.declared.names.Meaning.TheVariants as m
use Rattle.efl_expressions.specs.declared.names.Block.{Block}
use Rattle.efl_expressions.specs.declared.names.Blocks.{Blocks}
use Rattle.efl_expressions.specs.NameViews.{entry_in, IsMeaningIfAny, Know}
use Rattle.efl_blocks.specs.declared.types.Types.{Types}
use Rattle.efl_blocks.specs.Within.{IsIn, Later, IsPlain, Within, learned}
use Rattle.efl_blocks.specs.Made.{MakesType, MakesStructure, TakesBounds}
use Rattle.efl_blocks.specs.DeclaredViews.{AreVariables, anonymous, named_by, declared_names, NamesAll, AddsVariables, AddsList, AddsGroups, KnowsStructure, Declares, DeclaresAll, Opens}
use Rattle.efl_blocks.proofs.LaterLemmas.{later_same, later_on, type_later, meaning_later, know_later, within_later}
use Rattle.efl_blocks.proofs.WithinLemmas.{within_learned, type_plain}

abbrev IsMeant : Types → Option Meaning → Option meanings.Meaning → Type 0
IsMeant y n o = IsMeaningIfAny (table_of y.numbers) y.structures.list.items n o

pub or_none : {X : Type 0} (o : Option X) → option_or o None ≡ o
or_none None = refl
or_none (Some x) = refl

or_on : {X : Type 0} (a b c : Option X) → option_or (option_or a b) c ≡ option_or a (option_or b c)
or_on None b c = refl
or_on (Some x) b c = refl

pub more_variables : (x : Text) (vs : List Variable) (v : Variable) → find_map (variable_of x) (vs ++ v ∷ []) ≡ option_or (find_map (variable_of x) vs) (variable_of x v)
more_variables x [] v = or_none (variable_of x v)
more_variables x (w ∷ vs) v = ap (option_or (variable_of x w)) (more_variables x vs v) ∙ sym (or_on (variable_of x w) (find_map (variable_of x) vs) (variable_of x v))

one_meant : (y : Types) (n : Option Meaning) (o : Option meanings.Meaning) (b : Bool) (v : Variable) (d : types.DataType) → IsMeant y n o → IsIn y v.kind d →
    IsMeant y (option_or n (if b then Some (IsVariable v) else None)) (option_or o (if b then Some (m.Variable d) else None))
one_meant y None None true v d is made = made
one_meant y None None false v d is made = tt
one_meant y (Some n) (Some o) b v d is made = is
one_meant y None (Some o) b v d is made = absurd is
one_meant y (Some n) None b v d is made = absurd is

-- a variable comes, where none of its name is
abbrev pub Comes : Block → Text → types.DataType → Block → Type 0
Comes old x d new = (q : Text) → entry_in new q ≡ option_or (entry_in old q) (if bytes_eq q x then Some (m.Variable d) else None)

pub variable_comes : (y : Types) (vs : List Variable) (old new : Block) (v : Variable) (d : types.DataType) → AreVariables y vs old → IsIn y v.kind d → Comes old v.name d new →
    AreVariables y (vs ++ v ∷ []) new
variable_comes y vs old new v d are made comes x =
    subst (λ n. IsMeant y n (entry_in new x)) (sym (more_variables x vs v))
    (subst (IsMeant y (option_or (find_map (variable_of x) vs) (variable_of x v))) (sym (comes x)) (one_meant y (find_map (variable_of x) vs) (entry_in old x) (bytes_eq x v.name) v d (are x) made))

pub variables_later : (y z : Types) (vs : List Variable) (block : Block) → Later y z → AreVariables y vs block → AreVariables z vs block
variables_later y z vs block more are x = meaning_later y z more (find_map (variable_of x) vs) (entry_in block x) (are x)

-- ---- names ----

-- those before have come
pub record NamesLeft (old : Block) (xs : List Text) (now : Block) (rest : List Text) : Type 0 where
  pub left : (y : Types) (vs : List Variable) → AreVariables y vs old → (ws : List Variable) × AreVariables y ws now × (ws ++ map anonymous rest ≡ vs ++ map anonymous xs)

pub names_begun : (old : Block) (xs : List Text) → NamesLeft old xs old xs
names_begun old xs = record { left = λ y vs are. (vs, are, refl) }

pub names_passed : (old now new : Block) (xs ys rest : List Text) → NamesLeft old xs now (ys ++ rest) → NamesAll now ys new → NamesLeft old xs new rest
names_passed old now new xs ys rest before named = record {
  left = λ y vs are.
      let at = before.left y vs are in (
        at.0 ++ map anonymous ys,
        named y at.0 at.1,
        append_assoc at.0 (map anonymous ys) (map anonymous rest) ∙ ap (λ us. at.0 ++ us) (sym (map-append anonymous ys rest)) ∙ at.2,
      );
}

pub names_ended : (old new : Block) (xs : List Text) → NamesLeft old xs new [] → NamesAll old xs new
names_ended old new xs all y vs are = let at = all.left y vs are in subst (λ ws. AreVariables y ws new) (sym (append-nil at.0) ∙ at.2) at.1

pub name_comes : (old new : Block) (x : Text) (d : types.DataType) → ((y : Types) → IsIn y NoType d) → Comes old x d new → NamesAll old (x ∷ []) new
name_comes old new x d none comes y vs are = variable_comes y vs old new (anonymous x) d are (none y) comes

pub no_names : (block : Block) → NamesAll block [] block
no_names block y vs are = subst (λ ws. AreVariables y ws block) (sym (append-nil vs)) are

-- what is neither gives none
pub other_names : (block : Block) (k : decl_kinds.EflDeclKind) → ((x : Option Text) (t : decl_types.EflType) (vs : Vec vars.EflVar Global) → k ≡ memory.Variables x t vs → ⊥) →
    ((x : Text) (gs : Vec decl_groups.EflGroup Global) → k ≡ memory.Area x gs → ⊥) → NamesAll block (named_by (decl_kind_of k)) block
other_names block (memory.Variables x t vs) one two = absurd (one x t vs refl)
other_names block (memory.Area x gs) one two = absurd (two x gs refl)
other_names block (memory.Implicit rs t) one two = no_names block
other_names block (memory.Initial ps) one two = no_names block
other_names block (memory.Structure x gs) one two = no_names block

-- the names of the variables of declarations are those that stand for them
untyped_list : (home : List ℕ) (q : Option Text) (t : DataType) (vs : List EflVar) → map untyped (map (variable home q t) vs) ≡ map anonymous (names_of vs)
untyped_list home q t [] = refl
untyped_list home q t (v ∷ vs) = ap (λ ws. anonymous v.name ∷ ws) (untyped_list home q t vs)

untyped_groups : (q : Text) (bs : scopes.Blocks) (gs : EflGroups) → map untyped (group_variables q bs gs) ≡ map anonymous (variables_listed gs)
untyped_groups q bs NoGroup = refl
untyped_groups q bs (AndGroup t vs p gs) =
    map-append untyped (map (variable [] (Some q) (data_type bs t)) vs) (group_variables q (behind bs t) gs)
    ∙ ap (λ ws. ws ++ map untyped (group_variables q (behind bs t) gs)) (untyped_list [] (Some q) (data_type bs t) vs)
    ∙ ap (λ ws. map anonymous (names_of vs) ++ ws) (untyped_groups q (behind bs t) gs)
    ∙ sym (map-append anonymous (names_of vs) (variables_listed gs))

untyped_by : (home : List ℕ) (bs : scopes.Blocks) (k : EflDeclKind) → map untyped (declared_by home bs k) ≡ map anonymous (named_by k)
untyped_by home bs (Variables q t vs) = untyped_list home q (data_type bs t) vs
untyped_by home bs (Area q gs) = untyped_groups q bs gs
untyped_by home bs (Implicit rs t) = refl
untyped_by home bs (Initial ps) = refl
untyped_by home bs (Structure x gs) = refl

untyped_all : (home : List ℕ) (bs : scopes.Blocks) (ds : List EflDecl) → map untyped (declared_in home bs ds) ≡ map anonymous (declared_names ds)
untyped_all home bs [] = refl
untyped_all home bs (d ∷ ds) =
    map-append untyped (declared_by home bs d.kind) (declared_in home (behind_declaration bs d.kind) ds)
    ∙ ap (λ ws. ws ++ map untyped (declared_in home (behind_declaration bs d.kind) ds)) (untyped_by home bs d.kind)
    ∙ ap (λ ws. map anonymous (named_by d.kind) ++ ws) (untyped_all home (behind_declaration bs d.kind) ds)
    ∙ sym (map-append anonymous (named_by d.kind) (declared_names ds))

-- ---- variables of one type ----

pub record VariablesLeft (y : Types) (k : types.DataType) (old : Block) (vs : List EflVar) (z : Types) (now : Block) (rest : List EflVar) : Type 0 where
  pub later : Later y z
  pub left : (home : List ℕ) (q : Option Text) (t : DataType) (ws : List Variable) → IsPlain t → IsIn y t k → AreVariables y ws old →
      (us : List Variable) × AreVariables z us now × (us ++ map (variable home q t) rest ≡ ws ++ map (variable home q t) vs)

pub variables_begun : (y : Types) (k : types.DataType) (old : Block) (vs : List EflVar) → VariablesLeft y k old vs y old vs
variables_begun y k old vs = record { later = later_same y; left = λ home q t ws plain made are. (ws, are, refl) }

pub variable_passed : (y z w : Types) (k d : types.DataType) (old now new : Block) (vs : List EflVar) (v : EflVar) (rest : List EflVar) → VariablesLeft y k old vs z now (v ∷ rest) →
    TakesBounds z k v.bounds w d → Comes now v.name d new → VariablesLeft y k old vs w new rest
variable_passed y z w k d old now new vs v rest before typed comes = record {
  later = later_on y z w before.later typed.later;
  left = λ home q t ws plain made are.
      let at = before.left home q t ws plain made are in (
        at.0 ++ variable home q t v ∷ [],
        variable_comes w at.0 now new (variable home q t v) d (variables_later z w at.0 now typed.later at.1) (typed.makes t plain (type_later y z before.later t k made)) comes,
        append_assoc at.0 (variable home q t v ∷ []) (map (variable home q t) rest) ∙ at.2,
      );
}

pub variables_ended : (y z : Types) (k : types.DataType) (old new : Block) (vs : List EflVar) → VariablesLeft y k old vs z new [] → AddsVariables y k old vs z new
variables_ended y z k old new vs all = record {
  later = all.later;
  adds = λ home q t ws plain made are. let at = all.left home q t ws plain made are in subst (λ us. AreVariables z us new) (sym (append-nil at.0) ∙ at.2) at.1;
}

pub list_added : (y z w : Types) (known after old new : Block) (beyond : Blocks) (t : EflType) (vs : List EflVar) (d : types.DataType) → MakesType y known beyond t z after d →
    AddsVariables z d old vs w new → AddsList y known beyond old t vs w after new
list_added y z w known after old new beyond t vs d made added = record {
  later = later_on y z w made.later added.later;
  knows = λ bs is. within_later z w added.later (behind bs t) after beyond (made.knows bs is);
  adds = λ home q bs ws is are. added.adds home q (data_type bs t) ws (type_plain bs t) (made.makes bs is) (variables_later y z ws old made.later are);
}

-- ---- groups ----

pub record GroupsAt (gs : EflGroups) (bs : scopes.Blocks) (q : Text) (ws : List Variable) (z : Types) (after : Block) (beyond : Blocks) (rest : EflGroups) (now : Block) : Type 0 where
  pub blocks : scopes.Blocks
  pub knows : Within z blocks after beyond
  pub ahead : behind_groups bs gs ≡ behind_groups blocks rest
  pub before : List Variable
  pub are : AreVariables z before now
  pub whole : before ++ group_variables q blocks rest ≡ ws ++ group_variables q bs gs

pub record GroupsLeft (y : Types) (known : Block) (beyond : Blocks) (old : Block) (gs : EflGroups) (z : Types) (after : Block) (rest : EflGroups) (now : Block) : Type 0 where
  pub later : Later y z
  pub blocks : (bs : scopes.Blocks) → Within y bs known beyond → (cs : scopes.Blocks) × Within z cs after beyond × (behind_groups bs gs ≡ behind_groups cs rest)
  pub left : (q : Text) (bs : scopes.Blocks) (ws : List Variable) → Within y bs known beyond → AreVariables y ws old → GroupsAt gs bs q ws z after beyond rest now

pub groups_begun : (y : Types) (known old : Block) (beyond : Blocks) (gs : EflGroups) → GroupsLeft y known beyond old gs y known gs old
groups_begun y known old beyond gs = record {
  later = later_same y;
  blocks = λ bs is. (bs, is, refl);
  left = λ q bs ws is are. record { blocks = bs; knows = is; ahead = refl; before = ws; are = are; whole = refl };
}

pub group_passed : (y z w : Types) (known between after old now new : Block) (beyond : Blocks) (gs : EflGroups) (t : EflType) (vs : List EflVar) (p : Place) (rest : EflGroups) →
    GroupsLeft y known beyond old gs z between (AndGroup t vs p rest) now → AddsList z between beyond now t vs w after new → GroupsLeft y known beyond old gs w after rest new
group_passed y z w known between after old now new beyond gs t vs p rest passed added = record {
  later = later_on y z w passed.later added.later;
  blocks = λ bs is. let at = passed.blocks bs is in (behind at.0 t, added.knows at.0 at.1, at.2);
  left = λ q bs ws is are.
      let at = passed.left q bs ws is are in
      record {
        blocks = behind at.blocks t;
        knows = added.knows at.blocks at.knows;
        ahead = at.ahead;
        before = at.before ++ map (variable [] (Some q) (data_type at.blocks t)) vs;
        are = added.adds [] (Some q) at.blocks at.before at.knows at.are;
        whole = append_assoc at.before (map (variable [] (Some q) (data_type at.blocks t)) vs) (group_variables q (behind at.blocks t) rest) ∙ at.whole;
      };
}

pub groups_ended : (y z : Types) (known after old new : Block) (beyond : Blocks) (gs : EflGroups) → GroupsLeft y known beyond old gs z after NoGroup new → AddsGroups y known beyond old gs z after new
groups_ended y z known after old new beyond gs all = record {
  later = all.later;
  knows = λ bs is. let at = all.blocks bs is in subst (λ cs. Within z cs after beyond) (sym at.2) at.1;
  adds = λ q bs ws is are. let at = all.left q bs ws is are in subst (λ us. AreVariables z us new) (sym (append-nil at.before) ∙ at.whole) at.are;
}

-- ---- declarations ----

pub quiet : (y z : Types) (known after old : Block) (beyond : Blocks) (k : EflDeclKind) → Later y z → ((bs : scopes.Blocks) → Within y bs known beyond → Within z (behind_declaration bs k) after beyond) →
    ((home : List ℕ) (bs : scopes.Blocks) → declared_by home bs k ≡ []) → Declares y known beyond old k z after old
quiet y z known after old beyond k later knows none = record {
  later = later;
  knows = knows;
  adds = λ home bs ws is are. subst (λ us. AreVariables z us old) (sym (ap (λ us. ws ++ us) (none home bs) ∙ append-nil ws)) (variables_later y z ws old later are);
}

pub implicit_declared : (y z : Types) (known after old : Block) (beyond : Blocks) (rs : List (ℕ × ℕ)) (t : EflType) (d : types.DataType) → MakesType y known beyond t z after d →
    Declares y known beyond old (Implicit rs t) z after old
implicit_declared y z known after old beyond rs t d made = quiet y z known after old beyond (Implicit rs t) made.later made.knows (λ home bs. refl)

pub initial_declared : (y : Types) (known old : Block) (beyond : Blocks) (ps : List EflPreset) → Declares y known beyond old (Initial ps) y known old
initial_declared y known old beyond ps = quiet y y known known old beyond (Initial ps) (later_same y) (λ bs is. is) (λ home bs. refl)

pub variables_declared : (y z : Types) (known after old new : Block) (beyond : Blocks) (q : Option Text) (t : EflType) (vs : List EflVar) → AddsList y known beyond old t vs z after new →
    Declares y known beyond old (Variables q t vs) z after new
variables_declared y z known after old new beyond q t vs added = record {
  later = added.later;
  knows = added.knows;
  adds = λ home bs ws is are. added.adds home q bs ws is are;
}

pub area_declared : (y z : Types) (known after old new : Block) (beyond : Blocks) (q : Text) (gs : EflGroups) → AddsGroups y known beyond old gs z after new →
    Declares y known beyond old (Area q gs) z after new
area_declared y z known after old new beyond q gs added = record { later = added.later; knows = added.knows; adds = λ home bs ws is are. added.adds q bs ws is are }

pub structure_declared : (y z : Types) (known after old : Block) (beyond : Blocks) (x : Text) (gs : EflGroups) → KnowsStructure y known beyond x gs z after →
    Declares y known beyond old (Structure x gs) z after old
structure_declared y z known after old beyond x gs seen = quiet y z known after old beyond (Structure x gs) seen.later seen.knows (λ home bs. refl)

pub structure_known : (y z : Types) (known between after : Block) (beyond : Blocks) (x : Text) (gs : EflGroups) (d : types.DataType) → MakesStructure y known beyond gs z between d →
    ((q : Text) → entry_in after q ≡ learned (bytes_eq q x) d (entry_in between q)) → KnowsStructure y known beyond x gs z after
structure_known y z known between after beyond x gs d made comes = record {
  later = made.later;
  knows = λ bs is. within_learned z (behind_groups bs gs) between after beyond (Some x) (shape bs gs) d (made.knows bs is) (made.makes bs is) comes;
}

-- ---- all declarations ----

pub record DeclarationsLeft (y : Types) (known : Block) (beyond : Blocks) (ds : List EflDecl) (z : Types) (after : Block) (rest : List EflDecl) (now : Block) : Type 0 where
  pub later : Later y z
  pub left : (home : List ℕ) (bs : scopes.Blocks) → Within y bs known beyond →
      (cs : scopes.Blocks) × Within z cs after beyond × ((us : List Variable) × AreVariables z us now × (us ++ declared_in home cs rest ≡ declared_in home bs ds))

pub declarations_begun : (y : Types) (known : Block) (beyond : Blocks) (ds : List EflDecl) (now : Block) → ((x : Text) → entry_in now x ≡ None) → DeclarationsLeft y known beyond ds y known ds now
declarations_begun y known beyond ds now none = record {
  later = later_same y;
  left = λ home bs is. (bs, is, ([], (λ x. subst (IsMeant y None) (sym (none x)) tt), refl));
}

pub declaration_passed : (y z w : Types) (known between after now new : Block) (beyond : Blocks) (ds : List EflDecl) (d : EflDecl) (rest : List EflDecl) →
    DeclarationsLeft y known beyond ds z between (d ∷ rest) now → Declares z between beyond now d.kind w after new → DeclarationsLeft y known beyond ds w after rest new
declaration_passed y z w known between after now new beyond ds d rest passed declared = record {
  later = later_on y z w passed.later declared.later;
  left = λ home bs is.
      let at = passed.left home bs is in (
        behind_declaration at.0 d.kind,
        declared.knows at.0 at.1,
        (
          at.2.0 ++ declared_by home at.0 d.kind,
          declared.adds home at.0 at.2.0 at.1 at.2.1,
          append_assoc at.2.0 (declared_by home at.0 d.kind) (declared_in home (behind_declaration at.0 d.kind) rest) ∙ at.2.2,
        ),
      );
}

pub declarations_ended : (y z : Types) (known after : Block) (beyond : Blocks) (ds : List EflDecl) (new : Block) → DeclarationsLeft y known beyond ds z after [] new →
    DeclaresAll y known beyond ds z new
declarations_ended y z known after beyond ds new all = record {
  later = all.later;
  declares = λ home bs is. let at = all.left home bs is in subst (λ us. AreVariables z us new) (sym (append-nil at.2.0) ∙ at.2.2) at.2.1;
}

-- ---- blocks ----

pub names_stand : (y : Types) (empty known : Block) (ds : List EflDecl) → ((x : Text) → entry_in empty x ≡ None) → NamesAll empty (declared_names ds) known →
    AreVariables y (map untyped (declared_in [] [] ds)) known
names_stand y empty known ds none named =
    subst (λ vs. AreVariables y vs known) (sym (untyped_all [] [] ds)) (named y [] (λ x. subst (IsMeant y None) (sym (none x)) tt))

pub block_opened : (y z : Types) (empty known new : Block) (beyond : Blocks) (ds : List EflDecl) → ((x : Text) → entry_in empty x ≡ None) → NamesAll empty (declared_names ds) known →
    DeclaresAll y known beyond ds z new → Opens y beyond ds z new
block_opened y z empty known new beyond ds none named declared = record { later = declared.later; opens = opens }
  where
    opens : (home : List ℕ) (bs : scopes.Blocks) → Know (table_of y.numbers) y.structures.list.items bs beyond → Within z (entering home ds bs) new beyond
    opens home bs known_out = (declared.declares home (naming ds ∷ bs) (names_stand y empty known ds none named, known_out), know_later y z declared.later bs beyond known_out)
