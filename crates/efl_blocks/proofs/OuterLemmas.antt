-- Letters and formals of an outer block.
use Rattle.std.proofs.Common.{◌≡◌, Vec, Global, ℕ, nat_le, Bool, true, false, ◌&&◌, ◌||◌, List, [], ◌∷◌, ◌++◌, map, Option, Some, None, refl, sym, ap, subst, ◌∙◌, append_assoc, if◌then◌else◌}
use Rattle.std.specs.List.{list_any}
use Rattle.std.specs.Option.{option_or}
use Rattle.std.specs.Str.{bytes_eq}
use Rattle.std.proofs.lemmas.List.{append-nil, reverse-append}
use Rattle.std.proofs.lemmas.Slice.Eq.{bytes_eq-Decides}
use Rattle.rule_table.specs.Words.{find_map}
use Rattle.efl_tree.specs.declared.declaration.EflType as decl_types
use Rattle.efl_tree.specs.declared.declaration.EflDeclKind as decl_kinds
use Rattle.efl_tree.specs.declared.declaration.EflDeclKind.TheVariants as memory
use Rattle.efl_tree.specs.Views.{decl_kind_of}
use Rattle.efl_tree.specs.Syntax.{Text, EflType, Implicit, EflDecl, EflProcedure}
use Rattle.efl_scope.specs.DataTypes.{DataType}
use Rattle.efl_scope.specs.Scopes.{Variable, Meaning, IsVariable, Implied, gives, variable_of, data_type, behind, behind_declaration, declared_by, declared_in, naming, implied_by, implied_in, implied_of, implicit_type, undeclared, own_variables}
use Rattle.efl_scope.specs.Scopes as scopes
use Rattle.efl_scoped.specs.Seen.{table_of}
use Rattle.efl_expressions.specs.declared.types.DataType as types
use Rattle.efl_expressions.specs.declared.names.Block.{Block}
use Rattle.efl_expressions.specs.declared.names.Blocks.TheBlock.{Outside}
use Rattle.efl_expressions.specs.NameViews.{entry_in, IsMeaningIfAny}
use Rattle.efl_names.specs.declared.letters.Letters.{Letters}
use Rattle.efl_names.specs.NameViews.{IsTypeIfAny, given, letter_in}
use Rattle.efl_blocks.specs.declared.types.Types.{Types}
use Rattle.efl_blocks.specs.Within.{IsIn, Later, Within}
use Rattle.efl_blocks.specs.Made.{MakesType}
use Rattle.efl_blocks.specs.DeclaredViews.{AreVariables, declared_names, NamesAll, Declares}
use Rattle.efl_blocks.specs.OuterViews.{AreRules, implied, GivesAll, Implies, DeclaresOuter, DeclaresOuterAll, DeclaresFormals, OpensOuter}
use Rattle.efl_blocks.proofs.LaterLemmas.{later_same, later_on, type_later}
use Rattle.efl_blocks.proofs.DeclaredLemmas.{Comes, variable_comes, or_none, more_variables, names_stand, quiet}

-- ---- letters ----

abbrev IsGiven : Types → Option DataType → Option types.DataType → Type 0
IsGiven y o p = IsTypeIfAny (table_of y.numbers) y.structures.list.items o p

more_rules : (c : ℕ) (rules : List Implied) (i : Implied) → given (rules ++ i ∷ []) c ≡ option_or (gives c i) (given rules c)
more_rules c rules i = ap (find_map (gives c)) (reverse-append rules (i ∷ []))

one_given : (y : Types) (b : Bool) (o : Option DataType) (p : Option types.DataType) (t : DataType) (d : types.DataType) → IsIn y t d → IsGiven y o p →
    IsGiven y (option_or (if b then Some t else None) o) (if b then Some d else p)
one_given y true o p t d made is = made
one_given y false o p t d made is = is

-- a range gives a type, whatever was there
abbrev GivesRange : types.DataType → Letters → ℕ × ℕ → Letters → Type 0
GivesRange d old r new = (c : ℕ) → letter_in new c ≡ (if nat_le r.0 c && nat_le c r.1 then Some d else letter_in old c)

rule_comes : (y : Types) (rules : List Implied) (old new : Letters) (r : ℕ × ℕ) (t : DataType) (d : types.DataType) → IsIn y t d → AreRules y rules old →
    GivesRange d old r new → AreRules y (rules ++ implied t r ∷ []) new
rule_comes y rules old new r t d made are comes c =
    subst (λ o. IsGiven y o (letter_in new c)) (sym (more_rules c rules (implied t r)))
    (subst (IsGiven y (option_or (gives c (implied t r)) (given rules c))) (sym (comes c))
    (one_given y (nat_le r.0 c && nat_le c r.1) (given rules c) (letter_in old c) t d made (are c)))

pub rules_later : (y z : Types) (rules : List Implied) (letters : Letters) → Later y z → AreRules y rules letters → AreRules z rules letters
rules_later y z rules letters more are c = each (given rules c) (letter_in letters c) (are c)
  where
    each : (o : Option DataType) (p : Option types.DataType) → IsGiven y o p → IsGiven z o p
    each None None is = tt
    each (Some t) (Some d) is = type_later y z more t d is
    each None (Some d) is = absurd is
    each (Some t) None is = absurd is

-- those before have come
pub record RangesLeft (d : types.DataType) (old : Letters) (rs : List (ℕ × ℕ)) (now : Letters) (rest : List (ℕ × ℕ)) : Type 0 where
  pub left : (y : Types) (t : DataType) (rules : List Implied) → IsIn y t d → AreRules y rules old →
      (us : List Implied) × AreRules y us now × (us ++ map (implied t) rest ≡ rules ++ map (implied t) rs)

pub ranges_begun : (d : types.DataType) (old : Letters) (rs : List (ℕ × ℕ)) → RangesLeft d old rs old rs
ranges_begun d old rs = record { left = λ y t rules made are. (rules, are, refl) }

pub range_passed : (d : types.DataType) (old now new : Letters) (rs : List (ℕ × ℕ)) (r : ℕ × ℕ) (rest : List (ℕ × ℕ)) → RangesLeft d old rs now (r ∷ rest) →
    GivesRange d now r new → RangesLeft d old rs new rest
range_passed d old now new rs r rest before comes = record {
  left = λ y t rules made are.
      let at = before.left y t rules made are in
      (at.0 ++ implied t r ∷ [], rule_comes y at.0 now new r t d made at.1 comes, append_assoc at.0 (implied t r ∷ []) (map (implied t) rest) ∙ at.2);
}

pub ranges_ended : (d : types.DataType) (old new : Letters) (rs : List (ℕ × ℕ)) → RangesLeft d old rs new [] → GivesAll d old rs new
ranges_ended d old new rs all y t rules made are =
    let at = all.left y t rules made are in subst (λ us. AreRules y us new) (sym (append-nil at.0) ∙ at.2) at.1

pub text_implied : (y z : Types) (known after : Block) (old new : Letters) (rs : List (ℕ × ℕ)) (t : EflType) (d : types.DataType) → MakesType y known Outside t z after d →
    GivesAll d old rs new → Implies y known old rs t z after new
text_implied y z known after old new rs t d made given_all = record {
  later = made.later;
  knows = λ bs is. made.knows bs is;
  gives = λ bs rules is are. given_all z (data_type bs t) rules (made.makes bs is) (rules_later y z rules old made.later are);
}

-- ---- a declaration ----

pub implicit_outer : (y z : Types) (known after old : Block) (before letters : Letters) (rs : List (ℕ × ℕ)) (t : EflType) → Implies y known before rs t z after letters →
    DeclaresOuter y known old before (Implicit rs t) z after old letters
implicit_outer y z known after old before letters rs t made = record {
  declares = quiet y z known after old Outside (Implicit rs t) made.later made.knows (λ home bs. refl);
  gives = λ bs rules is are. made.gives bs rules is are;
}

other_implied : (k : decl_kinds.EflDeclKind) → ((rs : Vec (ℕ × ℕ) Global) (t : decl_types.EflType) → k ≡ memory.Implicit rs t → ⊥) → (bs : scopes.Blocks) → implied_by bs (decl_kind_of k) ≡ []
other_implied (memory.Implicit rs t) none bs = absurd (none rs t refl)
other_implied (memory.Initial ps) none bs = refl
other_implied (memory.Variables x t vs) none bs = refl
other_implied (memory.Area x gs) none bs = refl
other_implied (memory.Structure x gs) none bs = refl

pub other_outer : (y z : Types) (known after old new : Block) (letters : Letters) (k : decl_kinds.EflDeclKind) → ((rs : Vec (ℕ × ℕ) Global) (t : decl_types.EflType) → k ≡ memory.Implicit rs t → ⊥) →
    Declares y known Outside old (decl_kind_of k) z after new → DeclaresOuter y known old letters (decl_kind_of k) z after new letters
other_outer y z known after old new letters k none declared = record {
  declares = declared;
  gives = λ bs rules is are.
      subst (λ us. AreRules z us letters) (sym (ap (λ us. rules ++ us) (other_implied k none bs) ∙ append-nil rules)) (rules_later y z rules letters declared.later are);
}

-- ---- all declarations ----

pub record OuterLeft (y : Types) (known old : Block) (before : Letters) (ds : List EflDecl) (z : Types) (after now : Block) (letters : Letters) (rest : List EflDecl) : Type 0 where
  pub later : Later y z
  pub adds : (bs : scopes.Blocks) (ws : List Variable) → Within y bs known Outside → AreVariables y ws old →
      (cs : scopes.Blocks) × Within z cs after Outside × ((us : List Variable) × AreVariables z us now × (us ++ declared_in [] cs rest ≡ ws ++ declared_in [] bs ds))
  pub gives : (bs : scopes.Blocks) (rules : List Implied) → Within y bs known Outside → AreRules y rules before →
      (cs : scopes.Blocks) × Within z cs after Outside × ((us : List Implied) × AreRules z us letters × (us ++ implied_in cs rest ≡ rules ++ implied_in bs ds))

pub outer_begun : (y : Types) (known old : Block) (before : Letters) (ds : List EflDecl) → OuterLeft y known old before ds y known old before ds
outer_begun y known old before ds = record {
  later = later_same y;
  adds = λ bs ws is are. (bs, is, (ws, are, refl));
  gives = λ bs rules is are. (bs, is, (rules, are, refl));
}

pub outer_passed : (y z w : Types) (known between after old now new : Block) (before letters next : Letters) (ds : List EflDecl) (d : EflDecl) (rest : List EflDecl) →
    OuterLeft y known old before ds z between now letters (d ∷ rest) → DeclaresOuter z between now letters d.kind w after new next → OuterLeft y known old before ds w after new next rest
outer_passed y z w known between after old now new before letters next ds d rest passed declared = record {
  later = later_on y z w passed.later declared.declares.later;
  adds = λ bs ws is are.
      let at = passed.adds bs ws is are in (
        behind_declaration at.0 d.kind,
        declared.declares.knows at.0 at.1,
        (
          at.2.0 ++ declared_by [] at.0 d.kind,
          declared.declares.adds [] at.0 at.2.0 at.1 at.2.1,
          append_assoc at.2.0 (declared_by [] at.0 d.kind) (declared_in [] (behind_declaration at.0 d.kind) rest) ∙ at.2.2,
        ),
      );
  gives = λ bs rules is are.
      let at = passed.gives bs rules is are in (
        behind_declaration at.0 d.kind,
        declared.declares.knows at.0 at.1,
        (
          at.2.0 ++ implied_by at.0 d.kind,
          declared.gives at.0 at.2.0 at.1 at.2.1,
          append_assoc at.2.0 (implied_by at.0 d.kind) (implied_in (behind_declaration at.0 d.kind) rest) ∙ at.2.2,
        ),
      );
}

pub outer_ended : (y z : Types) (known after old new : Block) (before letters : Letters) (ds : List EflDecl) → OuterLeft y known old before ds z after new letters [] →
    DeclaresOuterAll y known old before ds z new letters
outer_ended y z known after old new before letters ds all = record {
  later = all.later;
  adds = λ bs ws is are. let at = all.adds bs ws is are in subst (λ us. AreVariables z us new) (sym (append-nil at.2.0) ∙ at.2.2) at.2.1;
  gives = λ bs rules is are. let at = all.gives bs rules is are in subst (λ us. AreRules z us letters) (sym (append-nil at.2.0) ∙ at.2.2) at.2.1;
}

-- ---- formals ----

-- one of these names goes before what comes later
declared_first : (x : Text) (vs us : List Variable) (o : Option Meaning) → list_any (λ v. bytes_eq x v.name) vs ≡ true →
    option_or (find_map (variable_of x) (vs ++ us)) o ≡ find_map (variable_of x) (vs ++ us)
declared_first x [] us o is = absurd (let f : false ≡ true = is in cc)
declared_first x (v ∷ vs) us o is = each (bytes_eq x v.name) is (λ there. declared_first x vs us o there)
  where
    each : (b : Bool) → (b || list_any (λ w. bytes_eq x w.name) vs) ≡ true →
        (list_any (λ w. bytes_eq x w.name) vs ≡ true → option_or (find_map (variable_of x) (vs ++ us)) o ≡ find_map (variable_of x) (vs ++ us)) →
        option_or (option_or (if b then Some (IsVariable v) else None) (find_map (variable_of x) (vs ++ us))) o ≡
        option_or (if b then Some (IsVariable v) else None) (find_map (variable_of x) (vs ++ us))
    each true there on = refl
    each false there on = on there

declared_already : (x q : Text) (v : Variable) (vs us : List Variable) → list_any (λ w. bytes_eq x w.name) vs ≡ true →
    option_or (find_map (variable_of q) (vs ++ us)) (if bytes_eq q x then Some (IsVariable v) else None) ≡ find_map (variable_of q) (vs ++ us)
declared_already x q v vs us is = each (bytes_eq q x) refl
  where
    each : (b : Bool) → bytes_eq q x ≡ b → option_or (find_map (variable_of q) (vs ++ us)) (if b then Some (IsVariable v) else None) ≡ find_map (variable_of q) (vs ++ us)
    each false same = or_none (find_map (variable_of q) (vs ++ us))
    each true same =
        subst (λ p. option_or (find_map (variable_of p) (vs ++ us)) (Some (IsVariable v)) ≡ find_map (variable_of p) (vs ++ us)) (sym ((bytes_eq-Decides q x).0 same))
        (declared_first x vs us (Some (IsVariable v)) is)

abbrev formal_by : List Implied → Text → Variable
formal_by rules x = record { name = x; home = []; kind = implicit_type rules x; area = None }

formal_comes : (y : Types) (rules : List Implied) (vs us : List Variable) (old new : Block) (x : Text) (d : types.DataType) (rest all : List Variable) (b : Bool) →
    list_any (λ v. bytes_eq x v.name) vs ≡ b → AreVariables y (vs ++ us) old → IsIn y (implicit_type rules x) d → Comes old x d new →
    us ++ (if b then rest else formal_by rules x ∷ rest) ≡ all → (ws : List Variable) × AreVariables y (vs ++ ws) new × (ws ++ rest ≡ all)
formal_comes y rules vs us old new x d rest all true there are made comes is = (
  us,
  λ q.
      subst (λ n. IsMeaningIfAny (table_of y.numbers) y.structures.list.items n (entry_in new q))
      (more_variables q (vs ++ us) (formal_by rules x) ∙ declared_already x q (formal_by rules x) vs us there)
      (variable_comes y (vs ++ us) old new (formal_by rules x) d are made comes q),
  is,
)
formal_comes y rules vs us old new x d rest all false there are made comes is = (
  us ++ formal_by rules x ∷ [],
  subst (λ ws. AreVariables y ws new) (append_assoc vs us (formal_by rules x ∷ [])) (variable_comes y (vs ++ us) old new (formal_by rules x) d are made comes),
  append_assoc us (formal_by rules x ∷ []) rest ∙ is,
)

-- those before have come
pub record FormalsLeft (letters : Letters) (old : Block) (xs : List Text) (now : Block) (rest : List Text) : Type 0 where
  pub left : (y : Types) (rules : List Implied) (vs : List Variable) → AreRules y rules letters → AreVariables y vs old →
      (us : List Variable) × AreVariables y (vs ++ us) now × (us ++ undeclared rules vs rest ≡ undeclared rules vs xs)

pub formals_begun : (letters : Letters) (old : Block) (xs : List Text) → FormalsLeft letters old xs old xs
formals_begun letters old xs = record { left = λ y rules vs given are. ([], subst (λ ws. AreVariables y ws old) (sym (append-nil vs)) are, refl) }

pub formal_passed : (letters : Letters) (old now new : Block) (xs : List Text) (x : Text) (rest : List Text) (d : types.DataType) → FormalsLeft letters old xs now (x ∷ rest) →
    ((y : Types) (rules : List Implied) → AreRules y rules letters → IsIn y (implicit_type rules x) d) → Comes now x d new → FormalsLeft letters old xs new rest
formal_passed letters old now new xs x rest d before typed comes = record {
  left = λ y rules vs are_rules are.
      let at = before.left y rules vs are_rules are in
      formal_comes y rules vs at.0 now new x d (undeclared rules vs rest) (undeclared rules vs xs) (list_any (λ v. bytes_eq x v.name) vs) refl at.1 (typed y rules are_rules) comes at.2;
}

pub formals_ended : (letters : Letters) (old new : Block) (xs : List Text) → FormalsLeft letters old xs new [] → DeclaresFormals letters old xs new
formals_ended letters old new xs all y rules vs are_rules are =
    let at = all.left y rules vs are_rules are in subst (λ us. AreVariables y (vs ++ us) new) (sym (append-nil at.0) ∙ at.2) at.1

-- ---- the block ----

pub outer_opened : (y z : Types) (none known empty between new : Block) (no_letters letters : Letters) (u : EflProcedure) → ((x : Text) → entry_in none x ≡ None) →
    ((x : Text) → entry_in empty x ≡ None) → AreRules y [] no_letters → NamesAll none (declared_names u.declarations) known →
    DeclaresOuterAll y known empty no_letters u.declarations z between letters → DeclaresFormals letters between u.formals new → OpensOuter y u z (record { block = new; letters = letters })
outer_opened y z none known empty between new no_letters letters u is_none is_empty no_rules named declared formals = record {
  later = declared.later;
  opens = record { block = (formals z (implied_of u) (own_variables u) rules variables, λ x. tt); letters = rules };
}
  where
    names : Within y (naming u.declarations ∷ []) known Outside
    names = (names_stand y none known u.declarations is_none named, λ x. tt)

    variables : AreVariables z (own_variables u) between
    variables = declared.adds (naming u.declarations ∷ []) [] names (λ x. subst (IsMeaningIfAny (table_of y.numbers) y.structures.list.items None) (sym (is_empty x)) tt)

    rules : AreRules z (implied_of u) letters
    rules = declared.gives (naming u.declarations ∷ []) [] names no_rules
