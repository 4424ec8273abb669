-- The names that a block declares, and the formals that it doesn't.
use Rattle.std.proofs.Common.{◌≡◌, ℕ, Bool, true, false, ◌||◌, List, [], ◌∷◌, map, flat_map, Option, Some, None, is_some, refl, sym, ap, subst, ◌∙◌, if◌then◌else◌}
use Rattle.std.specs.List.{list_any}
use Rattle.std.specs.Option.{option_or}
use Rattle.std.specs.Str.{bytes_eq}
use Rattle.std.proofs.lemmas.List.{append-nil}
use Rattle.std.proofs.lemmas.List.Folds.{list_any-append}
use Rattle.rule_table.specs.Words.{find_map}
use Rattle.efl_tree.specs.Syntax.{Text, EflVar, EflGroups, NoGroup, AndGroup, EflDeclKind, Implicit, Initial, Variables, Area, Structure, EflDecl, EflProcedure}
use Rattle.efl_scope.specs.DataTypes.{DataType}
use Rattle.efl_scope.specs.Scopes.{Variable, variable, Meaning, IsVariable, variable_of, Implied, Blocks, data_type, behind, behind_declaration, group_variables, declared_by, declared_in, naming, implicit_type, undeclared, own_variables}
use Rattle.efl_scope.specs.ScopeRules.{holds}
use Rattle.efl_scope.specs.Parts.{names_of}
use Rattle.efl_scope.specs.Marks.{variables_listed}
use Rattle.efl_types.specs.declared.rule.TypeRule.{TypeRule}
use Rattle.efl_types.specs.Declarations.{formal_faults}
use Rattle.efl_scoped.specs.Seen.{table_of}
use Rattle.efl_expressions.specs.declared.names.Meaning as meanings
use Rattle.efl_expressions.specs.declared.names.Block.{Block}
use Rattle.efl_expressions.specs.NameViews.{entry_in, IsMeaningIfAny}
use Rattle.efl_expressions.specs.FirstRule.{or_lower, first_rule}
use Rattle.efl_expressions.proofs.RuleLemmas.{first_of_both}
use Rattle.efl_blocks.specs.declared.types.Types.{Types}
use Rattle.efl_blocks.specs.DeclaredViews.{anonymous, named_by, declared_names, NamesAll}
use Rattle.efl_statements.specs.Headers.{HasNames}

-- ---- names ----

abbrev names_it : Text → Variable → Bool
names_it x v = bytes_eq x v.name

listed_named : (x : Text) (home : List ℕ) (q : Option Text) (t : DataType) (vs : List EflVar) → list_any (names_it x) (map (variable home q t) vs) ≡ holds (names_of vs) x
listed_named x home q t [] = refl
listed_named x home q t (v ∷ vs) = ap (λ b. bytes_eq x v.name || b) (listed_named x home q t vs)

groups_named : (x q : Text) (bs : Blocks) (gs : EflGroups) → list_any (names_it x) (group_variables q bs gs) ≡ holds (variables_listed gs) x
groups_named x q bs NoGroup = refl
groups_named x q bs (AndGroup t vs p gs) =
    list_any-append (names_it x) (map (variable [] (Some q) (data_type bs t)) vs) (group_variables q (behind bs t) gs)
    ∙ ap (λ b. b || list_any (names_it x) (group_variables q (behind bs t) gs)) (listed_named x [] (Some q) (data_type bs t) vs)
    ∙ ap (λ b. holds (names_of vs) x || b) (groups_named x q (behind bs t) gs)
    ∙ sym (list_any-append (bytes_eq x) (names_of vs) (variables_listed gs))

declaration_named : (x : Text) (home : List ℕ) (bs : Blocks) (k : EflDeclKind) → list_any (names_it x) (declared_by home bs k) ≡ holds (named_by k) x
declaration_named x home bs (Variables q t vs) = listed_named x home q (data_type bs t) vs
declaration_named x home bs (Area q gs) = groups_named x q bs gs
declaration_named x home bs (Implicit rs t) = refl
declaration_named x home bs (Initial ps) = refl
declaration_named x home bs (Structure y gs) = refl

all_named : (x : Text) (home : List ℕ) (bs : Blocks) (ds : List EflDecl) → list_any (names_it x) (declared_in home bs ds) ≡ holds (declared_names ds) x
all_named x home bs [] = refl
all_named x home bs (d ∷ ds) =
    list_any-append (names_it x) (declared_by home bs d.kind) (declared_in home (behind_declaration bs d.kind) ds)
    ∙ ap (λ b. b || list_any (names_it x) (declared_in home (behind_declaration bs d.kind) ds)) (declaration_named x home bs d.kind)
    ∙ ap (λ b. holds (named_by d.kind) x || b) (all_named x home (behind_declaration bs d.kind) ds)
    ∙ sym (list_any-append (bytes_eq x) (named_by d.kind) (declared_names ds))

found : (x : Text) (xs : List Text) → is_some (find_map (variable_of x) (map anonymous xs)) ≡ holds xs x
found x [] = refl
found x (y ∷ ys) = each (bytes_eq x y) ∙ ap (λ b. bytes_eq x y || b) (found x ys)
  where
    each : (b : Bool) → is_some (option_or (if b then Some (IsVariable (anonymous y)) else None) (find_map (variable_of x) (map anonymous ys))) ≡
        (b || is_some (find_map (variable_of x) (map anonymous ys)))
    each true = refl
    each false = refl

pub names_had : (y : Types) (empty known : Block) (u : EflProcedure) → ((x : Text) → entry_in empty x ≡ None) → NamesAll empty (declared_names u.declarations) known → HasNames (own_variables u) known
names_had y empty known u none named x =
    sym (each (find_map (variable_of x) (map anonymous xs)) (entry_in known x) (named y [] (λ q. subst (IsMeant None) (sym (none q)) tt) x))
    ∙ found x xs ∙ sym (all_named x [] (naming u.declarations ∷ []) u.declarations)
  where
    xs : List Text
    xs = declared_names u.declarations

    IsMeant : Option Meaning → Option meanings.Meaning → Type 0
    IsMeant n o = IsMeaningIfAny (table_of y.numbers) y.structures.list.items n o

    each : (n : Option Meaning) (o : Option meanings.Meaning) → IsMeaningIfAny (table_of y.numbers) y.structures.list.items n o → is_some n ≡ is_some o
    each None None is = refl
    each (Some m) (Some d) is = refl
    each None (Some d) is = absurd is
    each (Some m) None is = absurd is

-- ---- formals ----

-- what those of these formals break that aren't declared
abbrev pub asked : List Implied → List Variable → List Text → Option TypeRule
asked rules vs xs = first_rule (flat_map formal_faults (undeclared rules vs xs))

abbrev pub formal_by : List Implied → Text → Variable
formal_by rules x = record { name = x; home = []; kind = implicit_type rules x; area = None }

pub asked_next : (rules : List Implied) (vs : List Variable) (x : Text) (xs : List Text) → asked rules vs (x ∷ xs) ≡ or_lower (asked rules vs (x ∷ [])) (asked rules vs xs)
asked_next rules vs x xs = each (list_any (names_it x) vs)
  where
    each : (b : Bool) → first_rule (flat_map formal_faults (if b then undeclared rules vs xs else formal_by rules x ∷ undeclared rules vs xs)) ≡
        or_lower (first_rule (flat_map formal_faults (if b then [] else formal_by rules x ∷ []))) (asked rules vs xs)
    each true = refl
    each false =
        first_of_both (formal_faults (formal_by rules x)) (flat_map formal_faults (undeclared rules vs xs))
        ∙ ap (λ rs. or_lower (first_rule rs) (asked rules vs xs)) (sym (append-nil (formal_faults (formal_by rules x))))

pub asked_declared : (rules : List Implied) (vs : List Variable) (x : Text) → list_any (names_it x) vs ≡ true → asked rules vs (x ∷ []) ≡ None
asked_declared rules vs x is = ap (λ b. first_rule (flat_map formal_faults (if b then [] else formal_by rules x ∷ []))) is

pub asked_implicit : (rules : List Implied) (vs : List Variable) (x : Text) → list_any (names_it x) vs ≡ false → asked rules vs (x ∷ []) ≡ first_rule (formal_faults (formal_by rules x))
asked_implicit rules vs x is =
    ap (λ b. first_rule (flat_map formal_faults (if b then [] else formal_by rules x ∷ []))) is ∙ ap first_rule (append-nil (formal_faults (formal_by rules x)))
