-- Variables that come into a table.
use Rattle.std.proofs.Common.{◌≡◌, Vec, Global, ℕ, Bool, true, false, not, List, [], ◌∷◌, ◌++◌, map, Option, Some, None, refl, sym, ap, subst, ◌∙◌, append_assoc, if◌then◌else◌}
use Rattle.std.specs.List.{list_any}
use Rattle.std.specs.Option.{option_or}
use Rattle.std.specs.Str.{bytes_eq}
use Rattle.std.proofs.lemmas.List.{append-nil}
use Rattle.rule_table.specs.Words.{find_map}
use Rattle.ground.specs.declared.value.Kind.{Kind}
use Rattle.efl_tree.specs.declared.declaration.EflVar as vars
use Rattle.efl_tree.specs.declared.declaration.EflType as decl_types
use Rattle.efl_tree.specs.declared.declaration.EflDeclKind as decl_kinds
use Rattle.efl_tree.specs.declared.declaration.EflDeclKind.TheVariants as memory
use Rattle.efl_tree.specs.Views.{decl_kind_of}
use Rattle.efl_tree.specs.Syntax.{Text, EflVar, EflType, Variables, EflDecl}
use Rattle.efl_scope.specs.DataTypes.{Scalar}
use Rattle.efl_scope.specs.Scopes.{Blocks, Variable, variable, Meaning, IsVariable, variable_of, data_type, declared_by, declared_in}
use Rattle.efl_scope.specs.Marks.{Located, number_of}
use Rattle.efl_built.specs.Unbuilt.{is_plain, has_bounds, unbuilt_declaration}
use Rattle.efl_typed.specs.Typing.{sort_of}
use Rattle.efl_typed_tree.specs.declared.expression.Scalar as scalars
use Rattle.efl_bindings.specs.declared.scopes.Table.{Table}
use Rattle.efl_bindings.specs.declared.homes.Home.{Home}
use Rattle.efl_bindings.specs.Bindings.{IsScalar, IsMeant, scalar_in, AreScalars}
use Rattle.efl_bindings.specs.Sites.{are_built}
use Rattle.efl_bindings.specs.Declarations.{IsHome, DeclaresAll, Declares, AreDeclared}
use Rattle.efl_bindings.proofs.BuiltLemmas.{or_left, or_right, not_false, first_built, rest_built, quiet, unbounded}

pub or_none : {X : Type 0} (o : Option X) → option_or o None ≡ o
or_none None = refl
or_none (Some x) = refl

or_on : {X : Type 0} (a b c : Option X) → option_or (option_or a b) c ≡ option_or a (option_or b c)
or_on None b c = refl
or_on (Some x) b c = refl

pub more_variables : (x : Text) (vs : List Variable) (v : Variable) → find_map (variable_of x) (vs ++ v ∷ []) ≡ option_or (find_map (variable_of x) vs) (variable_of x v)
more_variables x [] v = or_none (variable_of x v)
more_variables x (w ∷ vs) v = ap (option_or (variable_of x w)) (more_variables x vs v) ∙ sym (or_on (variable_of x w) (find_map (variable_of x) vs) (variable_of x v))

one_meant : (xs : List Located) (n : ℕ) (m : Option Meaning) (o : Option scalars.Scalar) (b : Bool) (v : Variable) (s : scalars.Scalar) → IsMeant xs n m o → IsScalar xs n v s →
    IsMeant xs n (option_or m (if b then Some (IsVariable v) else None)) (option_or o (if b then Some s else None))
one_meant xs n None None true v s is made = made
one_meant xs n None None false v s is made = tt
one_meant xs n (Some m) (Some o) b v s is made = is
one_meant xs n None (Some o) b v s is made = absurd is
one_meant xs n (Some m) None b v s is made = absurd is

-- a variable comes, where none of its name is
abbrev pub Comes : Table → Text → scalars.Scalar → Table → Type 0
Comes old x s new = (q : Text) → scalar_in new q ≡ option_or (scalar_in old q) (if bytes_eq q x then Some s else None)

pub variable_comes : (xs : List Located) (n : ℕ) (vs : List Variable) (old new : Table) (v : Variable) (s : scalars.Scalar) → AreScalars xs n vs old → IsScalar xs n v s → Comes old v.name s new →
    AreScalars xs n (vs ++ v ∷ []) new
variable_comes xs n vs old new v s are made comes x =
    subst (λ m. IsMeant xs n m (scalar_in new x)) (sym (more_variables x vs v))
    (subst (IsMeant xs n (option_or (find_map (variable_of x) vs) (variable_of x v))) (sym (comes x)) (one_meant xs n (find_map (variable_of x) vs) (scalar_in old x) (bytes_eq x v.name) v s (are x) made))

-- ---- variables of one type ----

-- those before have come
pub record VariablesLeft (h : Home) (k : Kind) (old : Table) (vs : List EflVar) (now : Table) (rest : List EflVar) : Type 0 where
  pub left : (xs : List Located) (place : List ℕ) (q : Option Text) (ws : List Variable) → IsHome xs place h → list_any has_bounds vs ≡ false → AreScalars xs h.unit ws old →
      (us : List Variable) × AreScalars xs h.unit us now × (us ++ map (variable place q (Scalar k)) rest ≡ ws ++ map (variable place q (Scalar k)) vs) × (list_any has_bounds rest ≡ false)

pub variables_begun : (h : Home) (k : Kind) (old : Table) (vs : List EflVar) → VariablesLeft h k old vs old vs
variables_begun h k old vs = record { left = λ xs place q ws home plain are. (ws, are, refl, plain) }

-- the number of each variable of a name
abbrev pub IsNumber : Home → Text → ℕ → Type 0
IsNumber h x n = (xs : List Located) (v : Variable) → IsHome xs v.home h → v.name ≡ x → n ≡ number_of xs h.unit v

pub variable_passed : (h : Home) (k : Kind) (old now new : Table) (vs : List EflVar) (v : EflVar) (rest : List EflVar) (n : ℕ) → VariablesLeft h k old vs now (v ∷ rest) → IsNumber h v.name n →
    Comes now v.name (record { variable = n; kind = k }) new → VariablesLeft h k old vs new rest
variable_passed h k old now new vs v rest n before numbered comes = record {
  left = λ xs place q ws home plain are.
      let at = before.left xs place q ws home plain are in
      let w = variable place q (Scalar k) v in
      let s : IsScalar xs h.unit w (record { variable = n; kind = k }) = record {
        number = numbered xs w home refl;
        kind = ap sort_of (unbounded (Scalar k) v (or_left (has_bounds v) (list_any has_bounds rest) at.3));
      } in (
        at.0 ++ w ∷ [],
        variable_comes xs h.unit at.0 now new w (record { variable = n; kind = k }) at.1 s comes,
        append_assoc at.0 (w ∷ []) (map (variable place q (Scalar k)) rest) ∙ at.2,
        or_right (has_bounds v) (list_any has_bounds rest) at.3,
      );
}

pub variables_ended : (h : Home) (k : Kind) (old new : Table) (vs : List EflVar) → VariablesLeft h k old vs new [] → DeclaresAll h k old vs new
variables_ended h k old new vs all xs place q ws home plain are =
    let at = all.left xs place q ws home plain are in subst (λ us. AreScalars xs h.unit us new) (sym (append-nil at.0) ∙ at.2) at.1

-- ---- a declaration ----

pub variables_declared : (h : Home) (old new : Table) (q : Option Text) (t : EflType) (vs : List EflVar) (k : Kind) → ((bs : Blocks) → is_plain t ≡ true → data_type bs t ≡ Scalar k) → DeclaresAll h k old vs new →
    Declares h old (Variables q t vs) new
variables_declared h old new (Some q) t vs k typed all xs place bs ws home built are = absurd (let e : true ≡ false = built in cc)
variables_declared h old new None t vs k typed all xs place bs ws home built are =
    subst (λ u. AreScalars xs h.unit (ws ++ map (variable place None u) vs) new) (sym (typed bs (not_false (is_plain t) (or_left (not (is_plain t)) (list_any has_bounds vs) built))))
    (all xs place None ws home (or_right (not (is_plain t)) (list_any has_bounds vs) built) are)

nothing_comes : (xs : List Located) (n : ℕ) (ws : List Variable) (t : Table) → AreScalars xs n ws t → AreScalars xs n (ws ++ []) t
nothing_comes xs n ws t are = subst (λ us. AreScalars xs n us t) (sym (append-nil ws)) are

-- what else is built declares none
pub none_declared : (h : Home) (t : Table) (k : decl_kinds.EflDeclKind) → ((x : Option Text) (a : decl_types.EflType) (vs : Vec vars.EflVar Global) → k ≡ memory.Variables x a vs → ⊥) →
    Declares h t (decl_kind_of k) t
none_declared h t (memory.Variables x a vs) none xs place bs ws home built are = absurd (none x a vs refl)
none_declared h t (memory.Area x gs) none xs place bs ws home built are = absurd (let e : true ≡ false = built in cc)
none_declared h t (memory.Implicit rs a) none xs place bs ws home built are = nothing_comes xs h.unit ws t are
none_declared h t (memory.Initial ps) none xs place bs ws home built are = nothing_comes xs h.unit ws t are
none_declared h t (memory.Structure x gs) none xs place bs ws home built are = nothing_comes xs h.unit ws t are

-- ---- declarations ----

-- those before have come
pub record DeclarationsLeft (h : Home) (ds : List EflDecl) (now : Table) (rest : List EflDecl) : Type 0 where
  pub left : (xs : List Located) (place : List ℕ) (bs : Blocks) → IsHome xs place h → are_built ds ≡ true →
      (us : List Variable) × AreScalars xs h.unit us now × (us ++ declared_in place bs rest ≡ declared_in place bs ds) × (are_built rest ≡ true)

pub declarations_begun : (h : Home) (ds : List EflDecl) (empty : Table) → ((x : Text) → scalar_in empty x ≡ None) → DeclarationsLeft h ds empty ds
declarations_begun h ds empty none = record {
  left = λ xs place bs home built. ([], λ x. subst (IsMeant xs h.unit None) (sym (none x)) tt, refl, built);
}

pub declaration_passed : (h : Home) (ds : List EflDecl) (now new : Table) (d : EflDecl) (rest : List EflDecl) → DeclarationsLeft h ds now (d ∷ rest) → Declares h now d.kind new →
    DeclarationsLeft h ds new rest
declaration_passed h ds now new d rest before declared = record {
  left = λ xs place bs home built.
      let at = before.left xs place bs home built in
      let own : unbuilt_declaration d.kind ≡ false = first_built d rest at.3 in (
        at.0 ++ declared_by place bs d.kind,
        declared xs place bs at.0 home own at.1,
        append_assoc at.0 (declared_by place bs d.kind) (declared_in place bs rest)
            ∙ ap (λ cs. at.0 ++ (declared_by place bs d.kind ++ declared_in place cs rest)) (sym (quiet bs d.kind own))
            ∙ at.2,
        rest_built d rest at.3,
      );
}

pub declarations_ended : (h : Home) (ds : List EflDecl) (new : Table) → DeclarationsLeft h ds new [] → AreDeclared h ds new
declarations_ended h ds new all xs place bs home built =
    let at = all.left xs place bs home built in subst (λ us. AreScalars xs h.unit us new) (sym (append-nil at.0) ∙ at.2) at.1
