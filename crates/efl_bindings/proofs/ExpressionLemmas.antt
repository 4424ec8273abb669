-- What names mean at a site, and the typed trees of expressions there.
use Rattle.std.proofs.Common.{◌≡◌, ◌<◌, ◌+◌, ◌==◌, Vec, Box, Global, ℕ, zero, suc, Bool, true, false, not, ◌&&◌, List, [], ◌∷◌, ◌++◌, length, take, get_or, Option, Some, None, refl, sym, ap, subst, ◌∙◌, arith, if◌then◌else◌}
use Rattle.std.specs.Prelude.{option_map}
use Rattle.std.proofs.lemmas.List.{take_more}
use Rattle.ground.specs.declared.value.Kind.{Kind}
use Rattle.efl_tree.specs.declared.expression.EflExpr as memory
use Rattle.efl_tree.specs.declared.expression.EflExpr.TheVariants as forms
use Rattle.efl_tree.specs.declared.expression.EflOperator.{EflOperator}
use Rattle.efl_tree.specs.declared.expression.EflPlace as places
use Rattle.efl_tree.proofs.Rows.{at_expr, up_expr, down_expr, assign_expr}
use Rattle.efl_tree.proofs.Rows.{call_expr as trees_call}
use Rattle.efl_tree.specs.Syntax as efl
use Rattle.efl_tree.specs.Syntax.{Text, EflExpr, EflExprs, EflPlace, Path, EflSteps}
use Rattle.efl_tree.specs.Views as trees
use Rattle.efl_scope.specs.DataTypes as types
use Rattle.efl_scope.specs.DataTypes.{DataType}
use Rattle.efl_scope.specs.Scopes.{Meaning, IsVariable, IsStructure, Implied, meaning}
use Rattle.efl_scope.specs.Marks.{Located, by_letter_of, meant_by}
use Rattle.efl_types.specs.Signatures.{applied_as, applied_by, applied}
use Rattle.efl_types.specs.Types.{calls, ends}
use Rattle.efl_types.specs.Whole.{number_of}
use Rattle.efl_built.specs.Unbuilt.{unbuilt_expr, unbuilt_exprs, unbuilt_target}
use Rattle.efl_program.specs.Typed as program
use Rattle.efl_typed.specs.Typing as typing
use Rattle.efl_typed.specs.Typing.{Context, sort_of, variable_named, numbered, called, call_of, value_at, intrinsic, value_kind}
use Rattle.efl_typed_tree.specs.declared.expression.Scalar.{Scalar}
use Rattle.efl_typed_tree.specs.declared.expression.Intrinsic.{Intrinsic}
use Rattle.efl_typed_tree.specs.declared.expression.TypedOp.{TypedOp}
use Rattle.efl_typed_tree.specs.declared.expression.TypedExpr.{TypedExpr}
use Rattle.efl_typed_tree.specs.declared.expression.TypedExpr.TheVariants as v
use Rattle.efl_typed_tree.specs.Views as views
use Rattle.efl_typed_tree.proofs.Rows.{call_expr, known_expr}
use Rattle.efl_bindings.specs.declared.sites.Site.{Site}
use Rattle.efl_bindings.specs.Bindings.{IsScalar, IsMeant, scalar_for, procedure_in}
use Rattle.efl_bindings.specs.Sites.{IsSite}
use Rattle.efl_bindings.specs.Typed.{IsTyped}
use Rattle.efl_bindings.proofs.BuiltLemmas.{or_left, or_right}

-- ---- variables ----

declared_meant : (xs : List Located) (n : ℕ) (rules : List Implied) (x : Text) (m : Option Meaning) (r : Scalar) → IsMeant xs n m (Some r) → IsScalar xs n (meant_by rules x m) r
declared_meant xs n rules x None r is = absurd is
declared_meant xs n rules x (Some (IsVariable v)) r is = is
declared_meant xs n rules x (Some (IsStructure ms)) r is = absurd is

undeclared_meant : (xs : List Located) (n : ℕ) (rules : List Implied) (x : Text) (m : Option Meaning) → IsMeant xs n m None → by_letter_of rules x ≡ meant_by rules x m
undeclared_meant xs n rules x None is = refl
undeclared_meant xs n rules x (Some m) is = absurd is

pub declared_is : (c : Context) (s : Site) (x : Text) (r : Scalar) → IsSite c s → Some r ≡ scalar_for s.scopes.now x → IsScalar c.variables c.around.unit (variable_named c x) r
declared_is c s x r is some =
    let m = meaning c.names.blocks x in
    declared_meant c.variables c.around.unit c.names.implied x m r (subst (IsMeant c.variables c.around.unit m) (sym some) (is.scalars x))

pub undeclared_is : (c : Context) (s : Site) (x : Text) (r : Scalar) → IsSite c s → None ≡ scalar_for s.scopes.now x → IsScalar c.variables c.around.unit (by_letter_of c.names.implied x) r →
    IsScalar c.variables c.around.unit (variable_named c x) r
undeclared_is c s x r is none made =
    let m = meaning c.names.blocks x in
    subst (λ w. IsScalar c.variables c.around.unit w r)
    (undeclared_meant c.variables c.around.unit c.names.implied x m (subst (IsMeant c.variables c.around.unit m) (sym none) (is.scalars x))) made

target_at : (c : Context) (x : Text) (es : EflExprs) (steps : EflSteps) (r : Scalar) → IsScalar c.variables c.around.unit (variable_named c x) r → unbuilt_target (Path x es steps) ≡ false →
    views.site_of r ≡ typing.site_of c (Path x es steps)
target_at c x efl.NoExpr efl.NoStep r is built =
    ap (λ n. program.Variable n (program.Scalar r.kind) program.NoExpr) is.number ∙ ap (λ t. program.Variable (numbered c x) t program.NoExpr) (sym is.kind)
target_at c x efl.NoExpr (efl.Member y fs steps) r is built = absurd (let e : true ≡ false = built in cc)
target_at c x efl.NoExpr (efl.Overlay y steps) r is built = absurd (let e : true ≡ false = built in cc)
target_at c x (efl.AndExpr e es) steps r is built = absurd (let e : true ≡ false = built in cc)

pub target_is : (c : Context) (p : EflPlace) (x : Text) (es : EflExprs) (steps : EflSteps) (r : Scalar) → Path x es steps ≡ p → IsScalar c.variables c.around.unit (variable_named c x) r →
    unbuilt_target p ≡ false → views.site_of r ≡ typing.site_of c p
target_is c p x es steps r is made built =
    target_at c x es steps r made (ap unbuilt_target is ∙ built) ∙ ap (typing.site_of c) is

-- ---- calls ----

single_calls : (t : DataType) (k : Kind) → sort_of t ≡ program.Scalar k → calls (applied_as t) ≡ true
single_calls (types.Scalar j) k is = refl
single_calls types.NoType k is = refl
single_calls (types.Structured ms) k is = absurd cc
single_calls (types.Array bs t) k is = absurd cc

meant_calls : (xs : List Located) (n : ℕ) (m : Option Meaning) (o : Option Scalar) → IsMeant xs n m o → calls (applied_by m) ≡ true
meant_calls xs n None o is = refl
meant_calls xs n (Some (IsStructure ms)) o is = refl
meant_calls xs n (Some (IsVariable w)) (Some r) is = single_calls w.kind r.kind is.kind
meant_calls xs n (Some (IsVariable w)) None is = absurd is

-- parentheses behind a name call
name_calls : (c : Context) (s : Site) (x : Text) → IsSite c s → calls (applied c.names x) ≡ true
name_calls c s x is = meant_calls c.variables c.around.unit (meaning c.names.blocks x) (scalar_for s.scopes.now x) (is.scalars x)

number_called : (c : Context) (s : Site) (x : Text) → IsSite c s → called c x ≡ number_of c.procedures x
number_called c s x is = ap (λ b. if b then number_of c.procedures x else None) (name_calls c s x is)

abbrev pub valued : Context → ℕ → ℕ × Kind
valued c n = (n, value_kind c.procedures n)

pub called_is : (c : Context) (s : Site) (x : Text) → IsSite c s → procedure_in s.procedures.now x ≡ option_map (valued c) (called c x)
called_is c s x is = is.procedures x ∙ ap (option_map (valued c)) (sym (number_called c s x is))

none_called : (c : Context) (o : Option ℕ) → None ≡ option_map (valued c) o → o ≡ None
none_called c None none = refl
none_called c (Some n) none = absurd cc

some_called : (c : Context) (o : Option ℕ) (p : ℕ × Kind) → Some p ≡ option_map (valued c) o → (o ≡ Some p.0) × (p.1 ≡ value_kind c.procedures p.0)
some_called c None p some = absurd cc
some_called c (Some n) p some =
    let e : p ≡ (n, value_kind c.procedures n) = cc in
    (ap (λ q. Some q.0) (sym e), ap (λ q. q.1) e ∙ ap (λ q. value_kind c.procedures q.0) (sym e))

pub known_is : (c : Context) (x : Text) (g : Intrinsic) (list : Vec TypedExpr Global) (es : EflExprs) → None ≡ option_map (valued c) (called c x) → views.intrinsic_of g ≡ intrinsic x →
    views.exprs_of list.items ≡ typing.exprs_of c es → views.expr_of (v.Known g list) ≡ typing.expr_of c (efl.Call x es)
known_is c x g list es none same all =
    known_expr g list
    ∙ ap (λ f. program.Known f (views.exprs_of list.items)) same
    ∙ ap (program.Known (intrinsic x)) all
    ∙ ap (λ o. call_of c x o (typing.exprs_of c es)) (sym (none_called c (called c x) none))

pub call_is : (c : Context) (x : Text) (n : ℕ) (k : Kind) (list : Vec TypedExpr Global) (es : EflExprs) → Some (n, k) ≡ option_map (valued c) (called c x) →
    views.exprs_of list.items ≡ typing.exprs_of c es → views.expr_of (v.Call n k list) ≡ typing.expr_of c (efl.Call x es)
call_is c x n k list es some all =
    let found = some_called c (called c x) (n, k) some in
    call_expr n k list
    ∙ ap (λ j. program.Call n j (views.exprs_of list.items)) found.1
    ∙ ap (program.Call n (value_kind c.procedures n)) all
    ∙ ap (λ o. call_of c x o (typing.exprs_of c es)) (sym found.0)

-- ---- places ----

both_true : (a b : Bool) → a ≡ true → b ≡ true → (a && b) ≡ true
both_true true b one two = two
both_true false b one two = one

steps_end : (b : Bool) → not b ≡ false → b ≡ true
steps_end true e = refl
steps_end false e = absurd cc

-- with subscripts
subscripted_at : (c : Context) (s : Site) (x : Text) (e : EflExpr) (es : EflExprs) (steps : EflSteps) → IsSite c s → unbuilt_expr (efl.At (Path x (efl.AndExpr e es) steps)) ≡ false →
    typing.expr_of c (efl.Call x (efl.AndExpr e es)) ≡ typing.expr_of c (efl.At (Path x (efl.AndExpr e es) steps))
subscripted_at c s x e es steps is built =
    let ended = steps_end (ends steps) (or_right (unbuilt_exprs (efl.AndExpr e es)) (not (ends steps)) built) in
    sym (ap (λ b. value_at c b (Path x (efl.AndExpr e es) steps)) (both_true (calls (applied c.names x)) (ends steps) (name_calls c s x is) ended))

pub subscripted_is : (c : Context) (s : Site) (x : Text) (es : List memory.EflExpr) (steps : EflSteps) (t : TypedExpr) (b : Bool) → b ≡ false → b ≡ (length es == 0) → IsSite c s →
    (unbuilt_expr (efl.Call x (trees.exprs_of es)) ≡ false → views.expr_of t ≡ typing.expr_of c (efl.Call x (trees.exprs_of es))) →
    unbuilt_expr (efl.At (Path x (trees.exprs_of es) steps)) ≡ false → views.expr_of t ≡ typing.expr_of c (efl.At (Path x (trees.exprs_of es) steps))
subscripted_is c s x [] steps t b off same is call built = absurd (let f : true ≡ false = sym same ∙ off in cc)
subscripted_is c s x (e ∷ es) steps t b off same is call built =
    call (or_left (unbuilt_exprs (trees.exprs_of (e ∷ es))) (not (ends steps)) built) ∙ subscripted_at c s x (trees.expr_of e) (trees.exprs_of es) steps is built

-- ---- lists ----

-- one expression more behind the others
one_more : program.Exprs → program.Expr → program.Exprs
one_more program.NoExpr e = program.AndExpr e program.NoExpr
one_more (program.AndExpr a es) e = program.AndExpr a (one_more es e)

typed_more : (ts : List TypedExpr) (t : TypedExpr) → views.exprs_of (ts ++ t ∷ []) ≡ one_more (views.exprs_of ts) (views.expr_of t)
unfolding one_more
typed_more [] t = refl
typed_more (a ∷ ts) t = ap (program.AndExpr (views.expr_of a)) (typed_more ts t)

seen_more : (c : Context) (es : List memory.EflExpr) (e : memory.EflExpr) →
    typing.exprs_of c (trees.exprs_of (es ++ e ∷ [])) ≡ one_more (typing.exprs_of c (trees.exprs_of es)) (typing.expr_of c (trees.expr_of e))
unfolding one_more
seen_more c [] e = refl
seen_more c (a ∷ es) e = ap (program.AndExpr (typing.expr_of c (trees.expr_of a))) (seen_more c es e)

built_at : (es : List memory.EflExpr) (i : ℕ) (e : memory.EflExpr) → i < length es → e ≡ get_or es i e → unbuilt_exprs (trees.exprs_of es) ≡ false → unbuilt_expr (trees.expr_of e) ≡ false
built_at [] i e lt is built = absurd (omega arith)
built_at (a ∷ es) zero e lt is built = ap (λ b. unbuilt_expr (trees.expr_of b)) is ∙ or_left (unbuilt_expr (trees.expr_of a)) (unbuilt_exprs (trees.exprs_of es)) built
built_at (a ∷ es) (suc i) e lt is built = built_at es i e (omega arith) is (or_right (unbuilt_expr (trees.expr_of a)) (unbuilt_exprs (trees.exprs_of es)) built)

-- those before are typed
abbrev pub TypedSoFar : Site → List memory.EflExpr → ℕ → List TypedExpr → Type 0
TypedSoFar s es i ts = (c : Context) → IsSite c s → unbuilt_exprs (trees.exprs_of es) ≡ false → views.exprs_of ts ≡ typing.exprs_of c (trees.exprs_of (take i es))

pub expressions_more : (s : Site) (es : List memory.EflExpr) (i : ℕ) (e : memory.EflExpr) (now new : List TypedExpr) (t : TypedExpr) → i < length es → e ≡ get_or es i e → TypedSoFar s es i now →
    ((c : Context) → IsSite c s → unbuilt_expr (trees.expr_of e) ≡ false → views.expr_of t ≡ typing.expr_of c (trees.expr_of e)) → new ≡ now ++ t ∷ [] → TypedSoFar s es (i + 1) new
expressions_more s es i e now new t lt is before one comes c site built =
    ap views.exprs_of comes
    ∙ typed_more now t
    ∙ ap (λ all. one_more all (views.expr_of t)) (before c site built)
    ∙ ap (one_more (typing.exprs_of c (trees.exprs_of (take i es)))) (one c site (built_at es i e lt is built))
    ∙ sym (seen_more c (take i es) e)
    ∙ ap (λ all. typing.exprs_of c (trees.exprs_of all)) (sym (take_more es i e lt ∙ ap (λ a. take i es ++ a ∷ []) (sym is)))

-- ---- expressions in memory ----

pub from_at : (a : memory.EflExpr) (p : places.EflPlace) → a ≡ forms.At p → trees.expr_of a ≡ efl.At (trees.place_of p)
from_at a p is = ap trees.expr_of is ∙ at_expr p

-- what is stored into at a place is its variable
abbrev pub IsTarget : Site → EflPlace → Scalar → Type 0
IsTarget s p r = (c : Context) → IsSite c s → unbuilt_target p ≡ false → views.site_of r ≡ typing.site_of c p

pub up_is : (s : Site) (a : memory.EflExpr) (p : places.EflPlace) (r : Scalar) → a ≡ forms.Up p → IsTarget s (trees.place_of p) r → IsTyped s (trees.expr_of a) (v.Up r)
up_is s a p r is target =
    subst (λ e. IsTyped s e (v.Up r)) (sym (ap trees.expr_of is ∙ up_expr p)) (λ c site built. ap program.Up (target c site built))

pub down_is : (s : Site) (a : memory.EflExpr) (p : places.EflPlace) (r : Scalar) → a ≡ forms.Down p → IsTarget s (trees.place_of p) r → IsTyped s (trees.expr_of a) (v.Down r)
down_is s a p r is target =
    subst (λ e. IsTyped s e (v.Down r)) (sym (ap trees.expr_of is ∙ down_expr p)) (λ c site built. ap program.Down (target c site built))

pub from_call : (a : memory.EflExpr) (x : Text) (list : Vec memory.EflExpr Global) (seen : List memory.EflExpr) → a ≡ forms.Call x list → seen ≡ list.items →
    trees.expr_of a ≡ efl.Call x (trees.exprs_of seen)
from_call a x list seen is same = ap trees.expr_of is ∙ trees_call x list ∙ ap (λ es. efl.Call x (trees.exprs_of es)) (sym same)

pub assigned_is : (s : Site) (a seen : memory.EflExpr) (o : Option EflOperator) (p : places.EflPlace) (b : Box memory.EflExpr Global) (op : Option TypedOp) (r : Scalar) (t : Box TypedExpr Global) →
    a ≡ forms.Assign o p b → seen ≡ b.value → option_map views.op_of op ≡ option_map typing.op_of o → IsTarget s (trees.place_of p) r → IsTyped s (trees.expr_of seen) t.value →
    IsTyped s (trees.expr_of a) (v.Assign op r t)
assigned_is s a seen o p b op r t is same ops target value =
    subst (λ e. IsTyped s e (v.Assign op r t)) (sym (ap trees.expr_of is ∙ assign_expr o p b ∙ ap (λ e. efl.Assign o (trees.place_of p) (trees.expr_of e)) (sym same)))
    (λ c site built.
    ap (λ q. program.Assign q (views.site_of r) (views.expr_of t.value)) ops
    ∙ ap (λ q. program.Assign (option_map typing.op_of o) q (views.expr_of t.value)) (target c site (or_left (unbuilt_target (trees.place_of p)) (unbuilt_expr (trees.expr_of seen)) built))
    ∙ ap (program.Assign (option_map typing.op_of o) (typing.site_of c (trees.place_of p))) (value c site (or_right (unbuilt_target (trees.place_of p)) (unbuilt_expr (trees.expr_of seen)) built)))
