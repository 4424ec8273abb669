-- What calls break.
use Rattle.std.proofs.Common.{◌≡◌, ◌≢◌, Bool, true, false, not, ◌&&◌, List, [], ◌∷◌, ◌++◌, None, refl, sym, ap, subst, ◌∙◌}
use Rattle.ground.specs.declared.value.Kind.TheVariants.{Integer}
use Rattle.std.proofs.lemmas.List.{append-nil}
use Rattle.std.specs.Borrow.{Bor}
use Rattle.efl_tree.specs.Syntax.{Text, Call, EflExprs, NoExpr, AndExpr}
use Rattle.efl_scope.specs.DataTypes.{DataType, NoType}
use Rattle.efl_types.specs.declared.rule.TypeRule.TheVariants.{TypeClash, WrongCount}
use Rattle.efl_types.specs.Signatures as signatures
use Rattle.efl_types.specs.Signatures.{Names, many}
use Rattle.efl_types.specs.Types.{subscripted, applied_type, calls, empty_call_type}
use Rattle.efl_types.specs.Expressions.{when, variable_faults, all_want, has_subscripts, takes_subscripts, subscript_faults, call_faults, applied_faults, empty_call_faults, faults_of_all}
use Rattle.efl_expressions.specs.declared.types.DataType as types
use Rattle.efl_expressions.specs.declared.types.Structure.{Structure}
use Rattle.efl_expressions.specs.declared.intrinsics.Arity.{Arity}
use Rattle.efl_expressions.specs.declared.names.Applied.TheVariants as a
use Rattle.efl_expressions.specs.Forms.{arity_of}
use Rattle.efl_expressions.specs.FirstRule.{or_lower, first_rule}
use Rattle.efl_expressions.specs.TypeViews.{IsType}
use Rattle.efl_expressions.specs.NameViews.{IsApplied}
use Rattle.efl_scoped.specs.Numbers.{Table}
use Rattle.efl_names.specs.declared.units.Callee.{Callee}
use Rattle.efl_names.specs.declared.units.Callee.TheVariants as callees
use Rattle.efl_names.specs.declared.units.Outcome.{Outcome}
use Rattle.efl_places.specs.declared.typed.Typed.{Typed}
use Rattle.efl_places.specs.declared.places.Named.{Named}
use Rattle.efl_names.specs.NameViews.{IsCallee, AreTypes, result_of}
use Rattle.efl_places.specs.Checks.{IsTyped, IsNamed}
use Rattle.efl_places.proofs.RuleLemmas.{three_are}
use Rattle.efl_places.proofs.ListLemmas.{integers_rule}

-- ---- what is called ----

pub missing_is : (f : Table) (ss : List Structure) (c : signatures.Callee) (d : Callee) → IsCallee f ss c d → d ≡ callees.Missing → c ≡ signatures.Missing
missing_is f ss (signatures.Procedure s) d made is = absurd (subst (IsCallee f ss (signatures.Procedure s)) is made)
missing_is f ss (signatures.Intrinsic b) d made is = absurd (subst (IsCallee f ss (signatures.Intrinsic b)) is made)
missing_is f ss signatures.Missing d made is = refl

pub intrinsic_is : (f : Table) (ss : List Structure) (c : signatures.Callee) (d : Callee) (b : Arity) → IsCallee f ss c d → d ≡ callees.Intrinsic b → c ≡ signatures.Intrinsic (arity_of b)
intrinsic_is f ss (signatures.Procedure s) d b made is = absurd (subst (IsCallee f ss (signatures.Procedure s)) is made)
intrinsic_is f ss (signatures.Intrinsic m) d b made is = ap signatures.Intrinsic (sym (subst (IsCallee f ss (signatures.Intrinsic m)) is made))
intrinsic_is f ss signatures.Missing d b made is = absurd (subst (IsCallee f ss signatures.Missing) is made)

-- a procedure whose formals have these types
pub record IsCalled (f : Table) (ss : List Structure) (c : signatures.Callee) (ds : List types.DataType) (o : Outcome) : Type 0 where
  pub signature : signatures.Signature
  pub is : c ≡ signatures.Procedure signature
  pub formals : AreTypes f ss signature.formals ds
  pub result : signature.result ≡ result_of o

-- ---- what a name before parentheses is ----

pub record IsIndexed (f : Table) (ss : List Structure) (p : signatures.Applied) (d : types.DataType) : Type 0 where
  pub kind : DataType
  pub is : p ≡ signatures.Indexes kind
  pub made : IsType f ss kind d

pub indexes_is : (f : Table) (ss : List Structure) (p : signatures.Applied) (d : types.DataType) → IsApplied f ss p (a.Indexes d) → IsIndexed f ss p d
indexes_is f ss (signatures.Indexes t) d made = record { kind = t; is = refl; made = made }
indexes_is f ss (signatures.Calls t) d made = absurd made

pub record IsCalling (f : Table) (ss : List Structure) (p : signatures.Applied) (d : types.DataType) : Type 0 where
  pub kind : DataType
  pub is : p ≡ signatures.Calls kind
  pub made : IsType f ss kind d

pub calls_is : (f : Table) (ss : List Structure) (p : signatures.Applied) (d : types.DataType) → IsApplied f ss p (a.Calls d) → IsCalling f ss p d
calls_is f ss (signatures.Indexes t) d made = absurd made
calls_is f ss (signatures.Calls t) d made = record { kind = t; is = refl; made = made }

-- ---- subscripts ----

pub subscripts_are : (n : Names) (t : DataType) (es : EflExprs) (some : Bool) → has_subscripts es ≡ some →
    or_lower (first_rule (when (some && not (takes_subscripts t (many es))) WrongCount)) (integers_rule n Integer es) ≡ first_rule (subscript_faults n t es ++ faults_of_all n es)
subscripts_are n t NoExpr some is = ap (λ b. or_lower (first_rule (when (b && not (takes_subscripts t 0)) WrongCount)) None) (sym is)
subscripts_are n t (AndExpr e es) some is =
    let count = when (not (takes_subscripts t (many (AndExpr e es)))) WrongCount in
    ap (λ b. or_lower (first_rule (when (b && not (takes_subscripts t (many (AndExpr e es)))) WrongCount)) (integers_rule n Integer (AndExpr e es))) (sym is)
    ∙ three_are _ (first_rule count) (integers_rule n Integer (AndExpr e es)) count (all_want n Integer (AndExpr e es)) (faults_of_all n (AndExpr e es)) refl refl refl

-- ---- names with something in their parentheses ----

pub named_indexed : (f : Table) (ss : List Structure) (n : Names) (x : Text) (es : EflExprs) (t : DataType) (r : Named) → es ≢ NoExpr → signatures.applied n x ≡ signatures.Indexes t →
    IsType f ss (subscripted t (many es)) r.kind → r.is_call ≡ false → r.rule ≡ first_rule (subscript_faults n t es ++ faults_of_all n es) → IsNamed f ss n x es r
named_indexed f ss n x NoExpr t r some is made call rule = absurd (some refl)
named_indexed f ss n x (AndExpr e es) t r some is made call rule = record {
  kind = subst (λ p. IsType f ss (applied_type n x (many (AndExpr e es)) p) r.kind) (sym is) made;
  call = ap calls is ∙ sym call;
  rule = ap (λ p. first_rule (applied_faults n x (AndExpr e es) p ++ faults_of_all n (AndExpr e es))) is ∙ sym rule;
}

pub named_calling : (f : Table) (ss : List Structure) (n : Names) (x : Text) (es : EflExprs) (t : DataType) (r : Named) → es ≢ NoExpr → signatures.applied n x ≡ signatures.Calls t →
    IsType f ss (signatures.called_type (signatures.callee n x)) r.kind → r.is_call ≡ true → r.rule ≡ first_rule (call_faults n x es t ++ faults_of_all n es) → IsNamed f ss n x es r
named_calling f ss n x NoExpr t r some is made call rule = absurd (some refl)
named_calling f ss n x (AndExpr e es) t r some is made call rule = record {
  kind = subst (λ p. IsType f ss (applied_type n x (many (AndExpr e es)) p) r.kind) (sym is) made;
  call = ap calls is ∙ sym call;
  rule = ap (λ p. first_rule (applied_faults n x (AndExpr e es) p ++ faults_of_all n (AndExpr e es))) is ∙ sym rule;
}

-- ---- a name by itself ----

pub named_alone : (f : Table) (ss : List Structure) (n : Names) (x : Text) (es : EflExprs) (r : Named) → es ≡ NoExpr → IsType f ss (signatures.variable_type n x) r.kind → r.is_call ≡ false →
    r.rule ≡ first_rule (variable_faults n x) → IsNamed f ss n x es r
named_alone f ss n x es r none made call rule =
    subst (λ fs. IsNamed f ss n x fs r) (sym none) (record { kind = made; call = sym call; rule = ap first_rule (append-nil (variable_faults n x)) ∙ sym rule })

-- ---- calls with empty parentheses ----

pub empty_indexed : (f : Table) (ss : List Structure) (n : Names) (x : Text) (es : EflExprs) (t : DataType) (r : Typed) → signatures.applied n x ≡ signatures.Indexes t → IsType f ss NoType r.kind →
    r.is_element ≡ false → r.rule ≡ first_rule ((TypeClash ∷ []) ++ faults_of_all n es) → IsTyped f ss n (Call x es) r
empty_indexed f ss n x es t r is made element rule = record {
  kind = subst (λ p. IsType f ss (empty_call_type n x p) r.kind) (sym is) made;
  element = sym element;
  rule = ap (λ p. first_rule (empty_call_faults n x es p ++ faults_of_all n es)) is ∙ sym rule;
}

pub empty_calling : (f : Table) (ss : List Structure) (n : Names) (x : Text) (es : EflExprs) (t : DataType) (r : Typed) → signatures.applied n x ≡ signatures.Calls t →
    IsType f ss (signatures.called_type (signatures.callee n x)) r.kind → r.is_element ≡ false → r.rule ≡ first_rule (call_faults n x es t ++ faults_of_all n es) → IsTyped f ss n (Call x es) r
empty_calling f ss n x es t r is made element rule = record {
  kind = subst (λ p. IsType f ss (empty_call_type n x p) r.kind) (sym is) made;
  element = sym element;
  rule = ap (λ p. first_rule (empty_call_faults n x es p ++ faults_of_all n es)) is ∙ sym rule;
}

-- ---- procedures ----

pub procedure_is : (f : Table) (ss : List Structure) (c : signatures.Callee) (d : Callee) (ds : Bor (List types.DataType)) (o : Outcome) → IsCallee f ss c d → d ≡ callees.Procedure ds o → IsCalled f ss c ds.now o
procedure_is f ss (signatures.Procedure s) d ds o made is = record { signature = s; is = refl; formals = (subst (IsCallee f ss (signatures.Procedure s)) is made).0; result = (subst (IsCallee f ss (signatures.Procedure s)) is made).1 }
procedure_is f ss (signatures.Intrinsic b) d ds o made is = absurd (subst (IsCallee f ss (signatures.Intrinsic b)) is made)
procedure_is f ss signatures.Missing d ds o made is = absurd (subst (IsCallee f ss signatures.Missing) is made)
