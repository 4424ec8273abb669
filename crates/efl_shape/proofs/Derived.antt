-- What the published grammar derives has the shape that it gives: a main has neither formals nor a type, no assignment has a relation's
-- operator, and a default has no constants.
use Rattle.std.proofs.Common.{◌≡◌, ℕ, ◌+◌, ℤ, Bool, false, List, [], ◌∷◌, ◌++◌, Option, None, Some, refl, sym}
use Rattle.std.specs.Prelude.{⊤, flat_map}
use Rattle.std.proofs.lemmas.Option.{none-some}
use Rattle.ground.specs.declared.place.Place.{Place}
use Rattle.ground.specs.declared.token.Sign.{Sign as ASign}
use Rattle.efl_tree.specs.declared.statement.LoopKind.TheVariants as loops
use Rattle.efl_tree.specs.declared.expression.EflOperator.{EflOperator}
use Rattle.efl_tree.specs.Syntax as efl
use Rattle.efl_tree.specs.Syntax.{Text, EflExpr, EflExprs, EflPlace, EflSteps, EflVar, EflType, EflDecl, EflStmt, EflKind, EflStmts, EflCases, EflProcedure, EflProgram}
use Rattle.efl_scope.specs.Scopes.{behind_declaration, behind_all, outer}
use Rattle.efl_scope.specs.Parts.{Groups, Around, Part, part, among, into, in_loop, names_by, groups_by, declarations_in, parts_of, parts_within, parts_in, clauses_in, header_type_groups, around_unit, parts_by, parts_from, program_parts}
use Rattle.rat_grammar.specs.Tokens.{Tokens, OneOf, Perhaps, Several}
use Rattle.efl_grammar.specs.Expressions.{Assign, Expr, Disj, Conj, Neg, Rel, Sum, Term, Unary, Step, Power, Operand, Place as APlace, Steps, AnySubs, Subs, Exprs, Condition, Act}
use Rattle.efl_grammar.specs.Expressions as e
use Rattle.efl_grammar.specs.Statements.{Comma, WriteItem, Statement, Statements, Body, Clauses}
use Rattle.efl_grammar.specs.Statements as s
use Rattle.efl_grammar.specs.Programs.{Header, Procedure, Program}
use Rattle.efl_grammar.specs.Programs as p
use Rattle.efl_typed.proofs.Each.{Each}
use Rattle.efl_lowered.specs.Grammatical.{operators_of, operators_of_all, operators_at, operators_behind, operators_if, operators_written, operators_by, operators_in, default_constants, IsGrammatical}
use Rattle.efl_lowered.proofs.TypedExpressions.{Keeps}
use Rattle.efl_lowered.proofs.TypedChecks.{at_each, each_on}
use Rattle.efl_shape.proofs.Groups.{declared_each, header_each}

-- ---- signs of assignment ----

-- what holds beside each of some signs holds beside the one that stands here
beside : {A : Type 0} (P : A → Type 0) {choices : List (ASign × A)} {a b : Tokens} {x : A} → OneOf choices a b x → Each (λ c. P c.1) choices → P x
beside P (OneOf.here q) h = h.0
beside P (OneOf.there q) h = beside P q h.1

abbrev KeepsIfAny : Option EflOperator → Type 0
KeepsIfAny None = ⊤
KeepsIfAny (Some o) = Keeps o

assign_keeps : {a b : Tokens} {o : Option EflOperator} → Assign a b o → KeepsIfAny o
assign_keeps q = beside KeepsIfAny q (tt, (refl, (refl, (refl, (refl, (refl, (refl, (refl, (refl, (refl, tt))))))))))

-- ---- expressions ----

abbrev Keep : List EflOperator → Type 0
Keep os = Each Keeps os

both : (xs ys : List EflOperator) → Keep xs → Keep ys → Keep (xs ++ ys)
both xs ys h k = each_on Keeps xs ys h k

stored : (o : Option EflOperator) (q : EflPlace) (f : EflExpr) → KeepsIfAny o → Keep (operators_at q) → Keep (operators_of f) → Keep (operators_of (efl.Assign o q f))
stored None q f h k l = both (operators_at q) (operators_of f) k l
stored (Some o) q f h k l = (h, both (operators_at q) (operators_of f) k l)

mutual
  expr_keeps : {a b : Tokens} {x : EflExpr} → Expr a b x → Keep (operators_of x)
  expr_keeps (e.disj q) = disj_keeps q
  expr_keeps (e.assignment q o v) = stored _ _ _ (assign_keeps o) (place_keeps q) (expr_keeps v)

  disj_keeps : {a b : Tokens} {x : EflExpr} → Disj a b x → Keep (operators_of x)
  disj_keeps (e.conj q) = conj_keeps q
  disj_keeps (e.or q o v) = both _ _ (disj_keeps q) (conj_keeps v)

  conj_keeps : {a b : Tokens} {x : EflExpr} → Conj a b x → Keep (operators_of x)
  conj_keeps (e.neg q) = neg_keeps q
  conj_keeps (e.and q o v) = both _ _ (conj_keeps q) (neg_keeps v)

  neg_keeps : {a b : Tokens} {x : EflExpr} → Neg a b x → Keep (operators_of x)
  neg_keeps (e.rel q) = rel_keeps q
  neg_keeps (e.not o q) = neg_keeps q

  rel_keeps : {a b : Tokens} {x : EflExpr} → Rel a b x → Keep (operators_of x)
  rel_keeps (e.sum q) = sum_keeps q
  rel_keeps (e.compared q o v) = both _ _ (sum_keeps q) (sum_keeps v)

  sum_keeps : {a b : Tokens} {x : EflExpr} → Sum a b x → Keep (operators_of x)
  sum_keeps (e.term q) = term_keeps q
  sum_keeps (e.added q o v) = both _ _ (sum_keeps q) (term_keeps v)

  term_keeps : {a b : Tokens} {x : EflExpr} → Term a b x → Keep (operators_of x)
  term_keeps (e.unary q) = unary_keeps q
  term_keeps (e.times q o v) = both _ _ (term_keeps q) (power_keeps v)

  unary_keeps : {a b : Tokens} {x : EflExpr} → Unary a b x → Keep (operators_of x)
  unary_keeps (e.power q) = power_keeps q
  unary_keeps (e.plus o q) = unary_keeps q
  unary_keeps (e.minus o q) = unary_keeps q
  unary_keeps (e.step q) = step_keeps q

  step_keeps : {a b : Tokens} {x : EflExpr} → Step a b x → Keep (operators_of x)
  step_keeps (e.up o q) = place_keeps q
  step_keeps (e.down o q) = place_keeps q

  power_keeps : {a b : Tokens} {x : EflExpr} → Power a b x → Keep (operators_of x)
  power_keeps (e.operand q) = operand_keeps q
  power_keeps (e.raised q o v) = both _ _ (operand_keeps q) (power_keeps v)

  operand_keeps : {a b : Tokens} {x : EflExpr} → Operand a b x → Keep (operators_of x)
  operand_keeps (e.place q) = place_keeps q
  operand_keeps (e.call y o c) = tt
  operand_keeps (e.number z) = tt
  operand_keeps (e.truth w) = tt
  operand_keeps (e.falsehood w) = tt
  operand_keeps (e.group o q c) = expr_keeps q

  place_keeps : {a b : Tokens} {x : EflPlace} → APlace a b x → Keep (operators_at x)
  place_keeps (e.path y q r) = both _ _ (subs_keep q) (steps_keep r)

  steps_keep : {a b : Tokens} {x : EflSteps} → Steps a b x → Keep (operators_behind x)
  steps_keep e.no_step = tt
  steps_keep (e.member o y q r) = both _ _ (subs_keep q) (steps_keep r)
  steps_keep (e.overlay o y r) = steps_keep r

  subs_keep : {a b : Tokens} {x : EflExprs} → AnySubs a b x → Keep (operators_of_all x)
  subs_keep e.no_subs = tt
  subs_keep (e.some_subs q) = list_keeps q

  list_keeps : {a b : Tokens} {x : EflExprs} → Subs a b x → Keep (operators_of_all x)
  list_keeps (e.subs o q c) = exprs_keep q

  exprs_keep : {a b : Tokens} {x : EflExprs} → Exprs a b x → Keep (operators_of_all x)
  exprs_keep (e.last q) = both _ [] (expr_keeps q) tt
  exprs_keep (e.comma q o r) = both _ _ (expr_keeps q) (exprs_keep r)

condition_keeps : {a b : Tokens} {x : EflExpr} → Condition a b x → Keep (operators_of x)
condition_keeps (e.condition o q c) = expr_keeps q

act_keeps : {a b : Tokens} {x : EflExpr} → Act a b x → Keep (operators_of x)
act_keeps (e.stored q o v) = stored _ _ _ (assign_keeps o) (place_keeps q) (expr_keeps v)
act_keeps (e.stepped q) = step_keeps q
act_keeps (e.called y o c) = tt
act_keeps (e.called_with y q) = list_keeps q

comma_keeps : {a b : Tokens} {x : EflExpr} → Comma Expr a b x → Keep (operators_of x)
comma_keeps (Comma.comma o q) = expr_keeps q

perhaps_keeps : {Item : Tokens → Tokens → EflExpr → Type 0} → ((a b : Tokens) (x : EflExpr) → Item a b x → Keep (operators_of x)) → {a b : Tokens} {o : Option EflExpr} → Perhaps Item a b o → Keep (operators_if o)
perhaps_keeps f Perhaps.none = tt
perhaps_keeps f (Perhaps.some q) = f _ _ _ q

written_keeps : {a b : Tokens} {x : efl.WriteItem} → WriteItem a b x → Keep (operators_written x)
written_keeps (s.value q o k) = expr_keeps q
written_keeps (WriteItem.skip q) = tt
written_keeps (s.chars q) = tt

all_written_keep : {a b : Tokens} {xs : List efl.WriteItem} → Several (Comma WriteItem) a b xs → Keep (flat_map operators_written xs)
all_written_keep Several.none = tt
all_written_keep (Several.more (Comma.comma o q) rest) = both _ _ (written_keeps q) (all_written_keep rest)

-- ---- parts ----

abbrev IsShaped : Part → Type 0
IsShaped v = Keep (operators_in v.form) × (default_constants v.form ≡ [])

grouped : (a : Around) (q : Place) (before : List Text) (t : EflType) (vs : List EflVar) → IsShaped (part a q (Groups before t vs))
grouped a q before t vs = (tt, refl)

declarations_shaped : (r : Around) (before : List Text) (ds : List EflDecl) → Each IsShaped (declarations_in r before ds)
declarations_shaped r before [] = tt
declarations_shaped r before (d ∷ ds) =
    let next = among (behind_declaration r.blocks d.kind) r in
    ((tt, refl), each_on IsShaped (groups_by r before d.kind) (declarations_in next (before ++ names_by d.kind) ds) (declared_each IsShaped grouped r before d.kind) (declarations_shaped next (before ++ names_by d.kind) ds))

-- ---- statements ----

mutual
  statement_shaped : {a b : Tokens} {x : EflStmt} (r : Around) → Statement a b x → Each IsShaped (parts_of r x)
  statement_shaped r (s.statement l k) = ((body_keeps k, refl), body_shaped r k)

  statements_shaped : {a b : Tokens} {xs : EflStmts} (n : ℕ) (r : Around) → Statements a b xs → Each IsShaped (parts_in n r xs)
  statements_shaped n r s.no_statement = tt
  statements_shaped n r (s.listed l ls k rest) = ((body_keeps k, refl), each_on IsShaped _ _ (body_shaped (into n r) k) (statements_shaped (n + 1) r rest))

  -- the operators of a statement without those in it
  body_keeps : {a b : Tokens} {k : EflKind} → Body a b k → Keep (operators_by k)
  body_keeps (s.empty h) = tt
  body_keeps (s.block begin ds ss l close) = tt
  body_keeps (s.act f stop) = act_keeps f
  body_keeps (s.if_ w c x none) = condition_keeps c
  body_keeps (s.if_else w c x l v y) = condition_keeps c
  body_keeps (s.while w c x) = condition_keeps c
  body_keeps (s.for w begin x y z u v close body) = both _ _ (perhaps_keeps (λ c d y. act_keeps) x) (both _ _ (perhaps_keeps (λ c d y. expr_keeps) z) (perhaps_keeps (λ c d y. act_keeps) v))
  body_keeps (s.repeat w x none) = tt
  body_keeps (s.repeat_until w x l v c stop) = tt
  body_keeps (s.do_ w x is f comma g by body) = both _ _ (expr_keeps f) (both _ _ (expr_keeps g) (perhaps_keeps (λ c d y. comma_keeps) by))
  body_keeps (s.switch w c l begin cs m close) = condition_keeps c
  body_keeps (s.break_ w n stop) = tt
  body_keeps (s.next w n stop) = tt
  body_keeps (s.return_ w f stop) = perhaps_keeps (λ c d y. condition_keeps) f
  body_keeps (s.goto w x stop) = tt
  body_keeps (s.write w begin f is' close stop) = both _ _ (perhaps_keeps (λ c d y. expr_keeps) f) (all_written_keep is')
  body_keeps (s.read w begin f is' close stop) = perhaps_keeps (λ c d y. expr_keeps) f

  body_shaped : {a b : Tokens} {k : EflKind} (r : Around) → Body a b k → Each IsShaped (parts_within r k)
  body_shaped r (s.empty h) = tt
  body_shaped r (s.block begin ds ss l close) = each_on IsShaped _ _ (declarations_shaped _ _ _) (statements_shaped 0 _ ss)
  body_shaped r (s.act f stop) = tt
  body_shaped r (s.if_ w c x none) = statement_shaped r x
  body_shaped r (s.if_else w c x l v y) = each_on IsShaped _ _ (statement_shaped (into 0 r) x) (statement_shaped (into 1 r) y)
  body_shaped r (s.while w c x) = statement_shaped (in_loop loops.While r) x
  body_shaped r (s.for w begin x y z u v close body) = statement_shaped (in_loop loops.For r) body
  body_shaped r (s.repeat w x none) = statement_shaped (in_loop loops.Repeat r) x
  body_shaped r (s.repeat_until w x l v c stop) = each_on IsShaped _ _ (statement_shaped (in_loop loops.Repeat r) x) ((condition_keeps c, refl), tt)
  body_shaped r (s.do_ w x is f comma g by body) = statement_shaped (in_loop loops.Do r) body
  body_shaped r (s.switch w c l begin cs m close) = clauses_shaped 0 (in_loop loops.Switch r) [] false cs
  body_shaped r (s.break_ w n stop) = tt
  body_shaped r (s.next w n stop) = tt
  body_shaped r (s.return_ w f stop) = tt
  body_shaped r (s.goto w x stop) = tt
  body_shaped r (s.write w begin f is' close stop) = tt
  body_shaped r (s.read w begin f is' close stop) = tt

  clauses_shaped : {a b : Tokens} {cs : EflCases} (n : ℕ) (r : Around) (zs : List ℤ) (seen : Bool) → Clauses a b cs → Each IsShaped (clauses_in n r zs seen cs)
  clauses_shaped n r zs seen s.no_clause = tt
  clauses_shaped n r zs seen (s.case l w ys colon ss rest) = ((tt, refl), each_on IsShaped _ _ (statements_shaped 0 _ ss) (clauses_shaped (n + 1) r _ _ rest))
  clauses_shaped n r zs seen (s.default l w colon ss rest) = ((tt, refl), each_on IsShaped _ _ (statements_shaped 0 _ ss) (clauses_shaped (n + 1) r _ _ rest))

-- ---- procedures ----

-- a main has neither formals nor a type
abbrev IsMain : EflProcedure → Type 0
IsMain u = u.name ≡ None → (u.formals ≡ []) × (u.result ≡ None)

header_main : {a b : Tokens} {t : Option EflType} {x : Option Text} {xs : List Text} → Header a b t x xs → x ≡ None → (xs ≡ []) × (t ≡ None)
header_main (p.named t w x fs) h = absurd (none-some _ (sym h))
header_main (p.main w) h = (refl, refl)

procedures_main : {a b : Tokens} {us : List EflProcedure} → Several Procedure a b us → Each IsMain us
procedures_main Several.none = tt
procedures_main (Several.more (p.procedure l h stop ds ss m w last) rest) = (header_main h, procedures_main rest)

procedures_shaped : {a b : Tokens} {us : List EflProcedure} (n : ℕ) → Several Procedure a b us → Each IsShaped (parts_from n us)
procedures_shaped n Several.none = tt
procedures_shaped {us = u ∷ us} n (Several.more (p.procedure l h stop ds ss m w last) rest) =
    let r = around_unit n u in
    let groups = header_type_groups r u.result in
    let declared = declarations_in r [] u.declarations in
    let body = parts_in 0 (among (behind_all (outer u) u.declarations) r) u.body in
    each_on IsShaped (parts_by n u) (parts_from (n + 1) us)
    ((tt, refl), each_on IsShaped (groups ++ declared) body (each_on IsShaped groups declared (header_each IsShaped grouped r u.result) (declarations_shaped r [] u.declarations)) (statements_shaped 0 _ ss))
    (procedures_shaped (n + 1) rest)

pub shaped : {a : Tokens} (x : EflProgram) → Program a x → IsGrammatical x
shaped x (p.program us l last) = record {
  main = at_each IsMain x.procedures (procedures_main us);
  operators = λ i j v o e f. at_each Keeps (operators_in v.form) (at_each IsShaped (program_parts x) (procedures_shaped 0 us) i v e).0 j o f;
  defaults = λ i v e. (at_each IsShaped (program_parts x) (procedures_shaped 0 us) i v e).1;
}
