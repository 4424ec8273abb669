-- What each form of an expression makes of the checks of its parts.
use Rattle.std.proofs.Common.{◌≡◌, ◌+◌, ◌++◌, ◌∷◌, ◌&&◌, [], Some, not, ◌==◌, length, drop, refl, sym, ap, subst, ◌∙◌}
use Rattle.std.specs.List.{slice_get}
use Rattle.std.proofs.lemmas.List.{drop_all}
use Rattle.ground.specs.declared.value.Kind.TheVariants.{Integer}
use Rattle.efl_tree.specs.Syntax as efl
use Rattle.efl_tree.specs.Views.{expr_of, exprs_of, place_of, step_then, steps_of}
use Rattle.efl_scope.proofs.TreeLemmas.{drop_next}
use Rattle.efl_types.specs.declared.rule.TypeRule.TheVariants.{TypeClash, WrongCount, MissingUnit}
use Rattle.efl_types.specs.Signatures.{many, applied, callee, takes}
use Rattle.efl_types.specs.Types.{ends, named_type, member_type, subscripted, target_type}
use Rattle.efl_types.specs.Expressions.{when, wants, has_subscripts, takes_subscripts, all_want, gives_value, take_actuals, actual_faults, faults, faults_of_all}
use Rattle.efl_expressions.specs.FirstRule.{or_lower, first_rule}
use Rattle.efl_expressions.specs.Forms.{arity_of}
use Rattle.efl_expressions.specs.TypeViews.{IsType}
use Rattle.efl_places.specs.declared.places.Reached.{Reached}
use Rattle.efl_names.specs.NameViews.{IsTypeIfAny}
use Rattle.efl_places.specs.Checks.{IsNamed, IsPlaced, IsReached, GoesOn, takes_if}
use Rattle.efl_places.proofs.RuleLemmas.{both_are, three_are, passed, ended}
use Rattle.efl_places.proofs.ListLemmas.{many_are, any_listed, none_listed, take_none, none_taken, integers_rule, integers_next, actuals_rule, actuals_next, type_at, many_types}
use Rattle.efl_places.proofs.StepLemmas.{goes_from, goes_further, goes_to_end}
use Rattle.efl_places.proofs.TypedLemmas.{typed_as, value_single}
use Rattle.efl_places.proofs.CallLemmas.{missing_is, intrinsic_is, procedure_is, indexes_is, calls_is, subscripts_are, named_indexed, named_calling, named_alone, empty_indexed, empty_calling}
use Rattle.efl_places.proofs.ExprLemmas.{int_is, truth_is, at_is, up_is, down_is, call_is, group_is, plus_is, minus_is, not_is, pair_is, assign_is, member_is, overlay_is}
use Rattle.efl_places.proofs.expressions.+check.Goals as goal

pub check-returns-in-Int : goal.check-returns-in-Int
check-returns-in-Int t c = λ f n stands.
    let ss = c.args.names.now.structures.now.list.items in
    let z = c.in-Int.field-0 in
    typed_as f ss n (efl.Int z) (expr_of c.args.e.now) c.valued.result (int_is c.args.e.now z c.in-Int.is) (c.valued.ensures f ss n (efl.Int z) refl refl (c.number.ensures n z))

pub check-returns-in-Truth : goal.check-returns-in-Truth
check-returns-in-Truth t c = λ f n stands.
    let ss = c.args.names.now.structures.now.list.items in
    let b = c.in-Truth.field-0 in
    typed_as f ss n (efl.Truth b) (expr_of c.args.e.now) c.valued-in-Truth.result (truth_is c.args.e.now b c.in-Truth.is) (c.valued-in-Truth.ensures f ss n (efl.Truth b) refl refl (c.truth.ensures n b))

pub check-returns-in-At : goal.check-returns-in-At
check-returns-in-At t c = λ f n stands.
    let ss = c.args.names.now.structures.now.list.items in
    let p = place_of c.in-At.place in
    typed_as f ss n (efl.At p) (expr_of c.args.e.now) c.named_place.result (at_is c.args.e.now c.in-At.place c.in-At.is) (c.named_place.ensures f ss n p (c.check_place.ensures f n stands))

pub check-returns-in-Call : goal.check-returns-in-Call
check-returns-in-Call t c = λ f n stands.
    let ss = c.args.names.now.structures.now.list.items in
    typed_as f ss n (efl.Call c.as_bytes.result.now (exprs_of c.deref.result.now)) (expr_of c.args.e.now) c.check_empty_call.result
    (ap (λ x. efl.Call x (exprs_of c.deref.result.now)) c.as_bytes.ensures ∙ call_is c.args.e.now c.in-Call.name c.in-Call.list c.deref.result.now c.in-Call.is c.deref.ensures.value)
    (c.check_empty_call.ensures f n stands)

pub check-returns-in-Group : goal.check-returns-in-Group
check-returns-in-Group t c = λ f n stands.
    let ss = c.args.names.now.structures.now.list.items in
    let a = expr_of c.deref-in-Group.result.now in
    typed_as f ss n (efl.Group a) (expr_of c.args.e.now) c.valued-in-Group.result (group_is c.args.e.now c.in-Group.a c.deref-in-Group.result.now c.in-Group.is c.deref-in-Group.ensures)
    (c.valued-in-Group.ensures f ss n (efl.Group a) (value_single _) refl (c.grouped.ensures n a (c.checked.ensures f ss n a (c.check.ensures f n stands))))

pub check-returns-in-Plus : goal.check-returns-in-Plus
check-returns-in-Plus t c = λ f n stands.
    let ss = c.args.names.now.structures.now.list.items in
    let a = expr_of c.deref-in-Plus.result.now in
    typed_as f ss n (efl.Plus a) (expr_of c.args.e.now) c.valued-in-Plus.result (plus_is c.args.e.now c.in-Plus.a c.deref-in-Plus.result.now c.in-Plus.is c.deref-in-Plus.ensures)
    (c.valued-in-Plus.ensures f ss n (efl.Plus a) refl refl (c.signed.ensures.plus n a (c.checked-in-Plus.ensures f ss n a (c.check-in-Plus.ensures f n stands))))

pub check-returns-in-Minus : goal.check-returns-in-Minus
check-returns-in-Minus t c = λ f n stands.
    let ss = c.args.names.now.structures.now.list.items in
    let a = expr_of c.deref-in-Minus.result.now in
    typed_as f ss n (efl.Minus a) (expr_of c.args.e.now) c.valued-in-Minus.result (minus_is c.args.e.now c.in-Minus.a c.deref-in-Minus.result.now c.in-Minus.is c.deref-in-Minus.ensures)
    (c.valued-in-Minus.ensures f ss n (efl.Minus a) refl refl (c.signed-in-Minus.ensures.minus n a (c.checked-in-Minus.ensures f ss n a (c.check-in-Minus.ensures f n stands))))

pub check-returns-in-Not : goal.check-returns-in-Not
check-returns-in-Not t c = λ f n stands.
    let ss = c.args.names.now.structures.now.list.items in
    let a = expr_of c.deref-in-Not.result.now in
    typed_as f ss n (efl.Not a) (expr_of c.args.e.now) c.valued-in-Not.result (not_is c.args.e.now c.in-Not.a c.deref-in-Not.result.now c.in-Not.is c.deref-in-Not.ensures)
    (c.valued-in-Not.ensures f ss n (efl.Not a) refl refl (c.negated.ensures n a (c.checked-in-Not.ensures f ss n a (c.check-in-Not.ensures f n stands))))

pub check-returns-in-Up : goal.check-returns-in-Up
check-returns-in-Up t c = λ f n stands.
    let ss = c.args.names.now.structures.now.list.items in
    let p = place_of c.in-Up.place in
    typed_as f ss n (efl.Up p) (expr_of c.args.e.now) c.valued-in-Up.result (up_is c.args.e.now c.in-Up.place c.in-Up.is)
    (c.valued-in-Up.ensures f ss n (efl.Up p) (value_single (target_type n p)) refl (c.counted.ensures.up f ss n p (c.check_place-in-Up.ensures f n stands)))

pub check-returns-in-Down : goal.check-returns-in-Down
check-returns-in-Down t c = λ f n stands.
    let ss = c.args.names.now.structures.now.list.items in
    let p = place_of c.in-Down.place in
    typed_as f ss n (efl.Down p) (expr_of c.args.e.now) c.valued-in-Down.result (down_is c.args.e.now c.in-Down.place c.in-Down.is)
    (c.valued-in-Down.ensures f ss n (efl.Down p) (value_single (target_type n p)) refl (c.counted-in-Down.ensures.down f ss n p (c.check_place-in-Down.ensures f n stands)))

pub check-returns-in-Pair : goal.check-returns-in-Pair
check-returns-in-Pair t c = λ f n stands.
    let ss = c.args.names.now.structures.now.list.items in
    let a = expr_of c.deref-in-Pair.result.now in
    let b = expr_of c.deref-in-Pair-2.result.now in
    let o = c.in-Pair.operator in
    typed_as f ss n (efl.Pair o a b) (expr_of c.args.e.now) c.valued-in-Pair.result
    (pair_is c.args.e.now o c.in-Pair.a c.in-Pair.b c.deref-in-Pair.result.now c.deref-in-Pair-2.result.now c.in-Pair.is c.deref-in-Pair.ensures c.deref-in-Pair-2.ensures)
    (c.valued-in-Pair.ensures f ss n (efl.Pair o a b) refl refl
    (c.paired.ensures n a b (c.checked-left.ensures f ss n a (c.check-in-Pair.ensures f n stands)) (c.checked-right.ensures f ss n b (c.check-in-Pair-2.ensures f n stands))))

pub check-returns-in-Assign : goal.check-returns-in-Assign
check-returns-in-Assign t c = λ f n stands.
    let ss = c.args.names.now.structures.now.list.items in
    let p = place_of c.in-Assign.place in
    let a = expr_of c.deref-in-Assign.result.now in
    let o = c.in-Assign.operator in
    typed_as f ss n (efl.Assign o p a) (expr_of c.args.e.now) c.valued-in-Assign.result (assign_is c.args.e.now o c.in-Assign.place c.in-Assign.a c.deref-in-Assign.result.now c.in-Assign.is c.deref-in-Assign.ensures)
    (c.valued-in-Assign.ensures f ss n (efl.Assign o p a) (value_single (target_type n p)) refl
    (c.assigned.ensures f ss n p a (c.check_place-target.ensures f n stands) (c.checked-value.ensures f ss n a (c.check-in-Assign.ensures f n stands))))

pub check_place-returns : goal.check_place-returns
check_place-returns t c = λ f n stands.
    let ss = c.args.names.now.structures.now.list.items in
    let p = c.args.place.now in
    let es = exprs_of p.subscripts.items in
    let steps = steps_of p.steps.items in
    let x = c.as_bytes.result.now in
    let start : Reached = record { kind = c.check_named-name.result.kind; is_subscripted = c.are_some.result; rule = c.check_named-name.result.rule } in
    let named = subst (λ xs. IsNamed f ss n x (exprs_of xs) c.check_named-name.result) c.deref.ensures.value (c.check_named-name.ensures f n stands) in
    let some = subst (λ xs. has_subscripts (exprs_of xs) ≡ c.are_some.result) c.deref-2.ensures.value c.are_some.ensures in
    let reached = subst (λ xs. IsReached f ss n (named_type n x es) start (steps_of xs) c.check_steps-last.result) c.deref-3.ensures.value
    (c.check_steps-last.ensures f n (named_type n x es) stands named.kind) in
    let none = subst (λ xs. ends (steps_of xs) ≡ c.are_none.result) c.deref-4.ensures.value c.are_none.ensures in
    subst (λ y. IsPlaced f ss n (efl.Path y es steps) c.at_end.result) c.as_bytes.ensures (c.at_end.ensures f ss n x es steps c.check_named-name.result start named refl none refl some reached)

pub check_named-returns-then-is_empty : goal.check_named-returns-then-is_empty
check_named-returns-then-is_empty t c = λ f n stands.
    let ss = c.args.names.now.structures.now.list.items in
    named_alone f ss n c.args.name.now (exprs_of c.args.list.now) _ (none_listed c.args.list.now c.is_empty.result c.is_empty.ensures c.if-is_empty.true) (c.variable_type.ensures f n stands) refl (c.variable_rule.ensures f n stands)

pub check_named-returns-else-is_empty : goal.check_named-returns-else-is_empty
check_named-returns-else-is_empty t c = λ f n stands. c.check_applied.ensures f n stands (any_listed c.args.list.now c.is_empty.result c.is_empty.ensures c.if-is_empty.false)

pub check_applied-returns-in-Indexes : goal.check_applied-returns-in-Indexes
check_applied-returns-in-Indexes t c = λ f n stands some.
    let ss = c.args.names.now.structures.now.list.items in
    let es = exprs_of c.args.list.now in
    let is = indexes_is f ss (applied n c.args.name.now) c.in-Indexes.kind (c.in-Indexes.ensures f n stands) in
    named_indexed f ss n c.args.name.now es is.kind _ some is.is
    (subst (λ m. IsType f ss (subscripted is.kind m) c.subscripted.result) (sym (many_are c.args.list.now)) (c.subscripted.ensures f is.kind is.made)) refl
    (c.check_subscripts.ensures f n is.kind stands is.made)

pub check_applied-returns-in-Calls : goal.check_applied-returns-in-Calls
check_applied-returns-in-Calls t c = λ f n stands some.
    let ss = c.args.names.now.structures.now.list.items in
    let x = c.args.name.now in
    let is = calls_is f ss (applied n x) c.in-Calls.kind (c.in-Calls.ensures f n stands) in
    let callee_is = c.callee-callee.ensures f n stands in
    named_calling f ss n x (exprs_of c.args.list.now) is.kind _ some is.is (c.called_type.ensures f ss (callee n x) callee_is) refl
    (c.check_call.ensures f n is.kind (callee n x) stands is.made callee_is)

pub check_empty_call-returns-in-Indexes : goal.check_empty_call-returns-in-Indexes
check_empty_call-returns-in-Indexes t c = λ f n stands.
    let ss = c.args.names.now.structures.now.list.items in
    let es = exprs_of c.args.list.now in
    let is = indexes_is f ss (applied n c.args.name.now) c.in-Indexes.field-0 (c.in-Indexes.ensures f n stands) in
    let actuals = c.check_formals.ensures f n [] stands tt ∙ ap (λ b. first_rule (when (not b) TypeClash ++ faults_of_all n es)) (take_none n es) in
    empty_indexed f ss n c.args.name.now es is.kind _ is.is (c.nothing.ensures f ss) refl (both_are c.lower.result (Some TypeClash) c.check_formals.result (TypeClash ∷ []) (faults_of_all n es) c.lower.ensures refl actuals)

pub check_empty_call-returns-in-Calls : goal.check_empty_call-returns-in-Calls
check_empty_call-returns-in-Calls t c = λ f n stands.
    let ss = c.args.names.now.structures.now.list.items in
    let x = c.args.name.now in
    let is = calls_is f ss (applied n x) c.in-Calls.kind (c.in-Calls.ensures f n stands) in
    let callee_is = c.callee-callee.ensures f n stands in
    empty_calling f ss n x (exprs_of c.args.list.now) is.kind _ is.is (c.called_type.ensures f ss (callee n x) callee_is) refl
    (c.check_call.ensures f n is.kind (callee n x) stands is.made callee_is)

pub check_call-returns : goal.check_call-returns
check_call-returns t c = λ f n k d stands made called.
    let ss = c.args.names.now.structures.now.list.items in
    let es = exprs_of c.args.list.now in
    let gives = c.gives_value.ensures f ss d k called (c.form.ensures f ss k made) in
    three_are c.lower.result c.rule_if-clash.result c.check_actuals.result (when (not (gives_value k d)) TypeClash) (actual_faults n d es) (faults_of_all n es) c.lower.ensures
    (c.rule_if-clash.ensures ∙ ap (λ b. first_rule (when (not b) TypeClash)) gives) (c.check_actuals.ensures f n d stands called)

pub check_actuals-returns-in-Missing : goal.check_actuals-returns-in-Missing
check_actuals-returns-in-Missing t c = λ f n d stands called.
    let ss = c.args.names.now.structures.now.list.items in
    let es = exprs_of c.args.list.now in
    let actuals = c.check_formals.ensures f n [] stands tt ∙ ap (λ b. first_rule (when (not b) TypeClash ++ faults_of_all n es)) (take_none n es) in
    both_are c.lower.result (Some MissingUnit) c.check_formals.result (MissingUnit ∷ []) (faults_of_all n es) c.lower.ensures refl actuals
    ∙ ap (λ x. first_rule (actual_faults n x es ++ faults_of_all n es)) (sym (missing_is f ss d c.args.callee.now called c.in-Missing.is))

pub check_actuals-returns-in-Procedure : goal.check_actuals-returns-in-Procedure
check_actuals-returns-in-Procedure t c = λ f n d stands called.
    let ss = c.args.names.now.structures.now.list.items in
    let es = exprs_of c.args.list.now in
    let is = procedure_is f ss d c.args.callee.now c.in-Procedure.formals _ called c.in-Procedure.is in
    c.check_procedure.ensures f n is.signature.formals stands is.formals ∙ ap (λ x. first_rule (actual_faults n x es ++ faults_of_all n es)) (sym is.is)

pub check_procedure-returns : goal.check_procedure-returns
check_procedure-returns t c = λ f n ts stands types.
    let ss = c.args.names.now.structures.now.list.items in
    let es = exprs_of c.args.list.now in
    let many_formals = sym (many_types f ss ts c.args.formals.now types) in
    let many_actuals = sym (many_are c.args.list.now) in
    let count = c.rule_if-count.ensures ∙ ap (λ m. first_rule (when (not (m == length c.args.list.now)) WrongCount)) many_formals ∙ ap (λ m. first_rule (when (not (length ts == m)) WrongCount)) many_actuals in
    three_are c.lower.result c.rule_if-count.result c.check_formals.result (when (not (length ts == many es)) WrongCount) (when (not (take_actuals n ts es)) TypeClash) (faults_of_all n es) c.lower.ensures count
    (c.check_formals.ensures f n ts stands types)

pub check_actuals-returns-in-Intrinsic : goal.check_actuals-returns-in-Intrinsic
check_actuals-returns-in-Intrinsic t c = λ f n d stands called.
    let ss = c.args.names.now.structures.now.list.items in
    let es = exprs_of c.args.list.now in
    let b = arity_of c.in-Intrinsic.arity in
    let count = c.rule_if-count.ensures ∙ ap (λ x. first_rule (when (not x) WrongCount)) (c.takes.ensures ∙ ap (takes b) (sym (many_are c.args.list.now))) in
    three_are c.lower-in-Intrinsic.result c.rule_if-count.result c.check_integers.result (when (not (takes b (many es))) WrongCount) (all_want n Integer es) (faults_of_all n es) c.lower-in-Intrinsic.ensures count
    (c.check_integers.ensures f n stands)
    ∙ ap (λ x. first_rule (actual_faults n x es ++ faults_of_all n es)) (sym (intrinsic_is f ss d c.args.callee.now c.in-Intrinsic.arity called c.in-Intrinsic.is))

pub check_formals-loop-i-init : goal.check_formals-loop-i-init
check_formals-loop-i-init t c = λ f n ts stands types. refl

pub check_formals-loop-i-preserved : goal.check_formals-loop-i-preserved
check_formals-loop-i-preserved t c = λ f n ts stands types.
    let ss = c.args.names.now.structures.now.list.items in
    let l = c.loop-i in
    let list = c.args.list.now in
    let x = c.index-list-i.result in
    let rest = exprs_of (drop (l.i + 1) list) in
    let formal = subst (λ o. IsTypeIfAny f ss (slice_get ts l.i) o) (sym c.formal_at.ensures) (type_at f ss ts c.args.formals.now l.i types) in
    let own = c.check_actual.ensures f n (slice_get ts l.i) stands formal in
    passed l.rule c.lower-rule.result c.check_actual.result (actuals_rule n (drop l.i ts) (exprs_of (drop l.i list))) (actuals_rule n (drop (l.i + 1) ts) rest) (actuals_rule n ts (exprs_of list))
    (ap (λ xs. actuals_rule n (drop l.i ts) (exprs_of xs)) (drop_next list l.i x c.loop-i-test.true c.index-list-i.is) ∙ actuals_next n ts l.i (expr_of x) rest
    ∙ ap (λ o. or_lower o (actuals_rule n (drop (l.i + 1) ts) rest)) (sym own))
    c.lower-rule.ensures (l.invariant f n ts stands types)

pub check_formals-returns : goal.check_formals-returns
check_formals-returns t c = λ f n ts stands types.
    let l = c.loop-i in
    let list = c.args.list.now in
    ended l.rule (actuals_rule n (drop l.i ts) (exprs_of (drop l.i list))) (actuals_rule n ts (exprs_of list))
    (ap (λ xs. actuals_rule n (drop l.i ts) (exprs_of xs)) (drop_all l.i list c.loop-i-test.false) ∙ none_taken n (drop l.i ts)) (l.invariant f n ts stands types)

pub check_actual-returns : goal.check_actual-returns
check_actual-returns t c = λ f n o stands formal.
    let e = expr_of c.args.e.now in
    let is = c.check-actual.ensures f n stands in
    both_are c.lower.result c.rule_if.result c.check-actual.result.rule (when (not (takes_if n o e)) TypeClash) (faults n e) c.lower.ensures
    (c.rule_if.ensures ∙ ap (λ b. first_rule (when (not b) TypeClash)) (c.fits_formal-fits.ensures f n o e stands.apart formal is)) (sym is.rule)

pub check_subscripts-returns : goal.check_subscripts-returns
check_subscripts-returns t c = λ f n k stands made.
    let ss = c.args.names.now.structures.now.list.items in
    let es = exprs_of c.args.list.now in
    c.lower.ensures ∙ ap (λ x. or_lower x c.check_integers.result) (c.count_rule.ensures f ss k es made (sym (many_are c.args.list.now)))
    ∙ ap (or_lower (first_rule (when (has_subscripts es && not (takes_subscripts k (many es))) WrongCount))) (c.check_integers.ensures f n stands)
    ∙ subscripts_are n k es (has_subscripts es) refl

pub check_integers-loop-e-init : goal.check_integers-loop-e-init
check_integers-loop-e-init t c = λ f n stands. refl

pub check_integers-loop-e-preserved : goal.check_integers-loop-e-preserved
check_integers-loop-e-preserved t c = λ f n stands.
    let l = c.loop-e in
    let list = c.args.list.now in
    let x = c.e-item.result in
    let rest = exprs_of (drop (l.e-index + 1) list) in
    passed l.rule c.lower-rule.result c.check_value.result (integers_rule n Integer (exprs_of (drop l.e-index list))) (integers_rule n Integer rest) (integers_rule n Integer (exprs_of list))
    (ap (λ xs. integers_rule n Integer (exprs_of xs)) (drop_next list l.e-index x c.loop-e-test.true c.e-item.is) ∙ integers_next n Integer (expr_of x) rest
    ∙ ap (λ o. or_lower o (integers_rule n Integer rest)) (sym (c.check_value.ensures f n stands)))
    c.lower-rule.ensures (l.invariant f n stands)

pub check_integers-returns : goal.check_integers-returns
check_integers-returns t c = λ f n stands.
    let l = c.loop-e in
    let list = c.args.list.now in
    ended l.rule (integers_rule n Integer (exprs_of (drop l.e-index list))) (integers_rule n Integer (exprs_of list))
    (ap (λ xs. integers_rule n Integer (exprs_of xs)) (drop_all l.e-index list c.loop-e-test.false)) (l.invariant f n stands)

pub check_value-returns : goal.check_value-returns
check_value-returns t c = λ f n stands.
    let ss = c.args.names.now.structures.now.list.items in
    let e = expr_of c.args.e.now in
    let is = c.checked-value.ensures f ss n e (c.check.ensures f n stands) in
    both_are c.lower.result c.wants.result c.checked-value.result.rule (wants n c.args.kind e) (faults n e) c.lower.ensures (c.wants.ensures n e is.form) (sym is.rule)

pub check_steps-loop-step-init : goal.check_steps-loop-step-init
check_steps-loop-step-init t c = λ f n k stands made. goes_from f c.args.names.now.structures.now.list.items n k c.args.start (steps_of c.args.list.now) made

pub check_steps-loop-step-preserved : goal.check_steps-loop-step-preserved
check_steps-loop-step-preserved t c = λ f n k stands made.
    let ss = c.args.names.now.structures.now.list.items in
    let l = c.loop-step in
    let list = c.args.list.now in
    let s = c.step-item.result in
    let all = steps_of list in
    let rest = steps_of (drop (l.step-index + 1) list) in
    let g = subst (λ xs. GoesOn f ss n k c.args.start all (steps_of xs) l.at) (drop_next list l.step-index s c.loop-step-test.true c.step-item.is) (l.invariant f n k stands made) in
    goes_further f ss n k c.args.start l.at c.check_step-at.result all (step_then s rest) rest g (c.check_step-at.ensures f n g.kind rest stands g.made)

pub check_steps-returns : goal.check_steps-returns
check_steps-returns t c = λ f n k stands made.
    let ss = c.args.names.now.structures.now.list.items in
    let l = c.loop-step in
    let all = steps_of c.args.list.now in
    goes_to_end f ss n k c.args.start l.at all
    (subst (λ xs. GoesOn f ss n k c.args.start all (steps_of xs) l.at) (drop_all l.step-index c.args.list.now c.loop-step-test.false) (l.invariant f n k stands made))

pub check_step-returns-in-Member : goal.check_step-returns-in-Member
check_step-returns-in-Member t c = λ f n k rest stands at.
    let es = exprs_of c.deref.result.now in
    subst (λ all. GoesOn f c.args.names.now.structures.now.list.items n k c.args.at all rest c.check_member.result)
    (ap (λ y. efl.Member y es rest) c.as_bytes.ensures ∙ member_is c.args.step.now c.in-Member.name c.in-Member.list c.deref.result.now rest c.in-Member.is c.deref.ensures.value)
    (c.check_member.ensures f n k rest stands at)

pub check_step-returns-in-Overlay : goal.check_step-returns-in-Overlay
check_step-returns-in-Overlay t c = λ f n k rest stands at.
    subst (λ all. GoesOn f c.args.names.now.structures.now.list.items n k c.args.at all rest c.laid_over.result)
    (ap (λ y. efl.Overlay y rest) c.as_bytes-in-Overlay.ensures ∙ overlay_is c.args.step.now c.in-Overlay.name rest c.in-Overlay.is) (c.laid_over.ensures f n k rest stands at)

pub check_member-returns : goal.check_member-returns
check_member-returns t c = λ f n k rest stands at.
    let x = c.args.name.now in
    let es = exprs_of c.args.list.now in
    let member = c.member-member.ensures f k at in
    c.entered.ensures f n k x es rest at member (sym (many_are c.args.list.now)) (c.check_subscripts-inner.ensures f n (member_type x k) stands member)
