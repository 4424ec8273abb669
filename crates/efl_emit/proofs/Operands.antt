-- The forms of expressions, each of its parts.
use Rattle.std.proofs.Common.{◌≡◌, ℕ, ◌+◌, ◌∷◌, Some, None, refl, ap, subst, ◌∙◌, arith, pos}
use Rattle.ground.specs.declared.place.Place.{Place}
use Rattle.ground.specs.declared.value.Kind.{Kind}
use Rattle.ground.specs.declared.value.Kind.TheVariants.{Integer, Logical}
use Rattle.f66_tree.specs.declared.expression.Operator.{Operator}
use Rattle.f66_tree.specs.declared.expression.Operator.TheVariants.{Add, Sub}
use Rattle.f66_tree.specs.Evaluation.{Intrinsic}
use Rattle.f66_tree.specs.Syntax as f66
use Rattle.f66_tree.specs.Syntax.{Text, Formula, Formulas, Ref, Int, Assign, When, Goto, unlabelled_line}
use Rattle.f66_tree.specs.Views.{formulas_of}
use Rattle.efl_program.specs.Typed as typed
use Rattle.efl_program.specs.Typed.{Op, Plain, AndThen, OrElse, Expr, Exprs, NoExpr, Site, Variable, Scalar}
use Rattle.routes.specs.Routes.{BreakIf, Ring, Routes, NoRoute, AndRoute, only}
use Rattle.routes.specs.Code.{here}
use Rattle.efl_routes.specs.Expressions.{made, made_in, made_for, formulas, actuals, all_routes, actual_routes, sets, decided, combined, gathered, kind_by, given_by, or_one, intrinsic_name}
use Rattle.efl_emit.specs.declared.naming.Naming.{Naming}
use Rattle.efl_emit.specs.declared.operand.Evaluated.{Evaluated}
use Rattle.efl_emit.specs.declared.arguments.Arguments.{Arguments}
use Rattle.efl_emit.specs.Emitted.{Emission, Puts, Makes, Emitted}
use Rattle.efl_emit.specs.Names.{home_of, temp_of, callee_of, made_of, operand_of}
use Rattle.efl_emit.specs.Parts.{routes_of, value_of, place_formula, IsSet, IsEvaluated, IsCombined, IsStepped, IsLast, IsSequential, IsGathered, AreEvaluated, AreActuals}
use Rattle.efl_emit.proofs.Emitting.{both, put_break_if, ringed, both_emitted, put_emitted}

pub set_alone : {made : ℕ → ℕ} {p : Place} {k : Kind} {m : ℕ} {x : Formula} {q : Evaluated} {a b : Emission} (n : ℕ) (y : Formula) → IsSet p k m x q a b → m ≡ n → x ≡ y → Emitted made (AndRoute (sets p (Ref (temp_of k n)) y)) a b
set_alone {p = p} {k} {m} {x} {a = a} {b} n y h em ex =
    let e = ap (λ v. Assign (Ref (temp_of k v)) x) em ∙ ap (λ v. Assign (Ref (temp_of k n)) v) ex in
    put_emitted p (Assign (Ref (temp_of k n)) y) (subst (λ v. Puts (unlabelled_line p v) a b) e h.put)

pub set_behind : {made : ℕ → ℕ} {p : Place} {k : Kind} {m : ℕ} {x : Formula} {q : Evaluated} {a b c : Emission} (f : Routes → Routes) (n : ℕ) (y : Formula) →
    Emitted made f a b → IsSet p k m x q b c → m ≡ n → x ≡ y → Emitted made (λ rest. f (AndRoute (sets p (Ref (temp_of k n)) y) rest)) a c
set_behind {p = p} {k} f n y x h em ex = both_emitted f (AndRoute (sets p (Ref (temp_of k n)) y)) x (set_alone n y h em ex)

pub stored : {made : ℕ → ℕ} {a b : Emission} (p : Place) (t x y : Formula) → Puts (unlabelled_line p (Assign t x)) a b → x ≡ y → Emitted made (AndRoute (sets p t y)) a b
stored {a = a} {b} p t x y h e = put_emitted p (Assign t y) (subst (λ v. Puts (unlabelled_line p (Assign t v)) a b) e h)

-- the operand and the next number, where a temporary behind an expression is set
abbrev at_last : Kind → ℕ → Formula
at_last k n = Ref (temp_of k n)

pub place_done : {s : Naming} {p : Place} {v n : ℕ} {k : Kind} {r : Evaluated} {a b : Emission} → IsSet p k n (place_formula s (Variable v (Scalar k) NoExpr)) r a b → IsEvaluated s p (typed.At (Variable v (Scalar k) NoExpr)) n r a b
place_done {s} {v = v} {n} {k} h = record { emitted = set_alone n (place_formula s (Variable v (Scalar k) NoExpr)) h refl refl; operand = h.operand; next = h.next }

pub group_done : {s : Naming} {p : Place} {e : Expr} {n : ℕ} {r : Evaluated} {a b : Emission} → IsEvaluated s p e n r a b → IsEvaluated s p (typed.Group e) n r a b
group_done h = record { emitted = h.emitted; operand = h.operand; next = h.next }

pub plus_done : {s : Naming} {p : Place} {e : Expr} {n : ℕ} {r q : Evaluated} {x : Formula} {a b c : Emission} → IsEvaluated s p e n r a b → IsSet p Integer r.next x q b c → x ≡ f66.Plus (operand_of r.operand) → IsEvaluated s p (typed.Plus e) n q a c
plus_done {s} {p} {e} {n} h g is = record {
  emitted = set_behind (routes_of s p e n) (n + made e) (f66.Plus (value_of s e n)) h.emitted g h.next (is ∙ ap f66.Plus h.operand);
  operand = g.operand ∙ ap (at_last Integer) h.next;
  next = omega (arith, g.next, h.next);
}

pub minus_done : {s : Naming} {p : Place} {e : Expr} {n : ℕ} {r q : Evaluated} {x : Formula} {a b c : Emission} → IsEvaluated s p e n r a b → IsSet p Integer r.next x q b c → x ≡ f66.Minus (operand_of r.operand) → IsEvaluated s p (typed.Minus e) n q a c
minus_done {s} {p} {e} {n} h g is = record {
  emitted = set_behind (routes_of s p e n) (n + made e) (f66.Minus (value_of s e n)) h.emitted g h.next (is ∙ ap f66.Minus h.operand);
  operand = g.operand ∙ ap (at_last Integer) h.next;
  next = omega (arith, g.next, h.next);
}

pub not_done : {s : Naming} {p : Place} {e : Expr} {n : ℕ} {r q : Evaluated} {x : Formula} {a b c : Emission} → IsEvaluated s p e n r a b → IsSet p Logical r.next x q b c → x ≡ f66.Not (operand_of r.operand) → IsEvaluated s p (typed.Not e) n q a c
not_done {s} {p} {e} {n} h g is = record {
  emitted = set_behind (routes_of s p e n) (n + made e) (f66.Not (value_of s e n)) h.emitted g h.next (is ∙ ap f66.Not h.operand);
  operand = g.operand ∙ ap (at_last Logical) h.next;
  next = omega (arith, g.next, h.next);
}

pub step_done : {s : Naming} {p : Place} {op : Operator} {v n : ℕ} {k : Kind} {old new : Evaluated} {x y : Formula} {a b c d : Emission} →
    IsSet p Integer n x old a b → x ≡ Ref (home_of s v) → IsSet p Integer old.next y new b c → y ≡ f66.Pair op (operand_of old.operand) (Int (pos 1)) →
    Puts (unlabelled_line p (Assign (Ref (home_of s v)) (operand_of new.operand))) c d → IsStepped s p op (Variable v (Scalar k) NoExpr) n new a d
step_done {s} {p} {op} {v} {n} {k} {old} {new} {x} {y} {a} {b} {c} {d} first is second is1 last =
    let t = Ref (temp_of Integer n) in
    let u = Ref (temp_of Integer (n + 1)) in
    let site = Ref (home_of s v) in
    let is_u = second.operand ∙ ap (at_last Integer) first.next in
    record {
      emitted =
          both_emitted (λ rest. AndRoute (sets p t site) (AndRoute (sets p u (f66.Pair op t (Int (pos 1)))) rest)) (AndRoute (sets p site u))
          (set_behind (AndRoute (sets p t site)) (n + 1) (f66.Pair op t (Int (pos 1))) (set_alone n site first refl is) second first.next (is1 ∙ ap (λ v1. f66.Pair op v1 (Int (pos 1))) first.operand))
          (stored p site (operand_of new.operand) u last is_u);
      operand = is_u;
      next = omega (arith, second.next, first.next);
    }

pub up_done : {s : Naming} {p : Place} {x : Site} {n : ℕ} {r : Evaluated} {a b : Emission} → IsStepped s p Add x n r a b → IsEvaluated s p (typed.Up x) n r a b
up_done h = record { emitted = h.emitted; operand = h.operand; next = h.next }

pub down_done : {s : Naming} {p : Place} {x : Site} {n : ℕ} {r : Evaluated} {a b : Emission} → IsStepped s p Sub x n r a b → IsEvaluated s p (typed.Down x) n r a b
down_done h = record { emitted = h.emitted; operand = h.operand; next = h.next }

pub pair_done : {s : Naming} {p : Place} {op : Op} {e d : Expr} {n : ℕ} {l r : Evaluated} {a b c : Emission} → IsEvaluated s p e n l a b → IsCombined s p op (operand_of l.operand) d l.next r b c → IsEvaluated s p (typed.Pair op e d) n r a c
pair_done {s} {p} {op} {e} {d} {n} {l} {r} {a} {b} {c} h g =
    let k = n + made e in
    let x = subst (λ v. IsCombined s p op v d k r b c) h.operand (subst (λ v. IsCombined s p op (operand_of l.operand) d v r b c) h.next g) in
    record {
      emitted = both_emitted (routes_of s p e n) (combined p op (value_of s e n) (λ rest. routes_of s p d k rest) (value_of s d k) (Ref (temp_of (kind_by op) (k + made d)))) h.emitted x.emitted;
      operand = x.operand;
      next = omega (arith, x.next);
    }

pub store_done : {s : Naming} {p : Place} {e : Expr} {v n : ℕ} {k : Kind} {r : Evaluated} {a b c : Emission} → IsEvaluated s p e n r a b → Puts (unlabelled_line p (Assign (Ref (home_of s v)) (operand_of r.operand))) b c →
    IsEvaluated s p (typed.Assign None (Variable v (Scalar k) NoExpr) e) n r a c
store_done {s} {p} {e} {v} {n} {k} {r} h g = record {
  emitted = both_emitted (routes_of s p e n) (AndRoute (sets p (Ref (home_of s v)) (value_of s e n))) h.emitted (stored p (Ref (home_of s v)) (operand_of r.operand) (value_of s e n) g h.operand);
  operand = h.operand;
  next = h.next;
}

pub change_done : {s : Naming} {p : Place} {op : Op} {e : Expr} {v n : ℕ} {k : Kind} {old r : Evaluated} {a b c d : Emission} →
    IsSet p k n (place_formula s (Variable v (Scalar k) NoExpr)) old a b → IsCombined s p op (operand_of old.operand) e old.next r b c → Puts (unlabelled_line p (Assign (Ref (home_of s v)) (operand_of r.operand))) c d →
    IsEvaluated s p (typed.Assign (Some op) (Variable v (Scalar k) NoExpr) e) n r a d
change_done {s} {p} {op} {e} {v} {n} {k} {old} {r} {a} {b} {c} {d} h g last =
    let site = Ref (home_of s v) in
    let t = Ref (temp_of k n) in
    let u = Ref (temp_of (kind_by op) (n + 1 + made e)) in
    let x = subst (λ w. IsCombined s p op w e (n + 1) r b c) h.operand (subst (λ w. IsCombined s p op (operand_of old.operand) e w r b c) h.next g) in
    let middle = combined p op t (λ rest. routes_of s p e (n + 1) rest) (value_of s e (n + 1)) u in
    record {
      emitted =
          both_emitted (λ rest. AndRoute (sets p t site) (middle rest)) (AndRoute (sets p site u)) (both_emitted (AndRoute (sets p t site)) middle (set_alone n site h refl refl) x.emitted)
          (stored p site (operand_of r.operand) u last x.operand);
      operand = x.operand;
      next = omega (arith, x.next);
    }

pub plain_done : {s : Naming} {p : Place} {k : Kind} {op : Operator} {left : Formula} {e : Expr} {n : ℕ} {r q : Evaluated} {x : Formula} {a b c : Emission} → k ≡ given_by op →
    IsEvaluated s p e n r a b → IsSet p k r.next x q b c → x ≡ f66.Pair op left (operand_of r.operand) → IsCombined s p (Plain op) left e n q a c
plain_done {s} {p} {k} {op} {left} {e} {n} {r} {q} {x} {a} {b} {c} of h set is =
    let g = subst (λ v. IsSet p v r.next x q b c) of set in
    record {
      emitted = set_behind (routes_of s p e n) (n + made e) (f66.Pair op left (value_of s e n)) h.emitted g h.next (is ∙ ap (f66.Pair op left) h.operand);
      operand = g.operand ∙ ap (at_last (given_by op)) h.next;
      next = omega (arith, g.next, h.next);
    }

pub last_done : {s : Naming} {p : Place} {e : Expr} {n : ℕ} {r q : Evaluated} {x : Formula} {a b c : Emission} →
    IsEvaluated s p e n r a b → IsSet p Logical r.next x q b c → x ≡ operand_of r.operand → IsLast s p e n q a c
last_done {s} {p} {e} {n} h g is = record {
  emitted = set_behind (routes_of s p e n) (n + made e) (value_of s e n) h.emitted g h.next (is ∙ h.operand);
  operand = g.operand ∙ ap (at_last Logical) h.next;
  next = omega (arith, g.next, h.next);
}

-- the left side in its temporary, and the ring of the right side
abbrev asked : Naming → Place → (Formula → Formula) → Formula → Expr → ℕ → Routes → Routes
asked s p test left e n rest =
    let t = Ref (temp_of Logical (n + made e)) in
    AndRoute (sets p t left) (AndRoute (Ring p (AndRoute (BreakIf p (test t) 0) (routes_of s p e n (only (sets p t (value_of s e n)))))) rest)

ring_done : {s : Naming} {p : Place} (test : Formula → Formula) {left : Formula} {e : Expr} {n m l : ℕ} {first r : Evaluated} {x y : Formula} {a b c d f g : Emission} →
    m ≡ n + made e → IsSet p Logical m x first a b → x ≡ left → Makes (made_of s) l b c → Puts (unlabelled_line p (When y (Goto l))) c d → y ≡ test (operand_of first.operand) → IsLast s p e n r d f → Puts (here l p) f g →
    Emitted (made_of s) (asked s p test left e n) a g
ring_done {s} {p} test {left} {e} {n} {m} {l} {first} {r} {x} {y} {a} {b} {c} {d} {f} {g} em set is label choice is1 last end =
    let t = Ref (temp_of Logical (n + made e)) in
    let holds = is1 ∙ ap test (set.operand ∙ ap (at_last Logical) em) in
    let part = λ (rest : Routes). routes_of s p e n (AndRoute (sets p t (value_of s e n)) rest) in
    record {
      within =
          λ ls. both (AndRoute (sets p t left)) (AndRoute (Ring p (AndRoute (BreakIf p (test t) 0) (part NoRoute)))) ((set_alone (n + made e) left set em is).within ls)
          (ringed p l (λ rest. AndRoute (BreakIf p (test t) 0) (part rest)) label
          (both (AndRoute (BreakIf p (test t) 0)) part (put_break_if p (test t) 0 l refl (subst (λ v. Puts (unlabelled_line p (When v (Goto l))) c d) holds choice)) (last.emitted.within (l ∷ ls))) end);
    }

pub sequential_done : {s : Naming} {p : Place} (op : Op) {left : Formula} {e : Expr} {n m l : ℕ} {first r : Evaluated} {x y : Formula} {a b c d f g : Emission} → IsSequential op →
    m ≡ n + made e → IsSet p Logical m x first a b → x ≡ left → Makes (made_of s) l b c → Puts (unlabelled_line p (When y (Goto l))) c d → y ≡ decided op (operand_of first.operand) → IsLast s p e n r d f → Puts (here l p) f g →
    IsCombined s p op left e n r a g
sequential_done (Plain op) so em set is label choice is1 last end = absurd so
sequential_done AndThen so em set is label choice is1 last end = record { emitted = ring_done (decided AndThen) em set is label choice is1 last end; operand = last.operand; next = last.next }
sequential_done OrElse so em set is label choice is1 last end = record { emitted = ring_done (decided OrElse) em set is label choice is1 last end; operand = last.operand; next = last.next }

pub item_is : {a : Formula} {x y : Text} {fs gs : Formulas} → a ≡ f66.Item x fs → x ≡ y → fs ≡ gs → a ≡ f66.Item y gs
item_is {a} {x} {y} {fs} is e same = is ∙ ap (λ v. f66.Item v fs) e ∙ ap (f66.Item y) same

pub call_done : {s : Naming} {p : Place} {v n : ℕ} {k : Kind} {es : Exprs} {r : Arguments} {q : Evaluated} {x : Formula} {a b c : Emission} →
    AreActuals s p es n r a b → IsSet p k r.next x q b c → x ≡ f66.Item (callee_of s v) (or_one (formulas_of r.list.items)) → IsEvaluated s p (typed.Call v k es) n q a c
call_done {s} {p} {v} {n} {k} {es} h g is =
    let all = λ (rest : Routes). actual_routes (home_of s) temp_of (callee_of s) p es n rest in
    record {
      emitted = set_behind all (n + made_for es) (f66.Item (callee_of s v) (or_one (actuals (home_of s) temp_of (callee_of s) es n))) h.emitted g h.next (is ∙ ap (λ fs. f66.Item (callee_of s v) (or_one fs)) h.formulas);
      operand = g.operand ∙ ap (at_last k) h.next;
      next = omega (arith, g.next, h.next);
    }

pub known_done : {s : Naming} {p : Place} {f : Intrinsic} {n : ℕ} {es : Exprs} {r : Arguments} {q : Evaluated} {a b c : Emission} →
    AreEvaluated s p es n r a b → IsGathered p (intrinsic_name f) r.next (formulas_of r.list.items) q b c → IsEvaluated s p (typed.Known f es) n q a c
known_done {s} {p} {f} {n} {es} {r} {q} {a} {b} {c} h g =
    let all = λ (rest : Routes). all_routes (home_of s) temp_of (callee_of s) p es n rest in
    let t = n + made_in es in
    let fs = formulas (home_of s) temp_of (callee_of s) es n in
    let x = subst (λ v. IsGathered p (intrinsic_name f) t v q b c) h.formulas (subst (λ v. IsGathered p (intrinsic_name f) v (formulas_of r.list.items) q b c) h.next g) in
    record {
      emitted = both_emitted all (gathered p (intrinsic_name f) (Ref (temp_of Integer t)) fs) h.emitted (x.emitted (made_of s));
      operand = x.operand;
      next = omega (arith, x.next);
    }
