-- The forms of statements, each of its parts.
use Rattle.std.proofs.Common.{◌≡◌, ℕ, ◌+◌, ℤ, Bool, true, false, true≢false, List, [], ◌∷◌, ◌++◌, Option, Some, None, refl, sym, ap, subst, ◌∙◌, arith, pos}
use Rattle.ground.specs.declared.place.Place.{Place}
use Rattle.ground.specs.declared.value.Kind.TheVariants.{Integer, Logical}
use Rattle.f66_tree.specs.declared.expression.Operator.TheVariants.{Add, Le, Eq}
use Rattle.f66_tree.specs.Syntax as f66
use Rattle.f66_tree.specs.Syntax.{Text, Formula, Ref, Assign, When, Goto, Line, unlabelled_line}
use Rattle.f66_tree.specs.Views.{formulas_of}
use Rattle.efl_tree.specs.declared.statement.LoopKind.{LoopKind}
use Rattle.efl_tree.specs.declared.statement.LoopKind.TheVariants as loops
use Rattle.efl_program.specs.Typed as typed
use Rattle.efl_program.specs.Typed.{Expr, Exprs, Action, WriteItem, ReadItem, Stmt, Stmts, NoStmt, AndStmt, Clauses, AndClause}
use Rattle.efl_typed_tree.specs.Views.{labelled}
use Rattle.routes.specs.Routes.{Plain, BreakIf, Break, Ring, Cycle, Block, InTurn, Routes, NoRoute, AndRoute, joined, only}
use Rattle.routes.specs.Code.{Behind, label_behind, jump, here, labels, all_labels, code_of, all_code}
use Rattle.efl_routes.specs.Expressions.{made, sets, actuals, actual_routes}
use Rattle.efl_routes.specs.Statements.{Around, Other, Behind as BehindRing, Next, made_if_any, value_or_one, signed}
use Rattle.efl_emit.specs.declared.naming.Naming.{Naming}
use Rattle.efl_emit.specs.declared.arguments.Arguments.{Arguments}
use Rattle.efl_emit.specs.declared.operand.Evaluated.{Evaluated}
use Rattle.efl_emit.specs.Emitted.{Emission, Puts, Makes, EmittedIn, Emitted}
use Rattle.efl_emit.specs.Names.{home_of, temp_of, callee_of, label_of, own_of, made_of, operand_of}
use Rattle.efl_emit.specs.Parts.{routes_of, value_of, IsSet, IsEvaluated, AreActuals}
use Rattle.efl_emit.specs.Words.{LeavesOne, unless_routes, where_routes, act_of, act_if_any, routes_if_any, return_of, value_or, IsEvaluatedIfAny}
use Rattle.efl_emit.specs.Turns.{limit_of, step_of, unless_any_of}
use Rattle.efl_emit.specs.declared.starts.Start.{Start}
use Rattle.efl_emit.specs.Starts.{start_routes, IsStarted}
use Rattle.efl_emit.specs.Marks.{marked, Marks}
use Rattle.efl_emit.specs.Cases.{tests_of, ring_of_cases, tests_before, Tests}
use Rattle.efl_emit.specs.Statements.{route_of, all_of, all_before, block_of, have_none, first_of, turn_of, tested_of, clause_before, clauses_before, default_before}
use Rattle.efl_emit.proofs.Emitting.{both, put_before, put_break_if, put_break, ringed, cycled, in_turn, blocked, both_emitted, put_emitted, SoFar, one_more, all_done}
use Rattle.efl_emit.proofs.Operands.{set_alone, set_behind, stored}

-- ---- conditions ----

pub unless_done : {s : Naming} {p : Place} {e : Expr} {n l : ℕ} {r : Evaluated} {x : Formula} {a b c : Emission} → IsEvaluated s p e n r a b → Puts (unlabelled_line p (When x (Goto l))) b c → x ≡ f66.Not (operand_of r.operand) →
    LeavesOne (made_of s) (unless_routes s p e n) l a c
unless_done {s} {p} {e} {n} {l} {r} {x} {a} {b} {c} h g is = record {
  within = λ ls.
      both (routes_of s p e n) (AndRoute (BreakIf p (f66.Not (value_of s e n)) 0)) (h.emitted.within (l ∷ ls))
      (put_break_if p (f66.Not (value_of s e n)) 0 l refl (subst (λ v. Puts (unlabelled_line p (When v (Goto l))) b c) (is ∙ ap f66.Not h.operand) g));
}

pub where_done : {s : Naming} {p : Place} {e : Expr} {n l : ℕ} {r : Evaluated} {x : Formula} {a b c : Emission} → IsEvaluated s p e n r a b → Puts (unlabelled_line p (When x (Goto l))) b c → x ≡ operand_of r.operand →
    LeavesOne (made_of s) (where_routes s p e n) l a c
where_done {s} {p} {e} {n} {l} {r} {x} {a} {b} {c} h g is = record {
  within = λ ls.
      both (routes_of s p e n) (AndRoute (BreakIf p (value_of s e n) 0)) (h.emitted.within (l ∷ ls))
      (put_break_if p (value_of s e n) 0 l refl (subst (λ v. Puts (unlabelled_line p (When v (Goto l))) b c) (is ∙ h.operand) g));
}

pub leaves_none : {made : ℕ → ℕ} {f : Routes → Routes} {l : ℕ} {a b : Emission} → Emitted made f a b → LeavesOne made f l a b
leaves_none {l = l} h = record { within = λ ls. h.within (l ∷ ls) }

-- ---- loops ----

pub limit_done : (s : Naming) {p : Place} (v : ℕ) {n l : ℕ} {limit : Formula} {old within : Evaluated} {x y z : Formula} {a b c d : Emission} →
    IsSet p Integer n x old a b → x ≡ Ref (home_of s v) → IsSet p Logical old.next y within b c → y ≡ f66.Pair Le (operand_of old.operand) limit → Puts (unlabelled_line p (When z (Goto l))) c d → z ≡ f66.Not (operand_of within.operand) →
    LeavesOne (made_of s) (limit_of s p v limit n) l a d
limit_done s {p} v {n} {l} {limit} {old} {within} {x} {y} {z} {a} {b} {c} {d} first is second is1 choice is2 =
    let t = Ref (temp_of Integer n) in
    let u = Ref (temp_of Logical (n + 1)) in
    let sets_both = set_behind (AndRoute (sets p t (Ref (home_of s v)))) (n + 1) (f66.Pair Le t limit) (set_alone n (Ref (home_of s v)) first refl is) second first.next (is1 ∙ ap (λ w. f66.Pair Le w limit) first.operand) in
    let test = is2 ∙ ap f66.Not (second.operand ∙ ap (λ m. Ref (temp_of Logical m)) first.next) in
    record {
      within =
          λ ls. both (λ rest. AndRoute (sets p t (Ref (home_of s v))) (AndRoute (sets p u (f66.Pair Le t limit)) rest)) (AndRoute (BreakIf p (f66.Not u) 0)) (sets_both.within (l ∷ ls))
          (put_break_if p (f66.Not u) 0 l refl (subst (λ w. Puts (unlabelled_line p (When w (Goto l))) c d) test choice));
    }

pub next_done : (s : Naming) {p : Place} (v : ℕ) {n : ℕ} {by : Formula} {old new : Evaluated} {x y : Formula} {a b c d : Emission} →
    IsSet p Integer n x old a b → x ≡ Ref (home_of s v) → IsSet p Integer old.next y new b c → y ≡ f66.Pair Add (operand_of old.operand) by → Puts (unlabelled_line p (Assign (Ref (home_of s v)) (operand_of new.operand))) c d →
    Emitted (made_of s) (step_of s p v by n) a d
next_done s {p} v {n} {by} {old} {new} {x} {y} {a} {b} {c} {d} first is second is1 last =
    let t = Ref (temp_of Integer n) in
    let u = Ref (temp_of Integer (n + 1)) in
    both_emitted (λ rest. AndRoute (sets p t (Ref (home_of s v))) (AndRoute (sets p u (f66.Pair Add t by)) rest)) (AndRoute (sets p (Ref (home_of s v)) u))
    (set_behind (AndRoute (sets p t (Ref (home_of s v)))) (n + 1) (f66.Pair Add t by) (set_alone n (Ref (home_of s v)) first refl is) second first.next (is1 ∙ ap (λ w. f66.Pair Add w by) first.operand))
    (stored p (Ref (home_of s v)) (operand_of new.operand) u last (second.operand ∙ ap (λ m. Ref (temp_of Integer m)) first.next))

-- ---- labels of the source ----

pub marks_done : {s : Naming} (rs : List Around) (n : ℕ) {ls : Behind} (p : Place) (x : Stmt) (marks : List Text) (a b c : Emission) →
    Marks s p marks a b → EmittedIn (made_of s) (AndRoute (route_of s x rs n)) ls b c → EmittedIn (made_of s) (AndRoute (route_of s (labelled marks p x) rs n)) ls a c
marks_done {s} rs n {ls} p x marks a b c h g = record {
  labels = λ rest. ap (λ m. m + (labels (route_of s (labelled marks p x) rs n) + all_labels rest)) (sym h.made) ∙ ap (λ k. b.made + (k + all_labels rest)) (same_labels marks) ∙ g.labels rest;
  lines = λ rest next.
      ap (λ k. a.lines ++ code_of (made_of s) (route_of s (labelled marks p x) rs n) a.made ls (all_code (made_of s) rest (a.made + k) ls next)) (same_labels marks)
      ∙ ap (λ l. a.lines ++ l) (same_code marks a.made (all_code (made_of s) rest (a.made + labels (route_of s x rs n)) ls next))
      ∙ ap (λ m. a.lines ++ marked s p marks (code_of (made_of s) (route_of s x rs n) m ls (all_code (made_of s) rest (m + labels (route_of s x rs n)) ls next))) (sym h.made)
      ∙ h.lines (code_of (made_of s) (route_of s x rs n) b.made ls (all_code (made_of s) rest (b.made + labels (route_of s x rs n)) ls next))
      ∙ g.lines rest next;
}
  where
    same_labels : (ms : List Text) → labels (route_of s (labelled ms p x) rs n) ≡ labels (route_of s x rs n)
    same_labels [] = refl
    same_labels (m ∷ ms) = same_labels ms

    same_code : (ms : List Text) (k : ℕ) (next : List Line) → code_of (made_of s) (route_of s (labelled ms p x) rs n) k ls next ≡ marked s p ms (code_of (made_of s) (route_of s x rs n) k ls next)
    same_code [] k next = refl
    same_code (m ∷ ms) k next = ap (λ l. here (label_of s m) p ∷ l) (same_code ms k next)

-- ---- statements in rings ----

-- a ring that is left at once where a formula does not hold
pub unless_ring : {made : ℕ → ℕ} {ls : Behind} {a b c d e : Emission} (p : Place) (l : ℕ) (x y : Formula) (f : Routes → Routes) →
    Makes made l a b → Puts (unlabelled_line p (When x (Goto l))) b c → x ≡ f66.Not y → EmittedIn made f (l ∷ ls) c d → Puts (here l p) d e → EmittedIn made (AndRoute (Ring p (AndRoute (BreakIf p (f66.Not y) 0) (f NoRoute)))) ls a e
unless_ring {b = b} {c} p l x y f m choice is h end =
    ringed p l (λ rest. AndRoute (BreakIf p (f66.Not y) 0) (f rest)) m (both (AndRoute (BreakIf p (f66.Not y) 0)) f (put_break_if p (f66.Not y) 0 l refl (subst (λ v. Puts (unlabelled_line p (When v (Goto l))) b c) is choice)) h) end

pub if_done : {s : Naming} (rs : List Around) {ls : Behind} {p : Place} {e : Expr} (x : Stmt) {n l : ℕ} {r : Evaluated} {y : Formula} {a b c d f g : Emission} →
    IsEvaluated s p e n r a b → Makes (made_of s) l b c → y ≡ f66.Not (operand_of r.operand) → Puts (unlabelled_line p (When y (Goto l))) c d →
    EmittedIn (made_of s) (AndRoute (route_of s x (Other ∷ rs) n)) (l ∷ ls) d f → Puts (here l p) f g → EmittedIn (made_of s) (AndRoute (route_of s (typed.If p e x) rs n)) ls a g
if_done {s} rs {ls} {p} {e} x {n} {l} {r} {y} h m is choice body end =
    let ring = λ (rest : Routes). AndRoute (Ring p (AndRoute (BreakIf p (f66.Not (value_of s e n)) 0) (only (route_of s x (Other ∷ rs) n)))) rest in
    in_turn (λ rest. routes_of s p e n (ring rest)) (both (routes_of s p e n) ring (h.emitted.within ls) (unless_ring p l y (value_of s e n) (AndRoute (route_of s x (Other ∷ rs) n)) m choice (is ∙ ap f66.Not h.operand) body end))

pub first_done : (s : Naming) (rs : List Around) {ls : Behind} {p : Place} {value y : Formula} (x : Stmt) (n : ℕ) {l k : ℕ} {a b c d e f : Emission} → label_behind ls 0 ≡ k →
    Makes (made_of s) l a b → y ≡ f66.Not value → Puts (unlabelled_line p (When y (Goto l))) b c → EmittedIn (made_of s) (AndRoute (route_of s x (Other ∷ rs) n)) (l ∷ ls) c d → Puts (jump p k) d e → Puts (here l p) e f →
    EmittedIn (made_of s) (first_of s p value x rs n) ls a f
first_done s rs {ls} {p} {value} {y} x n {l} {k} at m is choice body go end =
    unless_ring p l y value (λ rest. AndRoute (route_of s x (Other ∷ rs) n) (AndRoute (Break p 1) rest)) m choice is (both (AndRoute (route_of s x (Other ∷ rs) n)) (AndRoute (Break p 1)) body (put_break p 1 k at go)) end

pub either_done : {s : Naming} (rs : List Around) {ls : Behind} {p : Place} {e : Expr} (x : Stmt) (y : Stmt) {n l : ℕ} {r : Evaluated} {a b c d f g : Emission} →
    IsEvaluated s p e n r a b → Makes (made_of s) l b c → EmittedIn (made_of s) (first_of s p (operand_of r.operand) x (Other ∷ rs) n) (l ∷ ls) c d →
    EmittedIn (made_of s) (AndRoute (route_of s y (Other ∷ rs) n)) (l ∷ ls) d f → Puts (here l p) f g → EmittedIn (made_of s) (AndRoute (route_of s (typed.IfElse p e x y) rs n)) ls a g
either_done {s} rs {ls} {p} {e} x y {n} {l} {r} {a} {b} {c} {d} h m one other end =
    let first = first_of s p (value_of s e n) x (Other ∷ rs) n in
    let second = λ (rest : Routes). AndRoute (route_of s y (Other ∷ rs) n) rest in
    let ring = λ (rest : Routes). AndRoute (Ring p (first (second NoRoute))) rest in
    let one1 = subst (λ v. EmittedIn (made_of s) (first_of s p v x (Other ∷ rs) n) (l ∷ ls) c d) h.operand one in
    in_turn (λ rest. routes_of s p e n (ring rest)) (both (routes_of s p e n) ring (h.emitted.within ls) (ringed p l (λ rest. first (second rest)) m (both first second one1 other) end))

pub turn_done : (s : Naming) (rs : List Around) {ls : Behind} {p : Place} (x : Stmt) (k : LoopKind) (n : ℕ) {l : ℕ} {a b c d : Emission} →
    Makes (made_of s) l a b → EmittedIn (made_of s) (AndRoute (route_of s x (Next k ∷ rs) n)) (l ∷ ls) b c → Puts (here l p) c d → EmittedIn (made_of s) (turn_of s p x k rs n) ls a d
turn_done s rs {ls} {p} x k n {l} m body end = ringed p l (AndRoute (route_of s x (Next k ∷ rs) n)) m body end

pub loop_done : (s : Naming) (rs : List Around) {ls : Behind} {p : Place} (x : Stmt) (k : LoopKind) (n : ℕ) {h l : ℕ} {a b c d e f g i j : Emission} (top bottom : Routes → Routes) →
    Makes (made_of s) h a b → Makes (made_of s) l b c → Puts (here h p) c d → LeavesOne (made_of s) top l d e → EmittedIn (made_of s) (turn_of s p x k (BehindRing k ∷ rs) n) (l ∷ ls) e f → LeavesOne (made_of s) bottom l f g →
    Puts (jump p h) g i → Puts (here l p) i j → EmittedIn (made_of s) (AndRoute (Cycle p (top NoRoute) (turn_of s p x k (BehindRing k ∷ rs) n (bottom NoRoute)))) ls a j
loop_done s rs {ls} {p} x k n {h} {l} top bottom mh ml start test body step back end =
    let turn = turn_of s p x k (BehindRing k ∷ rs) n in
    cycled p h l top (λ rest. turn (bottom rest)) mh ml start (test.within ls) (both turn bottom body (step.within ls)) back end

-- ---- the constants of a clause ----

pub cases_done : (s : Naming) {p : Place} {v : Formula} {cs : List ℤ} {l k : ℕ} {a b c d e : Emission} → Makes (made_of s) l a b → Tests p v cs l b c → Puts (jump p k) c d → Puts (here l p) d e → LeavesOne (made_of s) (ring_of_cases s p v cs) k a e
cases_done s {p} {v} {cs} {l} {k} {a} {b} {c} {d} {e} m tests go end = record {
  within = λ ls. subst (λ rs. EmittedIn (made_of s) (AndRoute (Ring p rs)) (k ∷ ls) a e) (sym (with_rest cs)) (ringed p l (before cs) m (tested ls) end);
}
  where
    -- the same before other routes
    before : List ℤ → Routes → Routes
    before [] rest = AndRoute (Break p 1) rest
    before (z ∷ zs) rest = AndRoute (BreakIf p (f66.Pair Eq v (signed z)) 0) (before zs rest)

    with_rest : (zs : List ℤ) → tests_of s p v zs ≡ before zs NoRoute
    with_rest [] = refl
    with_rest (z ∷ zs) = ap (AndRoute (BreakIf p (f66.Pair Eq v (signed z)) 0)) (with_rest zs)

    count : (zs : List ℤ) (rest : Routes) → all_labels (before zs rest) ≡ all_labels rest
    count [] rest = omega arith
    count (z ∷ zs) rest = let e = count zs rest in omega (arith, e)

    none_more : (n : ℕ) → n + 0 ≡ n
    none_more n = omega arith

    code : (ls : Behind) (zs : List ℤ) (n : ℕ) (rest : Routes) (next : List Line) → all_code (made_of s) (before zs rest) n (l ∷ k ∷ ls) next ≡ tests_before p v zs l (jump p k ∷ all_code (made_of s) rest n (l ∷ k ∷ ls) next)
    code ls [] n rest next = ap (λ m. jump p k ∷ all_code (made_of s) rest m (l ∷ k ∷ ls) next) (none_more n)
    code ls (z ∷ zs) n rest next = ap (λ t. unlabelled_line p (When (f66.Pair Eq v (signed z)) (Goto l)) ∷ t) (ap (λ m. all_code (made_of s) (before zs rest) m (l ∷ k ∷ ls) next) (none_more n) ∙ code ls zs n rest next)

    tested : (ls : Behind) → EmittedIn (made_of s) (before cs) (l ∷ k ∷ ls) b d
    tested ls = record {
      labels = λ rest. omega (arith, count cs rest, tests.made, go.made);
      lines = λ rest next.
          let e1 : b.made ≡ d.made = sym (go.made ∙ tests.made) in
          ap (λ t. b.lines ++ t) (code ls cs b.made rest next)
          ∙ tests.lines (jump p k ∷ all_code (made_of s) rest b.made (l ∷ k ∷ ls) next)
          ∙ put_before (jump p k) c d (all_code (made_of s) rest b.made (l ∷ k ∷ ls) next) go
          ∙ ap (λ n. d.lines ++ all_code (made_of s) rest n (l ∷ k ∷ ls) next) e1;
    }

pub tested_done : (s : Naming) (rs : List Around) {ls : Behind} {p : Place} (v : Formula) (cs : List ℤ) (ss : Stmts) (n : ℕ) {l k : ℕ} {a b c d e f : Emission} → label_behind ls 0 ≡ k →
    Makes (made_of s) l a b → LeavesOne (made_of s) (ring_of_cases s p v cs) l b c → EmittedIn (made_of s) (block_of s ss (Other ∷ rs) n) (l ∷ ls) c d → Puts (jump p k) d e → Puts (here l p) e f →
    EmittedIn (made_of s) (tested_of s p v cs ss rs n) ls a f
tested_done s rs {ls} {p} v cs ss n {l} {k} at m cases body go end =
    let ring = ring_of_cases s p v cs in
    let block = block_of s ss (Other ∷ rs) n in
    ringed p l (λ rest. ring (block (AndRoute (Break p 1) rest))) m (both ring (λ rest. block (AndRoute (Break p 1) rest)) (cases.within ls) (both block (AndRoute (Break p 1)) body (put_break p 1 k at go))) end

pub clause_done : (s : Naming) (rs : List Around) {ls : Behind} {p : Place} (v : Formula) (cs : List ℤ) (ss : Stmts) (others : Clauses) (all : Clauses) (n : ℕ) {l : ℕ} {a b c d e : Emission} → Makes (made_of s) l a b →
    EmittedIn (made_of s) (tested_of s p v cs ss (Other ∷ rs) n) (l ∷ ls) b c → EmittedIn (made_of s) (clauses_before s p v others all (Other ∷ rs) n) (l ∷ ls) c d → Puts (here l p) d e →
    EmittedIn (made_of s) (clause_before s p v cs ss others all rs n) ls a e
clause_done s rs {ls} {p} v cs ss others all n {l} m one rest end =
    let first = tested_of s p v cs ss (Other ∷ rs) n in
    let second = clauses_before s p v others all (Other ∷ rs) n in
    ringed p l (λ x. first (second x)) m (both first second one rest) end

-- a clause with a constant or more, among those of a switch
pub with_constants : (s : Naming) (rs : List Around) {ls : Behind} {p : Place} (v : Formula) (ss : Stmts) (fallback : Bool) (q : Place) (others : Clauses) (all : Clauses) (n : ℕ) {a b : Emission} (cs : List ℤ) → have_none cs ≡ false →
    EmittedIn (made_of s) (clause_before s p v cs ss others all rs n) ls a b → EmittedIn (made_of s) (clauses_before s p v (AndClause cs fallback ss q others) all rs n) ls a b
with_constants s rs v ss fallback q others all n [] none h = absurd (true≢false none)
with_constants s rs v ss fallback q others all n (z ∷ zs) none h = h

pub without_constants : (s : Naming) (rs : List Around) {ls : Behind} (p : Place) (v : Formula) (ss : Stmts) (fallback : Bool) (q : Place) (others : Clauses) (all : Clauses) (n : ℕ) {a b : Emission} (cs : List ℤ) → have_none cs ≡ true →
    EmittedIn (made_of s) (clauses_before s p v others all rs n) ls a b → EmittedIn (made_of s) (clauses_before s p v (AndClause cs fallback ss q others) all rs n) ls a b
without_constants s rs p v ss fallback q others all n [] none h = h
without_constants s rs p v ss fallback q others all n (z ∷ zs) none h = absurd (true≢false (sym none))

pub switch_done : {s : Naming} (rs : List Around) {ls : Behind} {p : Place} {e : Expr} (cs : Clauses) {n l : ℕ} {r : Evaluated} {a b c d f : Emission} → IsEvaluated s p e n r a b → Makes (made_of s) l b c →
    EmittedIn (made_of s) (clauses_before s p (operand_of r.operand) cs cs (BehindRing loops.Switch ∷ rs) r.next) (l ∷ ls) c d → Puts (here l p) d f → EmittedIn (made_of s) (AndRoute (route_of s (typed.Switch p e cs) rs n)) ls a f
switch_done {s} rs {ls} {p} {e} cs {n} {l} {r} {a} {b} {c} {d} {f} h m all end =
    let clauses = clauses_before s p (value_of s e n) cs cs (BehindRing loops.Switch ∷ rs) (n + made e) in
    let ring = λ (rest : Routes). AndRoute (Ring p (clauses NoRoute)) rest in
    let x = subst (λ v. EmittedIn (made_of s) (clauses_before s p v cs cs (BehindRing loops.Switch ∷ rs) (n + made e)) (l ∷ ls) c d) h.operand
    (subst (λ k. EmittedIn (made_of s) (clauses_before s p (operand_of r.operand) cs cs (BehindRing loops.Switch ∷ rs) k) (l ∷ ls) c d) h.next all) in
    in_turn (λ rest. routes_of s p e n (ring rest)) (both (routes_of s p e n) ring (h.emitted.within ls) (ringed p l clauses m x end))

-- ---- lists of statements ----

pub for_done : (s : Naming) (rs : List Around) {ls : Behind} {p : Place} (first : Option Action) (step : Option Action) (e : Option Expr) (x : Stmt) (n : ℕ) {a b c : Emission} →
    Emitted (made_of s) (act_if_any s p first n) a b →
    EmittedIn (made_of s) (AndRoute (Cycle p (unless_any_of s p e n NoRoute) (turn_of s p x loops.For (BehindRing loops.For ∷ rs) n (act_if_any s p step n NoRoute)))) ls b c →
    EmittedIn (made_of s) (AndRoute (route_of s (typed.For p first e step x) rs n)) ls a c
for_done s rs {ls} {p} first step e x n h g =
    let cycle = λ (rest : Routes). AndRoute (Cycle p (unless_any_of s p e n NoRoute) (turn_of s p x loops.For (BehindRing loops.For ∷ rs) n (act_if_any s p step n NoRoute))) rest in
    in_turn (λ rest. act_if_any s p first n (cycle rest)) (both (act_if_any s p first n) cycle (h.within ls) g)

pub do_done : {s : Naming} (rs : List Around) {ls : Behind} {p : Place} {v : ℕ} {x z : Expr} {d : Option Expr} (y : Stmt) {n : ℕ} {r : Start} {a b c : Emission} → IsStarted s p v x z d n r a b →
    EmittedIn (made_of s) (AndRoute (Cycle p (limit_of s p v (operand_of r.limit) r.next NoRoute) (turn_of s p y loops.Do (BehindRing loops.Do ∷ rs) r.next (step_of s p v (operand_of r.by) r.next NoRoute)))) ls b c →
    EmittedIn (made_of s) (AndRoute (route_of s (typed.Do p v x z d y) rs n)) ls a c
do_done {s} rs {ls} {p} {v} {x} {z} {d} y {n} {r} {a} {b} {c} h g =
    let m = n + made z + made_if_any d in
    let by = value_or s d (f66.Int (pos 1)) (n + made z) in
    let loop = λ (limit step : Formula) (k : ℕ) (rest : Routes). AndRoute (Cycle p (limit_of s p v limit k NoRoute) (turn_of s p y loops.Do (BehindRing loops.Do ∷ rs) k (step_of s p v step k NoRoute))) rest in
    let g1 = subst (λ k. EmittedIn (made_of s) (loop (operand_of r.limit) (operand_of r.by) k) ls b c) h.next g in
    let g2 = subst (λ w. EmittedIn (made_of s) (loop w (operand_of r.by) m) ls b c) h.limit g1 in
    let g3 = subst (λ w. EmittedIn (made_of s) (loop (value_of s z n) w m) ls b c) h.by g2 in
    subst (λ w. EmittedIn (made_of s) (AndRoute (InTurn (start_routes s p v x z d n (loop (value_of s z n) w m NoRoute)))) ls a c) (by_is s d (n + made z))
    (in_turn (λ rest. start_routes s p v x z d n (loop (value_of s z n) by m rest)) (both (start_routes s p v x z d n) (loop (value_of s z n) by m) (h.emitted.within ls) g3))
  where
    by_is : (t : Naming) (o : Option Expr) (k : ℕ) → value_or t o (f66.Int (pos 1)) k ≡ value_or_one (home_of t) temp_of (callee_of t) (label_of t) (own_of t) o k
    by_is t None k = refl
    by_is t (Some w) k = refl

pub list_more : (s : Naming) (rs : List Around) {ls : Behind} (n : ℕ) (all : Stmts) {here left : Stmts} {x : Stmt} {a b c : Emission} → here ≡ AndStmt x left → SoFar (made_of s) (all_before s all rs n) (all_before s here rs n) ls a b →
    EmittedIn (made_of s) (AndRoute (route_of s x rs n)) ls b c → SoFar (made_of s) (all_before s all rs n) (all_before s left rs n) ls a c
list_more s rs {ls} n all {here} {left} {x} {a} {b} {c} is h g =
    one_more (all_before s all rs n) (all_before s left rs n) (AndRoute (route_of s x rs n)) (subst (λ v. SoFar (made_of s) (all_before s all rs n) (all_before s v rs n) ls a b) is h) g

pub list_over : (s : Naming) (rs : List Around) {ls : Behind} (n : ℕ) (all : Stmts) {here : Stmts} {a b : Emission} → here ≡ NoStmt → SoFar (made_of s) (all_before s all rs n) (all_before s here rs n) ls a b → EmittedIn (made_of s) (all_before s all rs n) ls a b
list_over s rs {ls} n all {here} {a} {b} is h = all_done (all_before s all rs n) (subst (λ v. SoFar (made_of s) (all_before s all rs n) (all_before s v rs n) ls a b) is h)

joined_none : (rs : Routes) → joined rs NoRoute ≡ rs
joined_none NoRoute = refl
joined_none (AndRoute r rs) = ap (AndRoute r) (joined_none rs)

pub block_done : (s : Naming) (rs : List Around) {ls : Behind} (n : ℕ) (ss : Stmts) {a b : Emission} → EmittedIn (made_of s) (all_before s ss rs n) ls a b → EmittedIn (made_of s) (block_of s ss rs n) ls a b
block_done s rs {ls} n ss {a} {b} h = subst (λ v. EmittedIn (made_of s) (AndRoute (Block v)) ls a b) (joined_none (all_of s ss rs n)) (blocked (all_before s ss rs n) h)

-- the statements of a whole body
pub body_done : (s : Naming) (n : ℕ) (ss : Stmts) (a b : Emission) → a ≡ record { lines = []; made = 0 } → EmittedIn (made_of s) (all_before s ss [] n) [] a b → (next : List Line) → all_code (made_of s) (all_of s ss [] n) 0 [] next ≡ b.lines ++ next
body_done s n ss a b is h next =
    ap (λ v. all_code (made_of s) v 0 [] next) (sym (joined_none (all_of s ss [] n)))
    ∙ ap (λ (v : Emission). v.lines ++ all_code (made_of s) (joined (all_of s ss [] n) NoRoute) v.made [] next) (sym is)
    ∙ h.lines NoRoute next

-- ---- actions ----

pub invoke_done : {s : Naming} {p : Place} (v : ℕ) {n : ℕ} {es : Exprs} {r : Arguments} {x : Text} {a b c : Emission} → AreActuals s p es n r a b → x ≡ callee_of s v → Puts (unlabelled_line p (f66.Invoke x (formulas_of r.list.items))) b c →
    Emitted (made_of s) (act_of s p (typed.Invoke v es) n) a c
invoke_done {s} {p} v {n} {es} {r} {x} {a} {b} {c} h is g =
    let all = actuals (home_of s) temp_of (callee_of s) es n in
    let act = ap (λ w. f66.Invoke w (formulas_of r.list.items)) is ∙ ap (f66.Invoke (callee_of s v)) h.formulas in
    both_emitted (λ rest. actual_routes (home_of s) temp_of (callee_of s) p es n rest) (AndRoute (Plain p (f66.Invoke (callee_of s v) all))) h.emitted
    (put_emitted p (f66.Invoke (callee_of s v) all) (subst (λ w. Puts (unlabelled_line p w) b c) act g))

pub some_done : {s : Naming} {p : Place} {e : Expr} {other : Formula} {n : ℕ} {r : Evaluated} {a b : Emission} → IsEvaluated s p e n r a b → IsEvaluatedIfAny s p (Some e) other n r a b
some_done h = record { emitted = h.emitted; operand = h.operand; next = h.next }

pub given_done : {s : Naming} {p : Place} {e : Expr} {n : ℕ} {r : Evaluated} {x : Text} {y : Formula} {a b c d : Emission} → IsEvaluated s p e n r a b → x ≡ own_of s → y ≡ operand_of r.operand →
    Puts (unlabelled_line p (Assign (Ref x) y)) b c → Puts (unlabelled_line p f66.Return) c d → Emitted (made_of s) (return_of s p (Some e) n) a d
given_done {s} {p} {e} {n} {r} {x} {y} {a} {b} {c} {d} h is is1 put_value back =
    let set = AndRoute (sets p (Ref (own_of s)) (value_of s e n)) in
    let last = AndRoute (Plain p f66.Return) in
    let value = subst (λ w. Puts (unlabelled_line p (Assign (Ref w) y)) b c) is put_value in
    let all = both_emitted (λ rest. routes_of s p e n (set rest)) last (both_emitted (routes_of s p e n) set h.emitted (stored p (Ref (own_of s)) y (value_of s e n) value (is1 ∙ h.operand))) (put_emitted p f66.Return back) in
    record { within = λ ls. in_turn (λ rest. routes_of s p e n (set (last rest))) (all.within ls) }

pub start_done : {s : Naming} {p : Place} {v : ℕ} {x z : Expr} {d : Option Expr} {n : ℕ} {limit by first : Evaluated} {a b c e f : Emission} →
    IsEvaluated s p z n limit a b → IsEvaluatedIfAny s p d (f66.Int (pos 1)) limit.next by b c → IsEvaluated s p x by.next first c e → Puts (unlabelled_line p (Assign (Ref (home_of s v)) (operand_of first.operand))) e f →
    IsStarted s p v x z d n (record { limit = limit.operand; by = by.operand; next = by.next }) a f
start_done {s} {p} {v} {x} {z} {d} {n} {limit} {by} {first} {a} {b} {c} {e} {f} h g i last =
    let k = n + made z in
    let m = k + made_if_any d in
    let g1 = subst (λ w. IsEvaluatedIfAny s p d (f66.Int (pos 1)) w by b c) h.next g in
    let i1 = subst (λ w. IsEvaluated s p x w first c e) g1.next i in
    let set = AndRoute (sets p (Ref (home_of s v)) (value_of s x m)) in
    record {
      emitted =
          both_emitted (routes_of s p z n) (λ rest. routes_if_any s p d k (routes_of s p x m (set rest))) h.emitted
          (both_emitted (routes_if_any s p d k) (λ rest. routes_of s p x m (set rest)) g1.emitted
          (both_emitted (routes_of s p x m) set i1.emitted (stored p (Ref (home_of s v)) (operand_of first.operand) (value_of s x m) last i1.operand)));
      limit = h.operand;
      by = g1.operand;
      next = g1.next;
    }

-- ---- lists of labels and constants ----

pub record MarksSoFar (s : Naming) (p : Place) (all left : List Text) (before now : Emission) : Type 0 where
  pub made : now.made ≡ before.made
  pub lines : (next : List Line) → before.lines ++ marked s p all next ≡ now.lines ++ marked s p left next

pub marks_more : (s : Naming) {p : Place} (all from left : List Text) (x : Text) {a b c : Emission} → from ≡ x ∷ left → MarksSoFar s p all from a b → Puts (here (label_of s x) p) b c → MarksSoFar s p all left a c
marks_more s {p} all from left x {a} {b} {c} is h g = record {
  made = g.made ∙ h.made;
  lines = λ next. h.lines next ∙ ap (λ ms. b.lines ++ marked s p ms next) is ∙ put_before (here (label_of s x) p) b c (marked s p left next) g;
}

pub record TestsSoFar (p : Place) (v : Formula) (all left : List ℤ) (l : ℕ) (before now : Emission) : Type 0 where
  pub made : now.made ≡ before.made
  pub lines : (next : List Line) → before.lines ++ tests_before p v all l next ≡ now.lines ++ tests_before p v left l next

pub tests_more : {p : Place} {v : Formula} {l : ℕ} (all from left : List ℤ) (z : ℤ) {y : Formula} {a b c : Emission} → from ≡ z ∷ left → TestsSoFar p v all from l a b → Puts (unlabelled_line p (When y (Goto l))) b c → y ≡ f66.Pair Eq v (signed z) →
    TestsSoFar p v all left l a c
tests_more {p} {v} {l} all from left z {y} {a} {b} {c} is h g same = record {
  made = g.made ∙ h.made;
  lines = λ next.
      h.lines next ∙ ap (λ zs. b.lines ++ tests_before p v zs l next) is ∙ ap (λ w. b.lines ++ unlabelled_line p (When w (Goto l)) ∷ tests_before p v left l next) (sym same)
      ∙ put_before (unlabelled_line p (When y (Goto l))) b c (tests_before p v left l next) g;
}

pub marks_over : {s : Naming} {p : Place} (all from : List Text) {a b : Emission} → from ≡ [] → MarksSoFar s p all from a b → Marks s p all a b
marks_over {s} {p} all from {a} {b} is h = record { made = h.made; lines = λ next. h.lines next ∙ ap (λ ms. b.lines ++ marked s p ms next) is }

pub tests_over : {p : Place} {v : Formula} {l : ℕ} (all from : List ℤ) {a b : Emission} → from ≡ [] → TestsSoFar p v all from l a b → Tests p v all l a b
tests_over {p} {v} {l} all from {a} {b} is h = record { made = h.made; lines = λ next. h.lines next ∙ ap (λ zs. b.lines ++ tests_before p v zs l next) is }

-- ---- statements that are the same in all rings ----

pub return_within : (s : Naming) (rs : List Around) (ls : Behind) (p : Place) (e : Option Expr) (n : ℕ) {a b : Emission} → Emitted (made_of s) (return_of s p e n) a b → EmittedIn (made_of s) (AndRoute (route_of s (typed.Return p e) rs n)) ls a b
return_within s rs ls p None n h = h.within ls
return_within s rs ls p (Some e) n h = h.within ls

pub write_within : (s : Naming) (rs : List Around) (ls : Behind) (p : Place) (u : Option Expr) (items : List WriteItem) (n : ℕ) {a b : Emission} → Emitted (made_of s) (AndRoute (route_of s (typed.Write p u items) [] n)) a b →
    EmittedIn (made_of s) (AndRoute (route_of s (typed.Write p u items) rs n)) ls a b
write_within s rs ls p u items n h = h.within ls

pub read_within : (s : Naming) (rs : List Around) (ls : Behind) (p : Place) (u : Option Expr) (items : List ReadItem) (n : ℕ) {a b : Emission} → Emitted (made_of s) (AndRoute (route_of s (typed.Read p u items) [] n)) a b →
    EmittedIn (made_of s) (AndRoute (route_of s (typed.Read p u items) rs n)) ls a b
read_within s rs ls p u items n h = h.within ls

-- ---- the default of a switch ----

pub default_here : (s : Naming) (rs : List Around) {ls : Behind} (cs : List ℤ) (fallback : Bool) (ss : Stmts) (q : Place) (others : Clauses) (n : ℕ) {a b : Emission} → fallback ≡ true → EmittedIn (made_of s) (block_of s ss rs n) ls a b →
    EmittedIn (made_of s) (default_before s (AndClause cs fallback ss q others) rs n) ls a b
default_here s rs cs true ss q others n is h = h
default_here s rs cs false ss q others n is h = absurd (true≢false (sym is))

pub default_behind : (s : Naming) (rs : List Around) {ls : Behind} (cs : List ℤ) (fallback : Bool) (ss : Stmts) (q : Place) (others : Clauses) (n : ℕ) {a b : Emission} → fallback ≡ false → EmittedIn (made_of s) (default_before s others rs n) ls a b →
    EmittedIn (made_of s) (default_before s (AndClause cs fallback ss q others) rs n) ls a b
default_behind s rs cs true ss q others n is h = absurd (true≢false is)
default_behind s rs cs false ss q others n is h = h
