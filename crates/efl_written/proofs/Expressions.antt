-- The numbers of an expression of written tokens are in their range, and the variables that it uses have names of capitals and digits.
use Rattle.std.proofs.Common.{ℤ, List, [], ◌++◌, Option}
use Rattle.std.specs.Prelude.{⊤}
use Rattle.efl_tree.specs.Syntax.{Text, EflExpr, EflExprs, EflPlace, EflSteps, NoExpr, AndExpr}
use Rattle.efl_scope.specs.Uses.{Use, Named, Applied, Laid, named, uses_of, uses_of_all, uses_at, uses_behind, uses_if}
use Rattle.rat_grammar.specs.Tokens.{Tokens, Perhaps}
use Rattle.efl_grammar.specs.Expressions.{Expr, Disj, Conj, Neg, Rel, Sum, Term, Unary, Step, Power, Operand, Place as APlace, Steps, AnySubs, Subs, Exprs, Condition, Act}
use Rattle.efl_grammar.specs.Expressions as e
use Rattle.efl_typed.proofs.Each.{Each}
use Rattle.efl_lowered.proofs.TypedChecks.{each_on}
use Rattle.efl_plain.specs.Tree.{numbers_of, numbers_of_all, numbers_at, numbers_behind, numbers_if}
use Rattle.efl_plain.proofs.WrittenExpressions.{Constant}
use Rattle.efl_written.proofs.Tokens.{AreWritten, Capitals, here, past, past_sign, past_word, name, Gives}

-- the name of a variable that is used
abbrev pub Met : Use → Type 0
Met (Named x) = Capitals x
Met (Applied x) = ⊤
Met (Laid x) = ⊤

-- these numbers and uses
abbrev pub Both : List ℤ → List Use → Type 0
Both zs us = Each Constant zs × Each Met us

pub joined : (zs ys : List ℤ) (us ws : List Use) → Both zs us → Both ys ws → Both (zs ++ ys) (us ++ ws)
joined zs ys us ws h k = (each_on Constant zs ys h.0 k.0, each_on Met us ws h.1 k.1)

met : (x : Text) (es : EflExprs) → Capitals x → Met (named x es)
met x NoExpr h = h
met x (AndExpr e es) h = tt

-- ---- what is shown ----

abbrev pub OfExpr : EflExpr → Type 0
OfExpr x = Both (numbers_of x) (uses_of x)

abbrev OfAll : EflExprs → Type 0
OfAll x = Both (numbers_of_all x) (uses_of_all x)

abbrev pub OfPlace : EflPlace → Type 0
OfPlace x = Both (numbers_at x) (uses_at x)

abbrev OfSteps : EflSteps → Type 0
OfSteps x = Both (numbers_behind x) (uses_behind x)

-- ---- expressions ----

mutual
  pub expr : {a b : Tokens} {x : EflExpr} → Expr a b x → AreWritten a → OfExpr x × AreWritten b
  expr (e.disj q) h = disj q h
  expr (e.assignment q o v) h = let l = place q h in let r = expr v (past_sign o l.1) in (joined _ _ _ _ l.0 r.0, r.1)

  disj : {a b : Tokens} {x : EflExpr} → Disj a b x → AreWritten a → OfExpr x × AreWritten b
  disj (e.conj q) h = conj q h
  disj (e.or q o v) h = let l = disj q h in let r = conj v (past_sign o l.1) in (joined _ _ _ _ l.0 r.0, r.1)

  conj : {a b : Tokens} {x : EflExpr} → Conj a b x → AreWritten a → OfExpr x × AreWritten b
  conj (e.neg q) h = neg q h
  conj (e.and q o v) h = let l = conj q h in let r = neg v (past_sign o l.1) in (joined _ _ _ _ l.0 r.0, r.1)

  neg : {a b : Tokens} {x : EflExpr} → Neg a b x → AreWritten a → OfExpr x × AreWritten b
  neg (e.rel q) h = rel q h
  neg (e.not o q) h = neg q (past o h)

  rel : {a b : Tokens} {x : EflExpr} → Rel a b x → AreWritten a → OfExpr x × AreWritten b
  rel (e.sum q) h = sum q h
  rel (e.compared q o v) h = let l = sum q h in let r = sum v (past_sign o l.1) in (joined _ _ _ _ l.0 r.0, r.1)

  sum : {a b : Tokens} {x : EflExpr} → Sum a b x → AreWritten a → OfExpr x × AreWritten b
  sum (e.term q) h = term q h
  sum (e.added q o v) h = let l = sum q h in let r = term v (past_sign o l.1) in (joined _ _ _ _ l.0 r.0, r.1)

  term : {a b : Tokens} {x : EflExpr} → Term a b x → AreWritten a → OfExpr x × AreWritten b
  term (e.unary q) h = unary q h
  term (e.times q o v) h = let l = term q h in let r = power v (past_sign o l.1) in (joined _ _ _ _ l.0 r.0, r.1)

  unary : {a b : Tokens} {x : EflExpr} → Unary a b x → AreWritten a → OfExpr x × AreWritten b
  unary (e.power q) h = power q h
  unary (e.plus o q) h = unary q (past o h)
  unary (e.minus o q) h = unary q (past o h)
  unary (e.step q) h = step q h

  step : {a b : Tokens} {x : EflExpr} → Step a b x → AreWritten a → OfExpr x × AreWritten b
  step (e.up o q) h = place q (past o h)
  step (e.down o q) h = place q (past o h)

  power : {a b : Tokens} {x : EflExpr} → Power a b x → AreWritten a → OfExpr x × AreWritten b
  power (e.operand q) h = operand q h
  power (e.raised q o v) h = let l = operand q h in let r = power v (past o l.1) in (joined _ _ _ _ l.0 r.0, r.1)

  operand : {a b : Tokens} {x : EflExpr} → Operand a b x → AreWritten a → OfExpr x × AreWritten b
  operand (e.place q) h = place q h
  operand (e.call y o c) h = ((tt, (tt, tt)), past c (past o (name y h).1))
  operand (e.number q) h = (((here q h, tt), tt), past q h)
  operand (e.truth w) h = ((tt, tt), past_word w h)
  operand (e.falsehood w) h = ((tt, tt), past_word w h)
  operand (e.group o q c) h = let l = expr q (past o h) in (l.0, past c l.1)

  pub place : {a b : Tokens} {x : EflPlace} → APlace a b x → AreWritten a → OfPlace x × AreWritten b
  place (e.path {x = x} {es = es} {ss = ss} y q r) h =
      let n = name y h in
      let l = subs q n.1 in
      let s = steps r l.1 in
      let all = joined (numbers_of_all es) (numbers_behind ss) (uses_of_all es) (uses_behind ss) l.0 s.0 in
      ((all.0, (met x es n.0, all.1)), s.1)

  steps : {a b : Tokens} {x : EflSteps} → Steps a b x → AreWritten a → OfSteps x × AreWritten b
  steps e.no_step h = ((tt, tt), h)
  steps (e.member o y q r) h =
      let l = subs q (name y (past o h)).1 in
      let s = steps r l.1 in
      (joined _ _ _ _ l.0 s.0, s.1)
  steps (e.overlay o y r) h = let s = steps r (name y (past o h)).1 in ((s.0.0, (tt, s.0.1)), s.1)

  subs : {a b : Tokens} {x : EflExprs} → AnySubs a b x → AreWritten a → OfAll x × AreWritten b
  subs e.no_subs h = ((tt, tt), h)
  subs (e.some_subs q) h = some_subs q h

  some_subs : {a b : Tokens} {x : EflExprs} → Subs a b x → AreWritten a → OfAll x × AreWritten b
  some_subs (e.subs o q c) h = let l = exprs q (past o h) in (l.0, past c l.1)

  exprs : {a b : Tokens} {x : EflExprs} → Exprs a b x → AreWritten a → OfAll x × AreWritten b
  exprs (e.last {e = x} q) h = let l = expr q h in (joined (numbers_of x) [] (uses_of x) [] l.0 (tt, tt), l.1)
  exprs (e.comma q o r) h = let l = expr q h in let s = exprs r (past o l.1) in (joined _ _ _ _ l.0 s.0, s.1)

pub condition : {a b : Tokens} {x : EflExpr} → Condition a b x → AreWritten a → OfExpr x × AreWritten b
condition (e.condition o q c) h = let l = expr q (past o h) in (l.0, past c l.1)

pub act : {a b : Tokens} {x : EflExpr} → Act a b x → AreWritten a → OfExpr x × AreWritten b
act (e.stored q o v) h = let l = place q h in let r = expr v (past_sign o l.1) in (joined _ _ _ _ l.0 r.0, r.1)
act (e.stepped q) h = step q h
act (e.called y o c) h = ((tt, (tt, tt)), past c (past o (name y h).1))
act (e.called_with y q) h = let l = some_subs q (name y h).1 in ((l.0.0, (tt, l.0.1)), l.1)

-- ---- where there is one ----

abbrev pub OfExprIf : Option EflExpr → Type 0
OfExprIf o = Both (numbers_if o) (uses_if o)

pub if_any : {Item : Tokens → Tokens → EflExpr → Type 0} {a b : Tokens} {o : Option EflExpr} → Gives Item OfExpr → Perhaps Item a b o → AreWritten a → OfExprIf o × AreWritten b
if_any f Perhaps.none h = ((tt, tt), h)
if_any f (Perhaps.some q) h = f _ _ _ q h
