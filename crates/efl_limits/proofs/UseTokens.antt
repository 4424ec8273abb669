-- The names that an expression uses are no more than half of its tokens, but for one token.
use Rattle.std.proofs.Common.{◌≤◌, ◌+◌, ◌*◌, arith, List, [], ◌++◌, length, length-append, Option}
use Rattle.efl_tree.specs.Syntax.{EflExpr, EflExprs, EflPlace, EflSteps}
use Rattle.efl_scope.specs.Uses.{uses_of, uses_of_all, uses_at, uses_behind, uses_if}
use Rattle.rat_grammar.specs.Tokens.{Tokens, Perhaps}
use Rattle.efl_grammar.specs.Expressions.{Expr, Disj, Conj, Neg, Rel, Sum, Term, Unary, Step, Power, Operand, Place as APlace, Steps, AnySubs, Subs, Exprs, Condition, Act}
use Rattle.efl_grammar.specs.Expressions as e
use Rattle.efl_limits.proofs.Tokens.{Before, one, sign, word, name}

-- twice as many tokens as uses, and but for one
abbrev pub Even : {A : Type 0} → List A → Tokens → Tokens → Type 0
Even us a b = 2 * length us + length b ≤ length a

abbrev pub Odd : {A : Type 0} → List A → Tokens → Tokens → Type 0
Odd us a b = 2 * length us + length b ≤ length a + 1

-- with a token between them
pub both : {A : Type 0} (us ws : List A) (a b c d : Tokens) → Odd us a b → Before 1 b c → Odd ws c d → Odd (us ++ ws) a d
both us ws a b c d h s k = omega (arith, length-append us ws, h, s, k)

mutual
  pub expr : {a b : Tokens} {x : EflExpr} → Expr a b x → Odd (uses_of x) a b
  expr (e.disj q) = disj q
  expr (e.assignment q o v) = both _ _ _ _ _ _ (place q) (sign o) (expr v)

  disj : {a b : Tokens} {x : EflExpr} → Disj a b x → Odd (uses_of x) a b
  disj (e.conj q) = conj q
  disj (e.or q o v) = both _ _ _ _ _ _ (disj q) (sign o) (conj v)

  conj : {a b : Tokens} {x : EflExpr} → Conj a b x → Odd (uses_of x) a b
  conj (e.neg q) = neg q
  conj (e.and q o v) = both _ _ _ _ _ _ (conj q) (sign o) (neg v)

  neg : {a b : Tokens} {x : EflExpr} → Neg a b x → Odd (uses_of x) a b
  neg (e.rel q) = rel q
  neg (e.not o q) = omega (arith, one o, neg q)

  rel : {a b : Tokens} {x : EflExpr} → Rel a b x → Odd (uses_of x) a b
  rel (e.sum q) = sum q
  rel (e.compared q o v) = both _ _ _ _ _ _ (sum q) (sign o) (sum v)

  sum : {a b : Tokens} {x : EflExpr} → Sum a b x → Odd (uses_of x) a b
  sum (e.term q) = term q
  sum (e.added q o v) = both _ _ _ _ _ _ (sum q) (sign o) (term v)

  term : {a b : Tokens} {x : EflExpr} → Term a b x → Odd (uses_of x) a b
  term (e.unary q) = unary q
  term (e.times q o v) = both _ _ _ _ _ _ (term q) (sign o) (power v)

  unary : {a b : Tokens} {x : EflExpr} → Unary a b x → Odd (uses_of x) a b
  unary (e.power q) = power q
  unary (e.plus o q) = omega (arith, one o, unary q)
  unary (e.minus o q) = omega (arith, one o, unary q)
  unary (e.step q) = step q

  step : {a b : Tokens} {x : EflExpr} → Step a b x → Odd (uses_of x) a b
  step (e.up o q) = omega (arith, one o, place q)
  step (e.down o q) = omega (arith, one o, place q)

  power : {a b : Tokens} {x : EflExpr} → Power a b x → Odd (uses_of x) a b
  power (e.operand q) = operand q
  power (e.raised q o v) = both _ _ _ _ _ _ (operand q) (one o) (power v)

  operand : {a b : Tokens} {x : EflExpr} → Operand a b x → Odd (uses_of x) a b
  operand (e.place q) = place q
  operand (e.call y o k) = omega (arith, name y, one o, one k)
  operand (e.number q) = omega (arith, one q)
  operand (e.truth w) = omega (arith, word w)
  operand (e.falsehood w) = omega (arith, word w)
  operand (e.group o q k) = omega (arith, one o, expr q, one k)

  pub place : {a b : Tokens} {x : EflPlace} → APlace a b x → Odd (uses_at x) a b
  place (e.path {es = es} {ss = ss} y q r) = omega (arith, name y, subs q, steps r, length-append (uses_of_all es) (uses_behind ss))

  steps : {a b : Tokens} {x : EflSteps} → Steps a b x → Even (uses_behind x) a b
  steps e.no_step = omega arith
  steps (e.member {es = es} {ss = ss} o y q r) = omega (arith, one o, name y, subs q, steps r, length-append (uses_of_all es) (uses_behind ss))
  steps (e.overlay o y r) = omega (arith, one o, name y, steps r)

  subs : {a b : Tokens} {x : EflExprs} → AnySubs a b x → Even (uses_of_all x) a b
  subs e.no_subs = omega arith
  subs (e.some_subs q) = some_subs q

  some_subs : {a b : Tokens} {x : EflExprs} → Subs a b x → Even (uses_of_all x) a b
  some_subs (e.subs o q k) = omega (arith, one o, exprs q, one k)

  exprs : {a b : Tokens} {x : EflExprs} → Exprs a b x → Odd (uses_of_all x) a b
  exprs (e.last {e = x} q) = omega (arith, expr q, length-append (uses_of x) [])
  exprs (e.comma q o r) = both _ _ _ _ _ _ (expr q) (one o) (exprs r)

-- with a token over
pub condition : {a b : Tokens} {x : EflExpr} → Condition a b x → 2 * length (uses_of x) + 1 + length b ≤ length a
condition (e.condition o q k) = omega (arith, one o, expr q, one k)

pub act : {a b : Tokens} {x : EflExpr} → Act a b x → Odd (uses_of x) a b
act (e.stored q o v) = both _ _ _ _ _ _ (place q) (sign o) (expr v)
act (e.stepped q) = step q
act (e.called y o k) = omega (arith, name y, one o, one k)
act (e.called_with y q) = omega (arith, name y, some_subs q)

pub if_any : {Item : Tokens → Tokens → EflExpr → Type 0} {a b : Tokens} {o : Option EflExpr} → ((c d : Tokens) (x : EflExpr) → Item c d x → Odd (uses_of x) c d) → Perhaps Item a b o → Odd (uses_if o) a b
if_any f Perhaps.none = omega arith
if_any f (Perhaps.some q) = f _ _ _ q

pub even_if : {Item : Tokens → Tokens → EflExpr → Type 0} {a b : Tokens} {o : Option EflExpr} → ((c d : Tokens) (x : EflExpr) → Item c d x → Even (uses_of x) c d) → Perhaps Item a b o → Even (uses_if o) a b
even_if f Perhaps.none = omega arith
even_if f (Perhaps.some q) = f _ _ _ q
