-- The typed tree of an expression is no larger than its tokens are many, whatever its names mean.
use Rattle.std.proofs.Common.{◌≤◌, ℕ, ◌+◌, arith, Bool, true, false, Option, Some, None}
use Rattle.std.specs.Prelude.{option_map}
use Rattle.efl_tree.specs.Syntax.{Text, EflExpr, EflExprs, EflPlace, Path}
use Rattle.efl_program.specs.Typed.{Exprs}
use Rattle.efl_typed.specs.Typing.{Context, expr_of, exprs_of, value_at, call_of, called, action_of, invoke}
use Rattle.efl_types.specs.Types.{is_target_call}
use Rattle.rat_grammar.specs.Tokens.{Tokens, Perhaps}
use Rattle.efl_grammar.specs.Expressions.{Expr, Disj, Conj, Neg, Rel, Sum, Term, Unary, Step, Power, Operand, Place as APlace, Steps, AnySubs, Subs, Exprs as SomeExprs, Condition, Act}
use Rattle.efl_grammar.specs.Expressions as e
use Rattle.efl_limits.specs.Sizes.{size, sizes, act_size, act_size_if}
use Rattle.efl_limits.proofs.Tokens.{Before, one, sign, word, name}

call_size : (c : Context) (x : Text) (o : Option ℕ) (es : Exprs) → size (call_of c x o es) ≤ 1 + sizes es
call_size c x (Some n) es = omega arith
call_size c x None es = omega arith

invoke_size : (o : Option ℕ) (es : Exprs) → act_size (invoke o es) ≤ 1 + sizes es
invoke_size (Some n) es = omega arith
invoke_size None es = omega arith

abbrev subs_size : Context → EflPlace → ℕ
subs_size c (Path x es steps) = sizes (exprs_of c es)

value_size : (c : Context) (b : Bool) (q : EflPlace) → size (value_at c b q) ≤ 1 + subs_size c q
value_size c true (Path x es steps) = call_size c x (called c x) (exprs_of c es)
value_size c false (Path x es steps) = omega arith

module _ (c : Context) where
  mutual
    pub expr : {a b : Tokens} {x : EflExpr} → Expr a b x → Before (size (expr_of c x)) a b
    expr (e.disj q) = disj q
    expr (e.assignment q o v) = omega (arith, place q, sign o, expr v)

    disj : {a b : Tokens} {x : EflExpr} → Disj a b x → Before (size (expr_of c x)) a b
    disj (e.conj q) = conj q
    disj (e.or q o v) = omega (arith, disj q, sign o, conj v)

    conj : {a b : Tokens} {x : EflExpr} → Conj a b x → Before (size (expr_of c x)) a b
    conj (e.neg q) = neg q
    conj (e.and q o v) = omega (arith, conj q, sign o, neg v)

    neg : {a b : Tokens} {x : EflExpr} → Neg a b x → Before (size (expr_of c x)) a b
    neg (e.rel q) = rel q
    neg (e.not o q) = omega (arith, one o, neg q)

    rel : {a b : Tokens} {x : EflExpr} → Rel a b x → Before (size (expr_of c x)) a b
    rel (e.sum q) = sum q
    rel (e.compared q o v) = omega (arith, sum q, sign o, sum v)

    sum : {a b : Tokens} {x : EflExpr} → Sum a b x → Before (size (expr_of c x)) a b
    sum (e.term q) = term q
    sum (e.added q o v) = omega (arith, sum q, sign o, term v)

    term : {a b : Tokens} {x : EflExpr} → Term a b x → Before (size (expr_of c x)) a b
    term (e.unary q) = unary q
    term (e.times q o v) = omega (arith, term q, sign o, power v)

    unary : {a b : Tokens} {x : EflExpr} → Unary a b x → Before (size (expr_of c x)) a b
    unary (e.power q) = power q
    unary (e.plus o q) = omega (arith, one o, unary q)
    unary (e.minus o q) = omega (arith, one o, unary q)
    unary (e.step q) = step q

    step : {a b : Tokens} {x : EflExpr} → Step a b x → Before (size (expr_of c x)) a b
    step (e.up o q) = omega (arith, one o, place q)
    step (e.down o q) = omega (arith, one o, place q)

    power : {a b : Tokens} {x : EflExpr} → Power a b x → Before (size (expr_of c x)) a b
    power (e.operand q) = operand q
    power (e.raised q o v) = omega (arith, operand q, one o, power v)

    operand : {a b : Tokens} {x : EflExpr} → Operand a b x → Before (size (expr_of c x)) a b
    operand (e.place {s = s} q) = omega (arith, place q, value_size c (is_target_call c.names s) s)
    operand (e.call {x = x} y o k) = omega (arith, name y, one o, one k, call_size c x (called c x) (exprs_of c EflExprs.NoExpr))
    operand (e.number q) = one q
    operand (e.truth w) = word w
    operand (e.falsehood w) = word w
    operand (e.group o q k) = omega (arith, one o, expr q, one k)

    -- its name and its first subscripts
    pub place : {a b : Tokens} {x : EflPlace} → APlace a b x → Before (1 + subs_size c x) a b
    place (e.path y q r) = omega (arith, name y, subs q, steps r)

    steps : {a b : Tokens} {x : _} → Steps a b x → Before 0 a b
    steps e.no_step = omega arith
    steps (e.member o y q r) = omega (arith, one o, name y, subs q, steps r)
    steps (e.overlay o y r) = omega (arith, one o, name y, steps r)

    subs : {a b : Tokens} {x : EflExprs} → AnySubs a b x → Before (sizes (exprs_of c x)) a b
    subs e.no_subs = omega arith
    subs (e.some_subs q) = some_subs q

    some_subs : {a b : Tokens} {x : EflExprs} → Subs a b x → Before (sizes (exprs_of c x)) a b
    some_subs (e.subs o q k) = omega (arith, one o, exprs q, one k)

    exprs : {a b : Tokens} {x : EflExprs} → SomeExprs a b x → Before (sizes (exprs_of c x)) a b
    exprs (e.last q) = omega (arith, expr q)
    exprs (e.comma q o r) = omega (arith, expr q, one o, exprs r)

  -- in parentheses
  pub condition : {a b : Tokens} {x : EflExpr} → Condition a b x → Before (2 + size (expr_of c x)) a b
  condition (e.condition o q k) = omega (arith, one o, expr q, one k)

  stepped : {a b : Tokens} {x : EflExpr} → Step a b x → Before (act_size (action_of c x)) a b
  stepped (e.up o q) = omega (arith, one o, place q)
  stepped (e.down o q) = omega (arith, one o, place q)

  pub act : {a b : Tokens} {x : EflExpr} → Act a b x → Before (act_size (action_of c x)) a b
  act (e.stored q o v) = omega (arith, place q, sign o, expr v)
  act (e.stepped q) = stepped q
  act (e.called {x = x} y o k) = omega (arith, name y, one o, one k, invoke_size (called c x) (exprs_of c EflExprs.NoExpr))
  act (e.called_with {x = x} {es = es} y q) = omega (arith, name y, some_subs q, invoke_size (called c x) (exprs_of c es))

  pub act_if : {a b : Tokens} {o : Option EflExpr} → Perhaps Act a b o → Before (act_size_if (option_map (action_of c) o)) a b
  act_if Perhaps.none = omega arith
  act_if (Perhaps.some q) = act q
