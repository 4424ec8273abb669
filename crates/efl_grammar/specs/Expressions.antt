-- Expressions and places, a family for each precedence. A level that groups to the left repeats its own on the left.
use Rattle.std.specs.Prelude.{codes, ℤ, true, false, Option, None, Some, [], ◌∷◌}
use Rattle.ground.specs.declared.token.Sign.TheVariants as signs
use Rattle.efl_tree.specs.declared.expression.EflOperator.{EflOperator}
use Rattle.efl_tree.specs.declared.expression.EflOperator.TheVariants as operators
use Rattle.efl_tree.specs.Syntax.{Text, EflExpr, Int, Truth, At, Call, Group, Plus, Minus, Not, Up, Down, Pair, EflExprs, NoExpr, AndExpr, EflPlace, Path, EflSteps, NoStep, Member, Overlay}
use Rattle.efl_tree.specs.Syntax as efl
use Rattle.rat_grammar.specs.Tokens.{Tokens, Sign, Word, Number, OneOf}
use Rattle.efl_grammar.specs.Tokens.{Name}

-- "=" has no operator
abbrev pub Assign : Tokens → Tokens → Option EflOperator → Type 0
Assign =
    OneOf ((signs.Assign, None) ∷ (signs.AddAssign, Some operators.Add) ∷ (signs.SubAssign, Some operators.Sub) ∷ (signs.MulAssign, Some operators.Mul)
    ∷ (signs.DivAssign, Some operators.Div) ∷ (signs.PowerAssign, Some operators.Power) ∷ (signs.AndAssign, Some operators.And) ∷ (signs.OrAssign, Some operators.Or)
    ∷ (signs.AndThenAssign, Some operators.AndThen) ∷ (signs.OrElseAssign, Some operators.OrElse) ∷ [])

abbrev pub OrSign : Tokens → Tokens → EflOperator → Type 0
OrSign = OneOf ((signs.Or, operators.Or) ∷ (signs.OrElse, operators.OrElse) ∷ [])

abbrev pub AndSign : Tokens → Tokens → EflOperator → Type 0
AndSign = OneOf ((signs.And, operators.And) ∷ (signs.AndThen, operators.AndThen) ∷ [])

abbrev pub Relation : Tokens → Tokens → EflOperator → Type 0
Relation =
    OneOf ((signs.Lt, operators.Lt) ∷ (signs.Le, operators.Le) ∷ (signs.Eq, operators.Eq) ∷ (signs.Ne, operators.Ne) ∷ (signs.Ge, operators.Ge)
    ∷ (signs.Gt, operators.Gt) ∷ [])

abbrev pub AddSign : Tokens → Tokens → EflOperator → Type 0
AddSign = OneOf ((signs.Plus, operators.Add) ∷ (signs.Minus, operators.Sub) ∷ [])

abbrev pub TimesSign : Tokens → Tokens → EflOperator → Type 0
TimesSign = OneOf ((signs.Star, operators.Mul) ∷ (signs.Slash, operators.Div) ∷ [])

mutual
  -- expr = disj | place assign expr
  pub data Expr : Tokens → Tokens → EflExpr → Type 0 where
    disj : {a b : Tokens} {e : EflExpr} → Disj a b e → Expr a b e
    assignment : {a b c d : Tokens} {s : EflPlace} {o : Option EflOperator} {e : EflExpr} → Place a b s → Assign b c o → Expr c d e → Expr a d (efl.Assign o s e)

  -- disj = conj { ( "|" | "||" ) conj }
  pub data Disj : Tokens → Tokens → EflExpr → Type 0 where
    conj : {a b : Tokens} {e : EflExpr} → Conj a b e → Disj a b e
    or : {a b c d : Tokens} {o : EflOperator} {e f : EflExpr} → Disj a b e → OrSign b c o → Conj c d f → Disj a d (Pair o e f)

  -- conj = neg { ( "&" | "&&" ) neg }
  pub data Conj : Tokens → Tokens → EflExpr → Type 0 where
    neg : {a b : Tokens} {e : EflExpr} → Neg a b e → Conj a b e
    and : {a b c d : Tokens} {o : EflOperator} {e f : EflExpr} → Conj a b e → AndSign b c o → Neg c d f → Conj a d (Pair o e f)

  -- neg = rel | "~" neg
  pub data Neg : Tokens → Tokens → EflExpr → Type 0 where
    rel : {a b : Tokens} {e : EflExpr} → Rel a b e → Neg a b e
    not : {a b c : Tokens} {e : EflExpr} → Sign signs.Not a b → Neg b c e → Neg a c (Not e)

  -- rel = sum [ relation sum ]
  pub data Rel : Tokens → Tokens → EflExpr → Type 0 where
    sum : {a b : Tokens} {e : EflExpr} → Sum a b e → Rel a b e
    compared : {a b c d : Tokens} {o : EflOperator} {e f : EflExpr} → Sum a b e → Relation b c o → Sum c d f → Rel a d (Pair o e f)

  -- sum = term { ( "+" | "-" ) term }
  pub data Sum : Tokens → Tokens → EflExpr → Type 0 where
    term : {a b : Tokens} {e : EflExpr} → Term a b e → Sum a b e
    added : {a b c d : Tokens} {o : EflOperator} {e f : EflExpr} → Sum a b e → AddSign b c o → Term c d f → Sum a d (Pair o e f)

  -- term = unary { ( "*" | "/" ) power }
  pub data Term : Tokens → Tokens → EflExpr → Type 0 where
    unary : {a b : Tokens} {e : EflExpr} → Unary a b e → Term a b e
    times : {a b c d : Tokens} {o : EflOperator} {e f : EflExpr} → Term a b e → TimesSign b c o → Power c d f → Term a d (Pair o e f)

  -- unary = power | ( "+" | "-" ) unary | ( "++" | "--" ) place
  pub data Unary : Tokens → Tokens → EflExpr → Type 0 where
    power : {a b : Tokens} {e : EflExpr} → Power a b e → Unary a b e
    plus : {a b c : Tokens} {e : EflExpr} → Sign signs.Plus a b → Unary b c e → Unary a c (Plus e)
    minus : {a b c : Tokens} {e : EflExpr} → Sign signs.Minus a b → Unary b c e → Unary a c (Minus e)
    step : {a b : Tokens} {e : EflExpr} → Step a b e → Unary a b e

  -- ( "++" | "--" ) place
  pub data Step : Tokens → Tokens → EflExpr → Type 0 where
    up : {a b c : Tokens} {s : EflPlace} → Sign signs.Increment a b → Place b c s → Step a c (Up s)
    down : {a b c : Tokens} {s : EflPlace} → Sign signs.Decrement a b → Place b c s → Step a c (Down s)

  -- power = operand [ "**" power ]
  pub data Power : Tokens → Tokens → EflExpr → Type 0 where
    operand : {a b : Tokens} {e : EflExpr} → Operand a b e → Power a b e
    raised : {a b c d : Tokens} {e f : EflExpr} → Operand a b e → Sign signs.Power b c → Power c d f → Power a d (Pair operators.Power e f)

  -- operand = place | name "(" ")" | Number | "true" | "false" | "(" expr ")"
  pub data Operand : Tokens → Tokens → EflExpr → Type 0 where
    place : {a b : Tokens} {s : EflPlace} → Place a b s → Operand a b (At s)
    call : {a b c d : Tokens} {x : Text} → Name a b x → Sign signs.Open b c → Sign signs.Close c d → Operand a d (Call x NoExpr)
    number : {a b : Tokens} {z : ℤ} → Number a b z → Operand a b (Int z)
    truth : {a b : Tokens} → Word (codes "TRUE") a b → Operand a b (Truth true)
    falsehood : {a b : Tokens} → Word (codes "FALSE") a b → Operand a b (Truth false)
    group : {a b c d : Tokens} {e : EflExpr} → Sign signs.Open a b → Expr b c e → Sign signs.Close c d → Operand a d (Group e)

  -- place = name [ subs ] { "." name [ subs ] | "->" name }
  pub data Place : Tokens → Tokens → EflPlace → Type 0 where
    path : {a b c d : Tokens} {x : Text} {es : EflExprs} {ss : EflSteps} → Name a b x → AnySubs b c es → Steps c d ss → Place a d (Path x es ss)

  pub data Steps : Tokens → Tokens → EflSteps → Type 0 where
    no_step : {a : Tokens} → Steps a a NoStep
    member : {a b c d e : Tokens} {x : Text} {es : EflExprs} {ss : EflSteps} → Sign signs.Point a b → Name b c x → AnySubs c d es → Steps d e ss →
        Steps a e (Member x es ss)
    overlay : {a b c d : Tokens} {x : Text} {ss : EflSteps} → Sign signs.Arrow a b → Name b c x → Steps c d ss → Steps a d (Overlay x ss)

  -- [ subs ]
  pub data AnySubs : Tokens → Tokens → EflExprs → Type 0 where
    no_subs : {a : Tokens} → AnySubs a a NoExpr
    some_subs : {a b : Tokens} {es : EflExprs} → Subs a b es → AnySubs a b es

  -- subs = "(" expr { "," expr } ")"
  pub data Subs : Tokens → Tokens → EflExprs → Type 0 where
    subs : {a b c d : Tokens} {es : EflExprs} → Sign signs.Open a b → Exprs b c es → Sign signs.Close c d → Subs a d es

  -- expr { "," expr }
  pub data Exprs : Tokens → Tokens → EflExprs → Type 0 where
    last : {a b : Tokens} {e : EflExpr} → Expr a b e → Exprs a b (AndExpr e NoExpr)
    comma : {a b c d : Tokens} {e : EflExpr} {es : EflExprs} → Expr a b e → Sign signs.Comma b c → Exprs c d es → Exprs a d (AndExpr e es)

-- "(" expr ")"
pub data Condition : Tokens → Tokens → EflExpr → Type 0 where
  condition : {a b c d : Tokens} {e : EflExpr} → Sign signs.Open a b → Expr b c e → Sign signs.Close c d → Condition a d e

-- act = place assign expr | ( "++" | "--" ) place | name "(" [ expr { "," expr } ] ")"
pub data Act : Tokens → Tokens → EflExpr → Type 0 where
  stored : {a b c d : Tokens} {s : EflPlace} {o : Option EflOperator} {e : EflExpr} → Place a b s → Assign b c o → Expr c d e → Act a d (efl.Assign o s e)
  stepped : {a b : Tokens} {e : EflExpr} → Step a b e → Act a b e
  called : {a b c d : Tokens} {x : Text} → Name a b x → Sign signs.Open b c → Sign signs.Close c d → Act a d (Call x NoExpr)
  called_with : {a b c : Tokens} {x : Text} {es : EflExprs} → Name a b x → Subs b c es → Act a c (Call x es)
