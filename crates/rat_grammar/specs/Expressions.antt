-- Expressions. Operators group to the left; `**` and relations stand once.
use Rattle.std.specs.Prelude.{ℤ, true, false, [], ◌∷◌}
use Rattle.ground.specs.declared.token.Sign.TheVariants as signs
use Rattle.f66_tree.specs.declared.expression.Operator.{Operator}
use Rattle.f66_tree.specs.declared.expression.Operator.TheVariants as operators
use Rattle.f66_tree.specs.Syntax.{Text, Formula, Int, Truth, Group, Plus, Minus, Not, Pair, Formulas, NoFormula, AndFormula}
use Rattle.f66_tree.specs.Syntax as f66
use Rattle.rat_grammar.specs.Tokens.{Tokens, Sign, Name, Number, OneOf}

abbrev pub Relation : Tokens → Tokens → Operator → Type 0
Relation =
    OneOf ((signs.Lt, operators.Lt) ∷ (signs.Le, operators.Le) ∷ (signs.Eq, operators.Eq) ∷ (signs.Ne, operators.Ne) ∷ (signs.Ge, operators.Ge)
    ∷ (signs.Gt, operators.Gt) ∷ [])

mutual
  -- expr = conj { .OR. conj }
  pub data Expr : Tokens → Tokens → Formula → Type 0 where
    conj : {a b : Tokens} {f : Formula} → Conj a b f → Expr a b f
    or : {a b c d : Tokens} {f g : Formula} → Expr a b f → Sign signs.Or b c → Conj c d g → Expr a d (Pair operators.Or f g)

  -- conj = neg { .AND. neg }
  pub data Conj : Tokens → Tokens → Formula → Type 0 where
    neg : {a b : Tokens} {f : Formula} → Neg a b f → Conj a b f
    and : {a b c d : Tokens} {f g : Formula} → Conj a b f → Sign signs.And b c → Neg c d g → Conj a d (Pair operators.And f g)

  -- neg = [ .NOT. ] rel
  pub data Neg : Tokens → Tokens → Formula → Type 0 where
    rel : {a b : Tokens} {f : Formula} → Rel a b f → Neg a b f
    not : {a b c : Tokens} {f : Formula} → Sign signs.Not a b → Rel b c f → Neg a c (Not f)

  -- rel = sum [ relation sum ]
  pub data Rel : Tokens → Tokens → Formula → Type 0 where
    sum : {a b : Tokens} {f : Formula} → Sum a b f → Rel a b f
    compared : {a b c d : Tokens} {o : Operator} {f g : Formula} → Sum a b f → Relation b c o → Sum c d g → Rel a d (Pair o f g)

  -- sum = [ "+" | "-" ] term { ( "+" | "-" ) term }
  pub data Sum : Tokens → Tokens → Formula → Type 0 where
    term : {a b : Tokens} {f : Formula} → Term a b f → Sum a b f
    plus : {a b c : Tokens} {f : Formula} → Sign signs.Plus a b → Term b c f → Sum a c (Plus f)
    minus : {a b c : Tokens} {f : Formula} → Sign signs.Minus a b → Term b c f → Sum a c (Minus f)
    added : {a b c d : Tokens} {f g : Formula} → Sum a b f → Sign signs.Plus b c → Term c d g → Sum a d (Pair operators.Add f g)
    subtracted : {a b c d : Tokens} {f g : Formula} → Sum a b f → Sign signs.Minus b c → Term c d g → Sum a d (Pair operators.Sub f g)

  -- term = factor { ( "*" | "/" ) factor }
  pub data Term : Tokens → Tokens → Formula → Type 0 where
    factor : {a b : Tokens} {f : Formula} → Factor a b f → Term a b f
    times : {a b c d : Tokens} {f g : Formula} → Term a b f → Sign signs.Star b c → Factor c d g → Term a d (Pair operators.Mul f g)
    over : {a b c d : Tokens} {f g : Formula} → Term a b f → Sign signs.Slash b c → Factor c d g → Term a d (Pair operators.Div f g)

  -- factor = prime [ "**" prime ]
  pub data Factor : Tokens → Tokens → Formula → Type 0 where
    prime : {a b : Tokens} {f : Formula} → Prime a b f → Factor a b f
    power : {a b c d : Tokens} {f g : Formula} → Prime a b f → Sign signs.Power b c → Prime c d g → Factor a d (Pair operators.Power f g)

  -- prime = Number | .TRUE. | .FALSE. | ref | "(" expr ")"
  pub data Prime : Tokens → Tokens → Formula → Type 0 where
    number : {a b : Tokens} {z : ℤ} → Number a b z → Prime a b (Int z)
    truth : {a b : Tokens} → Sign signs.True a b → Prime a b (Truth true)
    falsehood : {a b : Tokens} → Sign signs.False a b → Prime a b (Truth false)
    ref : {a b : Tokens} {f : Formula} → Ref a b f → Prime a b f
    group : {a b c d : Tokens} {f : Formula} → Sign signs.Open a b → Expr b c f → Sign signs.Close c d → Prime a d (Group f)

  -- ref = name [ "(" expr { "," expr } ")" ]
  pub data Ref : Tokens → Tokens → Formula → Type 0 where
    name : {a b : Tokens} {x : Text} → Name a b x → Ref a b (f66.Ref x)
    applied : {a b c d e : Tokens} {x : Text} {fs : Formulas} → Name a b x → Sign signs.Open b c → Exprs c d fs → Sign signs.Close d e → Ref a e (f66.Item x fs)

  -- expr { "," expr }
  pub data Exprs : Tokens → Tokens → Formulas → Type 0 where
    last : {a b : Tokens} {f : Formula} → Expr a b f → Exprs a b (AndFormula f NoFormula)
    comma : {a b c d : Tokens} {f : Formula} {fs : Formulas} → Expr a b f → Sign signs.Comma b c → Exprs c d fs → Exprs a d (AndFormula f fs)

-- "(" expr ")"
pub data Condition : Tokens → Tokens → Formula → Type 0 where
  condition : {a b c d : Tokens} {f : Formula} → Sign signs.Open a b → Expr b c f → Sign signs.Close c d → Condition a d f
