-- Statements. Each has the place of the first token of its body.
use Rattle.std.specs.Prelude.{ℕ, codes, true, false, Option, None, Some}
use Rattle.ground.specs.declared.token.Sign.TheVariants as signs
use Rattle.ground.specs.declared.place.Place.{Place}
use Rattle.f66_tree.specs.Syntax.{Text, Formula, Formulas, NoFormula, Par, Act}
use Rattle.rat_tree.specs.Syntax as tree
use Rattle.rat_tree.specs.Syntax.{Command, Empty, Block, If, IfElse, While, For, Repeat, RepeatUntil, Do, Switch, Break, Next, Return, Plain, Labelled, Commands, NoCommand, AndCommand, NoClause, AndClause}
use Rattle.rat_grammar.specs.Tokens.{Perhaps, Tokens, Semicolon, Sign, Word, Name, place_at, Lines, Stop}
use Rattle.rat_grammar.specs.Expressions.{Expr, Exprs, Condition}
use Rattle.rat_grammar.specs.Declarations.{Range, Natural}
use Rattle.rat_grammar.specs.Plain.{Simple, Plain as APlain}

-- a statement with its label
abbrev pub labelled : ℕ → Place → Command → Command
labelled n p (Plain l q s) = Plain (Some n) q s
labelled n p c = Labelled n p c

-- lines and this word don't follow
abbrev pub FollowsNo : Text → Tokens → Type 0
FollowsNo x a = (b c : Tokens) → Lines a b → Word x b c → ⊥

-- [ Number ], where a missing number is 1
pub data Times : Tokens → Tokens → ℕ → Type 0 where
  once : {a : Tokens} → Times a a 1
  number : {a b : Tokens} {n : ℕ} → Natural a b n → Times a b n

mutual
  -- statement = lines [ Number ] body
  pub data Statement : Tokens → Tokens → Command → Type 0 where
    bare : {a b c : Tokens} {s : Command} → Lines a b → Body b c s → Statement a c s
    marked : {a b c d : Tokens} {n : ℕ} {s : Command} → Lines a b → Natural b c n → Body c d s → Statement a d (labelled n (place_at c) s)

  -- { statement }
  pub data Statements : Tokens → Tokens → Commands → Type 0 where
    none : {a : Tokens} → Statements a a NoCommand
    more : {a b c : Tokens} {s : Command} {ss : Commands} → Statement a b s → Statements b c ss → Statements a c (AndCommand s ss)

  -- An `else` belongs to the nearest `if` that has none, since an `if` without one stands where none follows; so does an `until`.
  pub data Body : Tokens → Tokens → Command → Type 0 where
    empty : {a b : Tokens} → Semicolon a b → Body a b (Empty (place_at a))
    block : {a b c d e : Tokens} {ss : Commands} → Sign signs.OpenBrace a b → Statements b c ss → Lines c d → Sign signs.CloseBrace d e → Body a e (Block (place_at a) ss)
    if_ : {a b c d : Tokens} {f : Formula} {s : Command} → Word (codes "IF") a b → Condition b c f → Statement c d s → FollowsNo (codes "ELSE") d →
        Body a d (If (place_at a) f s)
    if_else : {a b c d e g h : Tokens} {f : Formula} {s t : Command} → Word (codes "IF") a b → Condition b c f → Statement c d s → Lines d e → Word (codes "ELSE") e g →
        Statement g h t → Body a h (IfElse (place_at a) f s t)
    while : {a b c d : Tokens} {f : Formula} {s : Command} → Word (codes "WHILE") a b → Condition b c f → Statement c d s → Body a d (While (place_at a) f s)
    for : {a b c d e g h i j k : Tokens} {x y : Option Act} {f : Option Formula} {s : Command} → Word (codes "FOR") a b → Sign signs.Open b c → Perhaps Simple c d x →
        Semicolon d e → Perhaps Expr e g f → Semicolon g h → Perhaps Simple h i y → Sign signs.Close i j → Statement j k s → Body a k (For (place_at a) x f y s)
    repeat : {a b c : Tokens} {s : Command} → Word (codes "REPEAT") a b → Statement b c s → FollowsNo (codes "UNTIL") c → Body a c (Repeat (place_at a) s)
    repeat_until : {a b c d e g h : Tokens} {f : Formula} {s : Command} → Word (codes "REPEAT") a b → Statement b c s → Lines c d → Word (codes "UNTIL") d e →
        Condition e g f → Stop g h → Body a h (RepeatUntil (place_at a) s f (place_at d))
    do_ : {a b c d e g : Tokens} {x : Text} {u v w : Par} {s : Command} → Word (codes "DO") a b → Name b c x → Sign signs.Assign c d → Range d e u v w → Statement e g s →
        Body a g (Do (place_at a) x u v w s)
    switch : {a b c d e g h i : Tokens} {f : Formula} {cs : tree.Clauses} → Word (codes "SWITCH") a b → Condition b c f → Lines c d → Sign signs.OpenBrace d e →
        Clauses e g cs → Lines g h → Sign signs.CloseBrace h i → Body a i (Switch (place_at a) f cs)
    break_ : {a b c d : Tokens} {n : ℕ} → Word (codes "BREAK") a b → Times b c n → Stop c d → Body a d (Break (place_at a) n)
    next : {a b c d : Tokens} {n : ℕ} → Word (codes "NEXT") a b → Times b c n → Stop c d → Body a d (Next (place_at a) n)
    return_ : {a b c d : Tokens} {f : Option Formula} → Word (codes "RETURN") a b → Perhaps Condition b c f → Stop c d → Body a d (Return (place_at a) f)
    plain : {a b c : Tokens} {s : Act} → APlain a b s → Stop b c → Body a c (Plain None (place_at a) s)

  -- { clause }
  -- clause = lines ( "case" expr { "," expr } | "default" ) ":" { statement }
  pub data Clauses : Tokens → Tokens → tree.Clauses → Type 0 where
    no_clause : {a : Tokens} → Clauses a a NoClause
    case : {a b c d e g h : Tokens} {fs : Formulas} {ss : Commands} {cs : tree.Clauses} → Lines a b → Word (codes "CASE") b c → Exprs c d fs → Sign signs.Colon d e →
        Statements e g ss → Clauses g h cs → Clauses a h (AndClause fs false ss (place_at b) cs)
    default : {a b c d e g : Tokens} {ss : Commands} {cs : tree.Clauses} → Lines a b → Word (codes "DEFAULT") b c → Sign signs.Colon c d → Statements d e ss →
        Clauses e g cs → Clauses a g (AndClause NoFormula true ss (place_at b) cs)
