-- Statements. Each has the place of its first token behind its labels.
use Rattle.std.specs.Prelude.{ℕ, ℤ, codes, true, false, Option, None, Some, List, [], ◌∷◌}
use Rattle.ground.specs.declared.token.Sign.TheVariants as signs
use Rattle.efl_tree.specs.declared.statement.LoopKind.{LoopKind}
use Rattle.efl_tree.specs.declared.statement.LoopKind.TheVariants as loops
use Rattle.efl_tree.specs.declared.statement.EflEdit.{EflEdit}
use Rattle.efl_tree.specs.declared.statement.EflEdit.TheVariants as edits
use Rattle.efl_tree.specs.Syntax.{Text, EflExpr, EflPlace, EflDecl, EflStmt, EflKind, Empty, Block, If, IfElse, While, For, Repeat, RepeatUntil, Do, Switch, Break, Next, Return, Goto, Write, Read, EflStmts, NoStmt, AndStmt, EflCases, NoCase, AndCase}
use Rattle.efl_tree.specs.Syntax as efl
use Rattle.rat_grammar.specs.Tokens.{Perhaps, Tokens, Semicolon, Sign, Word, Number, Quoted, place_at, Listed, Several, Lines, Stop}
use Rattle.rat_grammar.specs.Plain.{GoTo}
use Rattle.rat_grammar.specs.Statements.{FollowsNo}
use Rattle.efl_grammar.specs.Tokens.{Name, Natural, Whole}
use Rattle.efl_grammar.specs.Expressions.{Expr, Place, Condition}
use Rattle.efl_grammar.specs.Expressions as e
use Rattle.efl_grammar.specs.Declarations.{Decl, Declaration}

-- kind = "while" | "for" | "repeat" | "do" | "switch"
pub data Kind : Tokens → Tokens → LoopKind → Type 0 where
  while : {a b : Tokens} → Word (codes "WHILE") a b → Kind a b loops.While
  for : {a b : Tokens} → Word (codes "FOR") a b → Kind a b loops.For
  repeat : {a b : Tokens} → Word (codes "REPEAT") a b → Kind a b loops.Repeat
  do_ : {a b : Tokens} → Word (codes "DO") a b → Kind a b loops.Do
  switch : {a b : Tokens} → Word (codes "SWITCH") a b → Kind a b loops.Switch

-- [ Number [ kind ] | kind [ Number ] ], where a missing number is 1
pub data Leaving : Tokens → Tokens → ℕ → Option LoopKind → Type 0 where
  bare : {a : Tokens} → Leaving a a 1 None
  number : {a b c : Tokens} {n : ℕ} {k : Option LoopKind} → Natural a b n → Perhaps Kind b c k → Leaving a c n k
  kind : {a b : Tokens} {k : LoopKind} → Kind a b k → Leaving a b 1 (Some k)
  kind_number : {a b c : Tokens} {n : ℕ} {k : LoopKind} → Kind a b k → Natural b c n → Leaving a c n (Some k)

-- sep = "," | ";"
pub data Sep : Tokens → Tokens → Type 0 where
  comma : {a b : Tokens} → Sign signs.Comma a b → Sep a b
  semicolon : {a b : Tokens} → Semicolon a b → Sep a b

-- edit = "i" "(" Number ")" | "l" "(" Number ")" | "c"
pub data Edit : Tokens → Tokens → EflEdit → Type 0 where
  whole : {a b c d e : Tokens} {z : ℤ} → Word (codes "I") a b → Sign signs.Open b c → Number c d z → Sign signs.Close d e → Edit a e (edits.Whole z)
  truth : {a b c d e : Tokens} {z : ℤ} → Word (codes "L") a b → Sign signs.Open b c → Number c d z → Sign signs.Close d e → Edit a e (edits.Truth z)
  letter : {a b : Tokens} → Word (codes "C") a b → Edit a b edits.Letter

-- ":" "x" "(" Number ")"
pub data Skip : Tokens → Tokens → ℤ → Type 0 where
  skip : {a b c d e g : Tokens} {z : ℤ} → Sign signs.Colon a b → Word (codes "X") b c → Sign signs.Open c d → Number d e z → Sign signs.Close e g → Skip a g z

-- witem = expr ":" edit | ":" "x" "(" Number ")" | Quoted, which is not empty
pub data WriteItem : Tokens → Tokens → efl.WriteItem → Type 0 where
  value : {a b c d : Tokens} {f : EflExpr} {k : EflEdit} → Expr a b f → Sign signs.Colon b c → Edit c d k → WriteItem a d (efl.Value f k)
  skip : {a b : Tokens} {z : ℤ} → Skip a b z → WriteItem a b (efl.WriteItem.Skip z)
  chars : {a b : Tokens} {c : ℕ} {cs : Text} → Quoted a b (c ∷ cs) → WriteItem a b (efl.Chars (c ∷ cs))

-- ritem = place ":" edit | ":" "x" "(" Number ")"
pub data ReadItem : Tokens → Tokens → efl.ReadItem → Type 0 where
  take : {a b c d : Tokens} {s : EflPlace} {k : EflEdit} → Place a b s → Sign signs.Colon b c → Edit c d k → ReadItem a d (efl.Take s k)
  skip : {a b : Tokens} {z : ℤ} → Skip a b z → ReadItem a b (efl.ReadItem.Skip z)

-- "," item
pub data Comma {A : Type 0} (Item : Tokens → Tokens → A → Type 0) : Tokens → Tokens → A → Type 0 where
  comma : {a b c : Tokens} {x : A} → Sign signs.Comma a b → Item b c x → Comma Item a c x

-- { name ":" }
pub data Labels : Tokens → Tokens → List Text → Type 0 where
  none : {a : Tokens} → Labels a a []
  label : {a b c d : Tokens} {x : Text} {xs : List Text} → Name a b x → Sign signs.Colon b c → Labels c d xs → Labels a d (x ∷ xs)

mutual
  -- statement = lines body
  pub data Statement : Tokens → Tokens → EflStmt → Type 0 where
    statement : {a b c : Tokens} {k : EflKind} → Lines a b → Body b c k → Statement a c (efl.Statement [] (place_at b) k)

  -- { listed }
  -- listed = lines { name ":" } body
  pub data Statements : Tokens → Tokens → EflStmts → Type 0 where
    no_statement : {a : Tokens} → Statements a a NoStmt
    listed : {a b c d e : Tokens} {xs : List Text} {k : EflKind} {ss : EflStmts} → Lines a b → Labels b c xs → Body c d k → Statements d e ss →
        Statements a e (AndStmt (efl.Statement xs (place_at c) k) ss)

  -- An `else` belongs to the nearest `if` that has none, since an `if` without one stands where none follows; so does an `until`.
  pub data Body : Tokens → Tokens → EflKind → Type 0 where
    empty : {a b : Tokens} → Semicolon a b → Body a b Empty
    block : {a b c d e g : Tokens} {ds : List EflDecl} {ss : EflStmts} → Sign signs.OpenBrace a b → Several (Decl Declaration) b c ds → Statements c d ss → Lines d e →
        Sign signs.CloseBrace e g → Body a g (Block ds ss)
    act : {a b c : Tokens} {f : EflExpr} → e.Act a b f → Stop b c → Body a c (efl.Act f)
    if_ : {a b c d : Tokens} {f : EflExpr} {s : EflStmt} → Word (codes "IF") a b → Condition b c f → Statement c d s → FollowsNo (codes "ELSE") d → Body a d (If f s)
    if_else : {a b c d g h i : Tokens} {f : EflExpr} {s t : EflStmt} → Word (codes "IF") a b → Condition b c f → Statement c d s → Lines d g → Word (codes "ELSE") g h →
        Statement h i t → Body a i (IfElse f s t)
    while : {a b c d : Tokens} {f : EflExpr} {s : EflStmt} → Word (codes "WHILE") a b → Condition b c f → Statement c d s → Body a d (While f s)
    for : {a b c d g h i j k l : Tokens} {x y z : Option EflExpr} {s : EflStmt} → Word (codes "FOR") a b → Sign signs.Open b c → Perhaps e.Act c d x → Sep d g →
        Perhaps Expr g h y → Sep h i → Perhaps e.Act i j z → Sign signs.Close j k → Statement k l s → Body a l (For x y z s)
    repeat : {a b c : Tokens} {s : EflStmt} → Word (codes "REPEAT") a b → Statement b c s → FollowsNo (codes "UNTIL") c → Body a c (Repeat s)
    repeat_until : {a b c d g h i : Tokens} {s : EflStmt} {f : EflExpr} → Word (codes "REPEAT") a b → Statement b c s → Lines c d → Word (codes "UNTIL") d g →
        Condition g h f → Stop h i → Body a i (RepeatUntil s f (place_at d))
    do_ : {a b c d g h i j k : Tokens} {x : Text} {f u : EflExpr} {by : Option EflExpr} {s : EflStmt} → Word (codes "DO") a b → Name b c x → Sign signs.Assign c d →
        Expr d g f → Sign signs.Comma g h → Expr h i u → Perhaps (Comma Expr) i j by → Statement j k s → Body a k (Do x f u by s)
    switch : {a b c d g h i j : Tokens} {f : EflExpr} {cs : EflCases} → Word (codes "SWITCH") a b → Condition b c f → Lines c d → Sign signs.OpenBrace d g →
        Clauses g h cs → Lines h i → Sign signs.CloseBrace i j → Body a j (Switch f cs)
    break_ : {a b c d : Tokens} {n : ℕ} {k : Option LoopKind} → Word (codes "BREAK") a b → Leaving b c n k → Stop c d → Body a d (Break n k)
    next : {a b c d : Tokens} {n : ℕ} {k : Option LoopKind} → Word (codes "NEXT") a b → Leaving b c n k → Stop c d → Body a d (Next n k)
    return_ : {a b c d : Tokens} {f : Option EflExpr} → Word (codes "RETURN") a b → Perhaps Condition b c f → Stop c d → Body a d (Return f)
    goto : {a b c d : Tokens} {x : Text} → GoTo a b → Name b c x → Stop c d → Body a d (Goto x)
    write : {a b c d g h i : Tokens} {f : Option EflExpr} {xs : List efl.WriteItem} → Word (codes "WRITE") a b → Sign signs.Open b c → Perhaps Expr c d f →
        Several (Comma WriteItem) d g xs → Sign signs.Close g h → Stop h i → Body a i (Write f xs)
    read : {a b c d g h i : Tokens} {f : Option EflExpr} {xs : List efl.ReadItem} → Word (codes "READ") a b → Sign signs.Open b c → Perhaps Expr c d f →
        Several (Comma ReadItem) d g xs → Sign signs.Close g h → Stop h i → Body a i (Read f xs)

  -- { clause }
  -- clause = lines ( "case" whole { "," whole } | "default" ) ":" { listed }
  pub data Clauses : Tokens → Tokens → EflCases → Type 0 where
    no_clause : {a : Tokens} → Clauses a a NoCase
    case : {a b c d g h i : Tokens} {zs : List ℤ} {ss : EflStmts} {cs : EflCases} → Lines a b → Word (codes "CASE") b c → Listed Whole c d zs → Sign signs.Colon d g →
        Statements g h ss → Clauses h i cs → Clauses a i (AndCase zs false ss (place_at b) cs)
    default : {a b c d g h : Tokens} {ss : EflStmts} {cs : EflCases} → Lines a b → Word (codes "DEFAULT") b c → Sign signs.Colon c d → Statements d g ss →
        Clauses g h cs → Clauses a h (AndCase [] true ss (place_at b) cs)
