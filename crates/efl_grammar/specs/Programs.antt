-- Procedures and programs. A procedure has the place of its first token that ends no line, and that of its `end`.
use Rattle.std.specs.Prelude.{codes, Option, None, Some, List, []}
use Rattle.ground.specs.declared.token.Sign.TheVariants as signs
use Rattle.efl_tree.specs.Syntax.{Text, EflType, EflDecl, EflStmts, EflProcedure, EflProgram}
use Rattle.rat_grammar.specs.Tokens.{Perhaps, Tokens, TextEnd, Sign, Word, place_at, Listed, Several, Lines, Stop}
use Rattle.efl_grammar.specs.Tokens.{Name}
use Rattle.efl_grammar.specs.Declarations.{AType, OuterDeclaration, Decl}
use Rattle.efl_grammar.specs.Statements.{Statements}

-- [ "(" [ name { "," name } ] ")" ]
pub data Formals : Tokens → Tokens → List Text → Type 0 where
  none : {a : Tokens} → Formals a a []
  empty : {a b c : Tokens} → Sign signs.Open a b → Sign signs.Close b c → Formals a c []
  some : {a b c d : Tokens} {xs : List Text} → Sign signs.Open a b → Listed Name b c xs → Sign signs.Close c d → Formals a d xs

-- header = [ type ] "procedure" name [ "(" [ name { "," name } ] ")" ] | "procedure", which is the main
pub data Header : Tokens → Tokens → Option EflType → Option Text → List Text → Type 0 where
  named : {a b c d e : Tokens} {t : Option EflType} {x : Text} {xs : List Text} → Perhaps AType a b t → Word (codes "PROCEDURE") b c → Name c d x → Formals d e xs →
      Header a e t (Some x) xs
  main : {a b : Tokens} → Word (codes "PROCEDURE") a b → Header a b None None []

-- procedure = lines header stop { decl } { listed } lines "end" stop
pub data Procedure : Tokens → Tokens → EflProcedure → Type 0 where
  procedure : {a b c d e g h i j : Tokens} {t : Option EflType} {x : Option Text} {xs : List Text} {ds : List EflDecl} {ss : EflStmts} → Lines a b →
      Header b c t x xs → Stop c d → Several (Decl OuterDeclaration) d e ds → Statements e g ss → Lines g h → Word (codes "END") h i → Stop i j →
      Procedure a j (record { result = t; name = x; formals = xs; declarations = ds; body = ss; place = place_at b; finish = place_at h })

-- program = { procedure } lines TextEnd, and nothing behind
pub data Program : Tokens → EflProgram → Type 0 where
  program : {a b c : Tokens} {us : List EflProcedure} → Several Procedure a b us → Lines b c → TextEnd c [] → Program a (record { procedures = us; finish = place_at c })
