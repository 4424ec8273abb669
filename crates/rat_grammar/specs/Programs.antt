-- Units and programs. A unit has the place of its first token that ends no line.
use Rattle.std.specs.Prelude.{codes, Option, List, []}
use Rattle.ground.specs.declared.token.Sign.TheVariants as signs
use Rattle.f66_tree.specs.declared.declaration.TypeWord.{TypeWord}
use Rattle.f66_tree.specs.Syntax.{Text, Header, MainUnit, SubUnit, FuncUnit, DataUnit}
use Rattle.rat_tree.specs.Syntax.{Commands, RatRoutine, RatProgram}
use Rattle.rat_grammar.specs.Tokens.{Perhaps, Tokens, LineEnd, TextEnd, Sign, Word, Name, place_at, Listed, Several, Lines, Stop}
use Rattle.rat_grammar.specs.Declarations.{TypeName}
use Rattle.rat_grammar.specs.Statements.{Statements}

-- "(" name { "," name } ")"
pub data Formals : Tokens → Tokens → List Text → Type 0 where
  formals : {a b c d : Tokens} {xs : List Text} → Sign signs.Open a b → Listed Name b c xs → Sign signs.Close c d → Formals a d xs

-- header = "subroutine" name [ formals ] | [ type ] "function" name formals | "block" "data"
pub data AHeader : Tokens → Tokens → Header → Type 0 where
  subroutine : {a b c : Tokens} {x : Text} → Word (codes "SUBROUTINE") a b → Name b c x → AHeader a c (SubUnit x [])
  subroutine_of : {a b c d : Tokens} {x : Text} {xs : List Text} → Word (codes "SUBROUTINE") a b → Name b c x → Formals c d xs → AHeader a d (SubUnit x xs)
  function : {a b c d e : Tokens} {w : Option TypeWord} {x : Text} {xs : List Text} → Perhaps TypeName a b w → Word (codes "FUNCTION") b c → Name c d x → Formals d e xs →
      AHeader a e (FuncUnit w x xs)
  block_data : {a b c : Tokens} → Word (codes "BLOCK") a b → Word (codes "DATA") b c → AHeader a c DataUnit

-- unit = lines [ header stop ] { statement } lines "end" stop
pub data Unit : Tokens → Tokens → RatRoutine → Type 0 where
  headed : {a b c d e g h i : Tokens} {x : Header} {ss : Commands} → Lines a b → AHeader b c x → Stop c d → Statements d e ss → Lines e g → Word (codes "END") g h → Stop h i →
      Unit a i (record { header = x; body = ss; place = place_at b })
  main : {a b c d e g : Tokens} {ss : Commands} → Lines a b → ((c : Tokens) → LineEnd b c → ⊥) → Statements b c ss → Lines c d → Word (codes "END") d e → Stop e g →
      Unit a g (record { header = MainUnit; body = ss; place = place_at b })

-- program = { unit } lines TextEnd, and nothing behind
pub data Program : Tokens → RatProgram → Type 0 where
  program : {a b c : Tokens} {us : List RatRoutine} → Several Unit a b us → Lines b c → TextEnd c [] → Program a (record { routines = us; finish = place_at c })
