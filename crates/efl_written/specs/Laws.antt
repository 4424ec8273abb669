-- The law that the tree of an EFL program is written where its tokens are.
use Rattle.std.specs.Prelude.{List}
use Rattle.std.specs.List.{All}
use Rattle.ground.specs.declared.token.Token.{Token}
use Rattle.efl_tree.specs.Syntax.{EflProgram}
use Rattle.gathered_tokens.specs.Written.{TokenIsWritten}
use Rattle.efl_grammar.specs.Programs.{Program}
use Rattle.efl_plain.specs.Tree.{IsWrittenTree}

-- the tree that the published grammar derives from written tokens is written
abbrev pub GrammarIsWritten : Type 0
GrammarIsWritten = (ts : List Token) (tree : EflProgram) → All TokenIsWritten ts → Program ts tree → IsWrittenTree tree
