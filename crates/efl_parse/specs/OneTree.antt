-- That a text has at most one tree.
use Rattle.std.specs.Prelude.{◌≡◌, List}
use Rattle.ground.specs.declared.token.Token.{Token}
use Rattle.grammar.specs.Grammar.{Parse, IsProgram}
use Rattle.efl_tree.specs.Syntax.{EflProgram}
use Rattle.efl_parse_values.specs.Values.{program}
use Rattle.efl_parse.specs.Efl.{grammar}

-- Any two derivations of a text are the same, and so are any two programs that it gives.
pub record HasOneTree (ts : List Token) : Type 0 where
  pub derivation : (a b : Parse grammar ts) → a.trees ≡ b.trees
  pub tree : (a b : EflProgram) → IsProgram grammar ts (program a) → IsProgram grammar ts (program b) → a ≡ b

abbrev pub EachHasOneTree : Type 0
EachHasOneTree = (ts : List Token) → HasOneTree ts
