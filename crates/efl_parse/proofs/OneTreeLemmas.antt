-- A text has at most one derivation and one program, since the tables are those of the grammar.
use Rattle.std.proofs.Common.{◌≡◌, List}
use Rattle.ground.specs.declared.token.Token.{Token}
use Rattle.grammar.proofs.OneLemmas.{one_derivation, one_value}
use Rattle.efl_tree.specs.Syntax.{EflProgram}
use Rattle.efl_parse_table.specs.Efl.{certificate}
use Rattle.efl_parse_table.specs.EflSound.{sound}
use Rattle.efl_parse_values.specs.Values.{tok, program}
use Rattle.efl_parse.specs.Build.{build}
use Rattle.efl_parse.specs.Efl.{grammar}
use Rattle.efl_parse.specs.OneTree.{HasOneTree, EachHasOneTree}

one_program : (a b : EflProgram) → program a ≡ program b → a ≡ b
one_program a b e = cc

pub each_has_one : EachHasOneTree
each_has_one ts = record {
  derivation = one_derivation grammar certificate (sound (λ t. tok t) build) ts;
  tree = λ a b h k. one_program a b (one_value grammar certificate (sound (λ t. tok t) build) ts (program a) (program b) h k);
}
