-- A text has at most one derivation and one program, since the tables are those of the grammar.
use Rattle.std.proofs.Common.{◌≡◌}
use Rattle.grammar.proofs.OneLemmas.{one_derivation, one_value}
use Rattle.rat_tree.specs.Syntax.{RatProgram}
use Rattle.rat_parse_table.specs.Ratfor.{certificate}
use Rattle.rat_parse_table.specs.RatforSound.{sound}
use Rattle.rat_parse_values.specs.Values.{tok, program}
use Rattle.rat_parse.specs.Build.{build}
use Rattle.rat_parse.specs.Ratfor.{grammar}
use Rattle.rat_parse.specs.OneTree.{EachHasOneTree}

one_program : (a b : RatProgram) → program a ≡ program b → a ≡ b
one_program a b e = cc

pub each_has_one : EachHasOneTree
each_has_one ts = record {
  derivation = one_derivation grammar certificate (sound (λ t. tok t) build) ts;
  tree = λ a b h k. one_program a b (one_value grammar certificate (sound (λ t. tok t) build) ts (program a) (program b) h k);
}
