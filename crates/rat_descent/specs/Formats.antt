-- Fields of a format that stand in parentheses.
use Rattle.std.specs.Prelude.{[], ◌∷◌}
use Rattle.ground.specs.declared.token.Token.{Token}
use Rattle.grammar.specs.declared.language.Symbol.TheVariants.{Terminal as terminal_symbol, Nonterminal as nonterminal_symbol}
use Rattle.f66_tree.specs.Fields.{Fields}
use Rattle.rat_parse_table.specs.declared.table.Terminal.TheVariants as terminals
use Rattle.rat_parse_table.specs.declared.table.Nonterminal.TheVariants as nonterminals
use Rattle.rat_parse_values.specs.Values.{tok, fields}
use Rattle.rat_descent.specs.Reading.{Reader, Parts}

pub record Enclosed (r : Reader) (all : Fields) (s : Reader) : Type 0 where
  pub first : Token
  pub last : Token
  pub parts : Parts (terminal_symbol terminals.Open ∷ nonterminal_symbol nonterminals.Fields ∷ terminal_symbol terminals.Close ∷ []) r [] (tok last ∷ fields all ∷ tok first ∷ []) s
