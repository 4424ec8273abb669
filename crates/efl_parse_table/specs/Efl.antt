-- EFL's grammar, whatever it makes of a text, with its tables and an example of each terminal.
use Rattle.std.specs.Prelude.{pos, codes, List}
use denote.Enum.Bare.{sameb}
use Rattle.ground.specs.declared.token.Token.{Token}
use Rattle.ground.specs.declared.token.TokenKind.{TokenKind}
use Rattle.ground.specs.declared.token.TokenKind.TheVariants as kinds
use Rattle.ground.specs.declared.token.Sign.TheVariants as signs
use Rattle.grammar.specs.Grammar.{Grammar}
use Rattle.grammar.specs.Certificate.{Certificate}
use Rattle.efl_parse_table.specs.declared.table.Terminal.{Terminal}
use Rattle.efl_parse_table.specs.declared.table.Terminal.TheVariants as terminals
use Rattle.efl_parse_table.specs.declared.table.Nonterminal.{Nonterminal}
use Rattle.efl_parse_table.specs.declared.table.Production.{Production}
use Rattle.efl_parse_table.specs.declared.table.Production.TheVariants as productions
use Rattle.efl_parse_table.specs.contracts.table.Terminal.{the_type as terminal_type}
use Rattle.efl_parse_table.specs.contracts.table.Nonterminal.{the_type as nonterminal_type}
use Rattle.efl_parse_table.specs.contracts.table.Production.{the_type as production_type}
use Rattle.efl_parse_table.specs.Words.{seen}
use Rattle.efl_parse_table.specs.Table.{symbols, nonterminal_of, allows}
use Rattle.efl_parse_table.specs.ParseTable.{predict_at}
use Rattle.efl_parse_table.specs.LookaheadTables.{all_terminals, first, follow, nullable, cost, closing, shortest, height, before, inner}

abbrev pub grammar_with : {V : Type 0} → (Token → V) → (Production → List V → V) → Grammar Token Terminal Nonterminal Production V
grammar_with value build = record {
  terminal_of = seen;
  symbols = symbols;
  nonterminal_of = nonterminal_of;
  allows = allows;
  start = productions.Whole;
  value = value;
  build = build;
}

abbrev pub example_kind : Terminal → TokenKind
example_kind terminals.Name = kinds.Word (codes "kk")
example_kind terminals.Letter = kinds.Word (codes "k")
example_kind terminals.WidthLetter = kinds.Word (codes "i")
example_kind terminals.CharLetter = kinds.Word (codes "c")
example_kind terminals.SkipLetter = kinds.Word (codes "x")
example_kind terminals.Number = kinds.Number (pos 1)
example_kind terminals.Quoted = kinds.Quoted (codes "a")
example_kind terminals.Truth = kinds.Word (codes "true")
example_kind terminals.Plus = kinds.Sign signs.Plus
example_kind terminals.Minus = kinds.Sign signs.Minus
example_kind terminals.Star = kinds.Sign signs.Star
example_kind terminals.Slash = kinds.Sign signs.Slash
example_kind terminals.Power = kinds.Sign signs.Power
example_kind terminals.Open = kinds.Sign signs.Open
example_kind terminals.Close = kinds.Sign signs.Close
example_kind terminals.Comma = kinds.Sign signs.Comma
example_kind terminals.OpenBrace = kinds.Sign signs.OpenBrace
example_kind terminals.CloseBrace = kinds.Sign signs.CloseBrace
example_kind terminals.Colon = kinds.Sign signs.Colon
example_kind terminals.Relation = kinds.Sign signs.Eq
example_kind terminals.And = kinds.Sign signs.And
example_kind terminals.Or = kinds.Sign signs.Or
example_kind terminals.Not = kinds.Sign signs.Not
example_kind terminals.Point = kinds.Sign signs.Point
example_kind terminals.Arrow = kinds.Sign signs.Arrow
example_kind terminals.Assign = kinds.Sign signs.Assign
example_kind terminals.OperatorAssign = kinds.Sign signs.AddAssign
example_kind terminals.Stepper = kinds.Sign signs.Increment
example_kind terminals.Dollar = kinds.Sign signs.Dollar
example_kind terminals.Semicolon = kinds.Semicolon
example_kind terminals.LineEnd = kinds.LineEnd
example_kind terminals.TextEnd = kinds.TextEnd
example_kind terminals.Procedure = kinds.Word (codes "procedure")
example_kind terminals.End = kinds.Word (codes "end")
example_kind terminals.Implicit = kinds.Word (codes "implicit")
example_kind terminals.Initial = kinds.Word (codes "initial")
example_kind terminals.Common = kinds.Word (codes "common")
example_kind terminals.Struct = kinds.Word (codes "struct")
example_kind terminals.Plain = kinds.Word (codes "integer")
example_kind terminals.Long = kinds.Word (codes "long")
example_kind terminals.Floating = kinds.Word (codes "real")
example_kind terminals.If = kinds.Word (codes "if")
example_kind terminals.Else = kinds.Word (codes "else")
example_kind terminals.While = kinds.Word (codes "while")
example_kind terminals.For = kinds.Word (codes "for")
example_kind terminals.Repeat = kinds.Word (codes "repeat")
example_kind terminals.Until = kinds.Word (codes "until")
example_kind terminals.Do = kinds.Word (codes "do")
example_kind terminals.Switch = kinds.Word (codes "switch")
example_kind terminals.Case = kinds.Word (codes "case")
example_kind terminals.Default = kinds.Word (codes "default")
example_kind terminals.Leave = kinds.Word (codes "break")
example_kind terminals.Return = kinds.Word (codes "return")
example_kind terminals.Goto = kinds.Word (codes "goto")
example_kind terminals.Go = kinds.Word (codes "go")
example_kind terminals.To = kinds.Word (codes "to")
example_kind terminals.Write = kinds.Word (codes "write")
example_kind terminals.Read = kinds.Word (codes "read")
example_kind terminals.Other = kinds.Sign signs.Caret

abbrev pub certificate : Certificate Token Terminal Nonterminal Production
certificate = record {
  same_terminal = sameb terminal_type;
  same_nonterminal = sameb nonterminal_type;
  same_production = sameb production_type;
  terminals = all_terminals;
  predict = predict_at;
  first = first;
  follow = follow;
  nullable = nullable;
  cost = cost;
  example = λ k. record { kind = example_kind k; place = record { file = 0; line = 1 } };
  shortest = shortest;
  closing = closing;
  before = before;
  height = height;
  end = terminals.TextEnd;
  inner = inner;
}
