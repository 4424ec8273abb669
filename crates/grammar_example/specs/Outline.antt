-- Outlines: their grammar, what their productions make, and their limits.
use Rattle.std.specs.Prelude.{ℕ, ◌-◌, nat_lt, pos, if◌then◌else◌, Some, None, List, [], ◌∷◌, ◌++◌}
use denote.Enum.Bare.{sameb}
use Rattle.ground.specs.declared.token.Token.{Token}
use Rattle.ground.specs.declared.token.TokenKind.{TokenKind}
use Rattle.ground.specs.declared.token.TokenKind.TheVariants as kinds
use Rattle.ground.specs.declared.token.Sign.TheVariants as signs
use Rattle.grammar.specs.declared.language.Event.{Event}
use Rattle.grammar.specs.declared.language.Event.TheVariants.{Open, Take, Close}
use Rattle.grammar.specs.Grammar.{Grammar}
use Rattle.grammar.specs.Limits.{Meter, more}
use Rattle.grammar.specs.Certificate.{Certificate}
use Rattle.grammar_example.specs.declared.table.Terminal.{Terminal}
use Rattle.grammar_example.specs.declared.table.Terminal.TheVariants as terminals
use Rattle.grammar_example.specs.declared.table.Nonterminal.{Nonterminal}
use Rattle.grammar_example.specs.declared.table.Production.{Production}
use Rattle.grammar_example.specs.declared.table.Production.TheVariants as productions
use Rattle.grammar_example.specs.contracts.table.Terminal.{the_type as terminal_type}
use Rattle.grammar_example.specs.contracts.table.Nonterminal.{the_type as nonterminal_type}
use Rattle.grammar_example.specs.contracts.table.Production.{the_type as production_type}
use Rattle.grammar_example.specs.declared.outline.Counts.{Counts}
use Rattle.grammar_example.specs.Table.{symbols, nonterminal_of, allows}
use Rattle.grammar_example.specs.ParseTable.{predict_at}
use Rattle.grammar_example.specs.LookaheadTables.{all_terminals, first, follow, nullable, cost, closing, shortest, height, before, inner}

abbrev pub seen_kind : TokenKind → Terminal
seen_kind (kinds.Word w) = terminals.Name
seen_kind (kinds.Sign signs.Gt) = terminals.Then
seen_kind (kinds.Sign signs.Colon) = terminals.Else
seen_kind (kinds.Sign signs.OpenBrace) = terminals.OpenBrace
seen_kind (kinds.Sign signs.CloseBrace) = terminals.CloseBrace
seen_kind kinds.Semicolon = terminals.Semicolon
seen_kind kinds.LineEnd = terminals.LineEnd
seen_kind kinds.TextEnd = terminals.TextEnd
seen_kind _ = terminals.Other

abbrev pub seen : Token → Terminal
seen t = seen_kind t.kind

abbrev pub kind_text : TokenKind → List ℕ
kind_text (kinds.Word w) = w
kind_text _ = []

abbrev pub text_of : List ℕ → List ℕ
text_of text = text

-- The texts one behind the other; they come the last first.
abbrev pub joined : List (List ℕ) → List ℕ
joined [] = []
joined (v ∷ vs) = joined vs ++ v

abbrev pub written : Production → List (List ℕ) → List ℕ
written productions.Choice vs = (40 ∷ joined vs) ++ 41 ∷ []
written _ vs = joined vs

-- the grammar, whatever it makes of a token and of a production
abbrev pub grammar_with : {V : Type 0} → (Token → V) → (Production → List V → V) → Grammar Token Terminal Nonterminal Production V
grammar_with value build = record {
  terminal_of = seen;
  symbols = symbols;
  nonterminal_of = nonterminal_of;
  allows = allows;
  start = productions.Whole;
  value = value;
  build = build;
}

abbrev pub token_text : Token → List ℕ
token_text t = kind_text t.kind

abbrev pub grammar : Grammar Token Terminal Nonterminal Production (List ℕ)
grammar = grammar_with token_text written

-- Braces and choices nest at most three deep, and there are at most five names.
abbrev pub next : Event Terminal Production → Counts → Counts
next (Open productions.Braces) m = record m { nesting = more m.nesting }
next (Open productions.Choice) m = record m { nesting = more m.nesting }
next (Close productions.Braces) m = record m { nesting = m.nesting - 1 }
next (Close productions.Choice) m = record m { nesting = m.nesting - 1 }
next (Take terminals.Name) m = record m { names = more m.names }
next _ m = m

abbrev pub meter : Meter Terminal Production Counts
meter = record {
  first = record { nesting = 0; names = 0 };
  next = next;
  passed = λ m. if nat_lt 3 m.nesting then Some 3 else (if nat_lt 5 m.names then Some 5 else None);
}

abbrev pub example_kind : Terminal → TokenKind
example_kind terminals.Name = kinds.Word (97 ∷ [])
example_kind terminals.Then = kinds.Sign signs.Gt
example_kind terminals.Else = kinds.Sign signs.Colon
example_kind terminals.OpenBrace = kinds.Sign signs.OpenBrace
example_kind terminals.CloseBrace = kinds.Sign signs.CloseBrace
example_kind terminals.Semicolon = kinds.Semicolon
example_kind terminals.LineEnd = kinds.LineEnd
example_kind terminals.TextEnd = kinds.TextEnd
example_kind terminals.Other = kinds.Number (pos 1)

abbrev pub certificate : Certificate Token Terminal Nonterminal Production
certificate = record {
  same_terminal = sameb terminal_type;
  same_nonterminal = sameb nonterminal_type;
  same_production = sameb production_type;
  terminals = all_terminals;
  predict = predict_at;
  first = first;
  follow = follow;
  nullable = nullable;
  cost = cost;
  example = λ k. record { kind = example_kind k; place = record { file = 0; line = 1 } };
  shortest = shortest;
  closing = closing;
  before = before;
  height = height;
  end = terminals.TextEnd;
  inner = inner;
}
