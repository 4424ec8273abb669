-- The parse table: the production of each nonterminal at each terminal. tools/grammar_tables.py writes it from outline.grammar.
use Rattle.std.specs.Prelude.{ℕ, Option, Some, None, List, [], ◌∷◌, map}
use denote.Enum.Bare.{sameb}
use Rattle.grammar.specs.Rows.{found, flat, starts_of}
use Rattle.grammar_example.specs.contracts.table.Terminal.{the_type as terminal_type}
use Rattle.grammar_example.specs.declared.table.Terminal.{Terminal}
use Rattle.grammar_example.specs.declared.table.Terminal.TheVariants as terminals
use Rattle.grammar_example.specs.declared.table.Nonterminal.{Nonterminal}
use Rattle.grammar_example.specs.declared.table.Nonterminal.TheVariants as nonterminals
use Rattle.grammar_example.specs.declared.table.Production.{Production}
use Rattle.grammar_example.specs.declared.table.Production.TheVariants as productions

abbrev pub entries : Nonterminal → List (Terminal × Production)
entries nonterminals.Outline = (terminals.Name, productions.Whole) ∷ (terminals.Then, productions.Whole) ∷ (terminals.OpenBrace, productions.Whole) ∷ (terminals.LineEnd, productions.Whole) ∷ (terminals.TextEnd, productions.Whole) ∷ []
entries nonterminals.Items = (terminals.Name, productions.More) ∷ (terminals.Then, productions.More) ∷ (terminals.OpenBrace, productions.More) ∷ (terminals.LineEnd, productions.Line) ∷ []
entries nonterminals.Item = (terminals.Name, productions.Single) ∷ (terminals.Then, productions.Choice) ∷ (terminals.OpenBrace, productions.Braces) ∷ []
entries nonterminals.ElsePart = (terminals.Name, productions.Nothing) ∷ (terminals.Then, productions.Nothing) ∷ (terminals.Else, productions.Otherwise) ∷ (terminals.OpenBrace, productions.Nothing) ∷ (terminals.CloseBrace, productions.Nothing) ∷ (terminals.LineEnd, productions.Nothing) ∷ (terminals.TextEnd, productions.Nothing) ∷ []
entries nonterminals.Stop = (terminals.CloseBrace, productions.StopNone) ∷ (terminals.Semicolon, productions.StopSign) ∷ (terminals.LineEnd, productions.StopLine) ∷ (terminals.TextEnd, productions.StopNone) ∷ []

-- at any terminal that has no entry
abbrev pub rest : Nonterminal → Option Production
rest nonterminals.Items = Some productions.Done
rest _ = None

abbrev pub predict_at : Nonterminal → Terminal → Option Production
predict_at n k = found (sameb terminal_type) k (entries n) (rest n)

abbrev pub all_nonterminals : List Nonterminal
all_nonterminals = nonterminals.Outline ∷ nonterminals.Items ∷ nonterminals.Item ∷ nonterminals.ElsePart ∷ nonterminals.Stop ∷ []

-- the entries of all nonterminals behind one another, and where each begins
abbrev pub all_entries : List (Terminal × Production)
all_entries = flat (map entries all_nonterminals)

abbrev pub entry_starts : List ℕ
entry_starts = starts_of 0 (map entries all_nonterminals)

abbrev pub all_rests : List (Option Production)
all_rests = map rest all_nonterminals
