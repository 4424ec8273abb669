-- The grammar as a table: the symbols of each production, and where it may stand. tools/grammar_tables.py writes it from outline.grammar.
use Rattle.std.specs.Prelude.{ℕ, Bool, true, false, List, [], ◌∷◌, map}
use Rattle.grammar.specs.declared.language.Symbol.{Symbol}
use Rattle.grammar.specs.declared.language.Symbol.TheVariants.{Terminal, Nonterminal}
use Rattle.grammar.specs.Rows.{flat, starts_of}
use Rattle.grammar_example.specs.declared.table.Terminal.{Terminal as ATerminal}
use Rattle.grammar_example.specs.declared.table.Terminal.TheVariants as terminals
use Rattle.grammar_example.specs.declared.table.Nonterminal.{Nonterminal as ANonterminal}
use Rattle.grammar_example.specs.declared.table.Nonterminal.TheVariants as nonterminals
use Rattle.grammar_example.specs.declared.table.Production.{Production as AProduction}
use Rattle.grammar_example.specs.declared.table.Production.TheVariants as productions

abbrev pub symbols : AProduction → List (Symbol ATerminal ANonterminal)
symbols productions.Whole = Nonterminal nonterminals.Items ∷ Terminal terminals.TextEnd ∷ []
symbols productions.Line = Terminal terminals.LineEnd ∷ Nonterminal nonterminals.Items ∷ []
symbols productions.More = Nonterminal nonterminals.Item ∷ Nonterminal nonterminals.Items ∷ []
symbols productions.Done = []
symbols productions.Braces = Terminal terminals.OpenBrace ∷ Nonterminal nonterminals.Items ∷ Terminal terminals.CloseBrace ∷ []
symbols productions.Choice = Terminal terminals.Then ∷ Nonterminal nonterminals.Item ∷ Nonterminal nonterminals.ElsePart ∷ []
symbols productions.Single = Terminal terminals.Name ∷ Nonterminal nonterminals.Stop ∷ []
symbols productions.Otherwise = Terminal terminals.Else ∷ Nonterminal nonterminals.Item ∷ []
symbols productions.Nothing = []
symbols productions.StopLine = Terminal terminals.LineEnd ∷ []
symbols productions.StopSign = Terminal terminals.Semicolon ∷ []
symbols productions.StopNone = []

abbrev pub nonterminal_of : AProduction → ANonterminal
nonterminal_of productions.Whole = nonterminals.Outline
nonterminal_of productions.Line = nonterminals.Items
nonterminal_of productions.More = nonterminals.Items
nonterminal_of productions.Done = nonterminals.Items
nonterminal_of productions.Braces = nonterminals.Item
nonterminal_of productions.Choice = nonterminals.Item
nonterminal_of productions.Single = nonterminals.Item
nonterminal_of productions.Otherwise = nonterminals.ElsePart
nonterminal_of productions.Nothing = nonterminals.ElsePart
nonterminal_of productions.StopLine = nonterminals.Stop
nonterminal_of productions.StopSign = nonterminals.Stop
nonterminal_of productions.StopNone = nonterminals.Stop

-- where a production may stand
abbrev pub allows : AProduction → ATerminal → Bool
allows productions.Nothing terminals.Else = false
allows productions.Nothing _ = true
allows productions.StopNone terminals.CloseBrace = true
allows productions.StopNone terminals.TextEnd = true
allows productions.StopNone _ = false
allows _ _ = true

abbrev pub all_productions : List AProduction
all_productions = productions.Whole ∷ productions.Line ∷ productions.More ∷ productions.Done ∷ productions.Braces ∷ productions.Choice ∷ productions.Single ∷ productions.Otherwise ∷ productions.Nothing ∷ productions.StopLine ∷ productions.StopSign ∷ productions.StopNone ∷ []

-- the symbols of all productions behind one another, and where each begins
abbrev pub all_symbols : List (Symbol ATerminal ANonterminal)
all_symbols = flat (map symbols all_productions)

abbrev pub symbol_starts : List ℕ
symbol_starts = starts_of 0 (map symbols all_productions)
