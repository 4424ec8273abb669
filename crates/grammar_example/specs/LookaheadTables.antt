-- FIRST and FOLLOW of each nonterminal, and the other tables that show the grammar sound. tools/grammar_tables.py writes it from outline.grammar.
use Rattle.std.specs.Prelude.{ℕ, Bool, true, false, List, [], ◌∷◌}
use Rattle.grammar.specs.Certificate.{Nullable, Never, Before, Always}
use Rattle.grammar_example.specs.declared.table.Terminal.{Terminal}
use Rattle.grammar_example.specs.declared.table.Terminal.TheVariants as terminals
use Rattle.grammar_example.specs.declared.table.Nonterminal.{Nonterminal}
use Rattle.grammar_example.specs.declared.table.Nonterminal.TheVariants as nonterminals
use Rattle.grammar_example.specs.declared.table.Production.{Production}
use Rattle.grammar_example.specs.declared.table.Production.TheVariants as productions

abbrev pub all_terminals : List Terminal
all_terminals = terminals.Name ∷ terminals.Then ∷ terminals.Else ∷ terminals.OpenBrace ∷ terminals.CloseBrace ∷ terminals.Semicolon ∷ terminals.LineEnd ∷ terminals.TextEnd ∷ terminals.Other ∷ []

-- what may begin it
abbrev pub first : Nonterminal → List Terminal
first nonterminals.Items = terminals.Name ∷ terminals.Then ∷ terminals.OpenBrace ∷ terminals.LineEnd ∷ []
first nonterminals.Item = terminals.Name ∷ terminals.Then ∷ terminals.OpenBrace ∷ []
first nonterminals.ElsePart = terminals.Else ∷ []
first nonterminals.Stop = terminals.Semicolon ∷ terminals.LineEnd ∷ []
first _ = terminals.Name ∷ terminals.Then ∷ terminals.OpenBrace ∷ terminals.LineEnd ∷ terminals.TextEnd ∷ []

-- what may follow it
abbrev pub follow : Nonterminal → List Terminal
follow nonterminals.Outline = []
follow nonterminals.Items = terminals.CloseBrace ∷ terminals.TextEnd ∷ []
follow _ = terminals.Name ∷ terminals.Then ∷ terminals.Else ∷ terminals.OpenBrace ∷ terminals.CloseBrace ∷ terminals.LineEnd ∷ terminals.TextEnd ∷ []

-- before which it may be empty
abbrev pub nullable : Nonterminal → Nullable Terminal
nullable nonterminals.Items = Always
nullable nonterminals.ElsePart = Always
nullable nonterminals.Stop = Before (terminals.CloseBrace ∷ terminals.TextEnd ∷ [])
nullable _ = Never

-- more than all that it may begin with
abbrev pub cost : Nonterminal → ℕ
cost nonterminals.Outline = 8
cost nonterminals.Items = 5
cost _ = 3

-- a short text of it
abbrev pub closing : Nonterminal → List Terminal
closing nonterminals.Items = []
closing nonterminals.Item = terminals.OpenBrace ∷ terminals.CloseBrace ∷ []
closing nonterminals.ElsePart = terminals.Else ∷ terminals.OpenBrace ∷ terminals.CloseBrace ∷ []
closing nonterminals.Stop = terminals.LineEnd ∷ []
closing _ = terminals.TextEnd ∷ []

-- the production of that text
abbrev pub shortest : Nonterminal → Production
shortest nonterminals.Items = productions.Done
shortest nonterminals.Item = productions.Braces
shortest nonterminals.ElsePart = productions.Otherwise
shortest nonterminals.Stop = productions.StopLine
shortest _ = productions.Whole

-- how deep that text is
abbrev pub height : Nonterminal → ℕ
height nonterminals.Items = 1
height nonterminals.ElsePart = 3
height nonterminals.Stop = 1
height _ = 2

-- before which terminals that text stands
abbrev pub before : Nonterminal → List Terminal
before nonterminals.Outline = []
before nonterminals.Items = terminals.CloseBrace ∷ terminals.TextEnd ∷ []
before _ = terminals.Else ∷ terminals.CloseBrace ∷ terminals.TextEnd ∷ []

-- whether its texts have no end of the text
abbrev pub inner : Nonterminal → Bool
inner nonterminals.Outline = false
inner _ = true
