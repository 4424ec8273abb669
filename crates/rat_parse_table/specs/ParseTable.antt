-- The parse table: the production of each nonterminal at each terminal. tools/grammar_tables.py writes it from ratfor.grammar.
use Rattle.std.specs.Prelude.{ℕ, Option, Some, None, List, [], ◌∷◌, map}
use denote.Enum.Bare.{sameb}
use Rattle.grammar.specs.Rows.{found, flat, starts_of}
use Rattle.rat_parse_table.specs.contracts.table.Terminal.{the_type as terminal_type}
use Rattle.rat_parse_table.specs.declared.table.Terminal.{Terminal}
use Rattle.rat_parse_table.specs.declared.table.Terminal.TheVariants as terminals
use Rattle.rat_parse_table.specs.declared.table.Nonterminal.{Nonterminal}
use Rattle.rat_parse_table.specs.declared.table.Nonterminal.TheVariants as nonterminals
use Rattle.rat_parse_table.specs.declared.table.Production.{Production}
use Rattle.rat_parse_table.specs.declared.table.Production.TheVariants as productions

abbrev pub entries : Nonterminal → List (Terminal × Production)
entries nonterminals.Program = (terminals.Name, productions.Whole) ∷ (terminals.FieldWord, productions.Whole) ∷ (terminals.Octal, productions.Whole) ∷ (terminals.Number, productions.Whole) ∷ (terminals.OpenBrace, productions.Whole) ∷ (terminals.Semicolon, productions.Whole) ∷ (terminals.LineEnd, productions.Whole) ∷ (terminals.TextEnd, productions.Whole) ∷ (terminals.Subroutine, productions.Whole) ∷ (terminals.Function, productions.Whole) ∷ (terminals.Block, productions.Whole) ∷ (terminals.Data, productions.Whole) ∷ (terminals.End, productions.Whole) ∷ (terminals.If, productions.Whole) ∷ (terminals.While, productions.Whole) ∷ (terminals.For, productions.Whole) ∷ (terminals.Repeat, productions.Whole) ∷ (terminals.Do, productions.Whole) ∷ (terminals.Switch, productions.Whole) ∷ (terminals.Leave, productions.Whole) ∷ (terminals.Return, productions.Whole) ∷ (terminals.Go, productions.Whole) ∷ (terminals.Goto, productions.Whole) ∷ (terminals.Call, productions.Whole) ∷ (terminals.Continue, productions.Whole) ∷ (terminals.Stop, productions.Whole) ∷ (terminals.Transfer, productions.Whole) ∷ (terminals.Format, productions.Whole) ∷ (terminals.Type, productions.Whole) ∷ (terminals.Double, productions.Whole) ∷ (terminals.Dimension, productions.Whole) ∷ (terminals.Common, productions.Whole) ∷ (terminals.Equivalence, productions.Whole) ∷ []
entries nonterminals.Units = (terminals.Name, productions.MoreUnits) ∷ (terminals.FieldWord, productions.MoreUnits) ∷ (terminals.Octal, productions.MoreUnits) ∷ (terminals.Number, productions.MoreUnits) ∷ (terminals.OpenBrace, productions.MoreUnits) ∷ (terminals.Semicolon, productions.MoreUnits) ∷ (terminals.LineEnd, productions.BlankLine) ∷ (terminals.Subroutine, productions.MoreUnits) ∷ (terminals.Function, productions.MoreUnits) ∷ (terminals.Block, productions.MoreUnits) ∷ (terminals.Data, productions.MoreUnits) ∷ (terminals.End, productions.MoreUnits) ∷ (terminals.If, productions.MoreUnits) ∷ (terminals.While, productions.MoreUnits) ∷ (terminals.For, productions.MoreUnits) ∷ (terminals.Repeat, productions.MoreUnits) ∷ (terminals.Do, productions.MoreUnits) ∷ (terminals.Switch, productions.MoreUnits) ∷ (terminals.Leave, productions.MoreUnits) ∷ (terminals.Return, productions.MoreUnits) ∷ (terminals.Go, productions.MoreUnits) ∷ (terminals.Goto, productions.MoreUnits) ∷ (terminals.Call, productions.MoreUnits) ∷ (terminals.Continue, productions.MoreUnits) ∷ (terminals.Stop, productions.MoreUnits) ∷ (terminals.Transfer, productions.MoreUnits) ∷ (terminals.Format, productions.MoreUnits) ∷ (terminals.Type, productions.MoreUnits) ∷ (terminals.Double, productions.MoreUnits) ∷ (terminals.Dimension, productions.MoreUnits) ∷ (terminals.Common, productions.MoreUnits) ∷ (terminals.Equivalence, productions.MoreUnits) ∷ []
entries nonterminals.Unit = (terminals.Name, productions.OneUnit) ∷ (terminals.FieldWord, productions.OneUnit) ∷ (terminals.Octal, productions.OneUnit) ∷ (terminals.Number, productions.OneUnit) ∷ (terminals.OpenBrace, productions.OneUnit) ∷ (terminals.Semicolon, productions.OneUnit) ∷ (terminals.Subroutine, productions.OneUnit) ∷ (terminals.Function, productions.OneUnit) ∷ (terminals.Block, productions.OneUnit) ∷ (terminals.Data, productions.OneUnit) ∷ (terminals.End, productions.OneUnit) ∷ (terminals.If, productions.OneUnit) ∷ (terminals.While, productions.OneUnit) ∷ (terminals.For, productions.OneUnit) ∷ (terminals.Repeat, productions.OneUnit) ∷ (terminals.Do, productions.OneUnit) ∷ (terminals.Switch, productions.OneUnit) ∷ (terminals.Leave, productions.OneUnit) ∷ (terminals.Return, productions.OneUnit) ∷ (terminals.Go, productions.OneUnit) ∷ (terminals.Goto, productions.OneUnit) ∷ (terminals.Call, productions.OneUnit) ∷ (terminals.Continue, productions.OneUnit) ∷ (terminals.Stop, productions.OneUnit) ∷ (terminals.Transfer, productions.OneUnit) ∷ (terminals.Format, productions.OneUnit) ∷ (terminals.Type, productions.OneUnit) ∷ (terminals.Double, productions.OneUnit) ∷ (terminals.Dimension, productions.OneUnit) ∷ (terminals.Common, productions.OneUnit) ∷ (terminals.Equivalence, productions.OneUnit) ∷ []
entries nonterminals.UnitText = (terminals.Name, productions.PlainMain) ∷ (terminals.FieldWord, productions.PlainMain) ∷ (terminals.Octal, productions.MarkedMain) ∷ (terminals.Number, productions.MarkedMain) ∷ (terminals.OpenBrace, productions.PlainMain) ∷ (terminals.Semicolon, productions.PlainMain) ∷ (terminals.Subroutine, productions.HeadedUnit) ∷ (terminals.Function, productions.HeadedUnit) ∷ (terminals.Block, productions.HeadedUnit) ∷ (terminals.Data, productions.PlainMain) ∷ (terminals.End, productions.EmptyMain) ∷ (terminals.If, productions.PlainMain) ∷ (terminals.While, productions.PlainMain) ∷ (terminals.For, productions.PlainMain) ∷ (terminals.Repeat, productions.PlainMain) ∷ (terminals.Do, productions.PlainMain) ∷ (terminals.Switch, productions.PlainMain) ∷ (terminals.Leave, productions.PlainMain) ∷ (terminals.Return, productions.PlainMain) ∷ (terminals.Go, productions.PlainMain) ∷ (terminals.Goto, productions.PlainMain) ∷ (terminals.Call, productions.PlainMain) ∷ (terminals.Continue, productions.PlainMain) ∷ (terminals.Stop, productions.PlainMain) ∷ (terminals.Transfer, productions.PlainMain) ∷ (terminals.Format, productions.PlainMain) ∷ (terminals.Type, productions.TypedUnit) ∷ (terminals.Double, productions.TypedUnit) ∷ (terminals.Dimension, productions.PlainMain) ∷ (terminals.Common, productions.PlainMain) ∷ (terminals.Equivalence, productions.PlainMain) ∷ []
entries nonterminals.Header = (terminals.Subroutine, productions.SubroutineHeader) ∷ (terminals.Function, productions.FunctionHeader) ∷ (terminals.Block, productions.BlockHeader) ∷ []
entries nonterminals.TypedStart = (terminals.Name, productions.TypedMain) ∷ (terminals.FieldWord, productions.TypedMain) ∷ (terminals.Function, productions.TypedFunction) ∷ []
entries nonterminals.TypeWord = (terminals.Type, productions.OneWord) ∷ (terminals.Double, productions.TwoWords) ∷ []
entries nonterminals.Formals = (terminals.Open, productions.SomeFormals) ∷ []
entries nonterminals.FormalList = (terminals.Open, productions.FormalList) ∷ []
entries nonterminals.FormalMore = (terminals.Comma, productions.MoreFormal) ∷ []
entries nonterminals.Body = (terminals.Name, productions.BodyMore) ∷ (terminals.FieldWord, productions.BodyMore) ∷ (terminals.Octal, productions.BodyMore) ∷ (terminals.Number, productions.BodyMore) ∷ (terminals.OpenBrace, productions.BodyMore) ∷ (terminals.Semicolon, productions.BodyMore) ∷ (terminals.LineEnd, productions.BodyLine) ∷ (terminals.Data, productions.BodyMore) ∷ (terminals.End, productions.BodyEnd) ∷ (terminals.If, productions.BodyMore) ∷ (terminals.While, productions.BodyMore) ∷ (terminals.For, productions.BodyMore) ∷ (terminals.Repeat, productions.BodyMore) ∷ (terminals.Do, productions.BodyMore) ∷ (terminals.Switch, productions.BodyMore) ∷ (terminals.Leave, productions.BodyMore) ∷ (terminals.Return, productions.BodyMore) ∷ (terminals.Go, productions.BodyMore) ∷ (terminals.Goto, productions.BodyMore) ∷ (terminals.Call, productions.BodyMore) ∷ (terminals.Continue, productions.BodyMore) ∷ (terminals.Stop, productions.BodyMore) ∷ (terminals.Transfer, productions.BodyMore) ∷ (terminals.Format, productions.BodyMore) ∷ (terminals.Type, productions.BodyMore) ∷ (terminals.Double, productions.BodyMore) ∷ (terminals.Dimension, productions.BodyMore) ∷ (terminals.Common, productions.BodyMore) ∷ (terminals.Equivalence, productions.BodyMore) ∷ []
entries nonterminals.Ending = (terminals.CloseBrace, productions.NoEnding) ∷ (terminals.Semicolon, productions.EndingSign) ∷ (terminals.LineEnd, productions.EndingLine) ∷ (terminals.TextEnd, productions.NoEnding) ∷ []
entries nonterminals.Statement = (terminals.Name, productions.StatementItem) ∷ (terminals.FieldWord, productions.StatementItem) ∷ (terminals.Octal, productions.StatementItem) ∷ (terminals.Number, productions.StatementItem) ∷ (terminals.OpenBrace, productions.StatementItem) ∷ (terminals.Semicolon, productions.StatementItem) ∷ (terminals.LineEnd, productions.StatementLine) ∷ (terminals.Data, productions.StatementItem) ∷ (terminals.If, productions.StatementItem) ∷ (terminals.While, productions.StatementItem) ∷ (terminals.For, productions.StatementItem) ∷ (terminals.Repeat, productions.StatementItem) ∷ (terminals.Do, productions.StatementItem) ∷ (terminals.Switch, productions.StatementItem) ∷ (terminals.Leave, productions.StatementItem) ∷ (terminals.Return, productions.StatementItem) ∷ (terminals.Go, productions.StatementItem) ∷ (terminals.Goto, productions.StatementItem) ∷ (terminals.Call, productions.StatementItem) ∷ (terminals.Continue, productions.StatementItem) ∷ (terminals.Stop, productions.StatementItem) ∷ (terminals.Transfer, productions.StatementItem) ∷ (terminals.Format, productions.StatementItem) ∷ (terminals.Type, productions.StatementItem) ∷ (terminals.Double, productions.StatementItem) ∷ (terminals.Dimension, productions.StatementItem) ∷ (terminals.Common, productions.StatementItem) ∷ (terminals.Equivalence, productions.StatementItem) ∷ []
entries nonterminals.Statements = (terminals.Name, productions.StatementsMore) ∷ (terminals.FieldWord, productions.StatementsMore) ∷ (terminals.Octal, productions.StatementsMore) ∷ (terminals.Number, productions.StatementsMore) ∷ (terminals.OpenBrace, productions.StatementsMore) ∷ (terminals.Semicolon, productions.StatementsMore) ∷ (terminals.LineEnd, productions.StatementsLine) ∷ (terminals.Data, productions.StatementsMore) ∷ (terminals.If, productions.StatementsMore) ∷ (terminals.While, productions.StatementsMore) ∷ (terminals.For, productions.StatementsMore) ∷ (terminals.Repeat, productions.StatementsMore) ∷ (terminals.Do, productions.StatementsMore) ∷ (terminals.Switch, productions.StatementsMore) ∷ (terminals.Leave, productions.StatementsMore) ∷ (terminals.Return, productions.StatementsMore) ∷ (terminals.Go, productions.StatementsMore) ∷ (terminals.Goto, productions.StatementsMore) ∷ (terminals.Call, productions.StatementsMore) ∷ (terminals.Continue, productions.StatementsMore) ∷ (terminals.Stop, productions.StatementsMore) ∷ (terminals.Transfer, productions.StatementsMore) ∷ (terminals.Format, productions.StatementsMore) ∷ (terminals.Type, productions.StatementsMore) ∷ (terminals.Double, productions.StatementsMore) ∷ (terminals.Dimension, productions.StatementsMore) ∷ (terminals.Common, productions.StatementsMore) ∷ (terminals.Equivalence, productions.StatementsMore) ∷ []
entries nonterminals.Item = (terminals.Name, productions.Unmarked) ∷ (terminals.FieldWord, productions.Unmarked) ∷ (terminals.Octal, productions.Marked) ∷ (terminals.Number, productions.Marked) ∷ (terminals.OpenBrace, productions.Unmarked) ∷ (terminals.Semicolon, productions.Unmarked) ∷ (terminals.Data, productions.Unmarked) ∷ (terminals.If, productions.Unmarked) ∷ (terminals.While, productions.Unmarked) ∷ (terminals.For, productions.Unmarked) ∷ (terminals.Repeat, productions.Unmarked) ∷ (terminals.Do, productions.Unmarked) ∷ (terminals.Switch, productions.Unmarked) ∷ (terminals.Leave, productions.Unmarked) ∷ (terminals.Return, productions.Unmarked) ∷ (terminals.Go, productions.Unmarked) ∷ (terminals.Goto, productions.Unmarked) ∷ (terminals.Call, productions.Unmarked) ∷ (terminals.Continue, productions.Unmarked) ∷ (terminals.Stop, productions.Unmarked) ∷ (terminals.Transfer, productions.Unmarked) ∷ (terminals.Format, productions.Unmarked) ∷ (terminals.Type, productions.Unmarked) ∷ (terminals.Double, productions.Unmarked) ∷ (terminals.Dimension, productions.Unmarked) ∷ (terminals.Common, productions.Unmarked) ∷ (terminals.Equivalence, productions.Unmarked) ∷ []
entries nonterminals.Bare = (terminals.Name, productions.UntypedBare) ∷ (terminals.FieldWord, productions.UntypedBare) ∷ (terminals.OpenBrace, productions.UntypedBare) ∷ (terminals.Semicolon, productions.UntypedBare) ∷ (terminals.Data, productions.UntypedBare) ∷ (terminals.If, productions.UntypedBare) ∷ (terminals.While, productions.UntypedBare) ∷ (terminals.For, productions.UntypedBare) ∷ (terminals.Repeat, productions.UntypedBare) ∷ (terminals.Do, productions.UntypedBare) ∷ (terminals.Switch, productions.UntypedBare) ∷ (terminals.Leave, productions.UntypedBare) ∷ (terminals.Return, productions.UntypedBare) ∷ (terminals.Go, productions.UntypedBare) ∷ (terminals.Goto, productions.UntypedBare) ∷ (terminals.Call, productions.UntypedBare) ∷ (terminals.Continue, productions.UntypedBare) ∷ (terminals.Stop, productions.UntypedBare) ∷ (terminals.Transfer, productions.UntypedBare) ∷ (terminals.Format, productions.UntypedBare) ∷ (terminals.Type, productions.TypedBare) ∷ (terminals.Double, productions.TypedBare) ∷ (terminals.Dimension, productions.UntypedBare) ∷ (terminals.Common, productions.UntypedBare) ∷ (terminals.Equivalence, productions.UntypedBare) ∷ []
entries nonterminals.Untyped = (terminals.Name, productions.PlainStatement) ∷ (terminals.FieldWord, productions.PlainStatement) ∷ (terminals.OpenBrace, productions.Braces) ∷ (terminals.Semicolon, productions.Empty) ∷ (terminals.Data, productions.PlainStatement) ∷ (terminals.If, productions.IfStatement) ∷ (terminals.While, productions.WhileStatement) ∷ (terminals.For, productions.ForStatement) ∷ (terminals.Repeat, productions.RepeatStatement) ∷ (terminals.Do, productions.DoStatement) ∷ (terminals.Switch, productions.SwitchStatement) ∷ (terminals.Leave, productions.LeaveStatement) ∷ (terminals.Return, productions.ReturnStatement) ∷ (terminals.Go, productions.PlainStatement) ∷ (terminals.Goto, productions.PlainStatement) ∷ (terminals.Call, productions.PlainStatement) ∷ (terminals.Continue, productions.PlainStatement) ∷ (terminals.Stop, productions.PlainStatement) ∷ (terminals.Transfer, productions.PlainStatement) ∷ (terminals.Format, productions.PlainStatement) ∷ (terminals.Dimension, productions.PlainStatement) ∷ (terminals.Common, productions.PlainStatement) ∷ (terminals.Equivalence, productions.PlainStatement) ∷ []
entries nonterminals.Condition = (terminals.Open, productions.Condition) ∷ []
entries nonterminals.ElsePart = (terminals.Name, productions.NoElse) ∷ (terminals.FieldWord, productions.NoElse) ∷ (terminals.Octal, productions.NoElse) ∷ (terminals.Number, productions.NoElse) ∷ (terminals.OpenBrace, productions.NoElse) ∷ (terminals.CloseBrace, productions.NoElse) ∷ (terminals.Semicolon, productions.NoElse) ∷ (terminals.LineEnd, productions.ElseLine) ∷ (terminals.Data, productions.NoElse) ∷ (terminals.End, productions.NoElse) ∷ (terminals.If, productions.NoElse) ∷ (terminals.Else, productions.ElseBody) ∷ (terminals.While, productions.NoElse) ∷ (terminals.For, productions.NoElse) ∷ (terminals.Repeat, productions.NoElse) ∷ (terminals.Until, productions.NoElse) ∷ (terminals.Do, productions.NoElse) ∷ (terminals.Switch, productions.NoElse) ∷ (terminals.Case, productions.NoElse) ∷ (terminals.Default, productions.NoElse) ∷ (terminals.Leave, productions.NoElse) ∷ (terminals.Return, productions.NoElse) ∷ (terminals.Go, productions.NoElse) ∷ (terminals.Goto, productions.NoElse) ∷ (terminals.Call, productions.NoElse) ∷ (terminals.Continue, productions.NoElse) ∷ (terminals.Stop, productions.NoElse) ∷ (terminals.Transfer, productions.NoElse) ∷ (terminals.Format, productions.NoElse) ∷ (terminals.Type, productions.NoElse) ∷ (terminals.Double, productions.NoElse) ∷ (terminals.Dimension, productions.NoElse) ∷ (terminals.Common, productions.NoElse) ∷ (terminals.Equivalence, productions.NoElse) ∷ []
entries nonterminals.UntilPart = (terminals.Name, productions.NoUntil) ∷ (terminals.FieldWord, productions.NoUntil) ∷ (terminals.Octal, productions.NoUntil) ∷ (terminals.Number, productions.NoUntil) ∷ (terminals.OpenBrace, productions.NoUntil) ∷ (terminals.CloseBrace, productions.NoUntil) ∷ (terminals.Semicolon, productions.NoUntil) ∷ (terminals.LineEnd, productions.UntilLine) ∷ (terminals.Data, productions.NoUntil) ∷ (terminals.End, productions.NoUntil) ∷ (terminals.If, productions.NoUntil) ∷ (terminals.Else, productions.NoUntil) ∷ (terminals.While, productions.NoUntil) ∷ (terminals.For, productions.NoUntil) ∷ (terminals.Repeat, productions.NoUntil) ∷ (terminals.Until, productions.UntilTest) ∷ (terminals.Do, productions.NoUntil) ∷ (terminals.Switch, productions.NoUntil) ∷ (terminals.Case, productions.NoUntil) ∷ (terminals.Default, productions.NoUntil) ∷ (terminals.Leave, productions.NoUntil) ∷ (terminals.Return, productions.NoUntil) ∷ (terminals.Go, productions.NoUntil) ∷ (terminals.Goto, productions.NoUntil) ∷ (terminals.Call, productions.NoUntil) ∷ (terminals.Continue, productions.NoUntil) ∷ (terminals.Stop, productions.NoUntil) ∷ (terminals.Transfer, productions.NoUntil) ∷ (terminals.Format, productions.NoUntil) ∷ (terminals.Type, productions.NoUntil) ∷ (terminals.Double, productions.NoUntil) ∷ (terminals.Dimension, productions.NoUntil) ∷ (terminals.Common, productions.NoUntil) ∷ (terminals.Equivalence, productions.NoUntil) ∷ []
entries nonterminals.Part = (terminals.Name, productions.SomePart) ∷ (terminals.FieldWord, productions.SomePart) ∷ (terminals.Call, productions.SomePart) ∷ []
entries nonterminals.Test = (terminals.Name, productions.SomeTest) ∷ (terminals.FieldWord, productions.SomeTest) ∷ (terminals.Octal, productions.SomeTest) ∷ (terminals.Number, productions.SomeTest) ∷ (terminals.Adding, productions.SomeTest) ∷ (terminals.Open, productions.SomeTest) ∷ (terminals.Not, productions.SomeTest) ∷ (terminals.Truth, productions.SomeTest) ∷ []
entries nonterminals.Count = (terminals.Octal, productions.SomeCount) ∷ (terminals.Number, productions.SomeCount) ∷ []
entries nonterminals.Outcome = (terminals.Open, productions.SomeOutcome) ∷ []
entries nonterminals.Lines = (terminals.LineEnd, productions.OneLine) ∷ []
entries nonterminals.Clauses = (terminals.Case, productions.MoreClauses) ∷ (terminals.Default, productions.MoreClauses) ∷ []
entries nonterminals.Clause = (terminals.Case, productions.CaseClause) ∷ (terminals.Default, productions.DefaultClause) ∷ []
entries nonterminals.Plain = (terminals.Name, productions.SimplePlain) ∷ (terminals.FieldWord, productions.SimplePlain) ∷ (terminals.Data, productions.DataPlain) ∷ (terminals.Go, productions.GoPlain) ∷ (terminals.Goto, productions.GoPlain) ∷ (terminals.Call, productions.SimplePlain) ∷ (terminals.Continue, productions.ContinuePlain) ∷ (terminals.Stop, productions.StopPlain) ∷ (terminals.Transfer, productions.TransferPlain) ∷ (terminals.Format, productions.FormatPlain) ∷ (terminals.Dimension, productions.DimensionPlain) ∷ (terminals.Common, productions.CommonPlain) ∷ (terminals.Equivalence, productions.EquivalencePlain) ∷ []
entries nonterminals.Simple = (terminals.Name, productions.Assignment) ∷ (terminals.FieldWord, productions.Assignment) ∷ (terminals.Call, productions.Invocation) ∷ []
entries nonterminals.GoWords = (terminals.Go, productions.GoToWords) ∷ (terminals.Goto, productions.GotoWord) ∷ []
entries nonterminals.Target = (terminals.Octal, productions.OneTarget) ∷ (terminals.Number, productions.OneTarget) ∷ (terminals.Open, productions.ComputedTarget) ∷ []
entries nonterminals.NumberMore = (terminals.Comma, productions.MoreNumber) ∷ []
entries nonterminals.StopNumber = (terminals.Octal, productions.OctalStop) ∷ []
entries nonterminals.Actuals = (terminals.Open, productions.SomeActuals) ∷ []
entries nonterminals.Actual = (terminals.Name, productions.ExprActual) ∷ (terminals.FieldWord, productions.ExprActual) ∷ (terminals.Octal, productions.ExprActual) ∷ (terminals.Number, productions.ExprActual) ∷ (terminals.Letter, productions.LetterActual) ∷ (terminals.Adding, productions.ExprActual) ∷ (terminals.Open, productions.ExprActual) ∷ (terminals.Not, productions.ExprActual) ∷ (terminals.Truth, productions.ExprActual) ∷ []
entries nonterminals.ActualMore = (terminals.Comma, productions.MoreActual) ∷ []
entries nonterminals.Par = (terminals.Name, productions.NamePar) ∷ (terminals.FieldWord, productions.NamePar) ∷ (terminals.Octal, productions.NumberPar) ∷ (terminals.Number, productions.NumberPar) ∷ []
entries nonterminals.Range = (terminals.Name, productions.Range) ∷ (terminals.FieldWord, productions.Range) ∷ (terminals.Octal, productions.Range) ∷ (terminals.Number, productions.Range) ∷ []
entries nonterminals.StepPart = (terminals.Comma, productions.SomeStep) ∷ []
entries nonterminals.Entries = (terminals.Name, productions.SomeEntries) ∷ (terminals.FieldWord, productions.SomeEntries) ∷ (terminals.Open, productions.SomeEntries) ∷ []
entries nonterminals.Entry = (terminals.Name, productions.ItemEntry) ∷ (terminals.FieldWord, productions.ItemEntry) ∷ (terminals.Open, productions.LoopEntry) ∷ []
entries nonterminals.EntryMore = (terminals.Comma, productions.MoreEntry) ∷ []
entries nonterminals.Loop = (terminals.Open, productions.Loop) ∷ []
entries nonterminals.LoopRest = (terminals.Name, productions.LoopName) ∷ (terminals.FieldWord, productions.LoopName) ∷ (terminals.Open, productions.LoopLoop) ∷ []
entries nonterminals.NameRest = (terminals.Open, productions.LoopElement) ∷ (terminals.Comma, productions.LoopScalar) ∷ (terminals.Assign, productions.LoopRange) ∷ []
entries nonterminals.Element = (terminals.Open, productions.Element) ∷ []
entries nonterminals.DeclaredList = (terminals.Name, productions.DeclaredList) ∷ (terminals.FieldWord, productions.DeclaredList) ∷ []
entries nonterminals.DeclaredMore = (terminals.Comma, productions.MoreDeclared) ∷ []
entries nonterminals.Declared = (terminals.Name, productions.Declared) ∷ (terminals.FieldWord, productions.Declared) ∷ []
entries nonterminals.Sizes = (terminals.Open, productions.SomeSizes) ∷ []
entries nonterminals.ParMore = (terminals.Comma, productions.MorePar) ∷ []
entries nonterminals.FirstArea = (terminals.Name, productions.BlankFirst) ∷ (terminals.FieldWord, productions.BlankFirst) ∷ (terminals.Slash, productions.NamedFirst) ∷ []
entries nonterminals.Area = (terminals.Slash, productions.Area) ∷ []
entries nonterminals.AreaName = (terminals.Name, productions.SomeArea) ∷ (terminals.FieldWord, productions.SomeArea) ∷ []
entries nonterminals.AreaMore = (terminals.Slash, productions.MoreArea) ∷ []
entries nonterminals.Alias = (terminals.Open, productions.Alias) ∷ []
entries nonterminals.AliasMore = (terminals.Comma, productions.MoreAlias) ∷ []
entries nonterminals.RefMore = (terminals.Comma, productions.MoreRef) ∷ []
entries nonterminals.Preset = (terminals.Name, productions.Preset) ∷ (terminals.FieldWord, productions.Preset) ∷ []
entries nonterminals.PresetMore = (terminals.Comma, productions.MorePreset) ∷ []
entries nonterminals.Datum = (terminals.Octal, productions.NumberDatum) ∷ (terminals.Number, productions.NumberDatum) ∷ (terminals.Letter, productions.OtherDatum) ∷ (terminals.Adding, productions.OtherDatum) ∷ (terminals.Truth, productions.OtherDatum) ∷ []
entries nonterminals.DatumMore = (terminals.Comma, productions.MoreDatum) ∷ []
entries nonterminals.Repetition = (terminals.Star, productions.Repeated) ∷ []
entries nonterminals.Constant = (terminals.Octal, productions.NumberConstant) ∷ (terminals.Number, productions.NumberConstant) ∷ (terminals.Letter, productions.OtherConstant) ∷ (terminals.Adding, productions.OtherConstant) ∷ (terminals.Truth, productions.OtherConstant) ∷ []
entries nonterminals.Unnumbered = (terminals.Letter, productions.LetterConstant) ∷ (terminals.Adding, productions.SignedNumber) ∷ (terminals.Truth, productions.TruthConstant) ∷ []
entries nonterminals.Fields = (terminals.FieldWord, productions.EditFirst) ∷ (terminals.Octal, productions.EditFirst) ∷ (terminals.Number, productions.EditFirst) ∷ (terminals.Letter, productions.EditFirst) ∷ (terminals.Chars, productions.EditFirst) ∷ (terminals.Slash, productions.SlashFirst) ∷ (terminals.Open, productions.EditFirst) ∷ []
entries nonterminals.AfterEdit = (terminals.Slash, productions.EditSlash) ∷ (terminals.Comma, productions.EditComma) ∷ []
entries nonterminals.NextField = (terminals.FieldWord, productions.NextEdit) ∷ (terminals.Octal, productions.NextEdit) ∷ (terminals.Number, productions.NextEdit) ∷ (terminals.Letter, productions.NextEdit) ∷ (terminals.Chars, productions.NextEdit) ∷ (terminals.Slash, productions.NextSlash) ∷ (terminals.Open, productions.NextEdit) ∷ []
entries nonterminals.AfterSlash = (terminals.FieldWord, productions.SlashEdit) ∷ (terminals.Octal, productions.SlashEdit) ∷ (terminals.Number, productions.SlashEdit) ∷ (terminals.Letter, productions.SlashEdit) ∷ (terminals.Chars, productions.SlashEdit) ∷ (terminals.Slash, productions.SlashSlash) ∷ (terminals.Open, productions.SlashEdit) ∷ (terminals.Comma, productions.SlashComma) ∷ []
entries nonterminals.Edit = (terminals.FieldWord, productions.WordEdit) ∷ (terminals.Octal, productions.CountedEdit) ∷ (terminals.Number, productions.CountedEdit) ∷ (terminals.Letter, productions.LetterEdit) ∷ (terminals.Chars, productions.CharsEdit) ∷ (terminals.Open, productions.GroupEdit) ∷ []
entries nonterminals.Counted = (terminals.FieldWord, productions.CountedWord) ∷ (terminals.Open, productions.CountedGroup) ∷ []
entries nonterminals.Expr = (terminals.Name, productions.Expr) ∷ (terminals.FieldWord, productions.Expr) ∷ (terminals.Octal, productions.Expr) ∷ (terminals.Number, productions.Expr) ∷ (terminals.Adding, productions.Expr) ∷ (terminals.Open, productions.Expr) ∷ (terminals.Not, productions.Expr) ∷ (terminals.Truth, productions.Expr) ∷ []
entries nonterminals.OrTail = (terminals.Or, productions.OrMore) ∷ []
entries nonterminals.Conjunction = (terminals.Name, productions.Conjunction) ∷ (terminals.FieldWord, productions.Conjunction) ∷ (terminals.Octal, productions.Conjunction) ∷ (terminals.Number, productions.Conjunction) ∷ (terminals.Adding, productions.Conjunction) ∷ (terminals.Open, productions.Conjunction) ∷ (terminals.Not, productions.Conjunction) ∷ (terminals.Truth, productions.Conjunction) ∷ []
entries nonterminals.AndTail = (terminals.And, productions.AndMore) ∷ []
entries nonterminals.Negation = (terminals.Name, productions.Affirmed) ∷ (terminals.FieldWord, productions.Affirmed) ∷ (terminals.Octal, productions.Affirmed) ∷ (terminals.Number, productions.Affirmed) ∷ (terminals.Adding, productions.Affirmed) ∷ (terminals.Open, productions.Affirmed) ∷ (terminals.Not, productions.Negated) ∷ (terminals.Truth, productions.Affirmed) ∷ []
entries nonterminals.Relational = (terminals.Name, productions.Relational) ∷ (terminals.FieldWord, productions.Relational) ∷ (terminals.Octal, productions.Relational) ∷ (terminals.Number, productions.Relational) ∷ (terminals.Adding, productions.Relational) ∷ (terminals.Open, productions.Relational) ∷ (terminals.Truth, productions.Relational) ∷ []
entries nonterminals.RelationTail = (terminals.Relation, productions.Compared) ∷ []
entries nonterminals.Sum = (terminals.Name, productions.Sum) ∷ (terminals.FieldWord, productions.Sum) ∷ (terminals.Octal, productions.Sum) ∷ (terminals.Number, productions.Sum) ∷ (terminals.Adding, productions.Sum) ∷ (terminals.Open, productions.Sum) ∷ (terminals.Truth, productions.Sum) ∷ []
entries nonterminals.FirstTerm = (terminals.Name, productions.UnsignedTerm) ∷ (terminals.FieldWord, productions.UnsignedTerm) ∷ (terminals.Octal, productions.UnsignedTerm) ∷ (terminals.Number, productions.UnsignedTerm) ∷ (terminals.Adding, productions.SignedTerm) ∷ (terminals.Open, productions.UnsignedTerm) ∷ (terminals.Truth, productions.UnsignedTerm) ∷ []
entries nonterminals.SumTail = (terminals.Adding, productions.SumMore) ∷ []
entries nonterminals.Term = (terminals.Name, productions.Term) ∷ (terminals.FieldWord, productions.Term) ∷ (terminals.Octal, productions.Term) ∷ (terminals.Number, productions.Term) ∷ (terminals.Open, productions.Term) ∷ (terminals.Truth, productions.Term) ∷ []
entries nonterminals.TermTail = (terminals.Star, productions.TimesMore) ∷ (terminals.Slash, productions.OverMore) ∷ []
entries nonterminals.Factor = (terminals.Name, productions.Factor) ∷ (terminals.FieldWord, productions.Factor) ∷ (terminals.Octal, productions.Factor) ∷ (terminals.Number, productions.Factor) ∷ (terminals.Open, productions.Factor) ∷ (terminals.Truth, productions.Factor) ∷ []
entries nonterminals.PowerTail = (terminals.Power, productions.Raised) ∷ []
entries nonterminals.Prime = (terminals.Name, productions.RefPrime) ∷ (terminals.FieldWord, productions.RefPrime) ∷ (terminals.Octal, productions.NumberPrime) ∷ (terminals.Number, productions.NumberPrime) ∷ (terminals.Open, productions.GroupPrime) ∷ (terminals.Truth, productions.TruthPrime) ∷ []
entries nonterminals.Ref = (terminals.Name, productions.Ref) ∷ (terminals.FieldWord, productions.Ref) ∷ []
entries nonterminals.Arguments = (terminals.Open, productions.SomeArguments) ∷ []
entries nonterminals.Subscripts = (terminals.Open, productions.Subscripts) ∷ []
entries nonterminals.ExprMore = (terminals.Comma, productions.MoreExpr) ∷ []
entries nonterminals.AnyName = (terminals.Name, productions.PlainName) ∷ (terminals.FieldWord, productions.FieldName) ∷ []
entries nonterminals.AnyNumber = (terminals.Octal, productions.OctalNumber) ∷ (terminals.Number, productions.DecimalNumber) ∷ []

-- at any terminal that has no entry
abbrev pub rest : Nonterminal → Option Production
rest nonterminals.Units = Some productions.NoUnit
rest nonterminals.Formals = Some productions.NoFormals
rest nonterminals.FormalMore = Some productions.NoMoreFormal
rest nonterminals.Statements = Some productions.StatementsDone
rest nonterminals.Part = Some productions.NoPart
rest nonterminals.Test = Some productions.NoTest
rest nonterminals.Count = Some productions.NoCount
rest nonterminals.Outcome = Some productions.NoOutcome
rest nonterminals.Lines = Some productions.NoLine
rest nonterminals.Clauses = Some productions.NoClause
rest nonterminals.NumberMore = Some productions.NoMoreNumber
rest nonterminals.StopNumber = Some productions.BareStop
rest nonterminals.Actuals = Some productions.NoActuals
rest nonterminals.ActualMore = Some productions.NoMoreActual
rest nonterminals.StepPart = Some productions.NoStep
rest nonterminals.Entries = Some productions.NoEntries
rest nonterminals.EntryMore = Some productions.NoMoreEntry
rest nonterminals.DeclaredMore = Some productions.NoMoreDeclared
rest nonterminals.Sizes = Some productions.NoSizes
rest nonterminals.ParMore = Some productions.NoMorePar
rest nonterminals.AreaName = Some productions.NoArea
rest nonterminals.AreaMore = Some productions.NoMoreArea
rest nonterminals.AliasMore = Some productions.NoMoreAlias
rest nonterminals.RefMore = Some productions.NoMoreRef
rest nonterminals.PresetMore = Some productions.NoMorePreset
rest nonterminals.DatumMore = Some productions.NoMoreDatum
rest nonterminals.Repetition = Some productions.Once
rest nonterminals.Fields = Some productions.NoFields
rest nonterminals.AfterEdit = Some productions.EditDone
rest nonterminals.AfterSlash = Some productions.SlashDone
rest nonterminals.OrTail = Some productions.OrDone
rest nonterminals.AndTail = Some productions.AndDone
rest nonterminals.RelationTail = Some productions.NotCompared
rest nonterminals.SumTail = Some productions.SumDone
rest nonterminals.TermTail = Some productions.TermDone
rest nonterminals.PowerTail = Some productions.NotRaised
rest nonterminals.Arguments = Some productions.NoArguments
rest nonterminals.ExprMore = Some productions.NoMoreExpr
rest _ = None

abbrev pub predict_at : Nonterminal → Terminal → Option Production
predict_at n k = found (sameb terminal_type) k (entries n) (rest n)

abbrev pub all_nonterminals : List Nonterminal
all_nonterminals = nonterminals.Program ∷ nonterminals.Units ∷ nonterminals.Unit ∷ nonterminals.UnitText ∷ nonterminals.Header ∷ nonterminals.TypedStart ∷ nonterminals.TypeWord ∷ nonterminals.Formals ∷ nonterminals.FormalList ∷ nonterminals.FormalMore ∷ nonterminals.Body ∷ nonterminals.Ending ∷ nonterminals.Statement ∷ nonterminals.Statements ∷ nonterminals.Item ∷ nonterminals.Bare ∷ nonterminals.Untyped ∷ nonterminals.Condition ∷ nonterminals.ElsePart ∷ nonterminals.UntilPart ∷ nonterminals.Part ∷ nonterminals.Test ∷ nonterminals.Count ∷ nonterminals.Outcome ∷ nonterminals.Lines ∷ nonterminals.Clauses ∷ nonterminals.Clause ∷ nonterminals.Plain ∷ nonterminals.Simple ∷ nonterminals.GoWords ∷ nonterminals.Target ∷ nonterminals.NumberMore ∷ nonterminals.StopNumber ∷ nonterminals.Actuals ∷ nonterminals.Actual ∷ nonterminals.ActualMore ∷ nonterminals.Par ∷ nonterminals.Range ∷ nonterminals.StepPart ∷ nonterminals.Entries ∷ nonterminals.Entry ∷ nonterminals.EntryMore ∷ nonterminals.Loop ∷ nonterminals.LoopRest ∷ nonterminals.NameRest ∷ nonterminals.Element ∷ nonterminals.DeclaredList ∷ nonterminals.DeclaredMore ∷ nonterminals.Declared ∷ nonterminals.Sizes ∷ nonterminals.ParMore ∷ nonterminals.FirstArea ∷ nonterminals.Area ∷ nonterminals.AreaName ∷ nonterminals.AreaMore ∷ nonterminals.Alias ∷ nonterminals.AliasMore ∷ nonterminals.RefMore ∷ nonterminals.Preset ∷ nonterminals.PresetMore ∷ nonterminals.Datum ∷ nonterminals.DatumMore ∷ nonterminals.Repetition ∷ nonterminals.Constant ∷ nonterminals.Unnumbered ∷ nonterminals.Fields ∷ nonterminals.AfterEdit ∷ nonterminals.NextField ∷ nonterminals.AfterSlash ∷ nonterminals.Edit ∷ nonterminals.Counted ∷ nonterminals.Expr ∷ nonterminals.OrTail ∷ nonterminals.Conjunction ∷ nonterminals.AndTail ∷ nonterminals.Negation ∷ nonterminals.Relational ∷ nonterminals.RelationTail ∷ nonterminals.Sum ∷ nonterminals.FirstTerm ∷ nonterminals.SumTail ∷ nonterminals.Term ∷ nonterminals.TermTail ∷ nonterminals.Factor ∷ nonterminals.PowerTail ∷ nonterminals.Prime ∷ nonterminals.Ref ∷ nonterminals.Arguments ∷ nonterminals.Subscripts ∷ nonterminals.ExprMore ∷ nonterminals.AnyName ∷ nonterminals.AnyNumber ∷ []

-- the entries of all nonterminals behind one another, and where each begins
abbrev pub all_entries : List (Terminal × Production)
all_entries = flat (map entries all_nonterminals)

abbrev pub entry_starts : List ℕ
entry_starts = starts_of 0 (map entries all_nonterminals)

abbrev pub all_rests : List (Option Production)
all_rests = map rest all_nonterminals
