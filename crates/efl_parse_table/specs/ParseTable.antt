-- The parse table: the production of each nonterminal at each terminal. tools/grammar_tables.py writes it from efl.grammar.
use Rattle.std.specs.Prelude.{ℕ, Option, Some, None, List, [], ◌∷◌, map}
use denote.Enum.Bare.{sameb}
use Rattle.grammar.specs.Rows.{found, flat, starts_of}
use Rattle.efl_parse_table.specs.contracts.table.Terminal.{the_type as terminal_type}
use Rattle.efl_parse_table.specs.declared.table.Terminal.{Terminal}
use Rattle.efl_parse_table.specs.declared.table.Terminal.TheVariants as terminals
use Rattle.efl_parse_table.specs.declared.table.Nonterminal.{Nonterminal}
use Rattle.efl_parse_table.specs.declared.table.Nonterminal.TheVariants as nonterminals
use Rattle.efl_parse_table.specs.declared.table.Production.{Production}
use Rattle.efl_parse_table.specs.declared.table.Production.TheVariants as productions

abbrev pub entries : Nonterminal → List (Terminal × Production)
entries nonterminals.Program = (terminals.Name, productions.Whole) ∷ (terminals.Letter, productions.Whole) ∷ (terminals.WidthLetter, productions.Whole) ∷ (terminals.CharLetter, productions.Whole) ∷ (terminals.SkipLetter, productions.Whole) ∷ (terminals.LineEnd, productions.Whole) ∷ (terminals.TextEnd, productions.Whole) ∷ (terminals.Procedure, productions.Whole) ∷ (terminals.Struct, productions.Whole) ∷ (terminals.Plain, productions.Whole) ∷ (terminals.Long, productions.Whole) ∷ (terminals.Floating, productions.Whole) ∷ []
entries nonterminals.Procedures = (terminals.Name, productions.MoreProcedures) ∷ (terminals.Letter, productions.MoreProcedures) ∷ (terminals.WidthLetter, productions.MoreProcedures) ∷ (terminals.CharLetter, productions.MoreProcedures) ∷ (terminals.SkipLetter, productions.MoreProcedures) ∷ (terminals.LineEnd, productions.BlankLine) ∷ (terminals.Procedure, productions.MoreProcedures) ∷ (terminals.Struct, productions.MoreProcedures) ∷ (terminals.Plain, productions.MoreProcedures) ∷ (terminals.Long, productions.MoreProcedures) ∷ (terminals.Floating, productions.MoreProcedures) ∷ []
entries nonterminals.ProcedureText = (terminals.Name, productions.OneProcedure) ∷ (terminals.Letter, productions.OneProcedure) ∷ (terminals.WidthLetter, productions.OneProcedure) ∷ (terminals.CharLetter, productions.OneProcedure) ∷ (terminals.SkipLetter, productions.OneProcedure) ∷ (terminals.Procedure, productions.OneProcedure) ∷ (terminals.Struct, productions.OneProcedure) ∷ (terminals.Plain, productions.OneProcedure) ∷ (terminals.Long, productions.OneProcedure) ∷ (terminals.Floating, productions.OneProcedure) ∷ []
entries nonterminals.Header = (terminals.Name, productions.TypedHeader) ∷ (terminals.Letter, productions.TypedHeader) ∷ (terminals.WidthLetter, productions.TypedHeader) ∷ (terminals.CharLetter, productions.TypedHeader) ∷ (terminals.SkipLetter, productions.TypedHeader) ∷ (terminals.Procedure, productions.PlainHeader) ∷ (terminals.Struct, productions.TypedHeader) ∷ (terminals.Plain, productions.TypedHeader) ∷ (terminals.Long, productions.TypedHeader) ∷ (terminals.Floating, productions.TypedHeader) ∷ []
entries nonterminals.Heading = (terminals.Name, productions.NamedHeading) ∷ (terminals.Letter, productions.NamedHeading) ∷ (terminals.WidthLetter, productions.NamedHeading) ∷ (terminals.CharLetter, productions.NamedHeading) ∷ (terminals.SkipLetter, productions.NamedHeading) ∷ []
entries nonterminals.Formals = (terminals.Open, productions.SomeFormals) ∷ []
entries nonterminals.FormalNames = (terminals.Name, productions.SomeNames) ∷ (terminals.Letter, productions.SomeNames) ∷ (terminals.WidthLetter, productions.SomeNames) ∷ (terminals.CharLetter, productions.SomeNames) ∷ (terminals.SkipLetter, productions.SomeNames) ∷ []
entries nonterminals.FormalMore = (terminals.Comma, productions.MoreFormal) ∷ []
entries nonterminals.Ending = (terminals.CloseBrace, productions.NoEnding) ∷ (terminals.Semicolon, productions.EndingSign) ∷ (terminals.LineEnd, productions.EndingLine) ∷ (terminals.TextEnd, productions.NoEnding) ∷ []
entries nonterminals.OuterList = (terminals.Name, productions.OuterNamed) ∷ (terminals.Letter, productions.OuterNamed) ∷ (terminals.WidthLetter, productions.OuterNamed) ∷ (terminals.CharLetter, productions.OuterNamed) ∷ (terminals.SkipLetter, productions.OuterNamed) ∷ (terminals.OpenBrace, productions.OuterStatement) ∷ (terminals.Stepper, productions.OuterStatement) ∷ (terminals.Semicolon, productions.OuterStatement) ∷ (terminals.LineEnd, productions.OuterLine) ∷ (terminals.Implicit, productions.OuterImplicit) ∷ (terminals.Initial, productions.OuterDeclaration) ∷ (terminals.Common, productions.OuterCommon) ∷ (terminals.Struct, productions.OuterDeclaration) ∷ (terminals.Plain, productions.OuterDeclaration) ∷ (terminals.Long, productions.OuterDeclaration) ∷ (terminals.Floating, productions.OuterDeclaration) ∷ (terminals.If, productions.OuterStatement) ∷ (terminals.While, productions.OuterStatement) ∷ (terminals.For, productions.OuterStatement) ∷ (terminals.Repeat, productions.OuterStatement) ∷ (terminals.Do, productions.OuterStatement) ∷ (terminals.Switch, productions.OuterStatement) ∷ (terminals.Leave, productions.OuterStatement) ∷ (terminals.Return, productions.OuterStatement) ∷ (terminals.Goto, productions.OuterStatement) ∷ (terminals.Go, productions.OuterStatement) ∷ (terminals.Write, productions.OuterStatement) ∷ (terminals.Read, productions.OuterStatement) ∷ []
entries nonterminals.OuterRest = (terminals.Name, productions.OuterVariables) ∷ (terminals.Letter, productions.OuterVariables) ∷ (terminals.WidthLetter, productions.OuterVariables) ∷ (terminals.CharLetter, productions.OuterVariables) ∷ (terminals.SkipLetter, productions.OuterVariables) ∷ (terminals.Open, productions.OuterItem) ∷ (terminals.Colon, productions.OuterItem) ∷ (terminals.Point, productions.OuterItem) ∷ (terminals.Arrow, productions.OuterItem) ∷ (terminals.Assign, productions.OuterItem) ∷ (terminals.OperatorAssign, productions.OuterItem) ∷ []
entries nonterminals.InnerList = (terminals.Name, productions.InnerNamed) ∷ (terminals.Letter, productions.InnerNamed) ∷ (terminals.WidthLetter, productions.InnerNamed) ∷ (terminals.CharLetter, productions.InnerNamed) ∷ (terminals.SkipLetter, productions.InnerNamed) ∷ (terminals.OpenBrace, productions.InnerStatement) ∷ (terminals.Stepper, productions.InnerStatement) ∷ (terminals.Semicolon, productions.InnerStatement) ∷ (terminals.LineEnd, productions.InnerLine) ∷ (terminals.Initial, productions.InnerDeclaration) ∷ (terminals.Struct, productions.InnerDeclaration) ∷ (terminals.Plain, productions.InnerDeclaration) ∷ (terminals.Long, productions.InnerDeclaration) ∷ (terminals.Floating, productions.InnerDeclaration) ∷ (terminals.If, productions.InnerStatement) ∷ (terminals.While, productions.InnerStatement) ∷ (terminals.For, productions.InnerStatement) ∷ (terminals.Repeat, productions.InnerStatement) ∷ (terminals.Do, productions.InnerStatement) ∷ (terminals.Switch, productions.InnerStatement) ∷ (terminals.Leave, productions.InnerStatement) ∷ (terminals.Return, productions.InnerStatement) ∷ (terminals.Goto, productions.InnerStatement) ∷ (terminals.Go, productions.InnerStatement) ∷ (terminals.Write, productions.InnerStatement) ∷ (terminals.Read, productions.InnerStatement) ∷ []
entries nonterminals.InnerRest = (terminals.Name, productions.InnerVariables) ∷ (terminals.Letter, productions.InnerVariables) ∷ (terminals.WidthLetter, productions.InnerVariables) ∷ (terminals.CharLetter, productions.InnerVariables) ∷ (terminals.SkipLetter, productions.InnerVariables) ∷ (terminals.Open, productions.InnerItem) ∷ (terminals.Colon, productions.InnerItem) ∷ (terminals.Point, productions.InnerItem) ∷ (terminals.Arrow, productions.InnerItem) ∷ (terminals.Assign, productions.InnerItem) ∷ (terminals.OperatorAssign, productions.InnerItem) ∷ []
entries nonterminals.Statements = (terminals.Name, productions.StatementsMore) ∷ (terminals.Letter, productions.StatementsMore) ∷ (terminals.WidthLetter, productions.StatementsMore) ∷ (terminals.CharLetter, productions.StatementsMore) ∷ (terminals.SkipLetter, productions.StatementsMore) ∷ (terminals.OpenBrace, productions.StatementsMore) ∷ (terminals.Stepper, productions.StatementsMore) ∷ (terminals.Semicolon, productions.StatementsMore) ∷ (terminals.LineEnd, productions.StatementsLine) ∷ (terminals.If, productions.StatementsMore) ∷ (terminals.While, productions.StatementsMore) ∷ (terminals.For, productions.StatementsMore) ∷ (terminals.Repeat, productions.StatementsMore) ∷ (terminals.Do, productions.StatementsMore) ∷ (terminals.Switch, productions.StatementsMore) ∷ (terminals.Leave, productions.StatementsMore) ∷ (terminals.Return, productions.StatementsMore) ∷ (terminals.Goto, productions.StatementsMore) ∷ (terminals.Go, productions.StatementsMore) ∷ (terminals.Write, productions.StatementsMore) ∷ (terminals.Read, productions.StatementsMore) ∷ []
entries nonterminals.Listed = (terminals.Name, productions.ListedNamed) ∷ (terminals.Letter, productions.ListedNamed) ∷ (terminals.WidthLetter, productions.ListedNamed) ∷ (terminals.CharLetter, productions.ListedNamed) ∷ (terminals.SkipLetter, productions.ListedNamed) ∷ (terminals.OpenBrace, productions.ListedOther) ∷ (terminals.Stepper, productions.ListedOther) ∷ (terminals.Semicolon, productions.ListedOther) ∷ (terminals.If, productions.ListedOther) ∷ (terminals.While, productions.ListedOther) ∷ (terminals.For, productions.ListedOther) ∷ (terminals.Repeat, productions.ListedOther) ∷ (terminals.Do, productions.ListedOther) ∷ (terminals.Switch, productions.ListedOther) ∷ (terminals.Leave, productions.ListedOther) ∷ (terminals.Return, productions.ListedOther) ∷ (terminals.Goto, productions.ListedOther) ∷ (terminals.Go, productions.ListedOther) ∷ (terminals.Write, productions.ListedOther) ∷ (terminals.Read, productions.ListedOther) ∷ []
entries nonterminals.NamedRest = (terminals.Open, productions.ActRest) ∷ (terminals.Colon, productions.LabelRest) ∷ (terminals.Point, productions.ActRest) ∷ (terminals.Arrow, productions.ActRest) ∷ (terminals.Assign, productions.ActRest) ∷ (terminals.OperatorAssign, productions.ActRest) ∷ []
entries nonterminals.Statement = (terminals.Name, productions.StatementAct) ∷ (terminals.Letter, productions.StatementAct) ∷ (terminals.WidthLetter, productions.StatementAct) ∷ (terminals.CharLetter, productions.StatementAct) ∷ (terminals.SkipLetter, productions.StatementAct) ∷ (terminals.OpenBrace, productions.StatementOther) ∷ (terminals.Stepper, productions.StatementOther) ∷ (terminals.Semicolon, productions.StatementOther) ∷ (terminals.LineEnd, productions.StatementLine) ∷ (terminals.If, productions.StatementOther) ∷ (terminals.While, productions.StatementOther) ∷ (terminals.For, productions.StatementOther) ∷ (terminals.Repeat, productions.StatementOther) ∷ (terminals.Do, productions.StatementOther) ∷ (terminals.Switch, productions.StatementOther) ∷ (terminals.Leave, productions.StatementOther) ∷ (terminals.Return, productions.StatementOther) ∷ (terminals.Goto, productions.StatementOther) ∷ (terminals.Go, productions.StatementOther) ∷ (terminals.Write, productions.StatementOther) ∷ (terminals.Read, productions.StatementOther) ∷ []
entries nonterminals.Unnamed = (terminals.OpenBrace, productions.Braces) ∷ (terminals.Stepper, productions.StepStatement) ∷ (terminals.Semicolon, productions.Empty) ∷ (terminals.If, productions.IfStatement) ∷ (terminals.While, productions.WhileStatement) ∷ (terminals.For, productions.ForStatement) ∷ (terminals.Repeat, productions.RepeatStatement) ∷ (terminals.Do, productions.DoStatement) ∷ (terminals.Switch, productions.SwitchStatement) ∷ (terminals.Leave, productions.LeaveStatement) ∷ (terminals.Return, productions.ReturnStatement) ∷ (terminals.Goto, productions.GotoStatement) ∷ (terminals.Go, productions.GoToStatement) ∷ (terminals.Write, productions.WriteStatement) ∷ (terminals.Read, productions.ReadStatement) ∷ []
entries nonterminals.Condition = (terminals.Open, productions.Condition) ∷ []
entries nonterminals.ElsePart = (terminals.Name, productions.NoElse) ∷ (terminals.Letter, productions.NoElse) ∷ (terminals.WidthLetter, productions.NoElse) ∷ (terminals.CharLetter, productions.NoElse) ∷ (terminals.SkipLetter, productions.NoElse) ∷ (terminals.OpenBrace, productions.NoElse) ∷ (terminals.CloseBrace, productions.NoElse) ∷ (terminals.Stepper, productions.NoElse) ∷ (terminals.Semicolon, productions.NoElse) ∷ (terminals.LineEnd, productions.ElseLine) ∷ (terminals.End, productions.NoElse) ∷ (terminals.If, productions.NoElse) ∷ (terminals.Else, productions.ElseBody) ∷ (terminals.While, productions.NoElse) ∷ (terminals.For, productions.NoElse) ∷ (terminals.Repeat, productions.NoElse) ∷ (terminals.Until, productions.NoElse) ∷ (terminals.Do, productions.NoElse) ∷ (terminals.Switch, productions.NoElse) ∷ (terminals.Case, productions.NoElse) ∷ (terminals.Default, productions.NoElse) ∷ (terminals.Leave, productions.NoElse) ∷ (terminals.Return, productions.NoElse) ∷ (terminals.Goto, productions.NoElse) ∷ (terminals.Go, productions.NoElse) ∷ (terminals.Write, productions.NoElse) ∷ (terminals.Read, productions.NoElse) ∷ []
entries nonterminals.UntilPart = (terminals.Name, productions.NoUntil) ∷ (terminals.Letter, productions.NoUntil) ∷ (terminals.WidthLetter, productions.NoUntil) ∷ (terminals.CharLetter, productions.NoUntil) ∷ (terminals.SkipLetter, productions.NoUntil) ∷ (terminals.OpenBrace, productions.NoUntil) ∷ (terminals.CloseBrace, productions.NoUntil) ∷ (terminals.Stepper, productions.NoUntil) ∷ (terminals.Semicolon, productions.NoUntil) ∷ (terminals.LineEnd, productions.UntilLine) ∷ (terminals.End, productions.NoUntil) ∷ (terminals.If, productions.NoUntil) ∷ (terminals.Else, productions.NoUntil) ∷ (terminals.While, productions.NoUntil) ∷ (terminals.For, productions.NoUntil) ∷ (terminals.Repeat, productions.NoUntil) ∷ (terminals.Until, productions.UntilTest) ∷ (terminals.Do, productions.NoUntil) ∷ (terminals.Switch, productions.NoUntil) ∷ (terminals.Case, productions.NoUntil) ∷ (terminals.Default, productions.NoUntil) ∷ (terminals.Leave, productions.NoUntil) ∷ (terminals.Return, productions.NoUntil) ∷ (terminals.Goto, productions.NoUntil) ∷ (terminals.Go, productions.NoUntil) ∷ (terminals.Write, productions.NoUntil) ∷ (terminals.Read, productions.NoUntil) ∷ []
entries nonterminals.Part = (terminals.Name, productions.NamedPart) ∷ (terminals.Letter, productions.NamedPart) ∷ (terminals.WidthLetter, productions.NamedPart) ∷ (terminals.CharLetter, productions.NamedPart) ∷ (terminals.SkipLetter, productions.NamedPart) ∷ (terminals.Stepper, productions.SteppedPart) ∷ []
entries nonterminals.Separator = (terminals.Comma, productions.CommaSeparator) ∷ (terminals.Semicolon, productions.SignSeparator) ∷ []
entries nonterminals.AnyWhole = (terminals.Name, productions.SomeWhole) ∷ (terminals.Letter, productions.SomeWhole) ∷ (terminals.WidthLetter, productions.SomeWhole) ∷ (terminals.CharLetter, productions.SomeWhole) ∷ (terminals.SkipLetter, productions.SomeWhole) ∷ (terminals.Number, productions.SomeWhole) ∷ (terminals.Truth, productions.SomeWhole) ∷ (terminals.Plus, productions.SomeWhole) ∷ (terminals.Minus, productions.SomeWhole) ∷ (terminals.Open, productions.SomeWhole) ∷ (terminals.Not, productions.SomeWhole) ∷ (terminals.Stepper, productions.SomeWhole) ∷ []
entries nonterminals.StepPart = (terminals.Comma, productions.SomeStep) ∷ []
entries nonterminals.Lines = (terminals.LineEnd, productions.OneLine) ∷ []
entries nonterminals.Clauses = (terminals.Case, productions.MoreClauses) ∷ (terminals.Default, productions.MoreClauses) ∷ []
entries nonterminals.Clause = (terminals.Case, productions.CaseClause) ∷ (terminals.Default, productions.DefaultClause) ∷ []
entries nonterminals.IntegralMore = (terminals.Comma, productions.MoreIntegral) ∷ []
entries nonterminals.Leaving = (terminals.Number, productions.CountFirst) ∷ (terminals.While, productions.KindFirst) ∷ (terminals.For, productions.KindFirst) ∷ (terminals.Repeat, productions.KindFirst) ∷ (terminals.Do, productions.KindFirst) ∷ (terminals.Switch, productions.KindFirst) ∷ []
entries nonterminals.KindPart = (terminals.While, productions.SomeKind) ∷ (terminals.For, productions.SomeKind) ∷ (terminals.Repeat, productions.SomeKind) ∷ (terminals.Do, productions.SomeKind) ∷ (terminals.Switch, productions.SomeKind) ∷ []
entries nonterminals.CountPart = (terminals.Number, productions.SomeCount) ∷ []
entries nonterminals.Kind = (terminals.While, productions.WhileKind) ∷ (terminals.For, productions.ForKind) ∷ (terminals.Repeat, productions.RepeatKind) ∷ (terminals.Do, productions.DoKind) ∷ (terminals.Switch, productions.SwitchKind) ∷ []
entries nonterminals.Outcome = (terminals.Open, productions.SomeOutcome) ∷ []
entries nonterminals.WriteItems = (terminals.Comma, productions.MoreWrite) ∷ []
entries nonterminals.WriteItem = (terminals.Name, productions.ValueItem) ∷ (terminals.Letter, productions.ValueItem) ∷ (terminals.WidthLetter, productions.ValueItem) ∷ (terminals.CharLetter, productions.ValueItem) ∷ (terminals.SkipLetter, productions.ValueItem) ∷ (terminals.Number, productions.ValueItem) ∷ (terminals.Quoted, productions.CharsItem) ∷ (terminals.Truth, productions.ValueItem) ∷ (terminals.Plus, productions.ValueItem) ∷ (terminals.Minus, productions.ValueItem) ∷ (terminals.Open, productions.ValueItem) ∷ (terminals.Colon, productions.SkipWrite) ∷ (terminals.Not, productions.ValueItem) ∷ (terminals.Stepper, productions.ValueItem) ∷ []
entries nonterminals.ReadItems = (terminals.Comma, productions.MoreRead) ∷ []
entries nonterminals.ReadItem = (terminals.Name, productions.TakeItem) ∷ (terminals.Letter, productions.TakeItem) ∷ (terminals.WidthLetter, productions.TakeItem) ∷ (terminals.CharLetter, productions.TakeItem) ∷ (terminals.SkipLetter, productions.TakeItem) ∷ (terminals.Colon, productions.SkipRead) ∷ []
entries nonterminals.Edit = (terminals.WidthLetter, productions.WidthEdit) ∷ (terminals.CharLetter, productions.CharEdit) ∷ []
entries nonterminals.DeedRest = (terminals.Open, productions.DeedOpen) ∷ (terminals.Point, productions.DeedPlace) ∷ (terminals.Arrow, productions.DeedPlace) ∷ (terminals.Assign, productions.DeedPlace) ∷ (terminals.OperatorAssign, productions.DeedPlace) ∷ []
entries nonterminals.DeedInner = (terminals.Name, productions.DeedFull) ∷ (terminals.Letter, productions.DeedFull) ∷ (terminals.WidthLetter, productions.DeedFull) ∷ (terminals.CharLetter, productions.DeedFull) ∷ (terminals.SkipLetter, productions.DeedFull) ∷ (terminals.Number, productions.DeedFull) ∷ (terminals.Truth, productions.DeedFull) ∷ (terminals.Plus, productions.DeedFull) ∷ (terminals.Minus, productions.DeedFull) ∷ (terminals.Open, productions.DeedFull) ∷ (terminals.Close, productions.DeedEmpty) ∷ (terminals.Not, productions.DeedFull) ∷ (terminals.Stepper, productions.DeedFull) ∷ []
entries nonterminals.DeedTail = (terminals.Point, productions.DeedStored) ∷ (terminals.Arrow, productions.DeedStored) ∷ (terminals.Assign, productions.DeedStored) ∷ (terminals.OperatorAssign, productions.DeedStored) ∷ []
entries nonterminals.StepDeed = (terminals.Stepper, productions.StepDeed) ∷ []
entries nonterminals.Storing = (terminals.Assign, productions.PlainStoring) ∷ (terminals.OperatorAssign, productions.OperatorStoring) ∷ []
entries nonterminals.Declaration = (terminals.Initial, productions.InitialDeclaration) ∷ (terminals.Struct, productions.StructDeclaration) ∷ (terminals.Plain, productions.BaseDeclaration) ∷ (terminals.Long, productions.BaseDeclaration) ∷ (terminals.Floating, productions.BaseDeclaration) ∷ []
entries nonterminals.StructRest = (terminals.Name, productions.StructNamed) ∷ (terminals.Letter, productions.StructNamed) ∷ (terminals.WidthLetter, productions.StructNamed) ∷ (terminals.CharLetter, productions.StructNamed) ∷ (terminals.SkipLetter, productions.StructNamed) ∷ (terminals.OpenBrace, productions.ShapeVariables) ∷ []
entries nonterminals.StructTail = (terminals.Name, productions.StructVariables) ∷ (terminals.Letter, productions.StructVariables) ∷ (terminals.WidthLetter, productions.StructVariables) ∷ (terminals.CharLetter, productions.StructVariables) ∷ (terminals.SkipLetter, productions.StructVariables) ∷ (terminals.OpenBrace, productions.StructShape) ∷ []
entries nonterminals.AfterShape = (terminals.Name, productions.ShapeAndVariables) ∷ (terminals.Letter, productions.ShapeAndVariables) ∷ (terminals.WidthLetter, productions.ShapeAndVariables) ∷ (terminals.CharLetter, productions.ShapeAndVariables) ∷ (terminals.SkipLetter, productions.ShapeAndVariables) ∷ (terminals.OpenBrace, productions.ShapeAlone) ∷ (terminals.CloseBrace, productions.ShapeAlone) ∷ (terminals.Stepper, productions.ShapeAlone) ∷ (terminals.Semicolon, productions.ShapeAlone) ∷ (terminals.LineEnd, productions.ShapeAlone) ∷ (terminals.End, productions.ShapeAlone) ∷ (terminals.Implicit, productions.ShapeAlone) ∷ (terminals.Initial, productions.ShapeAlone) ∷ (terminals.Common, productions.ShapeAlone) ∷ (terminals.Struct, productions.ShapeAlone) ∷ (terminals.Plain, productions.ShapeAlone) ∷ (terminals.Long, productions.ShapeAlone) ∷ (terminals.Floating, productions.ShapeAlone) ∷ (terminals.If, productions.ShapeAlone) ∷ (terminals.While, productions.ShapeAlone) ∷ (terminals.For, productions.ShapeAlone) ∷ (terminals.Repeat, productions.ShapeAlone) ∷ (terminals.Do, productions.ShapeAlone) ∷ (terminals.Switch, productions.ShapeAlone) ∷ (terminals.Leave, productions.ShapeAlone) ∷ (terminals.Return, productions.ShapeAlone) ∷ (terminals.Goto, productions.ShapeAlone) ∷ (terminals.Go, productions.ShapeAlone) ∷ (terminals.Write, productions.ShapeAlone) ∷ (terminals.Read, productions.ShapeAlone) ∷ []
entries nonterminals.ShapeEnding = (terminals.OpenBrace, productions.ShapeEnding) ∷ (terminals.CloseBrace, productions.ShapeEnding) ∷ (terminals.Stepper, productions.ShapeEnding) ∷ (terminals.Semicolon, productions.ShapeEnding) ∷ (terminals.LineEnd, productions.ShapeEnding) ∷ (terminals.End, productions.ShapeEnding) ∷ (terminals.Implicit, productions.ShapeEnding) ∷ (terminals.Initial, productions.ShapeEnding) ∷ (terminals.Common, productions.ShapeEnding) ∷ (terminals.Struct, productions.ShapeEnding) ∷ (terminals.Plain, productions.ShapeEnding) ∷ (terminals.Long, productions.ShapeEnding) ∷ (terminals.Floating, productions.ShapeEnding) ∷ (terminals.If, productions.ShapeEnding) ∷ (terminals.While, productions.ShapeEnding) ∷ (terminals.For, productions.ShapeEnding) ∷ (terminals.Repeat, productions.ShapeEnding) ∷ (terminals.Do, productions.ShapeEnding) ∷ (terminals.Switch, productions.ShapeEnding) ∷ (terminals.Leave, productions.ShapeEnding) ∷ (terminals.Return, productions.ShapeEnding) ∷ (terminals.Goto, productions.ShapeEnding) ∷ (terminals.Go, productions.ShapeEnding) ∷ (terminals.Write, productions.ShapeEnding) ∷ (terminals.Read, productions.ShapeEnding) ∷ []
entries nonterminals.CommonRest = (terminals.Name, productions.CommonGroup) ∷ (terminals.Letter, productions.CommonGroup) ∷ (terminals.WidthLetter, productions.CommonGroup) ∷ (terminals.CharLetter, productions.CommonGroup) ∷ (terminals.SkipLetter, productions.CommonGroup) ∷ (terminals.OpenBrace, productions.CommonList) ∷ (terminals.Struct, productions.CommonGroup) ∷ (terminals.Plain, productions.CommonGroup) ∷ (terminals.Long, productions.CommonGroup) ∷ (terminals.Floating, productions.CommonGroup) ∷ []
entries nonterminals.LooseEnding = (terminals.Name, productions.NoLooseEnding) ∷ (terminals.Letter, productions.NoLooseEnding) ∷ (terminals.WidthLetter, productions.NoLooseEnding) ∷ (terminals.CharLetter, productions.NoLooseEnding) ∷ (terminals.SkipLetter, productions.NoLooseEnding) ∷ (terminals.OpenBrace, productions.NoLooseEnding) ∷ (terminals.CloseBrace, productions.SomeEnding) ∷ (terminals.Stepper, productions.NoLooseEnding) ∷ (terminals.Semicolon, productions.SomeEnding) ∷ (terminals.LineEnd, productions.SomeEnding) ∷ (terminals.End, productions.NoLooseEnding) ∷ (terminals.Implicit, productions.NoLooseEnding) ∷ (terminals.Initial, productions.NoLooseEnding) ∷ (terminals.Common, productions.NoLooseEnding) ∷ (terminals.Struct, productions.NoLooseEnding) ∷ (terminals.Plain, productions.NoLooseEnding) ∷ (terminals.Long, productions.NoLooseEnding) ∷ (terminals.Floating, productions.NoLooseEnding) ∷ (terminals.If, productions.NoLooseEnding) ∷ (terminals.While, productions.NoLooseEnding) ∷ (terminals.For, productions.NoLooseEnding) ∷ (terminals.Repeat, productions.NoLooseEnding) ∷ (terminals.Do, productions.NoLooseEnding) ∷ (terminals.Switch, productions.NoLooseEnding) ∷ (terminals.Leave, productions.NoLooseEnding) ∷ (terminals.Return, productions.NoLooseEnding) ∷ (terminals.Goto, productions.NoLooseEnding) ∷ (terminals.Go, productions.NoLooseEnding) ∷ (terminals.Write, productions.NoLooseEnding) ∷ (terminals.Read, productions.NoLooseEnding) ∷ []
entries nonterminals.ImplicitType = (terminals.Name, productions.ImplicitName) ∷ (terminals.Letter, productions.ImplicitName) ∷ (terminals.WidthLetter, productions.ImplicitName) ∷ (terminals.CharLetter, productions.ImplicitName) ∷ (terminals.SkipLetter, productions.ImplicitName) ∷ (terminals.Struct, productions.ImplicitStruct) ∷ (terminals.Plain, productions.ImplicitBase) ∷ (terminals.Long, productions.ImplicitBase) ∷ (terminals.Floating, productions.ImplicitBase) ∷ []
entries nonterminals.ImplicitRest = (terminals.Name, productions.ImplicitStructName) ∷ (terminals.Letter, productions.ImplicitStructName) ∷ (terminals.WidthLetter, productions.ImplicitStructName) ∷ (terminals.CharLetter, productions.ImplicitStructName) ∷ (terminals.SkipLetter, productions.ImplicitStructName) ∷ (terminals.OpenBrace, productions.ImplicitShape) ∷ []
entries nonterminals.ImplicitTail = (terminals.OpenBrace, productions.ImplicitNamedShape) ∷ (terminals.Semicolon, productions.ImplicitBare) ∷ (terminals.LineEnd, productions.ImplicitBare) ∷ []
entries nonterminals.Range = (terminals.Letter, productions.Range) ∷ (terminals.WidthLetter, productions.Range) ∷ (terminals.CharLetter, productions.Range) ∷ (terminals.SkipLetter, productions.Range) ∷ []
entries nonterminals.RangeEnd = (terminals.Minus, productions.SomeEnd) ∷ []
entries nonterminals.RangeMore = (terminals.Comma, productions.MoreRange) ∷ []
entries nonterminals.Preset = (terminals.Name, productions.Preset) ∷ (terminals.Letter, productions.Preset) ∷ (terminals.WidthLetter, productions.Preset) ∷ (terminals.CharLetter, productions.Preset) ∷ (terminals.SkipLetter, productions.Preset) ∷ []
entries nonterminals.PresetValue = (terminals.Number, productions.OneValue) ∷ (terminals.Truth, productions.OneValue) ∷ (terminals.Plus, productions.OneValue) ∷ (terminals.Minus, productions.OneValue) ∷ (terminals.Open, productions.ListedValues) ∷ []
entries nonterminals.PresetMore = (terminals.Comma, productions.MorePreset) ∷ []
entries nonterminals.Many = (terminals.Number, productions.NumberMany) ∷ (terminals.Truth, productions.OtherMany) ∷ (terminals.Plus, productions.OtherMany) ∷ (terminals.Minus, productions.OtherMany) ∷ []
entries nonterminals.ManyMore = (terminals.Comma, productions.MoreMany) ∷ []
entries nonterminals.Repetition = (terminals.Dollar, productions.Repeated) ∷ []
entries nonterminals.Constant = (terminals.Number, productions.NumberConstant) ∷ (terminals.Truth, productions.OtherConstant) ∷ (terminals.Plus, productions.OtherConstant) ∷ (terminals.Minus, productions.OtherConstant) ∷ []
entries nonterminals.Unnumbered = (terminals.Truth, productions.TruthConstant) ∷ (terminals.Plus, productions.SignedConstant) ∷ (terminals.Minus, productions.SignedConstant) ∷ []
entries nonterminals.Type = (terminals.Name, productions.NamedType) ∷ (terminals.Letter, productions.NamedType) ∷ (terminals.WidthLetter, productions.NamedType) ∷ (terminals.CharLetter, productions.NamedType) ∷ (terminals.SkipLetter, productions.NamedType) ∷ (terminals.Struct, productions.StructType) ∷ (terminals.Plain, productions.BasicType) ∷ (terminals.Long, productions.BasicType) ∷ (terminals.Floating, productions.BasicType) ∷ []
entries nonterminals.TypeRest = (terminals.Name, productions.StructTypeName) ∷ (terminals.Letter, productions.StructTypeName) ∷ (terminals.WidthLetter, productions.StructTypeName) ∷ (terminals.CharLetter, productions.StructTypeName) ∷ (terminals.SkipLetter, productions.StructTypeName) ∷ (terminals.OpenBrace, productions.NamelessShape) ∷ []
entries nonterminals.ShapePart = (terminals.OpenBrace, productions.SomeShape) ∷ []
entries nonterminals.BaseType = (terminals.Plain, productions.PlainType) ∷ (terminals.Long, productions.LongType) ∷ (terminals.Floating, productions.FloatingType) ∷ []
entries nonterminals.Shape = (terminals.OpenBrace, productions.Shape) ∷ []
entries nonterminals.Groups = (terminals.Name, productions.MoreGroups) ∷ (terminals.Letter, productions.MoreGroups) ∷ (terminals.WidthLetter, productions.MoreGroups) ∷ (terminals.CharLetter, productions.MoreGroups) ∷ (terminals.SkipLetter, productions.MoreGroups) ∷ (terminals.LineEnd, productions.GroupLine) ∷ (terminals.Struct, productions.MoreGroups) ∷ (terminals.Plain, productions.MoreGroups) ∷ (terminals.Long, productions.MoreGroups) ∷ (terminals.Floating, productions.MoreGroups) ∷ []
entries nonterminals.Group = (terminals.Name, productions.Group) ∷ (terminals.Letter, productions.Group) ∷ (terminals.WidthLetter, productions.Group) ∷ (terminals.CharLetter, productions.Group) ∷ (terminals.SkipLetter, productions.Group) ∷ (terminals.Struct, productions.Group) ∷ (terminals.Plain, productions.Group) ∷ (terminals.Long, productions.Group) ∷ (terminals.Floating, productions.Group) ∷ []
entries nonterminals.Variables = (terminals.Name, productions.Variables) ∷ (terminals.Letter, productions.Variables) ∷ (terminals.WidthLetter, productions.Variables) ∷ (terminals.CharLetter, productions.Variables) ∷ (terminals.SkipLetter, productions.Variables) ∷ []
entries nonterminals.VariableMore = (terminals.Comma, productions.MoreVariable) ∷ []
entries nonterminals.Variable = (terminals.Name, productions.Variable) ∷ (terminals.Letter, productions.Variable) ∷ (terminals.WidthLetter, productions.Variable) ∷ (terminals.CharLetter, productions.Variable) ∷ (terminals.SkipLetter, productions.Variable) ∷ []
entries nonterminals.Bounds = (terminals.Open, productions.SomeBounds) ∷ []
entries nonterminals.BoundMore = (terminals.Comma, productions.MoreBound) ∷ []
entries nonterminals.Bound = (terminals.Number, productions.WholeBound) ∷ (terminals.Plus, productions.WholeBound) ∷ (terminals.Minus, productions.WholeBound) ∷ (terminals.Star, productions.StarBound) ∷ []
entries nonterminals.UpperPart = (terminals.Colon, productions.SomeUpper) ∷ []
entries nonterminals.Upper = (terminals.Number, productions.WholeUpper) ∷ (terminals.Plus, productions.WholeUpper) ∷ (terminals.Minus, productions.WholeUpper) ∷ (terminals.Star, productions.StarUpper) ∷ []
entries nonterminals.Integral = (terminals.Number, productions.PlainIntegral) ∷ (terminals.Plus, productions.SignedIntegral) ∷ (terminals.Minus, productions.SignedIntegral) ∷ []
entries nonterminals.Whole = (terminals.Name, productions.WholeExpr) ∷ (terminals.Letter, productions.WholeExpr) ∷ (terminals.WidthLetter, productions.WholeExpr) ∷ (terminals.CharLetter, productions.WholeExpr) ∷ (terminals.SkipLetter, productions.WholeExpr) ∷ (terminals.Number, productions.WholeExpr) ∷ (terminals.Truth, productions.WholeExpr) ∷ (terminals.Plus, productions.WholeExpr) ∷ (terminals.Minus, productions.WholeExpr) ∷ (terminals.Open, productions.WholeExpr) ∷ (terminals.Not, productions.WholeExpr) ∷ (terminals.Stepper, productions.WholeExpr) ∷ []
entries nonterminals.Spot = (terminals.Name, productions.WholePlace) ∷ (terminals.Letter, productions.WholePlace) ∷ (terminals.WidthLetter, productions.WholePlace) ∷ (terminals.CharLetter, productions.WholePlace) ∷ (terminals.SkipLetter, productions.WholePlace) ∷ []
entries nonterminals.Expr = (terminals.Name, productions.NamedExpr) ∷ (terminals.Letter, productions.NamedExpr) ∷ (terminals.WidthLetter, productions.NamedExpr) ∷ (terminals.CharLetter, productions.NamedExpr) ∷ (terminals.SkipLetter, productions.NamedExpr) ∷ (terminals.Number, productions.AtomExpr) ∷ (terminals.Truth, productions.AtomExpr) ∷ (terminals.Plus, productions.PrefixedExpr) ∷ (terminals.Minus, productions.PrefixedExpr) ∷ (terminals.Open, productions.AtomExpr) ∷ (terminals.Not, productions.NegatedExpr) ∷ (terminals.Stepper, productions.PrefixedExpr) ∷ []
entries nonterminals.ExprRest = (terminals.Name, productions.ExprPlace) ∷ (terminals.Letter, productions.ExprPlace) ∷ (terminals.WidthLetter, productions.ExprPlace) ∷ (terminals.CharLetter, productions.ExprPlace) ∷ (terminals.SkipLetter, productions.ExprPlace) ∷ (terminals.Plus, productions.ExprPlace) ∷ (terminals.Minus, productions.ExprPlace) ∷ (terminals.Star, productions.ExprPlace) ∷ (terminals.Slash, productions.ExprPlace) ∷ (terminals.Power, productions.ExprPlace) ∷ (terminals.Open, productions.ExprOpen) ∷ (terminals.Close, productions.ExprPlace) ∷ (terminals.Comma, productions.ExprPlace) ∷ (terminals.OpenBrace, productions.ExprPlace) ∷ (terminals.CloseBrace, productions.ExprPlace) ∷ (terminals.Colon, productions.ExprPlace) ∷ (terminals.Relation, productions.ExprPlace) ∷ (terminals.And, productions.ExprPlace) ∷ (terminals.Or, productions.ExprPlace) ∷ (terminals.Point, productions.ExprPlace) ∷ (terminals.Arrow, productions.ExprPlace) ∷ (terminals.Assign, productions.ExprPlace) ∷ (terminals.OperatorAssign, productions.ExprPlace) ∷ (terminals.Stepper, productions.ExprPlace) ∷ (terminals.Semicolon, productions.ExprPlace) ∷ (terminals.LineEnd, productions.ExprPlace) ∷ (terminals.If, productions.ExprPlace) ∷ (terminals.While, productions.ExprPlace) ∷ (terminals.For, productions.ExprPlace) ∷ (terminals.Repeat, productions.ExprPlace) ∷ (terminals.Do, productions.ExprPlace) ∷ (terminals.Switch, productions.ExprPlace) ∷ (terminals.Leave, productions.ExprPlace) ∷ (terminals.Return, productions.ExprPlace) ∷ (terminals.Goto, productions.ExprPlace) ∷ (terminals.Go, productions.ExprPlace) ∷ (terminals.Write, productions.ExprPlace) ∷ (terminals.Read, productions.ExprPlace) ∷ []
entries nonterminals.ExprInner = (terminals.Name, productions.ExprFull) ∷ (terminals.Letter, productions.ExprFull) ∷ (terminals.WidthLetter, productions.ExprFull) ∷ (terminals.CharLetter, productions.ExprFull) ∷ (terminals.SkipLetter, productions.ExprFull) ∷ (terminals.Number, productions.ExprFull) ∷ (terminals.Truth, productions.ExprFull) ∷ (terminals.Plus, productions.ExprFull) ∷ (terminals.Minus, productions.ExprFull) ∷ (terminals.Open, productions.ExprFull) ∷ (terminals.Close, productions.ExprEmpty) ∷ (terminals.Not, productions.ExprFull) ∷ (terminals.Stepper, productions.ExprFull) ∷ []
entries nonterminals.ExprTail = (terminals.Name, productions.ExprJoined) ∷ (terminals.Letter, productions.ExprJoined) ∷ (terminals.WidthLetter, productions.ExprJoined) ∷ (terminals.CharLetter, productions.ExprJoined) ∷ (terminals.SkipLetter, productions.ExprJoined) ∷ (terminals.Plus, productions.ExprJoined) ∷ (terminals.Minus, productions.ExprJoined) ∷ (terminals.Star, productions.ExprJoined) ∷ (terminals.Slash, productions.ExprJoined) ∷ (terminals.Power, productions.ExprJoined) ∷ (terminals.Close, productions.ExprJoined) ∷ (terminals.Comma, productions.ExprJoined) ∷ (terminals.OpenBrace, productions.ExprJoined) ∷ (terminals.CloseBrace, productions.ExprJoined) ∷ (terminals.Colon, productions.ExprJoined) ∷ (terminals.Relation, productions.ExprJoined) ∷ (terminals.And, productions.ExprJoined) ∷ (terminals.Or, productions.ExprJoined) ∷ (terminals.Assign, productions.ExprStored) ∷ (terminals.OperatorAssign, productions.ExprStored) ∷ (terminals.Stepper, productions.ExprJoined) ∷ (terminals.Semicolon, productions.ExprJoined) ∷ (terminals.LineEnd, productions.ExprJoined) ∷ (terminals.If, productions.ExprJoined) ∷ (terminals.While, productions.ExprJoined) ∷ (terminals.For, productions.ExprJoined) ∷ (terminals.Repeat, productions.ExprJoined) ∷ (terminals.Do, productions.ExprJoined) ∷ (terminals.Switch, productions.ExprJoined) ∷ (terminals.Leave, productions.ExprJoined) ∷ (terminals.Return, productions.ExprJoined) ∷ (terminals.Goto, productions.ExprJoined) ∷ (terminals.Go, productions.ExprJoined) ∷ (terminals.Write, productions.ExprJoined) ∷ (terminals.Read, productions.ExprJoined) ∷ []
entries nonterminals.AfterFactor = (terminals.Name, productions.AfterFactor) ∷ (terminals.Letter, productions.AfterFactor) ∷ (terminals.WidthLetter, productions.AfterFactor) ∷ (terminals.CharLetter, productions.AfterFactor) ∷ (terminals.SkipLetter, productions.AfterFactor) ∷ (terminals.Plus, productions.AfterFactor) ∷ (terminals.Minus, productions.AfterFactor) ∷ (terminals.Star, productions.AfterFactor) ∷ (terminals.Slash, productions.AfterFactor) ∷ (terminals.Close, productions.AfterFactor) ∷ (terminals.Comma, productions.AfterFactor) ∷ (terminals.OpenBrace, productions.AfterFactor) ∷ (terminals.CloseBrace, productions.AfterFactor) ∷ (terminals.Colon, productions.AfterFactor) ∷ (terminals.Relation, productions.AfterFactor) ∷ (terminals.And, productions.AfterFactor) ∷ (terminals.Or, productions.AfterFactor) ∷ (terminals.Stepper, productions.AfterFactor) ∷ (terminals.Semicolon, productions.AfterFactor) ∷ (terminals.LineEnd, productions.AfterFactor) ∷ (terminals.If, productions.AfterFactor) ∷ (terminals.While, productions.AfterFactor) ∷ (terminals.For, productions.AfterFactor) ∷ (terminals.Repeat, productions.AfterFactor) ∷ (terminals.Do, productions.AfterFactor) ∷ (terminals.Switch, productions.AfterFactor) ∷ (terminals.Leave, productions.AfterFactor) ∷ (terminals.Return, productions.AfterFactor) ∷ (terminals.Goto, productions.AfterFactor) ∷ (terminals.Go, productions.AfterFactor) ∷ (terminals.Write, productions.AfterFactor) ∷ (terminals.Read, productions.AfterFactor) ∷ []
entries nonterminals.OrTail = (terminals.Or, productions.OrMore) ∷ []
entries nonterminals.AndTail = (terminals.And, productions.AndMore) ∷ []
entries nonterminals.Negation = (terminals.Name, productions.Affirmed) ∷ (terminals.Letter, productions.Affirmed) ∷ (terminals.WidthLetter, productions.Affirmed) ∷ (terminals.CharLetter, productions.Affirmed) ∷ (terminals.SkipLetter, productions.Affirmed) ∷ (terminals.Number, productions.Affirmed) ∷ (terminals.Truth, productions.Affirmed) ∷ (terminals.Plus, productions.Affirmed) ∷ (terminals.Minus, productions.Affirmed) ∷ (terminals.Open, productions.Affirmed) ∷ (terminals.Not, productions.NegatedNegation) ∷ (terminals.Stepper, productions.Affirmed) ∷ []
entries nonterminals.Negated = (terminals.Not, productions.Negated) ∷ []
entries nonterminals.RelationTail = (terminals.Relation, productions.Compared) ∷ []
entries nonterminals.SumTail = (terminals.Plus, productions.SumMore) ∷ (terminals.Minus, productions.SumMore) ∷ []
entries nonterminals.TermTail = (terminals.Star, productions.TimesMore) ∷ (terminals.Slash, productions.OverMore) ∷ []
entries nonterminals.PowerTail = (terminals.Power, productions.Raised) ∷ []
entries nonterminals.Unary = (terminals.Name, productions.PrimeUnary) ∷ (terminals.Letter, productions.PrimeUnary) ∷ (terminals.WidthLetter, productions.PrimeUnary) ∷ (terminals.CharLetter, productions.PrimeUnary) ∷ (terminals.SkipLetter, productions.PrimeUnary) ∷ (terminals.Number, productions.PrimeUnary) ∷ (terminals.Truth, productions.PrimeUnary) ∷ (terminals.Plus, productions.PrefixedUnary) ∷ (terminals.Minus, productions.PrefixedUnary) ∷ (terminals.Open, productions.PrimeUnary) ∷ (terminals.Stepper, productions.PrefixedUnary) ∷ []
entries nonterminals.Prefixed = (terminals.Plus, productions.Signed) ∷ (terminals.Minus, productions.Signed) ∷ (terminals.Stepper, productions.Stepped) ∷ []
entries nonterminals.Prime = (terminals.Name, productions.NamedPrime) ∷ (terminals.Letter, productions.NamedPrime) ∷ (terminals.WidthLetter, productions.NamedPrime) ∷ (terminals.CharLetter, productions.NamedPrime) ∷ (terminals.SkipLetter, productions.NamedPrime) ∷ (terminals.Number, productions.AtomPrime) ∷ (terminals.Truth, productions.AtomPrime) ∷ (terminals.Open, productions.AtomPrime) ∷ []
entries nonterminals.Atom = (terminals.Number, productions.NumberAtom) ∷ (terminals.Truth, productions.TruthAtom) ∷ (terminals.Open, productions.GroupAtom) ∷ []
entries nonterminals.PrimeRest = (terminals.Name, productions.PrimePlace) ∷ (terminals.Letter, productions.PrimePlace) ∷ (terminals.WidthLetter, productions.PrimePlace) ∷ (terminals.CharLetter, productions.PrimePlace) ∷ (terminals.SkipLetter, productions.PrimePlace) ∷ (terminals.Plus, productions.PrimePlace) ∷ (terminals.Minus, productions.PrimePlace) ∷ (terminals.Star, productions.PrimePlace) ∷ (terminals.Slash, productions.PrimePlace) ∷ (terminals.Power, productions.PrimePlace) ∷ (terminals.Open, productions.PrimeOpen) ∷ (terminals.Close, productions.PrimePlace) ∷ (terminals.Comma, productions.PrimePlace) ∷ (terminals.OpenBrace, productions.PrimePlace) ∷ (terminals.CloseBrace, productions.PrimePlace) ∷ (terminals.Colon, productions.PrimePlace) ∷ (terminals.Relation, productions.PrimePlace) ∷ (terminals.And, productions.PrimePlace) ∷ (terminals.Or, productions.PrimePlace) ∷ (terminals.Point, productions.PrimePlace) ∷ (terminals.Arrow, productions.PrimePlace) ∷ (terminals.Stepper, productions.PrimePlace) ∷ (terminals.Semicolon, productions.PrimePlace) ∷ (terminals.LineEnd, productions.PrimePlace) ∷ (terminals.If, productions.PrimePlace) ∷ (terminals.While, productions.PrimePlace) ∷ (terminals.For, productions.PrimePlace) ∷ (terminals.Repeat, productions.PrimePlace) ∷ (terminals.Do, productions.PrimePlace) ∷ (terminals.Switch, productions.PrimePlace) ∷ (terminals.Leave, productions.PrimePlace) ∷ (terminals.Return, productions.PrimePlace) ∷ (terminals.Goto, productions.PrimePlace) ∷ (terminals.Go, productions.PrimePlace) ∷ (terminals.Write, productions.PrimePlace) ∷ (terminals.Read, productions.PrimePlace) ∷ []
entries nonterminals.PrimeInner = (terminals.Name, productions.PrimeFull) ∷ (terminals.Letter, productions.PrimeFull) ∷ (terminals.WidthLetter, productions.PrimeFull) ∷ (terminals.CharLetter, productions.PrimeFull) ∷ (terminals.SkipLetter, productions.PrimeFull) ∷ (terminals.Number, productions.PrimeFull) ∷ (terminals.Truth, productions.PrimeFull) ∷ (terminals.Plus, productions.PrimeFull) ∷ (terminals.Minus, productions.PrimeFull) ∷ (terminals.Open, productions.PrimeFull) ∷ (terminals.Close, productions.PrimeEmpty) ∷ (terminals.Not, productions.PrimeFull) ∷ (terminals.Stepper, productions.PrimeFull) ∷ []
entries nonterminals.Arguments = (terminals.Name, productions.Arguments) ∷ (terminals.Letter, productions.Arguments) ∷ (terminals.WidthLetter, productions.Arguments) ∷ (terminals.CharLetter, productions.Arguments) ∷ (terminals.SkipLetter, productions.Arguments) ∷ (terminals.Number, productions.Arguments) ∷ (terminals.Truth, productions.Arguments) ∷ (terminals.Plus, productions.Arguments) ∷ (terminals.Minus, productions.Arguments) ∷ (terminals.Open, productions.Arguments) ∷ (terminals.Not, productions.Arguments) ∷ (terminals.Stepper, productions.Arguments) ∷ []
entries nonterminals.ExprMore = (terminals.Comma, productions.MoreExpr) ∷ []
entries nonterminals.Place = (terminals.Name, productions.Place) ∷ (terminals.Letter, productions.Place) ∷ (terminals.WidthLetter, productions.Place) ∷ (terminals.CharLetter, productions.Place) ∷ (terminals.SkipLetter, productions.Place) ∷ []
entries nonterminals.Subscripts = (terminals.Open, productions.SomeSubscripts) ∷ []
entries nonterminals.Steps = (terminals.Point, productions.MemberStep) ∷ (terminals.Arrow, productions.OverlayStep) ∷ []
entries nonterminals.Adding = (terminals.Plus, productions.PlusSign) ∷ (terminals.Minus, productions.MinusSign) ∷ []
entries nonterminals.AnyName = (terminals.Name, productions.LongName) ∷ (terminals.Letter, productions.LetterName) ∷ (terminals.WidthLetter, productions.LetterName) ∷ (terminals.CharLetter, productions.LetterName) ∷ (terminals.SkipLetter, productions.LetterName) ∷ []
entries nonterminals.AnyLetter = (terminals.Letter, productions.PlainLetter) ∷ (terminals.WidthLetter, productions.WidthLetter) ∷ (terminals.CharLetter, productions.CharLetter) ∷ (terminals.SkipLetter, productions.SkipLetter) ∷ []

-- at any terminal that has no entry
abbrev pub rest : Nonterminal → Option Production
rest nonterminals.Procedures = Some productions.NoProcedure
rest nonterminals.Heading = Some productions.MainHeading
rest nonterminals.Formals = Some productions.NoFormals
rest nonterminals.FormalNames = Some productions.NoNames
rest nonterminals.FormalMore = Some productions.NoMoreFormal
rest nonterminals.OuterList = Some productions.OuterDone
rest nonterminals.InnerList = Some productions.InnerDone
rest nonterminals.Statements = Some productions.StatementsDone
rest nonterminals.Part = Some productions.NoPart
rest nonterminals.AnyWhole = Some productions.NoWhole
rest nonterminals.StepPart = Some productions.NoStep
rest nonterminals.Lines = Some productions.NoLine
rest nonterminals.Clauses = Some productions.NoClause
rest nonterminals.IntegralMore = Some productions.NoMoreIntegral
rest nonterminals.Leaving = Some productions.BareLeaving
rest nonterminals.KindPart = Some productions.NoKind
rest nonterminals.CountPart = Some productions.NoCount
rest nonterminals.Outcome = Some productions.NoOutcome
rest nonterminals.WriteItems = Some productions.NoMoreWrite
rest nonterminals.ReadItems = Some productions.NoMoreRead
rest nonterminals.DeedTail = Some productions.DeedCalled
rest nonterminals.RangeEnd = Some productions.NoEnd
rest nonterminals.RangeMore = Some productions.NoMoreRange
rest nonterminals.PresetMore = Some productions.NoMorePreset
rest nonterminals.ManyMore = Some productions.NoMoreMany
rest nonterminals.Repetition = Some productions.Once
rest nonterminals.ShapePart = Some productions.NoShape
rest nonterminals.Groups = Some productions.NoGroup
rest nonterminals.VariableMore = Some productions.NoMoreVariable
rest nonterminals.Bounds = Some productions.NoBounds
rest nonterminals.BoundMore = Some productions.NoMoreBound
rest nonterminals.UpperPart = Some productions.NoUpper
rest nonterminals.OrTail = Some productions.OrDone
rest nonterminals.AndTail = Some productions.AndDone
rest nonterminals.RelationTail = Some productions.NotCompared
rest nonterminals.SumTail = Some productions.SumDone
rest nonterminals.TermTail = Some productions.TermDone
rest nonterminals.PowerTail = Some productions.NotRaised
rest nonterminals.ExprMore = Some productions.NoMoreExpr
rest nonterminals.Subscripts = Some productions.NoSubscripts
rest nonterminals.Steps = Some productions.NoSteps
rest _ = None

abbrev pub predict_at : Nonterminal → Terminal → Option Production
predict_at n k = found (sameb terminal_type) k (entries n) (rest n)

abbrev pub all_nonterminals : List Nonterminal
all_nonterminals = nonterminals.Program ∷ nonterminals.Procedures ∷ nonterminals.ProcedureText ∷ nonterminals.Header ∷ nonterminals.Heading ∷ nonterminals.Formals ∷ nonterminals.FormalNames ∷ nonterminals.FormalMore ∷ nonterminals.Ending ∷ nonterminals.OuterList ∷ nonterminals.OuterRest ∷ nonterminals.InnerList ∷ nonterminals.InnerRest ∷ nonterminals.Statements ∷ nonterminals.Listed ∷ nonterminals.NamedRest ∷ nonterminals.Statement ∷ nonterminals.Unnamed ∷ nonterminals.Condition ∷ nonterminals.ElsePart ∷ nonterminals.UntilPart ∷ nonterminals.Part ∷ nonterminals.Separator ∷ nonterminals.AnyWhole ∷ nonterminals.StepPart ∷ nonterminals.Lines ∷ nonterminals.Clauses ∷ nonterminals.Clause ∷ nonterminals.IntegralMore ∷ nonterminals.Leaving ∷ nonterminals.KindPart ∷ nonterminals.CountPart ∷ nonterminals.Kind ∷ nonterminals.Outcome ∷ nonterminals.WriteItems ∷ nonterminals.WriteItem ∷ nonterminals.ReadItems ∷ nonterminals.ReadItem ∷ nonterminals.Edit ∷ nonterminals.DeedRest ∷ nonterminals.DeedInner ∷ nonterminals.DeedTail ∷ nonterminals.StepDeed ∷ nonterminals.Storing ∷ nonterminals.Declaration ∷ nonterminals.StructRest ∷ nonterminals.StructTail ∷ nonterminals.AfterShape ∷ nonterminals.ShapeEnding ∷ nonterminals.CommonRest ∷ nonterminals.LooseEnding ∷ nonterminals.ImplicitType ∷ nonterminals.ImplicitRest ∷ nonterminals.ImplicitTail ∷ nonterminals.Range ∷ nonterminals.RangeEnd ∷ nonterminals.RangeMore ∷ nonterminals.Preset ∷ nonterminals.PresetValue ∷ nonterminals.PresetMore ∷ nonterminals.Many ∷ nonterminals.ManyMore ∷ nonterminals.Repetition ∷ nonterminals.Constant ∷ nonterminals.Unnumbered ∷ nonterminals.Type ∷ nonterminals.TypeRest ∷ nonterminals.ShapePart ∷ nonterminals.BaseType ∷ nonterminals.Shape ∷ nonterminals.Groups ∷ nonterminals.Group ∷ nonterminals.Variables ∷ nonterminals.VariableMore ∷ nonterminals.Variable ∷ nonterminals.Bounds ∷ nonterminals.BoundMore ∷ nonterminals.Bound ∷ nonterminals.UpperPart ∷ nonterminals.Upper ∷ nonterminals.Integral ∷ nonterminals.Whole ∷ nonterminals.Spot ∷ nonterminals.Expr ∷ nonterminals.ExprRest ∷ nonterminals.ExprInner ∷ nonterminals.ExprTail ∷ nonterminals.AfterFactor ∷ nonterminals.OrTail ∷ nonterminals.AndTail ∷ nonterminals.Negation ∷ nonterminals.Negated ∷ nonterminals.RelationTail ∷ nonterminals.SumTail ∷ nonterminals.TermTail ∷ nonterminals.PowerTail ∷ nonterminals.Unary ∷ nonterminals.Prefixed ∷ nonterminals.Prime ∷ nonterminals.Atom ∷ nonterminals.PrimeRest ∷ nonterminals.PrimeInner ∷ nonterminals.Arguments ∷ nonterminals.ExprMore ∷ nonterminals.Place ∷ nonterminals.Subscripts ∷ nonterminals.Steps ∷ nonterminals.Adding ∷ nonterminals.AnyName ∷ nonterminals.AnyLetter ∷ []

-- the entries of all nonterminals behind one another, and where each begins
abbrev pub all_entries : List (Terminal × Production)
all_entries = flat (map entries all_nonterminals)

abbrev pub entry_starts : List ℕ
entry_starts = starts_of 0 (map entries all_nonterminals)

abbrev pub all_rests : List (Option Production)
all_rests = map rest all_nonterminals
