-- The kinds of what the parts of a text give, and which kind the grammar has at each of its symbols.
use Rattle.std.specs.Prelude.{Bool, true, false}
use Rattle.ground.specs.declared.token.TokenKind.{TokenKind}
use Rattle.ground.specs.declared.token.TokenKind.TheVariants as tokens
use Rattle.grammar.specs.declared.language.Symbol.{Symbol}
use Rattle.grammar.specs.declared.language.Symbol.TheVariants.{Terminal, Nonterminal}
use Rattle.rat_parse_table.specs.declared.table.Terminal.{Terminal as ATerminal}
use Rattle.rat_parse_table.specs.declared.table.Terminal.TheVariants as terminals
use Rattle.rat_parse_table.specs.declared.table.Nonterminal.{Nonterminal as ANonterminal}
use Rattle.rat_parse_table.specs.declared.table.Nonterminal.TheVariants as nonterminals
use Rattle.rat_parse_values.specs.Values.{Val}
use Rattle.rat_parse_values.specs.Values as val
use Rattle.rat_parse_values.specs.Kinds as part

-- The kinds of value. Most are those of one form. A Mark is a token that ends a line, a statement or the text; Other is any token;
-- Placed is a formula with its place, and AnyFormula one with or without; RestStart is what follows a name in an implied DO.
-- A kind that begins with Perhaps has that form, or is nothing.
pub data Kind : Type 0 where
  Word : Kind
  Number : Kind
  Quoted : Kind
  Sign : Kind
  Mark : Kind
  Other : Kind
  Nothing : Kind
  Formula : Kind
  Placed : Kind
  AnyFormula : Kind
  Formulas : Kind
  Joins : Kind
  Names : Kind
  Numbers : Kind
  Par : Kind
  Pars : Kind
  Range : Kind
  Declared : Kind
  Declareds : Kind
  Area : Kind
  Areas : Kind
  Groups : Kind
  Preset : Kind
  Presets : Kind
  Datum : Kind
  Data : Kind
  Entry : Kind
  Entries : Kind
  Rest : Kind
  RestStart : Kind
  Field : Kind
  Fields : Kind
  WordOrFields : Kind
  Deed : Kind
  Command : Kind
  Commands : Kind
  Clause : Kind
  Clauses : Kind
  Heading : Kind
  HeadingOrDeclareds : Kind
  Routine : Kind
  Routines : Kind
  Program : Kind
  PerhapsWord : Kind
  PerhapsNumber : Kind
  PerhapsMark : Kind
  PerhapsFormula : Kind
  PerhapsPlaced : Kind
  PerhapsFormulas : Kind
  PerhapsPar : Kind
  PerhapsDeed : Kind
  PerhapsCommand : Kind

abbrev pub is_token : Kind → TokenKind → Bool
is_token Word (tokens.Word w) = true
is_token PerhapsWord (tokens.Word w) = true
is_token WordOrFields (tokens.Word w) = true
is_token Number (tokens.Number n) = true
is_token PerhapsNumber (tokens.Number n) = true
is_token Quoted (tokens.Quoted w) = true
is_token Sign (tokens.Sign s) = true
is_token Mark tokens.LineEnd = true
is_token Mark tokens.Semicolon = true
is_token Mark tokens.TextEnd = true
is_token PerhapsMark tokens.LineEnd = true
is_token PerhapsMark tokens.Semicolon = true
is_token PerhapsMark tokens.TextEnd = true
is_token Other _ = true
is_token _ _ = false

-- whether a value is of a kind
abbrev pub is : Kind → Val → Bool
is kind (val.tok t) = is_token kind t.kind
is Nothing val.nothing = true
is Formula (val.expression (part.formula f)) = true
is Placed (val.expression (part.located p f)) = true
is AnyFormula (val.expression (part.formula f)) = true
is AnyFormula (val.expression (part.located p f)) = true
is Formulas (val.expression (part.formulas fs)) = true
is Joins (val.expression (part.joins js)) = true
is Names (val.parameter (part.names xs)) = true
is Numbers (val.parameter (part.numbers ns)) = true
is Par (val.parameter (part.par p)) = true
is Pars (val.parameter (part.pars ps)) = true
is Range (val.parameter (part.range r)) = true
is Declared (val.declaration (part.declared d)) = true
is Declareds (val.declaration (part.declareds ds)) = true
is Area (val.declaration (part.area a)) = true
is Areas (val.declaration (part.areas list)) = true
is Groups (val.declaration (part.groups gs)) = true
is Preset (val.declaration (part.preset p)) = true
is Presets (val.declaration (part.presets ps)) = true
is Datum (val.declaration (part.datum n f)) = true
is Data (val.declaration (part.data_values ds)) = true
is Entry (val.transfer (part.entry e)) = true
is Entries (val.transfer (part.entries es)) = true
is Rest (val.transfer (part.rest r)) = true
is RestStart (val.parameter (part.range r)) = true
is RestStart (val.transfer (part.pending args r)) = true
is Field (val.transfer (part.field f)) = true
is Fields (val.transfer (part.fields fs)) = true
is WordOrFields (val.transfer (part.fields fs)) = true
is Deed (val.statement (part.deed p a)) = true
is Command (val.statement (part.command p c)) = true
is Commands (val.statement (part.commands cs)) = true
is Clause (val.statement (part.clause c)) = true
is Clauses (val.statement (part.clauses cs)) = true
is Heading (val.unit (part.heading p h)) = true
is HeadingOrDeclareds (val.unit (part.heading p h)) = true
is HeadingOrDeclareds (val.declaration (part.declareds ds)) = true
is Routine (val.unit (part.routine r)) = true
is Routines (val.unit (part.routines rs)) = true
is Program (val.unit (part.program p)) = true
is PerhapsWord val.nothing = true
is PerhapsNumber val.nothing = true
is PerhapsMark val.nothing = true
is PerhapsFormula val.nothing = true
is PerhapsFormula (val.expression (part.formula f)) = true
is PerhapsPlaced val.nothing = true
is PerhapsPlaced (val.expression (part.located p f)) = true
is PerhapsFormulas val.nothing = true
is PerhapsFormulas (val.expression (part.formulas fs)) = true
is PerhapsPar val.nothing = true
is PerhapsPar (val.parameter (part.par p)) = true
is PerhapsDeed val.nothing = true
is PerhapsDeed (val.statement (part.deed p a)) = true
is PerhapsCommand val.nothing = true
is PerhapsCommand (val.statement (part.command p c)) = true
is _ _ = false

abbrev pub of_nonterminal : ANonterminal → Kind
of_nonterminal nonterminals.Program = Program
of_nonterminal nonterminals.Units = Routines
of_nonterminal nonterminals.Unit = Routine
of_nonterminal nonterminals.UnitText = Routine
of_nonterminal nonterminals.Header = Heading
of_nonterminal nonterminals.TypedStart = HeadingOrDeclareds
of_nonterminal nonterminals.TypeWord = Word
of_nonterminal nonterminals.Formals = Names
of_nonterminal nonterminals.FormalList = Names
of_nonterminal nonterminals.FormalMore = Names
of_nonterminal nonterminals.Body = Commands
of_nonterminal nonterminals.Ending = PerhapsMark
of_nonterminal nonterminals.Statement = Command
of_nonterminal nonterminals.Statements = Commands
of_nonterminal nonterminals.Item = Command
of_nonterminal nonterminals.Bare = Command
of_nonterminal nonterminals.Untyped = Command
of_nonterminal nonterminals.Condition = Formula
of_nonterminal nonterminals.ElsePart = PerhapsCommand
of_nonterminal nonterminals.UntilPart = PerhapsPlaced
of_nonterminal nonterminals.Part = PerhapsDeed
of_nonterminal nonterminals.Test = PerhapsFormula
of_nonterminal nonterminals.Count = PerhapsNumber
of_nonterminal nonterminals.Outcome = PerhapsFormula
of_nonterminal nonterminals.Lines = Nothing
of_nonterminal nonterminals.Clauses = Clauses
of_nonterminal nonterminals.Clause = Clause
of_nonterminal nonterminals.Plain = Deed
of_nonterminal nonterminals.Simple = Deed
of_nonterminal nonterminals.GoWords = Word
of_nonterminal nonterminals.Target = Deed
of_nonterminal nonterminals.NumberMore = Numbers
of_nonterminal nonterminals.StopNumber = PerhapsNumber
of_nonterminal nonterminals.Actuals = Formulas
of_nonterminal nonterminals.Actual = Formula
of_nonterminal nonterminals.ActualMore = Formulas
of_nonterminal nonterminals.Par = Par
of_nonterminal nonterminals.Range = Range
of_nonterminal nonterminals.StepPart = PerhapsPar
of_nonterminal nonterminals.Entries = Entries
of_nonterminal nonterminals.Entry = Entry
of_nonterminal nonterminals.EntryMore = Entries
of_nonterminal nonterminals.Loop = Entry
of_nonterminal nonterminals.LoopRest = Rest
of_nonterminal nonterminals.NameRest = RestStart
of_nonterminal nonterminals.Element = Formulas
of_nonterminal nonterminals.DeclaredList = Declareds
of_nonterminal nonterminals.DeclaredMore = Declareds
of_nonterminal nonterminals.Declared = Declared
of_nonterminal nonterminals.Sizes = Pars
of_nonterminal nonterminals.ParMore = Pars
of_nonterminal nonterminals.FirstArea = Area
of_nonterminal nonterminals.Area = Area
of_nonterminal nonterminals.AreaName = PerhapsWord
of_nonterminal nonterminals.AreaMore = Areas
of_nonterminal nonterminals.Alias = Formulas
of_nonterminal nonterminals.AliasMore = Groups
of_nonterminal nonterminals.RefMore = Formulas
of_nonterminal nonterminals.Preset = Preset
of_nonterminal nonterminals.PresetMore = Presets
of_nonterminal nonterminals.Datum = Datum
of_nonterminal nonterminals.DatumMore = Data
of_nonterminal nonterminals.Repetition = PerhapsFormula
of_nonterminal nonterminals.Constant = Formula
of_nonterminal nonterminals.Unnumbered = Formula
of_nonterminal nonterminals.Fields = Fields
of_nonterminal nonterminals.AfterEdit = Fields
of_nonterminal nonterminals.NextField = Fields
of_nonterminal nonterminals.AfterSlash = Fields
of_nonterminal nonterminals.Edit = Field
of_nonterminal nonterminals.Counted = WordOrFields
of_nonterminal nonterminals.Expr = Formula
of_nonterminal nonterminals.OrTail = Joins
of_nonterminal nonterminals.Conjunction = Formula
of_nonterminal nonterminals.AndTail = Joins
of_nonterminal nonterminals.Negation = Formula
of_nonterminal nonterminals.Relational = Formula
of_nonterminal nonterminals.RelationTail = Joins
of_nonterminal nonterminals.Sum = Formula
of_nonterminal nonterminals.FirstTerm = Formula
of_nonterminal nonterminals.SumTail = Joins
of_nonterminal nonterminals.Term = Formula
of_nonterminal nonterminals.TermTail = Joins
of_nonterminal nonterminals.Factor = Formula
of_nonterminal nonterminals.PowerTail = Joins
of_nonterminal nonterminals.Prime = AnyFormula
of_nonterminal nonterminals.Ref = Placed
of_nonterminal nonterminals.Arguments = PerhapsFormulas
of_nonterminal nonterminals.Subscripts = Formulas
of_nonterminal nonterminals.ExprMore = Formulas
of_nonterminal nonterminals.AnyName = Word
of_nonterminal nonterminals.AnyNumber = Number

-- the other terminals are words
abbrev pub of_terminal : ATerminal → Kind
of_terminal terminals.Octal = Number
of_terminal terminals.Number = Number
of_terminal terminals.Letter = Quoted
of_terminal terminals.Chars = Quoted
of_terminal terminals.Adding = Sign
of_terminal terminals.Star = Sign
of_terminal terminals.Slash = Sign
of_terminal terminals.Power = Sign
of_terminal terminals.Open = Sign
of_terminal terminals.Close = Sign
of_terminal terminals.Comma = Sign
of_terminal terminals.OpenBrace = Sign
of_terminal terminals.CloseBrace = Sign
of_terminal terminals.Colon = Sign
of_terminal terminals.Relation = Sign
of_terminal terminals.And = Sign
of_terminal terminals.Or = Sign
of_terminal terminals.Not = Sign
of_terminal terminals.Truth = Sign
of_terminal terminals.Assign = Sign
of_terminal terminals.Semicolon = Mark
of_terminal terminals.LineEnd = Mark
of_terminal terminals.TextEnd = Mark
of_terminal terminals.Other = Other
of_terminal _ = Word

abbrev pub kind_of : Symbol ATerminal ANonterminal → Kind
kind_of (Terminal t) = of_terminal t
kind_of (Nonterminal n) = of_nonterminal n
