-- The laws of what the limits of EFL's parser bound.
use Rattle.std.specs.Prelude.{◌≡◌, ◌≤◌, true, List, length}
use Rattle.ground.specs.declared.token.Token.{Token}
use Rattle.grammar.specs.Limits.{IsAccepted}
use Rattle.efl_tree.specs.Syntax.{EflProgram}
use Rattle.efl_lowered.specs.Lowering.{units_of}
use Rattle.efl_naming.specs.Choice.{naming_of, is_small}
use Rattle.plain_decks.specs.Bytes.{most_bytes}
use Rattle.efl_plain.specs.Few.{HasFewLabels}
use Rattle.efl_plain.specs.Small.{HasLittleStorage}
use Rattle.efl_grammar.specs.Programs.{Program}
use Rattle.efl_parse_table.specs.Limits.{meter}
use Rattle.efl_parse_values.specs.Values.{program}
use Rattle.efl_parse.specs.Efl.{grammar}

-- the units of a program that is accepted have few labels
abbrev pub ParsedHasFewLabels : Type 0
ParsedHasFewLabels = (ts : List Token) (tree : EflProgram) → IsAccepted grammar meter ts (program tree) → HasFewLabels tree

-- a program of no more tokens than a text may have has few variables, procedures and temporaries
abbrev pub ParsedIsSmall : Type 0
ParsedIsSmall = (ts : List Token) (tree : EflProgram) → length ts ≤ 200000 → Program ts tree → IsAccepted grammar meter ts (program tree) → is_small tree ≡ true

-- and it needs little storage
abbrev pub GrammarHasLittleStorage : Type 0
GrammarHasLittleStorage = (ts : List Token) (tree : EflProgram) → length ts ≤ 200000 → Program ts tree → HasLittleStorage tree

-- there are at most 500 procedures
abbrev pub ParsedHasFewProcedures : Type 0
ParsedHasFewProcedures = (ts : List Token) (tree : EflProgram) → IsAccepted grammar meter ts (program tree) → length tree.procedures ≤ 500

-- and the deck of its units is short
abbrev pub GrammarIsShort : Type 0
GrammarIsShort = (ts : List Token) (tree : EflProgram) → length ts ≤ 200000 → Program ts tree → most_bytes (units_of (naming_of tree) tree) ≤ 115000000
