-- The statements behind those that were tried, in the order of their words.
use Rattle.std.specs.Prelude.{Bool, List, Option, Some, None, codes, if◌then◌else◌}
use Rattle.f66_tree.specs.declared.declaration.TypeWord.TheVariants.{Other}
use Rattle.f66_tree.specs.Syntax.{Act, When, Continue, Return, Read, Write}
use Rattle.stmt_reader.specs.declared.token.Token.{Token}
use Rattle.stmt_reader.specs.Declarations.{commons_of, dimensions_of, equivalences_of, presets_of, specification_of, types_of}
use Rattle.stmt_reader.specs.Entries.{record_of}
use Rattle.stmt_reader.specs.Formats.{format_of}
use Rattle.stmt_reader.specs.Statements.{branch_of, call_of, computed_of, condition_of, goto_of, sign_of, stop_of}
use Rattle.stmt_reader.specs.Taking.{after_word, nothing_more, or_else, then_if}

-- a statement of one word, if it stands alone
abbrev pub if_alone : Bool → Act → Option Act
if_alone b a = if b then Some a else None

abbrev pub records_of : List Token → Option Act
records_of tokens = or_else (then_if (after_word (codes "READ") tokens) (record_of Read)) (then_if (after_word (codes "WRITE") tokens) (record_of Write))

abbrev pub returns_or_more : List Token → Option Act
returns_or_more tokens = or_else (then_if (after_word (codes "RETURN") tokens) (nothing_more Return)) (records_of tokens)

abbrev pub stops_or_more : List Token → Option Act
stops_or_more tokens = or_else (stop_of tokens) (returns_or_more tokens)

abbrev pub continues_or_more : List Token → Option Act
continues_or_more tokens = or_else (then_if (after_word (codes "CONTINUE") tokens) (nothing_more Continue)) (stops_or_more tokens)

abbrev pub calls_or_more : List Token → Option Act
calls_or_more tokens = or_else (then_if (after_word (codes "CALL") tokens) call_of) (continues_or_more tokens)

abbrev pub jumps_or_more : List Token → Option Act
jumps_or_more tokens =
    or_else (then_if (after_word (codes "GOTO") tokens) (λ rest. or_else (goto_of rest) (computed_of rest))) (or_else (then_if (after_word (codes "IF") tokens) sign_of) (calls_or_more tokens))

abbrev pub formats_or_more : List Token → Option Act
formats_or_more tokens = or_else (then_if (after_word (codes "FORMAT") tokens) format_of) (specification_of tokens)

abbrev pub branches_or_more : List Token → Option Act
branches_or_more tokens =
    or_else (branch_of tokens) (or_else (then_if (after_word (codes "IF") tokens) (λ rest. then_if (condition_of rest) (λ c. then_if (branch_of c.1) (λ a. Some (When c.0 a))))) (formats_or_more tokens))

abbrev pub commons_or_more : List Token → Option Act
commons_or_more tokens =
    or_else (then_if (after_word (codes "COMMON") tokens) commons_of) (or_else (then_if (after_word (codes "EQUIVALENCE") tokens) equivalences_of) (then_if (after_word (codes "DATA") tokens) presets_of))

abbrev pub complexes_or_more : List Token → Option Act
complexes_or_more tokens =
    or_else (then_if (after_word (codes "COMPLEX") tokens) (types_of Other)) (or_else (then_if (after_word (codes "DIMENSION") tokens) dimensions_of) (commons_or_more tokens))

abbrev pub reals_or_more : List Token → Option Act
reals_or_more tokens =
    or_else (then_if (after_word (codes "REAL") tokens) (types_of Other)) (or_else (then_if (after_word (codes "DOUBLEPRECISION") tokens) (types_of Other)) (complexes_or_more tokens))
