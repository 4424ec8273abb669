-- The rows of the tables in code are those of the grammar. tools/grammar_tables.py writes it from efl.grammar.
use Rattle.std.proofs.Common.{◌≡◌, refl, true}
use Rattle.std.specs.Prelude.{nat_lt, length, slice_get, Some}
use denote.Enum.Declared.{tag_of}
use Rattle.grammar.specs.Rows.{has_row, row_of}
use Rattle.efl_parse_table.specs.declared.table.Nonterminal.{Nonterminal}
use Rattle.efl_parse_table.specs.declared.table.Nonterminal.TheVariants as nonterminals
use Rattle.efl_parse_table.specs.declared.table.Production.{Production}
use Rattle.efl_parse_table.specs.declared.table.Production.TheVariants as productions
use Rattle.efl_parse_table.specs.contracts.table.Nonterminal.{the_type as nonterminal_type}
use Rattle.efl_parse_table.specs.contracts.table.Production.{the_type as production_type}
use Rattle.efl_parse_table.specs.Table.{symbols, all_symbols, symbol_starts}
use Rattle.efl_parse_table.specs.ParseTable.{entries, rest, all_entries, entry_starts, all_rests}

pub symbols_stand : (p : Production) → has_row all_symbols symbol_starts (tag_of production_type p) ≡ true
symbols_stand productions.Whole = refl
symbols_stand _ = refl

pub symbols_found : (p : Production) → row_of all_symbols symbol_starts (tag_of production_type p) ≡ symbols p
symbols_found productions.Whole = refl
symbols_found _ = refl

pub entries_stand : (n : Nonterminal) → has_row all_entries entry_starts (tag_of nonterminal_type n) ≡ true
entries_stand nonterminals.Program = refl
entries_stand _ = refl

pub entries_found : (n : Nonterminal) → row_of all_entries entry_starts (tag_of nonterminal_type n) ≡ entries n
entries_found nonterminals.Program = refl
entries_found _ = refl

pub rest_stands : (n : Nonterminal) → nat_lt (tag_of nonterminal_type n) (length all_rests) ≡ true
rest_stands nonterminals.Program = refl
rest_stands _ = refl

pub rest_found : (n : Nonterminal) → slice_get all_rests (tag_of nonterminal_type n) ≡ Some (rest n)
rest_found nonterminals.Program = refl
rest_found _ = refl
