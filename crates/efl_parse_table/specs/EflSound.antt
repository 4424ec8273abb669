-- The tables are sound whatever a grammar makes of a text: each test computes to true, for each terminal, nonterminal and production. tools/grammar_tables.py writes it from efl.grammar.
use Rattle.std.specs.Prelude.{◌≡◌, true, suc, nat_lt, List, refl}
use Rattle.ground.specs.declared.token.Token.{Token}
use Rattle.efl_parse_table.specs.declared.table.Terminal.{Terminal}
use Rattle.efl_parse_table.specs.declared.table.Terminal.TheVariants as terminals
use Rattle.efl_parse_table.specs.declared.table.Nonterminal.{Nonterminal}
use Rattle.efl_parse_table.specs.declared.table.Nonterminal.TheVariants as nonterminals
use Rattle.efl_parse_table.specs.declared.table.Production.{Production}
use Rattle.efl_parse_table.specs.declared.table.Production.TheVariants as productions
use Rattle.grammar.specs.Lookahead.{implies}
use Rattle.grammar.specs.Certificate.{IsSound, member, subset, nullable_symbols, through, first_symbols, predicts, predicts_allowed, follows, opening_cost, same_list, closings, is_below, begins_by, can_close, all_inner, covers, all_offered}
use denote.Enum.Bare.{same_true, true_same}
use Rattle.efl_parse_table.specs.contracts.table.Terminal.{the_type as terminal_type}
use Rattle.efl_parse_table.specs.contracts.table.Nonterminal.{the_type as nonterminal_type}
use Rattle.efl_parse_table.specs.contracts.table.Production.{the_type as production_type}
use Rattle.efl_parse_table.specs.Efl.{grammar_with, certificate}
use Rattle.efl_parse_table.specs.Table.{symbols, nonterminal_of}
use Rattle.efl_parse_table.specs.LookaheadTables.{all_terminals, first, follow, nullable, cost, closing, shortest, height, before, inner}

terminals_law : (k : Terminal) → member certificate k all_terminals ≡ true
terminals_law terminals.Name = refl
terminals_law _ = refl

first_law : (p : Production) → subset certificate (first_symbols certificate (symbols p)) (first (nonterminal_of p)) ≡ true
first_law productions.Whole = refl
first_law _ = refl

predicts_first_law : (p : Production) → predicts certificate (nonterminal_of p) p (first_symbols certificate (symbols p)) ≡ true
predicts_first_law productions.Whole = refl
predicts_first_law _ = refl

follow_law : (p : Production) → follows certificate (nonterminal_of p) (symbols p) ≡ true
follow_law productions.Whole = refl
follow_law _ = refl

cost_law : (p : Production) → nat_lt (suc (opening_cost certificate (symbols p))) (cost (nonterminal_of p)) ≡ true
cost_law productions.Whole = refl
cost_law _ = refl

closing_law : (n : Nonterminal) → same_list certificate (closing n) (closings certificate (symbols (shortest n))) ≡ true
closing_law nonterminals.Program = refl
closing_law _ = refl

height_law : (n : Nonterminal) → is_below certificate (height n) (symbols (shortest n)) ≡ true
height_law nonterminals.Program = refl
height_law _ = refl

begins_law : (n : Nonterminal) → begins_by certificate n (shortest n) (closing n) ≡ true
begins_law nonterminals.Program = refl
begins_law _ = refl

fits_law : (p : Production) → can_close certificate (λ m. subset certificate (before (nonterminal_of p)) (before m)) (symbols p) ≡ true
fits_law productions.Whole = refl
fits_law _ = refl

inner_law : (p : Production) → implies (inner (nonterminal_of p)) (all_inner certificate (symbols p)) ≡ true
inner_law productions.Whole = refl
inner_law _ = refl

module _ {V : Type 0} (value : Token → V) (build : Production → List V → V) where
  nullable_law : (p : Production) → covers (grammar_with value build) certificate p (nullable_symbols certificate (symbols p)) (nullable (nonterminal_of p)) ≡ true
  nullable_law productions.Whole = refl
  nullable_law _ = refl

  predicts_empty_law : (p : Production) → predicts_allowed (grammar_with value build) certificate (nonterminal_of p) p (through certificate (nullable_symbols certificate (symbols p)) (follow (nonterminal_of p))) ≡ true
  predicts_empty_law productions.Whole = refl
  predicts_empty_law _ = refl

  offers_law : (n : Nonterminal) → all_offered (grammar_with value build) certificate n all_terminals ≡ true
  offers_law nonterminals.Program = refl
  offers_law _ = refl

  example_law : (k : Terminal) → (grammar_with value build).terminal_of (certificate.example k) ≡ k
  example_law terminals.Name = refl
  example_law _ = refl

  pub sound : IsSound (grammar_with value build) certificate
  sound = record {
    same_terminal = record { is = same_true terminal_type tt; own = λ a. true_same terminal_type a a refl };
    same_nonterminal = record { is = same_true nonterminal_type tt; own = λ a. true_same nonterminal_type a a refl };
    same_production = record { is = same_true production_type tt; own = λ a. true_same production_type a a refl };
    terminals = terminals_law;
    first = first_law;
    nullable = nullable_law;
    predicts_first = predicts_first_law;
    predicts_empty = predicts_empty_law;
    follow = follow_law;
    offers = offers_law;
    cost = cost_law;
    closing = closing_law;
    height = height_law;
    begins = begins_law;
    fits = fits_law;
    inner = inner_law;
    example = example_law;
    start_fits = refl;
    ends = refl;
  }
