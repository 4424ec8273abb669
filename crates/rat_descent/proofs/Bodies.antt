-- Statements of a body, one after another, and units of a text.
use Rattle.std.proofs.Common.{◌≡◌, List, [], ◌∷◌, ◌++◌, map, refl, sym, ◌∙◌, ap, subst}
use Rattle.grammar.specs.declared.language.Symbol.TheVariants.{Terminal as terminal_symbol, Nonterminal as nonterminal_symbol}
use Rattle.ground.specs.declared.token.Token.{Token}
use Rattle.rat_tree.specs.declared.program.RatStmt.{RatStmt}
use Rattle.rat_tree.specs.declared.program.RatUnit.{RatUnit}
use Rattle.rat_tree.specs.Syntax.{Commands, AndCommand, RatRoutine}
use Rattle.rat_tree.specs.Views.{command, commands, rat_routine_of}
use Rattle.rat_parse_table.specs.declared.table.Terminal.TheVariants as terminals
use Rattle.rat_parse_table.specs.declared.table.Nonterminal.TheVariants as nonterminals
use Rattle.rat_parse_table.specs.declared.table.Production.TheVariants as productions
use Rattle.rat_parse_values.specs.Values.{Val, tok, routine}
use Rattle.rat_parse_values.specs.Parts.{as_statements, as_units}
use Rattle.descent.specs.Reading.{done, next}
use Rattle.rat_descent.specs.Reading.{Reader, Reads, Gives, Passes, Lengthens}
use Rattle.rat_descent.specs.Statements.{before, stated}
use Rattle.rat_descent.proofs.StatementLists.{before_none, before_more}
use Rattle.rat_descent.proofs.Productions.{production, lengthens_more, viewed_more}

-- The rest of a body is read, behind these statements.
abbrev pub Finishes : Reader → List RatStmt → Commands → Reader → Type 0
Finishes r list all s = Gives nonterminals.Body (λ v. before list (as_statements v)) r all s

-- The rest of a text's units is read, behind these.
abbrev pub Follow : Reader → List RatUnit → List RatRoutine → Reader → Type 0
Follow r list all s = Lengthens nonterminals.Units as_units r (map rat_routine_of list) all s

-- A body that is given no statements.
pub behind_none : {first : List RatStmt} {all : Commands} (v : Val) → first ≡ [] → before first (as_statements v) ≡ all → as_statements v ≡ all
behind_none v none is = sym (ap (λ xs. before xs (as_statements v)) none) ∙ is

-- A body that is given one.
pub behind_first : {first : List RatStmt} {s : RatStmt} {all : Commands} (v : Val) → first ≡ s ∷ [] → before first (as_statements v) ≡ all
    → AndCommand (command s) (as_statements v) ≡ all
behind_first v one is = sym (ap (λ xs. before xs (as_statements v)) one) ∙ is

pub body_end : (list : List RatStmt) {r m s : Reader} {t : Token} → Reads (terminal_symbol terminals.End) r (tok t) m → Passes nonterminals.Ending m s → Finishes r list (commands list) s
body_end list token ending = record {
  value = _;
  reads = production productions.BodyEnd refl refl refl refl (next token (next ending.reads done));
  is = before_none list;
}

pub body_line : (list same : List RatStmt) {r m q s : Reader} {t : Token} {all : Commands} → Reads (terminal_symbol terminals.LineEnd) r (tok t) m → q ≡ m → same ≡ list
    → Finishes q same all s → Finishes r list all s
body_line list same {m = m} {q = q} {s = s} {all = all} token there unchanged more =
    let rest : Finishes m list all s = subst (λ u. Finishes u list all s) there (subst (λ xs. Finishes q xs all s) unchanged more) in
    record {
      value = rest.value;
      reads = production productions.BodyLine refl refl refl refl (next token (next rest.reads done));
      is = rest.is;
    }

pub body_more : (list longer : List RatStmt) (item : RatStmt) {r m q s : Reader} {all : Commands} → Reads (nonterminal_symbol nonterminals.Item) r (stated item) m → q ≡ m
    → longer ≡ list ++ item ∷ [] → Finishes q longer all s → Finishes r list all s
body_more list longer item {m = m} {q = q} {s = s} {all = all} read there behind more =
    let rest : Finishes m (list ++ item ∷ []) all s = subst (λ u. Finishes u (list ++ item ∷ []) all s) there (subst (λ xs. Finishes q xs all s) behind more) in
    record {
      value = _;
      reads = production productions.BodyMore refl refl refl refl (next read (next rest.reads done));
      is = sym (before_more list item (as_statements rest.value)) ∙ rest.is;
    }

pub units_line : (list same : List RatUnit) {r m q s : Reader} {t : Token} {all : List RatRoutine} → Reads (terminal_symbol terminals.LineEnd) r (tok t) m → q ≡ m → same ≡ list
    → Follow q same all s → Follow r list all s
units_line list same {m = m} {q = q} {s = s} {all = all} token there unchanged more =
    let rest : Follow m list all s = subst (λ u. Follow u list all s) there (subst (λ xs. Follow q xs all s) unchanged more) in
    record {
      value = rest.value;
      reads = production productions.BlankLine refl refl refl refl (next token (next rest.reads done));
      is = rest.is;
    }

pub units_more : (list longer : List RatUnit) (u : RatUnit) {r m q s : Reader} {all : List RatRoutine} → Reads (nonterminal_symbol nonterminals.Unit) r (routine (rat_routine_of u)) m
    → q ≡ m → longer ≡ list ++ u ∷ [] → Follow q longer all s → Follow r list all s
units_more list longer u {m = m} {q = q} {s = s} {all = all} read there behind more =
    let rest : Follow m longer all s = subst (λ p. Follow p longer all s) there more in
    lengthens_more as_units (map rat_routine_of list) {v = rest.value}
    (production productions.MoreUnits refl refl refl refl (next read (next rest.reads done))) refl (viewed_more rat_routine_of list u behind) rest.is
