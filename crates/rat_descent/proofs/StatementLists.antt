-- What lists of statements and clauses read, and the values of statements.
use Rattle.std.proofs.Common.{◌≡◌, List, [], ◌∷◌, ◌++◌, Option, Some, refl, sym, ◌∙◌, ap, subst}
use Rattle.ground.specs.declared.place.Place.{Place}
use Rattle.grammar.specs.declared.language.Symbol.TheVariants.{Terminal as terminal_symbol, Nonterminal as nonterminal_symbol}
use Rattle.f66_tree.specs.Syntax.{Formula, Act}
use Rattle.rat_tree.specs.declared.program.ForHead.{ForHead}
use Rattle.rat_tree.specs.declared.program.RatStmt.{RatStmt}
use Rattle.rat_tree.specs.declared.program.RatCase.{RatCase}
use Rattle.rat_tree.specs.Syntax.{Command, For, Commands, NoCommand, AndCommand, Clauses, NoClause}
use Rattle.rat_tree.specs.Views.{act_if_any, formula_if_any, command as command_seen, commands as commands_of, clauses as clauses_of, clause_then}
use Rattle.rat_parse_table.specs.declared.table.Terminal.TheVariants as terminals
use Rattle.rat_parse_table.specs.declared.table.Nonterminal.TheVariants as nonterminals
use Rattle.rat_parse_table.specs.declared.table.Production.TheVariants as productions
use Rattle.rat_parse_table.specs.ParseTable.{predict_at}
use Rattle.rat_parse_values.specs.Values.{Val, commands, clauses, clause as clause_value}
use Rattle.rat_parse_values.specs.Parts.{as_statements, as_clauses}
use Rattle.rat_parse.specs.Build.{build}
use Rattle.descent.specs.Reading.{done, next}
use Rattle.rat_descent.specs.Reading.{Reader, Reads, Gives}
use Rattle.rat_parse_values.specs.Values as val
use Rattle.rat_parse_values.specs.Kinds as part
use Rattle.rat_parse_values.specs.Statements.{repetition}
use Rattle.rat_descent.specs.Statements.{stated, before, before_clauses, until_in, repeated_so}
use Rattle.rat_descent.proofs.Productions.{production, nothing}

-- The rest of the statements is read, behind these.
abbrev pub Statements : List RatStmt → Reader → Commands → Reader → Type 0
Statements items r all s = Gives nonterminals.Statements (λ v. before items (as_statements v)) r all s

abbrev pub Clauses_from : List RatCase → Reader → Clauses → Reader → Type 0
Clauses_from items r all s = Gives nonterminals.Clauses (λ v. before_clauses items (as_clauses v)) r all s

pub before_more : (items : List RatStmt) (x : RatStmt) (rest : Commands) → before (items ++ x ∷ []) rest ≡ before items (AndCommand (command_seen x) rest)
before_more [] x rest = refl
before_more (i ∷ items) x rest = ap (AndCommand (command_seen i)) (before_more items x rest)

pub before_none : (items : List RatStmt) → before items NoCommand ≡ commands_of items
before_none [] = refl
before_none (i ∷ items) = ap (AndCommand (command_seen i)) (before_none items)

clauses_before_more : (items : List RatCase) (x : RatCase) (rest : Clauses) → before_clauses (items ++ x ∷ []) rest ≡ before_clauses items (clause_then x rest)
clauses_before_more [] x rest = refl
clauses_before_more (i ∷ items) x rest = ap (clause_then i) (clauses_before_more items x rest)

clauses_before_none : (items : List RatCase) → before_clauses items NoClause ≡ clauses_of items
clauses_before_none [] = refl
clauses_before_none (i ∷ items) = ap (clause_then i) (clauses_before_none items)

-- A statement behind the others, and more.
pub statements_more : (items : List RatStmt) (x : RatStmt) {longer : List RatStmt} {r u s : Reader} {all : Commands}
    → Reads (nonterminal_symbol nonterminals.Item) r (stated x) u → longer ≡ items ++ x ∷ [] → Statements longer u all s → Statements items r all s
statements_more items x item is more = record {
  value = build productions.StatementsMore (more.value ∷ stated x ∷ []);
  reads = production productions.StatementsMore refl refl refl refl (next item (next more.reads done));
  is = sym (before_more items x (as_statements more.value)) ∙ (ap (λ xs. before xs (as_statements more.value)) (sym is) ∙ more.is);
}

-- The end of a line, and more.
pub statements_line : (items : List RatStmt) {v : Val} {r u s : Reader} {all : Commands}
    → Reads (terminal_symbol terminals.LineEnd) r v u → Statements items u all s → Statements items r all s
statements_line items line more = record {
  value = more.value;
  reads = production productions.StatementsLine refl refl refl refl (next line (next more.reads done));
  is = more.is;
}

pub statements_none : (items : List RatStmt) {r : Reader} → predict_at nonterminals.Statements r.seen ≡ Some productions.StatementsDone → Statements items r (commands_of items) r
statements_none items predicted = record {
  value = build productions.StatementsDone [];
  reads = nothing productions.StatementsDone refl refl predicted;
  is = before_none items;
}

-- All of them, where there were none before.
pub statements_all : {items : List RatStmt} {r s : Reader} {all : Commands} → items ≡ [] → Statements items r all s → Gives nonterminals.Statements as_statements r all s
statements_all is more = record { value = more.value; reads = more.reads; is = sym (ap (λ xs. before xs (as_statements more.value)) is) ∙ more.is }

-- A clause behind the others, and more.
pub clauses_more : (items : List RatCase) (x : RatCase) {longer : List RatCase} {r u s : Reader} {all : Clauses}
    → Reads (nonterminal_symbol nonterminals.Clause) r (clause_value (clause_then x)) u → longer ≡ items ++ x ∷ [] → Clauses_from longer u all s → Clauses_from items r all s
clauses_more items x first is more = record {
  value = build productions.MoreClauses (more.value ∷ clause_value (clause_then x) ∷ []);
  reads = production productions.MoreClauses refl refl refl refl (next first (next more.reads done));
  is = sym (clauses_before_more items x (as_clauses more.value)) ∙ (ap (λ xs. before_clauses xs (as_clauses more.value)) (sym is) ∙ more.is);
}

pub clauses_none : (items : List RatCase) {r : Reader} → predict_at nonterminals.Clauses r.seen ≡ Some productions.NoClause → Clauses_from items r (clauses_of items) r
clauses_none items predicted = record {
  value = build productions.NoClause [];
  reads = nothing productions.NoClause refl refl predicted;
  is = clauses_before_none items;
}

pub clauses_all : {items : List RatCase} {r s : Reader} {all : Clauses} → items ≡ [] → Clauses_from items r all s → Gives nonterminals.Clauses as_clauses r all s
clauses_all is more = record { value = more.value; reads = more.reads; is = sym (ap (λ xs. before_clauses xs (as_clauses more.value)) is) ∙ more.is }

-- The same rest, told by equal lists and readers.
pub statements_moved : {items others : List RatStmt} {r q s : Reader} {all : Commands} → r ≡ q → items ≡ others → Statements items r all s → Statements others q all s
statements_moved {others = others} {r = r} {s = s} {all = all} there same more =
    subst (λ u. Statements others u all s) there (subst (λ xs. Statements xs r all s) same more)

-- A loop of `for` by its three parts.
pub for_value : (p : Place) (c : Command) {a a' b b' : Option Act} {e e' : Option Formula} → a ≡ a' → e ≡ e' → b ≡ b' → For p a e b c ≡ For p a' e' b' c
for_value p c {a' = a'} {b = b} {e = e} {e' = e'} first test step = ap (λ x. For p x e b c) first ∙ (ap (λ x. For p a' x b c) test ∙ ap (λ x. For p a' e' x c) step)

-- A loop of `for` by what lies apart from it.
pub for_head : (p : Place) (c : Command) {h h' : ForHead} → h ≡ h' →
    For p (act_if_any h.first) (formula_if_any h.test) (act_if_any h.step) c ≡ For p (act_if_any h'.first) (formula_if_any h'.test) (act_if_any h'.step) c
for_head p c e = ap (λ (h : ForHead). For p (act_if_any h.first) (formula_if_any h.test) (act_if_any h.step) c) e

-- A `repeat` by its `until`.
pub repetition_is : (p : Place) (c : Command) (v : Val) → repetition p c v ≡ repeated_so p c (until_in v)
repetition_is p c (val.expression (part.located q f)) = refl
repetition_is p c _ = refl
