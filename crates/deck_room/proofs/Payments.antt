-- What each production of Ratfor makes costs no more than its tokens pay for, each 500 bytes.
use Rattle.std.proofs.Common.{◌≡◌, ◌≤◌, ℕ, ◌+◌, ◌*◌, arith, List, [], ◌∷◌, length, Option, Some, None, refl}
use Rattle.std.specs.Prelude.{codes}
use Rattle.ground.specs.declared.place.Place.{Place}
use Rattle.grammar.specs.declared.language.Symbol.{Symbol}
use Rattle.grammar.specs.declared.language.Symbol.TheVariants.{Terminal, Nonterminal}
use Rattle.grammar.specs.Stack.{piled}
use Rattle.f66_tree.specs.declared.expression.Operator.{Operator}
use Rattle.f66_tree.specs.declared.declaration.TypeWord.{TypeWord}
use Rattle.f66_tree.specs.Syntax.{Text, Header, FuncUnit, Formula, Pair, Plus, Minus, Read, Write, Par, Entries}
use Rattle.f66_tree.specs.Views.{chained, listed}
use Rattle.f66_tree.proofs.Tries.{if_both}
use Rattle.rat_tree.specs.Syntax.{Command, Next, Break, Plain, Labelled, Commands, Clauses, NoClause, RatRoutine}
use Rattle.rat_parse_table.specs.declared.table.Terminal.{Terminal as ATerminal}
use Rattle.rat_parse_table.specs.declared.table.Nonterminal.{Nonterminal as ANonterminal}
use Rattle.rat_parse_table.specs.declared.table.Nonterminal.TheVariants as nonterminals
use Rattle.rat_parse_table.specs.declared.table.Production.{Production}
use Rattle.rat_parse_table.specs.declared.table.Production.TheVariants as productions
use Rattle.rat_parse_table.specs.Table.{symbols, nonterminal_of}
use Rattle.rat_parse_values.specs.Kinds.{DeclarationVal, StatementVal, UnitVal}
use Rattle.rat_parse_values.specs.Kinds as part
use Rattle.rat_parse_values.specs.Values.{Val, last_of, others, at}
use Rattle.rat_parse_values.specs.Values as val
use Rattle.rat_parse_values.specs.Parts.{place_in, name_in, number_in, count_or_one, is_word, is_minus, sign_in, type_word, as_exprs, as_joins, as_names, as_pars, as_declareds, as_areas, as_entries, as_statements, as_clauses, as_units, as_par, as_formula, as_act, as_command, as_header, name_if_any, act_part, formula_part, with_declared, with_area, with_clause, with_routine}
use Rattle.rat_parse_values.specs.Phrases.{joined, signed, applied}
use Rattle.rat_parse_values.specs.Plain.{transfer}
use Rattle.rat_parse_values.specs.Statements.{conditional, repetition, with_own_label, labelled_value, left, typed, typed_unit}
use Rattle.rat_parse.specs.Build.{build}
use Rattle.rat_room.proofs.Weights.{total, if_any}
use Rattle.rat_room.proofs.TreeWeights.{Each}
use Rattle.rat_room.proofs.NineParts.{part_at}
use Rattle.rat_room.proofs.PartWeights.{IsEven}
use Rattle.rat_room.proofs.CodeWeights.{guard_weight, return_weight}
use Rattle.deck_room.proofs.Costs.{worth, call_cost, declared_worth, sizes_worth, block_worth, area_worth, act_cost, formals_cost, header_cost, cases_cost, command_cost, commands_cost, clauses_cost, routine_cost}

-- ---- what a part costs ----

abbrev of_declaration : DeclarationVal → ℕ
of_declaration (part.declared d) = declared_worth d
of_declaration (part.declareds ds) = total declared_worth ds
of_declaration (part.area a) = area_worth a
of_declaration (part.areas all) = total area_worth all
of_declaration _ = 0

abbrev of_statement : StatementVal → ℕ
of_statement (part.deed p a) = 0
of_statement (part.command p c) = command_cost c
of_statement (part.commands ss) = commands_cost ss
of_statement (part.clause d) = clauses_cost (d NoClause)
of_statement (part.clauses cs) = clauses_cost cs

abbrev of_unit : UnitVal → ℕ
of_unit (part.heading p h) = header_cost h
of_unit (part.routine u) = routine_cost u
of_unit (part.routines us) = total routine_cost us
of_unit (part.program p) = total routine_cost p.routines

abbrev pub cost : Val → ℕ
cost (val.declaration x) = of_declaration x
cost (val.statement x) = of_statement x
cost (val.unit x) = of_unit x
cost _ = 0

-- expressions with a comma before each
abbrev pub listed_worth : List Formula → ℕ
listed_worth fs = total (λ f. 500 + worth f) fs

abbrev if_some : {A : Type 0} → List A → ℕ → ℕ
if_some [] n = 0
if_some (x ∷ xs) n = n

abbrev if_listed : Val → ℕ
if_listed (val.expression (part.formulas fs)) = 500
if_listed _ = 0

abbrev if_located : Val → ℕ
if_located (val.expression (part.located p f)) = 1500
if_located _ = 0

abbrev if_given : Option Formula → ℕ
if_given None = 0
if_given (Some e) = 1500

-- what a symbol pays for
abbrev pub paid : Symbol ATerminal ANonterminal → Val → ℕ
paid (Terminal t) v = 500
paid (Nonterminal nonterminals.AnyName) v = 500
paid (Nonterminal nonterminals.AnyNumber) v = 500
paid (Nonterminal nonterminals.TypeWord) v = 500
paid (Nonterminal nonterminals.GoWords) v = 500
paid (Nonterminal nonterminals.Range) v = 500
paid (Nonterminal nonterminals.Subscripts) v = 500
paid (Nonterminal nonterminals.FormalList) v = 1000
paid (Nonterminal nonterminals.Alias) v = 1000
paid (Nonterminal nonterminals.Preset) v = 1000
paid (Nonterminal nonterminals.Condition) v = 1500
paid (Nonterminal nonterminals.Formals) v = if_some (as_names v) 1000
paid (Nonterminal nonterminals.Actuals) v = if_some (as_exprs v) 500
paid (Nonterminal nonterminals.Arguments) v = if_listed v
paid (Nonterminal nonterminals.UntilPart) v = if_located v
paid (Nonterminal nonterminals.Outcome) v = if_given (formula_part v)
paid (Nonterminal nonterminals.Expr) v = worth (as_formula v)
paid (Nonterminal nonterminals.Conjunction) v = worth (as_formula v)
paid (Nonterminal nonterminals.Negation) v = worth (as_formula v)
paid (Nonterminal nonterminals.Relational) v = worth (as_formula v)
paid (Nonterminal nonterminals.Sum) v = worth (as_formula v)
paid (Nonterminal nonterminals.FirstTerm) v = worth (as_formula v)
paid (Nonterminal nonterminals.Term) v = worth (as_formula v)
paid (Nonterminal nonterminals.Factor) v = worth (as_formula v)
paid (Nonterminal nonterminals.Prime) v = worth (as_formula v)
paid (Nonterminal nonterminals.Ref) v = worth (as_formula v)
paid (Nonterminal nonterminals.OrTail) v = 500 * length (as_joins v)
paid (Nonterminal nonterminals.AndTail) v = 500 * length (as_joins v)
paid (Nonterminal nonterminals.RelationTail) v = 500 * length (as_joins v)
paid (Nonterminal nonterminals.SumTail) v = 500 * length (as_joins v)
paid (Nonterminal nonterminals.TermTail) v = 500 * length (as_joins v)
paid (Nonterminal nonterminals.PowerTail) v = 500 * length (as_joins v)
paid (Nonterminal nonterminals.ExprMore) v = listed_worth (as_exprs v)
paid (Nonterminal nonterminals.Part) v = if_any act_cost (act_part v)
paid (Nonterminal nonterminals.Plain) v = act_cost (as_act v)
paid (Nonterminal nonterminals.Simple) v = act_cost (as_act v)
paid (Nonterminal nonterminals.Target) v = act_cost (as_act v)
paid (Nonterminal nonterminals.Sizes) v = sizes_worth (as_pars v)
paid (Nonterminal nonterminals.Program) v = cost v
paid (Nonterminal nonterminals.Units) v = cost v
paid (Nonterminal nonterminals.Unit) v = cost v
paid (Nonterminal nonterminals.UnitText) v = cost v
paid (Nonterminal nonterminals.Header) v = cost v
paid (Nonterminal nonterminals.TypedStart) v = cost v
paid (Nonterminal nonterminals.Body) v = cost v
paid (Nonterminal nonterminals.Statement) v = cost v
paid (Nonterminal nonterminals.Statements) v = cost v
paid (Nonterminal nonterminals.Item) v = cost v
paid (Nonterminal nonterminals.Bare) v = cost v
paid (Nonterminal nonterminals.Untyped) v = cost v
paid (Nonterminal nonterminals.ElsePart) v = cost v
paid (Nonterminal nonterminals.Clauses) v = cost v
paid (Nonterminal nonterminals.Clause) v = cost v
paid (Nonterminal nonterminals.DeclaredList) v = cost v
paid (Nonterminal nonterminals.DeclaredMore) v = cost v
paid (Nonterminal nonterminals.Declared) v = cost v
paid (Nonterminal nonterminals.FirstArea) v = cost v
paid (Nonterminal nonterminals.Area) v = cost v
paid (Nonterminal nonterminals.AreaMore) v = cost v
paid (Nonterminal _) v = 0

abbrev any_paid : Val → ℕ
any_paid v = cost v + (if_listed v + (if_located v + (if_given (formula_part v) + if_any act_cost (act_part v))))

-- what symbols pay for, with what they give, the last first; where there is none, nothing is given
abbrev pub all_paid : List (Symbol ATerminal ANonterminal) → List Val → ℕ
all_paid [] vs = any_paid (last_of vs)
all_paid (x ∷ xs) vs = paid x (last_of vs) + all_paid xs (others vs)

-- ---- what is read off a part ----

declareds_cost : (v : Val) → total declared_worth (as_declareds v) ≤ cost v
declareds_cost (val.declaration (part.declareds ds)) = omega arith
declareds_cost _ = omega arith

areas_cost : (v : Val) → total area_worth (as_areas v) ≤ cost v
areas_cost (val.declaration (part.areas all)) = omega arith
areas_cost _ = omega arith

part_cost : (v : Val) → if_any act_cost (act_part v) ≤ act_cost (as_act v)
part_cost (val.statement (part.deed p a)) = omega arith
part_cost _ = omega arith

command_costs : (v : Val) → command_cost (as_command v) ≤ cost v
command_costs (val.statement (part.command p c)) = omega arith
command_costs _ = omega arith

statements_cost : (v : Val) → commands_cost (as_statements v) ≤ cost v
statements_cost (val.statement (part.commands ss)) = omega arith
statements_cost _ = omega arith

clauses_costs : (v : Val) → clauses_cost (as_clauses v) ≤ cost v
clauses_costs (val.statement (part.clauses cs)) = omega arith
clauses_costs _ = omega arith

header_costs : (v : Val) → header_cost (as_header v) ≤ cost v
header_costs (val.unit (part.heading p h)) = omega arith
header_costs _ = omega arith

units_cost : (v : Val) → total routine_cost (as_units v) ≤ cost v
units_cost (val.unit (part.routines us)) = omega arith
units_cost _ = omega arith

-- ---- a part before a list ----

with_declared_cost : (v : Val) (ds : List _) → total declared_worth (with_declared v ds) ≤ cost v + total declared_worth ds
with_declared_cost (val.declaration (part.declared d)) ds = omega arith
with_declared_cost _ ds = omega arith

with_area_cost : (v : Val) (all : List _) → total area_worth (with_area v all) ≤ cost v + total area_worth all
with_area_cost (val.declaration (part.area a)) all = omega arith
with_area_cost _ all = omega arith

with_clause_cost : (v : Val) (cs : Clauses) → IsEven v → clauses_cost (with_clause v cs) ≤ cost v + clauses_cost cs
with_clause_cost (val.statement (part.clause d)) cs even = let here = even.is cs in let alone = even.is NoClause in rw (here, alone) (omega arith)
with_clause_cost _ cs even = omega arith

with_routine_cost : (v : Val) (us : List RatRoutine) → total routine_cost (with_routine v us) ≤ cost v + total routine_cost us
with_routine_cost (val.unit (part.routine u)) us = omega arith
with_routine_cost _ us = omega arith

-- ---- expressions ----

worth_least : (e : Formula) → 500 ≤ worth e
worth_least (Pair op a b) = omega arith
worth_least _ = omega arith

joined_worth : (f : Formula) (js : List (Operator × Formula)) → worth (joined f js) ≤ worth f + 500 * length js
joined_worth f [] = omega arith
joined_worth f (j ∷ js) = omega (arith, joined_worth (Pair j.0 f j.1) js, worth_least f)

joined_cost : (vs : List Val) → worth (joined (as_formula (at 1 vs)) (as_joins (at 0 vs))) ≤ worth (as_formula (at 1 vs)) + 500 * length (as_joins (at 0 vs))
joined_cost vs = joined_worth (as_formula (at 1 vs)) (as_joins (at 0 vs))

signed_worth : (v : Val) (f : Formula) → worth (signed v f) ≡ 1000
signed_worth v f = if_both (λ g. worth g ≡ 1000) (is_minus (sign_in v)) (Minus f) (Plus f) refl refl

applied_worth : (x : Text) (v : Val) → worth (applied x v) ≤ 500 + if_listed v
applied_worth x (val.expression (part.formulas fs)) = omega arith
applied_worth x _ = omega arith

listed_most : (v : Val) → if_listed v ≤ 500
listed_most (val.expression (part.formulas fs)) = omega arith
listed_most _ = omega arith

cases_chained : (fs : List Formula) → cases_cost (chained fs) ≤ listed_worth fs
cases_chained [] = omega arith
cases_chained (f ∷ fs) = omega (arith, cases_chained fs)

-- ---- statements and units ----

some_most : {A : Type 0} (xs : List A) (n : ℕ) → if_some xs n ≤ n
some_most [] n = omega arith
some_most (x ∷ xs) n = omega arith

given_most : (e : Option Formula) → if_given e ≤ 1500
given_most None = omega arith
given_most (Some e) = omega arith

guard_most : (e : Option Formula) → if_any (guard_weight act_cost) e ≤ 1460
guard_most None = omega arith
guard_most (Some e) = omega arith

block_most : (x : Option Text) → block_worth x ≤ 500
block_most None = omega arith
block_most (Some x) = omega arith

call_costs : (fs : List Formula) → call_cost (chained fs) ≤ 1000 + if_some fs 500
call_costs [] = omega arith
call_costs (f ∷ fs) = omega arith

formals_costs : (xs : List Text) → formals_cost xs ≤ 1000 + if_some xs 1000
formals_costs [] = omega arith
formals_costs (x ∷ xs) = omega arith

return_costs : (e : Option Formula) → return_weight act_cost e ≤ 500 + if_given e
return_costs None = omega arith
return_costs (Some e) = omega arith

transfer_cost : (v : Val) (u : Par) (n : ℕ) (es : Entries) → act_cost (transfer v u n es) ≡ 1460
transfer_cost v u n es = if_both (λ a. act_cost a ≡ 1460) (is_word (codes "READ") v) (Read u n es) (Write u n es) refl refl

conditional_cost : (p : Place) (f : Formula) (c : Command) (v : Val) → command_cost (conditional p f c v) ≤ 1620 + (command_cost c + cost v)
conditional_cost p f c (val.statement (part.command q d)) = omega arith
conditional_cost p f c _ = omega arith

repetition_cost : (p : Place) (c : Command) (v : Val) → command_cost (repetition p c v) ≤ 500 + (command_cost c + if_located v)
repetition_cost p c (val.expression (part.located q f)) = omega arith
repetition_cost p c _ = omega arith

marked_cost : (n : ℕ) (p : Place) (c : Command) → command_cost (with_own_label n p c) ≤ 30 + command_cost c
marked_cost n p (Plain None q a) = omega arith
marked_cost n p (Plain (Some m) q a) = omega arith
marked_cost n p (Labelled m q c) = omega arith
marked_cost n p _ = omega arith

labelled_cost : (n : ℕ) (v : Val) → cost (labelled_value n v) ≤ 30 + cost v
labelled_cost n (val.statement (part.command p c)) = marked_cost n p c
labelled_cost n _ = omega arith

left_cost : (v : Val) (p : Place) (n : ℕ) → command_cost (left v p n) ≡ 100
left_cost v p n = if_both (λ c. command_cost c ≡ 100) (is_word (codes "NEXT") v) (Next p n) (Break p n) refl refl

typed_cost : (t : TypeWord) (h : Header) → header_cost (typed t h) ≡ header_cost h
typed_cost t (FuncUnit o x xs) = refl
typed_cost t _ = refl

typed_unit_cost : (w v : Val) (ss : Commands) → routine_cost (typed_unit w v ss) ≤ 460 + (cost v + commands_cost ss)
typed_unit_cost w (val.unit (part.heading p h)) ss = omega (arith, typed_cost (type_word w) h)
typed_unit_cost w v ss = omega (arith, declareds_cost v)

-- ---- productions ----

pub pays : (p : Production) (vs : List Val) → Each IsEven vs → paid (Nonterminal (nonterminal_of p)) (build p vs) ≤ all_paid (piled (λ x. x) (symbols p) []) vs
pays productions.Whole vs e = omega (arith, units_cost (at 1 vs))
pays productions.MoreUnits vs e = omega (arith, with_routine_cost (at 1 vs) (as_units (at 0 vs)), units_cost (at 0 vs))
pays productions.HeadedUnit vs e = omega (arith, header_costs (at 2 vs), statements_cost (at 0 vs))
pays productions.TypedUnit vs e = omega (arith, typed_unit_cost (at 3 vs) (at 2 vs) (as_statements (at 0 vs)), statements_cost (at 0 vs))
pays productions.MarkedMain vs e = omega (arith, labelled_cost (number_in (at 2 vs)) (at 1 vs), command_costs (labelled_value (number_in (at 2 vs)) (at 1 vs)), statements_cost (at 0 vs))
pays productions.PlainMain vs e = omega (arith, command_costs (at 1 vs), statements_cost (at 0 vs))
pays productions.SubroutineHeader vs e = omega (arith, formals_costs (as_names (at 0 vs)))
pays productions.SomeFormals vs e = omega (arith, some_most (as_names (at 0 vs)) 1000)
pays productions.BodyMore vs e = omega (arith, command_costs (at 1 vs), statements_cost (at 0 vs))
pays productions.StatementsMore vs e = omega (arith, command_costs (at 1 vs), statements_cost (at 0 vs))
pays productions.Marked vs e = omega (arith, labelled_cost (number_in (at 1 vs)) (at 0 vs))
pays productions.TypedBare vs e = omega (arith, declareds_cost (at 1 vs))
pays productions.Braces vs e = omega (arith, statements_cost (at 1 vs))
pays productions.IfStatement vs e = omega (arith, conditional_cost (place_in (at 3 vs)) (as_formula (at 2 vs)) (as_command (at 1 vs)) (at 0 vs), command_costs (at 1 vs))
pays productions.WhileStatement vs e = omega (arith, command_costs (at 0 vs))
pays productions.ForStatement vs e = omega (arith, guard_most (formula_part (at 4 vs)), command_costs (at 0 vs))
pays productions.RepeatStatement vs e = omega (arith, repetition_cost (place_in (at 2 vs)) (as_command (at 1 vs)) (at 0 vs), command_costs (at 1 vs))
pays productions.DoStatement vs e = omega (arith, command_costs (at 0 vs))
pays productions.SwitchStatement vs e = omega (arith, clauses_costs (at 1 vs))
pays productions.LeaveStatement vs e = omega (arith, left_cost (at 2 vs) (place_in (at 2 vs)) (count_or_one (at 1 vs)))
pays productions.ReturnStatement vs e = omega (arith, return_costs (formula_part (at 1 vs)))
pays productions.Condition vs e = omega (arith, worth_least (as_formula (at 1 vs)))
pays productions.SomePart vs e = omega (arith, part_cost (at 0 vs))
pays productions.SomeOutcome vs e = omega (arith, given_most (formula_part (at 0 vs)))
pays productions.MoreClauses vs e = omega (arith, with_clause_cost (at 1 vs) (as_clauses (at 0 vs)) (part_at IsEven tt 1 vs e), clauses_costs (at 0 vs))
pays productions.CaseClause vs e = omega (arith, cases_chained (as_exprs (at 2 vs)), statements_cost (at 0 vs))
pays productions.DefaultClause vs e = omega (arith, statements_cost (at 0 vs))
pays productions.TransferPlain vs e = omega (arith, transfer_cost (at 6 vs) (as_par (at 4 vs)) (number_in (at 2 vs)) (listed (as_entries (at 0 vs))))
pays productions.DimensionPlain vs e = omega (arith, declareds_cost (at 0 vs))
pays productions.CommonPlain vs e = omega (arith, with_area_cost (at 1 vs) (as_areas (at 0 vs)), areas_cost (at 0 vs))
pays productions.Assignment vs e = omega (arith, worth_least (as_formula (at 2 vs)), worth_least (as_formula (at 0 vs)))
pays productions.Invocation vs e = omega (arith, call_costs (as_exprs (at 0 vs)))
pays productions.DeclaredList vs e = omega (arith, with_declared_cost (at 1 vs) (as_declareds (at 0 vs)), declareds_cost (at 0 vs))
pays productions.MoreDeclared vs e = omega (arith, with_declared_cost (at 1 vs) (as_declareds (at 0 vs)), declareds_cost (at 0 vs))
pays productions.BlankFirst vs e = omega (arith, declareds_cost (at 0 vs))
pays productions.Area vs e = omega (arith, declareds_cost (at 0 vs), block_most (name_if_any (at 2 vs)))
pays productions.MoreArea vs e = omega (arith, with_area_cost (at 1 vs) (as_areas (at 0 vs)), areas_cost (at 0 vs))
pays productions.Expr vs e = omega (arith, joined_cost vs)
pays productions.Conjunction vs e = omega (arith, joined_cost vs)
pays productions.Negated vs e = omega (arith, worth_least (as_formula (at 0 vs)))
pays productions.Relational vs e = omega (arith, joined_cost vs)
pays productions.Sum vs e = omega (arith, joined_cost vs)
pays productions.SignedTerm vs e = omega (arith, signed_worth (at 1 vs) (as_formula (at 0 vs)), worth_least (as_formula (at 0 vs)))
pays productions.Term vs e = omega (arith, joined_cost vs)
pays productions.Factor vs e = omega (arith, joined_cost vs)
pays productions.Ref vs e = omega (arith, applied_worth (name_in (at 1 vs)) (at 0 vs))
pays productions.SomeArguments vs e = omega (arith, listed_most (at 0 vs))
pays _ vs e = omega arith
