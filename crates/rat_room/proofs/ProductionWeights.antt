-- What each production of Ratfor makes of its parts weighs no more than they do, with three for each of its terminals.
use Rattle.std.proofs.Common.{◌≤◌, ℕ, ◌+◌, arith, List, Some, None, refl}
use Rattle.ground.specs.declared.token.Token.{Token}
use Rattle.grammar.specs.declared.language.Symbol.{Symbol}
use Rattle.grammar.specs.declared.language.Symbol.TheVariants.{Terminal, Nonterminal}
use Rattle.rat_parse_table.specs.declared.table.Terminal.{Terminal as ATerminal}
use Rattle.rat_parse_table.specs.declared.table.Nonterminal.{Nonterminal as ANonterminal}
use Rattle.rat_parse_table.specs.declared.table.Nonterminal.TheVariants as nonterminals
use Rattle.rat_parse_table.specs.declared.table.Production.{Production}
use Rattle.rat_parse_table.specs.declared.table.Production.TheVariants as productions
use Rattle.rat_parse_table.specs.Table.{symbols, nonterminal_of}
use Rattle.rat_parse_values.specs.Values.{Val, at, tok}
use Rattle.rat_parse_values.specs.Parts.{place_in, name_in, number_in, count_or_one, integer_in, as_exprs, as_joins, as_declareds, as_areas, as_presets, as_entries, as_statements, as_clauses, as_formula, as_par, as_command}
use Rattle.f66_tree.specs.Syntax.{Int}
use Rattle.f66_tree.specs.Views.{listed}
use Rattle.rat_parse_values.specs.Phrases as operators
use Rattle.rat_parse_values.specs.Statements.{labelled_value}
use Rattle.rat_parse.specs.Build.{build}
use Rattle.rat_parse.specs.Ratfor.{grammar}
use Rattle.rat_room.proofs.Weights.{total, of_formula, weight}
use Rattle.rat_room.proofs.TreeWeights.{Each, Pays}
use Rattle.rat_room.proofs.NineParts.{WeighNine, part_at}
use Rattle.rat_room.proofs.NineParts.{nine as parts_nine}
use Rattle.rat_room.proofs.PartWeights as parts
use Rattle.rat_room.proofs.BeforeOthers.{keeps_each}
use Rattle.rat_room.proofs.PartWeights.{PutsOne, IsEven}
use Rattle.rat_room.proofs.PhraseWeights as made

-- what a symbol pays: three for a terminal, and for a name or a number
abbrev pub credit : Symbol ATerminal ANonterminal → ℕ
credit (Terminal t) = 3
credit (Nonterminal nonterminals.AnyName) = 3
credit (Nonterminal nonterminals.AnyNumber) = 3
credit (Nonterminal _) = 0

nine : (vs : List Val) → WeighNine weight vs
nine vs = parts_nine weight refl vs

-- operands with the operators behind the first
joined : (vs : List Val) → of_formula (operators.joined (as_formula (at 1 vs)) (as_joins (at 0 vs))) ≤ weight (at 1 vs) + weight (at 0 vs)
joined vs = omega (arith, made.joined_weighs (as_formula (at 1 vs)) (as_joins (at 0 vs)), parts.formula_weighs (at 1 vs), parts.joins_weigh (at 0 vs))

weighs : (p : Production) (vs : List Val) → Each IsEven vs →
    weight (build p vs) + credit (Nonterminal (nonterminal_of p)) ≤ total weight vs + total credit (symbols p)
weighs productions.HeadedUnit vs e = omega (arith, nine vs, parts.header_weighs (at 2 vs), parts.statements_weigh (at 0 vs))
weighs productions.TypedUnit vs e = omega (arith, nine vs, made.typed_unit_weighs (at 3 vs) (at 2 vs) (as_statements (at 0 vs)), parts.statements_weigh (at 0 vs))
weighs productions.MarkedMain vs e =
    omega (arith, nine vs, made.labelled_weighs (number_in (at 2 vs)) (at 1 vs), parts.command_weighs (labelled_value (number_in (at 2 vs)) (at 1 vs)), parts.statements_weigh (at 0 vs))
weighs productions.PlainMain vs e = omega (arith, nine vs, parts.command_weighs (at 1 vs), parts.statements_weigh (at 0 vs))
weighs productions.SubroutineHeader vs e = omega (arith, nine vs, parts.names_weigh (at 0 vs))
weighs productions.FunctionHeader vs e = omega (arith, nine vs, parts.names_weigh (at 0 vs))
weighs productions.TypedFunction vs e = omega (arith, nine vs, parts.names_weigh (at 0 vs))
weighs productions.FormalList vs e = omega (arith, nine vs, parts.names_weigh (at 1 vs))
weighs productions.MoreFormal vs e = omega (arith, nine vs, parts.names_weigh (at 0 vs))
weighs productions.BodyMore vs e = omega (arith, nine vs, parts.command_weighs (at 1 vs), parts.statements_weigh (at 0 vs))
weighs productions.StatementsMore vs e = omega (arith, nine vs, parts.command_weighs (at 1 vs), parts.statements_weigh (at 0 vs))
weighs productions.Marked vs e = omega (arith, nine vs, made.labelled_weighs (number_in (at 1 vs)) (at 0 vs))
weighs productions.TypedBare vs e = omega (arith, nine vs, made.declares_weighs (at 2 vs) (at 1 vs))
weighs productions.Braces vs e = omega (arith, nine vs, parts.statements_weigh (at 1 vs))
weighs productions.IfStatement vs e =
    omega (arith, nine vs, parts.formula_weighs (at 2 vs), parts.command_weighs (at 1 vs), made.conditional_weighs (place_in (at 3 vs)) (as_formula (at 2 vs)) (as_command (at 1 vs)) (at 0 vs))
weighs productions.WhileStatement vs e = omega (arith, nine vs, parts.formula_weighs (at 1 vs), parts.command_weighs (at 0 vs))
weighs productions.ForStatement vs e =
    omega (arith, nine vs, parts.act_if_any_weighs (at 6 vs), parts.formula_if_any_weighs (at 4 vs), parts.act_if_any_weighs (at 2 vs), parts.command_weighs (at 0 vs))
weighs productions.RepeatStatement vs e = omega (arith, nine vs, parts.command_weighs (at 1 vs), made.repetition_weighs (place_in (at 2 vs)) (as_command (at 1 vs)) (at 0 vs))
weighs productions.DoStatement vs e = omega (arith, nine vs, parts.range_weighs (at 1 vs), parts.command_weighs (at 0 vs))
weighs productions.SwitchStatement vs e = omega (arith, nine vs, parts.formula_weighs (at 5 vs), parts.clauses_weigh (at 1 vs))
weighs productions.LeaveStatement vs e = omega (arith, nine vs, made.left_weighs (at 2 vs) (place_in (at 2 vs)) (count_or_one (at 1 vs)))
weighs productions.ReturnStatement vs e = omega (arith, nine vs, parts.formula_if_any_weighs (at 1 vs))
weighs productions.PlainStatement vs e = omega (arith, nine vs, parts.act_weighs (at 1 vs))
weighs productions.UntilTest vs e = omega (arith, nine vs, parts.formula_weighs (at 1 vs))
weighs productions.MoreClauses vs e = omega (arith, nine vs, parts.clauses_weigh (at 0 vs), parts.with_clause_weighs (at 1 vs) (as_clauses (at 0 vs)) (part_at IsEven tt 1 vs e))
weighs productions.CaseClause vs e =
    omega (arith, nine vs, parts.formula_weighs (at 3 vs), parts.exprs_weigh (at 2 vs), parts.chained_weighs (as_exprs (at 2 vs)), parts.statements_weigh (at 0 vs))
weighs productions.DefaultClause vs e = omega (arith, nine vs, parts.statements_weigh (at 0 vs))
weighs productions.GoPlain vs e = omega (arith, nine vs, parts.act_weighs (at 0 vs))
weighs productions.TransferPlain vs e =
    omega (arith, nine vs, made.transfer_weighs (at 6 vs) (as_par (at 4 vs)) (number_in (at 2 vs)) (listed (as_entries (at 0 vs))), parts.par_weighs (at 4 vs), parts.listed_weighs (as_entries (at 0 vs)), parts.entries_weigh (at 0 vs))
weighs productions.DimensionPlain vs e = omega (arith, nine vs, parts.declareds_weigh (at 0 vs))
weighs productions.CommonPlain vs e = omega (arith, nine vs, parts.with_area_weighs (at 1 vs) (as_areas (at 0 vs)), parts.areas_weigh (at 0 vs))
weighs productions.EquivalencePlain vs e = omega (arith, nine vs, parts.exprs_weigh (at 1 vs), parts.groups_weigh (at 0 vs))
weighs productions.DataPlain vs e = omega (arith, nine vs, parts.with_preset_weighs (at 1 vs) (as_presets (at 0 vs)), parts.presets_weigh (at 0 vs))
weighs productions.Invocation vs e = omega (arith, nine vs, parts.chained_weighs (as_exprs (at 0 vs)), parts.exprs_weigh (at 0 vs))
weighs productions.Assignment vs e = omega (arith, nine vs, parts.formula_weighs (at 2 vs), parts.formula_weighs (at 0 vs))
weighs productions.SomeActuals vs e = omega (arith, nine vs, parts.formula_weighs (at 2 vs), parts.exprs_weigh (at 1 vs))
weighs productions.MoreActual vs e = omega (arith, nine vs, parts.formula_weighs (at 1 vs), parts.exprs_weigh (at 0 vs))
weighs productions.Range vs e = omega (arith, nine vs, parts.par_weighs (at 3 vs), parts.par_weighs (at 1 vs), parts.step_weighs (at 0 vs))
weighs productions.SomeEntries vs e = omega (arith, nine vs, parts.with_entry_weighs (at 1 vs) (as_entries (at 0 vs)), parts.entries_weigh (at 0 vs))
weighs productions.ItemEntry vs e = omega (arith, nine vs, parts.formula_weighs (at 0 vs))
weighs productions.MoreEntry vs e = omega (arith, nine vs, parts.with_entry_weighs (at 1 vs) (as_entries (at 0 vs)), parts.entries_weigh (at 0 vs))
weighs productions.Loop vs e = omega (arith, nine vs, made.looped_weighs (at 2 vs) (at 0 vs))
weighs productions.LoopLoop vs e = omega (arith, nine vs, made.lengthened_weighs (at 2 vs) (at 0 vs))
weighs productions.LoopName vs e = omega (arith, nine vs, made.begun_weighs (name_in (at 1 vs)) (at 0 vs))
weighs productions.LoopElement vs e = omega (arith, nine vs, made.pended_weighs (Some (as_exprs (at 2 vs))) (at 0 vs), parts.exprs_weigh (at 2 vs))
weighs productions.LoopScalar vs e = omega (arith, nine vs, made.pended_weighs None (at 0 vs))
weighs productions.DeclaredList vs e = omega (arith, nine vs, parts.with_declared_weighs (at 1 vs) (as_declareds (at 0 vs)), parts.declareds_weigh (at 0 vs))
weighs productions.MoreDeclared vs e = omega (arith, nine vs, parts.with_declared_weighs (at 1 vs) (as_declareds (at 0 vs)), parts.declareds_weigh (at 0 vs))
weighs productions.Declared vs e = omega (arith, nine vs, parts.pars_weigh (at 0 vs))
weighs productions.SomeSizes vs e = omega (arith, nine vs, parts.par_weighs (at 2 vs), parts.pars_weigh (at 1 vs))
weighs productions.MorePar vs e = omega (arith, nine vs, parts.par_weighs (at 1 vs), parts.pars_weigh (at 0 vs))
weighs productions.BlankFirst vs e = omega (arith, nine vs, parts.declareds_weigh (at 0 vs))
weighs productions.Area vs e = omega (arith, nine vs, parts.declareds_weigh (at 0 vs))
weighs productions.MoreArea vs e = omega (arith, nine vs, parts.with_area_weighs (at 1 vs) (as_areas (at 0 vs)), parts.areas_weigh (at 0 vs))
weighs productions.MoreAlias vs e = omega (arith, nine vs, parts.exprs_weigh (at 1 vs), parts.groups_weigh (at 0 vs))
weighs productions.Preset vs e = omega (arith, nine vs, parts.formula_weighs (at 5 vs), parts.exprs_weigh (at 4 vs))
weighs productions.MorePreset vs e = omega (arith, nine vs, parts.with_preset_weighs (at 1 vs) (as_presets (at 0 vs)), parts.presets_weigh (at 0 vs))
weighs productions.Alias vs e = omega (arith, nine vs, parts.formula_weighs (at 4 vs), parts.formula_weighs (at 2 vs), parts.exprs_weigh (at 1 vs))
weighs productions.MoreRef vs e = omega (arith, nine vs, parts.formula_weighs (at 1 vs), parts.exprs_weigh (at 0 vs))
weighs productions.NumberDatum vs e = omega (arith, nine vs, made.counted_weighs (at 1 vs) (at 0 vs))
weighs productions.SignedNumber vs e = omega (arith, nine vs, made.signed_weighs (at 1 vs) (Int (integer_in (at 0 vs))))
weighs productions.Expr vs e = omega (arith, nine vs, joined vs)
weighs productions.OrMore vs e = omega (arith, nine vs, parts.formula_weighs (at 1 vs), parts.joins_weigh (at 0 vs))
weighs productions.Conjunction vs e = omega (arith, nine vs, joined vs)
weighs productions.AndMore vs e = omega (arith, nine vs, parts.formula_weighs (at 1 vs), parts.joins_weigh (at 0 vs))
weighs productions.Negated vs e = omega (arith, nine vs, parts.formula_weighs (at 0 vs))
weighs productions.Relational vs e = omega (arith, nine vs, joined vs)
weighs productions.Compared vs e = omega (arith, nine vs, parts.formula_weighs (at 0 vs))
weighs productions.Sum vs e = omega (arith, nine vs, joined vs)
weighs productions.SignedTerm vs e = omega (arith, nine vs, made.signed_weighs (at 1 vs) (as_formula (at 0 vs)), parts.formula_weighs (at 0 vs))
weighs productions.SumMore vs e = omega (arith, nine vs, parts.formula_weighs (at 1 vs), parts.joins_weigh (at 0 vs))
weighs productions.Term vs e = omega (arith, nine vs, joined vs)
weighs productions.TimesMore vs e = omega (arith, nine vs, parts.formula_weighs (at 1 vs), parts.joins_weigh (at 0 vs))
weighs productions.OverMore vs e = omega (arith, nine vs, parts.formula_weighs (at 1 vs), parts.joins_weigh (at 0 vs))
weighs productions.Factor vs e = omega (arith, nine vs, joined vs)
weighs productions.Raised vs e = omega (arith, nine vs, parts.formula_weighs (at 0 vs))
weighs productions.GroupPrime vs e = omega (arith, nine vs, parts.formula_weighs (at 1 vs))
weighs productions.Ref vs e = omega (arith, nine vs, made.applied_weighs (name_in (at 1 vs)) (at 0 vs))
weighs productions.Subscripts vs e = omega (arith, nine vs, parts.formula_weighs (at 2 vs), parts.exprs_weigh (at 1 vs))
weighs productions.MoreExpr vs e = omega (arith, nine vs, parts.formula_weighs (at 1 vs), parts.exprs_weigh (at 0 vs))
weighs _ vs e = omega (arith, nine vs)

-- ---- clauses ----

pub keeps : (p : Production) (vs : List Val) → Each IsEven vs → IsEven (build p vs)
keeps = keeps_each PutsOne (λ d. Unit {0}) (λ es fallback ss p. record { cases = es; fallback = fallback; statements = ss; place = p; is = λ all. refl }) (λ n s. tt) (λ n fs. tt)

-- ---- each production and each token ----

pub pays : (p : Production) (vs : List Val) → Each IsEven vs → Pays grammar weight credit IsEven p vs
pays p vs e = record { weighs = weighs p vs e; keeps = keeps p vs e }

pub token : (t : Token) → (weight (tok t) + credit (Terminal (grammar.terminal_of t)) ≤ 3) × IsEven (tok t)
token t = (omega arith, tt)
