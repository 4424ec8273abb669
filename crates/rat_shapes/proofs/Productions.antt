-- What each production of Ratfor makes of its parts is no deeper than 100 parentheses less those that are open before it, where
-- each part is no deeper than that at its own beginning.
use Rattle.std.proofs.Common.{◌≤◌, ℕ, ◌+◌, arith, List, [], ◌∷◌, Some, None}
use Rattle.std.specs.Prelude.{◌-◌, max}
use Rattle.grammar.specs.declared.language.Symbol.{Symbol}
use Rattle.grammar.specs.declared.language.Symbol.TheVariants.{Nonterminal}
use Rattle.grammar.specs.Stack.{piled}
use Rattle.rat_parse_table.specs.declared.table.Terminal.{Terminal as ATerminal}
use Rattle.rat_parse_table.specs.declared.table.Nonterminal.{Nonterminal as ANonterminal}
use Rattle.rat_parse_table.specs.declared.table.Production.{Production}
use Rattle.rat_parse_table.specs.declared.table.Production.TheVariants as productions
use Rattle.rat_parse_table.specs.Table.{symbols, nonterminal_of}
use Rattle.rat_parse_values.specs.Values.{Val, last_of, others, at}
use Rattle.rat_parse_values.specs.Parts.{place_in, name_in, number_in, count_in, count_or_one, integer_in, as_exprs, as_joins, as_declareds, as_areas, as_presets, as_entries, as_fields, as_statements, as_clauses, as_units, as_par, as_formula, as_command}
use Rattle.f66_tree.specs.Fields.{NoField}
use Rattle.f66_tree.specs.Syntax.{Int}
use Rattle.f66_tree.specs.Views.{listed}
use Rattle.rat_parse_values.specs.Phrases.{joined}
use Rattle.rat_parse_values.specs.Statements.{labelled_value}
use Rattle.rat_parse.specs.Build.{build}
use Rattle.rat_room.proofs.TreeWeights.{Each}
use Rattle.deck_laws.specs.Nesting.{nesting}
use Rattle.rat_shapes.proofs.Depths.{any_depth, depth, depth_at}
use Rattle.rat_shapes.proofs.Parts as parts
use Rattle.rat_shapes.proofs.Made as made
use Rattle.rat_shapes.proofs.Splits.{IsSplit, split_at, with_clause_deep, with_field_deep}
use Rattle.rat_shapes.proofs.Openings.{all_open, all_close}

-- The values of symbols, the last first, of which each is no deeper than 100 less what is open where it begins: so many before the
-- first symbol, and what the symbols before it open and do not close.
abbrev pub Within : ℕ → List (Symbol ATerminal ANonterminal) → List Val → Type 0
Within n [] vs = (any_depth (last_of vs) ≤ 0) × Unit {0}
Within n (x ∷ xs) vs = (depth_at x (last_of vs) ≤ 100 - (n + all_open xs - all_close xs)) × Within n xs (others vs)

joined_parts : (vs : List Val) → nesting (joined (as_formula (at 1 vs)) (as_joins (at 0 vs))) ≤ max (depth (at 1 vs)) (depth (at 0 vs))
joined_parts vs = omega (arith, made.joined_deep (as_formula (at 1 vs)) (as_joins (at 0 vs)), parts.formula_deep (at 1 vs), parts.joins_deep (at 0 vs))

pub made_deep : (p : Production) (vs : List Val) (n : ℕ) → Each IsSplit vs → Within n (piled (λ x. x) (symbols p) []) vs →
    depth_at (Nonterminal (nonterminal_of p)) (build p vs) ≤ 100 - n
made_deep productions.Whole vs n e w = omega (arith, w.1.0, parts.units_deep (at 1 vs))
made_deep productions.MoreUnits vs n e w = omega (arith, w.0, w.1.0, parts.with_routine_deep (at 1 vs) (as_units (at 0 vs)), parts.units_deep (at 0 vs))
made_deep productions.HeadedUnit vs n e w = omega (arith, w.0, parts.statements_deep (at 0 vs))
made_deep productions.TypedUnit vs n e w = omega (arith, w.0, w.1.1.0, made.typed_unit_deep (at 3 vs) (at 2 vs) (as_statements (at 0 vs)), parts.statements_deep (at 0 vs))
made_deep productions.MarkedMain vs n e w =
    omega (arith, w.0, w.1.0, made.labelled_deep (number_in (at 2 vs)) (at 1 vs), parts.command_deep (labelled_value (number_in (at 2 vs)) (at 1 vs)), parts.statements_deep (at 0 vs))
made_deep productions.PlainMain vs n e w = omega (arith, w.0, w.1.0, parts.command_deep (at 1 vs), parts.statements_deep (at 0 vs))
made_deep productions.BodyMore vs n e w = omega (arith, w.0, w.1.0, parts.command_deep (at 1 vs), parts.statements_deep (at 0 vs))
made_deep productions.StatementsMore vs n e w = omega (arith, w.0, w.1.0, parts.command_deep (at 1 vs), parts.statements_deep (at 0 vs))
made_deep productions.Marked vs n e w = omega (arith, w.0, made.labelled_deep (number_in (at 1 vs)) (at 0 vs))
made_deep productions.TypedBare vs n e w = omega (arith, w.1.0, made.declares_deep (at 2 vs) (at 1 vs))
made_deep productions.Braces vs n e w = omega (arith, w.1.0, parts.statements_deep (at 1 vs))
made_deep productions.IfStatement vs n e w =
    omega (arith, w.0, w.1.0, w.1.1.0, made.conditional_deep (place_in (at 3 vs)) (as_formula (at 2 vs)) (as_command (at 1 vs)) (at 0 vs), parts.formula_deep (at 2 vs), parts.command_deep (at 1 vs))
made_deep productions.WhileStatement vs n e w = omega (arith, w.0, w.1.0, parts.formula_deep (at 1 vs), parts.command_deep (at 0 vs))
made_deep productions.ForStatement vs n e w =
    omega (arith, w.0, w.1.1.0, w.1.1.1.1.0, w.1.1.1.1.1.1.0, parts.command_deep (at 0 vs), parts.act_if_any_deep (at 2 vs), parts.formula_if_any_deep (at 4 vs), parts.act_if_any_deep (at 6 vs))
made_deep productions.RepeatStatement vs n e w = omega (arith, w.0, w.1.0, made.repetition_deep (place_in (at 2 vs)) (as_command (at 1 vs)) (at 0 vs), parts.command_deep (at 1 vs))
made_deep productions.DoStatement vs n e w = omega (arith, w.0, parts.command_deep (at 0 vs))
made_deep productions.SwitchStatement vs n e w = omega (arith, w.1.0, w.1.1.1.1.1.0, parts.formula_deep (at 5 vs), parts.clauses_deep (at 1 vs))
made_deep productions.LeaveStatement vs n e w = omega (arith, made.left_deep (at 2 vs) (place_in (at 2 vs)) (count_or_one (at 1 vs)))
made_deep productions.ReturnStatement vs n e w = omega (arith, w.1.0, parts.formula_if_any_deep (at 1 vs))
made_deep productions.PlainStatement vs n e w = omega (arith, w.1.0, parts.act_deep (at 1 vs))
made_deep productions.Condition vs n e w = omega (arith, w.1.0)
made_deep productions.UntilTest vs n e w = omega (arith, w.1.0, parts.formula_deep (at 1 vs))
made_deep productions.MoreClauses vs n e w = omega (arith, w.0, w.1.0, with_clause_deep (at 1 vs) (as_clauses (at 0 vs)) (split_at 1 vs e), parts.clauses_deep (at 0 vs))
made_deep productions.CaseClause vs n e w =
    omega (arith, w.0, w.1.1.0, w.1.1.1.0, parts.formula_deep (at 3 vs), parts.exprs_deep (at 2 vs), parts.chained_deep (as_exprs (at 2 vs)), parts.statements_deep (at 0 vs))
made_deep productions.DefaultClause vs n e w = omega (arith, w.0, parts.statements_deep (at 0 vs))
made_deep productions.GoPlain vs n e w = omega (arith, w.0, parts.act_deep (at 0 vs))
made_deep productions.TransferPlain vs n e w =
    omega (arith, w.0, w.1.1.1.1.1.0, made.transfer_deep (at 6 vs) (as_par (at 4 vs)) (number_in (at 2 vs)) (listed (as_entries (at 0 vs))), parts.listed_deep (as_entries (at 0 vs)), parts.entries_deep (at 0 vs))
made_deep productions.FormatPlain vs n e w = omega (arith, w.1.0, w.1.1.0, parts.fields_deep (at 1 vs))
made_deep productions.DimensionPlain vs n e w = omega (arith, w.0, parts.declareds_deep (at 0 vs))
made_deep productions.CommonPlain vs n e w = omega (arith, w.0, w.1.0, parts.with_area_deep (at 1 vs) (as_areas (at 0 vs)), parts.areas_deep (at 0 vs))
made_deep productions.EquivalencePlain vs n e w = omega (arith, w.0, w.1.0, parts.groups_deep (at 0 vs))
made_deep productions.DataPlain vs n e w = omega (arith, w.0, w.1.0, parts.with_preset_deep (at 1 vs) (as_presets (at 0 vs)), parts.presets_deep (at 0 vs))
made_deep productions.Assignment vs n e w = omega (arith, w.0, w.1.1.0, parts.formula_deep (at 2 vs), parts.formula_deep (at 0 vs))
made_deep productions.GoToWords vs n e w = omega (arith, w.1.0)
made_deep productions.ComputedTarget vs n e w = omega (arith, w.1.1.1.1.1.0)
made_deep productions.SomeActuals vs n e w = omega (arith, w.1.0, w.1.1.0, w.1.1.1.0, parts.formula_deep (at 2 vs), parts.exprs_deep (at 1 vs), parts.chained_deep (as_exprs (at 1 vs)))
made_deep productions.MoreActual vs n e w = omega (arith, w.0, w.1.0, parts.formula_deep (at 1 vs), parts.exprs_deep (at 0 vs))
made_deep productions.SomeEntries vs n e w = omega (arith, w.0, w.1.0, parts.with_entry_deep (at 1 vs) (as_entries (at 0 vs)), parts.entries_deep (at 0 vs))
made_deep productions.ItemEntry vs n e w = omega (arith, w.0, parts.formula_deep (at 0 vs))
made_deep productions.MoreEntry vs n e w = omega (arith, w.0, w.1.0, parts.with_entry_deep (at 1 vs) (as_entries (at 0 vs)), parts.entries_deep (at 0 vs))
made_deep productions.Loop vs n e w = omega (arith, w.0, w.1.1.0, w.1.1.1.0, made.looped_deep (at 2 vs) (at 0 vs))
made_deep productions.LoopLoop vs n e w = omega (arith, w.0, w.1.1.0, made.lengthened_deep (at 2 vs) (at 0 vs))
made_deep productions.LoopName vs n e w = omega (arith, w.0, made.begun_deep (name_in (at 1 vs)) (at 0 vs))
made_deep productions.LoopRange vs n e w = omega (arith, w.1.0)
made_deep productions.LoopElement vs n e w = omega (arith, w.0, w.1.1.0, made.pended_deep (Some (as_exprs (at 2 vs))) (at 0 vs))
made_deep productions.LoopScalar vs n e w = omega (arith, w.0, made.pended_deep None (at 0 vs))
made_deep productions.DeclaredList vs n e w = omega (arith, w.0, w.1.0, parts.with_declared_deep (at 1 vs) (as_declareds (at 0 vs)), parts.declareds_deep (at 0 vs))
made_deep productions.MoreDeclared vs n e w = omega (arith, w.0, w.1.0, parts.with_declared_deep (at 1 vs) (as_declareds (at 0 vs)), parts.declareds_deep (at 0 vs))
made_deep productions.Declared vs n e w = omega (arith, w.0, parts.sizes_deep (at 0 vs))
made_deep productions.SomeSizes vs n e w = omega (arith, w.1.1.1.0)
made_deep productions.BlankFirst vs n e w = omega (arith, w.0, parts.declareds_deep (at 0 vs))
made_deep productions.Area vs n e w = omega (arith, w.0, parts.declareds_deep (at 0 vs))
made_deep productions.MoreArea vs n e w = omega (arith, w.0, w.1.0, parts.with_area_deep (at 1 vs) (as_areas (at 0 vs)), parts.areas_deep (at 0 vs))
made_deep productions.Alias vs n e w = omega (arith, w.1.0, w.1.1.0, w.1.1.1.1.0, w.1.1.1.1.1.0, parts.formula_deep (at 4 vs), parts.formula_deep (at 2 vs), parts.exprs_deep (at 1 vs))
made_deep productions.MoreAlias vs n e w = omega (arith, w.0, w.1.0, parts.groups_deep (at 0 vs))
made_deep productions.MoreRef vs n e w = omega (arith, w.0, w.1.0, parts.formula_deep (at 1 vs), parts.exprs_deep (at 0 vs))
made_deep productions.Preset vs n e w = omega (arith, w.1.1.1.1.0, w.1.1.1.1.1.0, parts.formula_deep (at 5 vs), parts.exprs_deep (at 4 vs))
made_deep productions.MorePreset vs n e w = omega (arith, w.0, w.1.0, parts.with_preset_deep (at 1 vs) (as_presets (at 0 vs)), parts.presets_deep (at 0 vs))
made_deep productions.NumberDatum vs n e w = omega (arith, made.counted_deep (at 1 vs) (at 0 vs))
made_deep productions.SignedNumber vs n e w = omega (arith, made.signed_deep (at 1 vs) (Int (integer_in (at 0 vs))))
made_deep productions.EditFirst vs n e w = omega (arith, w.0, w.1.0, with_field_deep (at 1 vs) (as_fields (at 0 vs)) (split_at 1 vs e), parts.fields_deep (at 0 vs))
made_deep productions.SlashFirst vs n e w = omega (arith, w.0, parts.fields_deep (at 0 vs))
made_deep productions.EditSlash vs n e w = omega (arith, w.0, parts.fields_deep (at 0 vs))
made_deep productions.NextEdit vs n e w = omega (arith, w.0, w.1.0, with_field_deep (at 1 vs) (as_fields (at 0 vs)) (split_at 1 vs e), parts.fields_deep (at 0 vs))
made_deep productions.NextSlash vs n e w = omega (arith, w.0, parts.fields_deep (at 0 vs))
made_deep productions.SlashEdit vs n e w = omega (arith, w.0, w.1.0, with_field_deep (at 1 vs) (as_fields (at 0 vs)) (split_at 1 vs e), parts.fields_deep (at 0 vs))
made_deep productions.SlashSlash vs n e w = omega (arith, w.0, parts.fields_deep (at 0 vs))
made_deep productions.CountedEdit vs n e w = omega (arith, w.0, made.counted_field_deep (count_in (at 1 vs)) (at 0 vs) NoField)
made_deep productions.WordEdit vs n e w = omega (arith, made.worded_deep 1 (name_in (at 0 vs)) NoField)
made_deep productions.GroupEdit vs n e w = omega (arith, w.1.0, w.1.1.0, parts.fields_deep (at 1 vs))
made_deep productions.CountedGroup vs n e w = omega (arith, w.1.0, w.1.1.0, parts.around_fields_deep (at 1 vs))
made_deep productions.Expr vs n e w = omega (arith, w.0, w.1.0, joined_parts vs)
made_deep productions.OrMore vs n e w = omega (arith, w.0, w.1.0, parts.formula_deep (at 1 vs), parts.joins_deep (at 0 vs))
made_deep productions.Conjunction vs n e w = omega (arith, w.0, w.1.0, joined_parts vs)
made_deep productions.AndMore vs n e w = omega (arith, w.0, w.1.0, parts.formula_deep (at 1 vs), parts.joins_deep (at 0 vs))
made_deep productions.Negated vs n e w = omega (arith, w.0, parts.formula_deep (at 0 vs))
made_deep productions.Relational vs n e w = omega (arith, w.0, w.1.0, joined_parts vs)
made_deep productions.Compared vs n e w = omega (arith, w.0, parts.formula_deep (at 0 vs))
made_deep productions.Sum vs n e w = omega (arith, w.0, w.1.0, joined_parts vs)
made_deep productions.SignedTerm vs n e w = omega (arith, w.0, made.signed_deep (at 1 vs) (as_formula (at 0 vs)), parts.formula_deep (at 0 vs))
made_deep productions.SumMore vs n e w = omega (arith, w.0, w.1.0, parts.formula_deep (at 1 vs), parts.joins_deep (at 0 vs))
made_deep productions.Term vs n e w = omega (arith, w.0, w.1.0, joined_parts vs)
made_deep productions.TimesMore vs n e w = omega (arith, w.0, w.1.0, parts.formula_deep (at 1 vs), parts.joins_deep (at 0 vs))
made_deep productions.OverMore vs n e w = omega (arith, w.0, w.1.0, parts.formula_deep (at 1 vs), parts.joins_deep (at 0 vs))
made_deep productions.Factor vs n e w = omega (arith, w.0, w.1.0, joined_parts vs)
made_deep productions.Raised vs n e w = omega (arith, w.0, parts.formula_deep (at 0 vs))
made_deep productions.GroupPrime vs n e w = omega (arith, w.1.0, w.1.1.0, parts.formula_deep (at 1 vs))
made_deep productions.Ref vs n e w = omega (arith, w.0, made.applied_deep (name_in (at 1 vs)) (at 0 vs))
made_deep productions.SomeArguments vs n e w = omega (arith, w.0, parts.around_subscripts_deep (at 0 vs))
made_deep productions.Subscripts vs n e w = omega (arith, w.1.0, w.1.1.0, w.1.1.1.0, parts.formula_deep (at 2 vs), parts.exprs_deep (at 1 vs))
made_deep productions.MoreExpr vs n e w = omega (arith, w.0, w.1.0, parts.formula_deep (at 1 vs), parts.exprs_deep (at 0 vs))
made_deep _ vs n e w = omega (arith, w.0)
