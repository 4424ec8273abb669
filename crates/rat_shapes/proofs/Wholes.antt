-- What each production of Ratfor makes of whole parts is whole: a computed GO TO has a label, and in a format only I, L, A and groups
-- have counts, and A has a width of one.
use Rattle.std.proofs.Common.{ℕ, arith, List, ◌∷◌, Option, Some, None, refl}
use Rattle.std.specs.Prelude.{codes}
use Rattle.ground.specs.declared.place.Place.{Place}
use Rattle.f66_tree.specs.Fields.{Fields}
use Rattle.f66_tree.specs.Syntax.{Text, Formula, Formulas, NoFormula, AndFormula, Read, Write}
use Rattle.f66_tree.proofs.Tries.{if_both}
use Rattle.rat_tree.specs.Syntax.{Command, Next, Break, Plain, Labelled, Commands, Clauses, RatRoutine}
use Rattle.rat_parse_table.specs.declared.table.Production.{Production}
use Rattle.rat_parse_table.specs.declared.table.Production.TheVariants as productions
use Rattle.rat_parse_values.specs.Kinds as part
use Rattle.rat_parse_values.specs.Values.{Val, at}
use Rattle.rat_parse_values.specs.Values as val
use Rattle.rat_parse_values.specs.Parts.{place_in, name_in, number_in, count_in, count_or_one, is_word, as_exprs, as_fields, as_formula, as_par, as_entries, as_act, as_command, as_statements, as_clauses, as_units, formula_part, act_part, with_field, with_clause, with_routine}
use Rattle.f66_tree.specs.Views.{chained, listed}
use Rattle.rat_parse_values.specs.Phrases as operators
use Rattle.rat_parse_values.specs.Plain.{counted}
use Rattle.rat_parse_values.specs.Statements.{conditional, repetition, with_own_label, labelled_value, typed_unit}
use Rattle.rat_parse.specs.Build.{build}
use Rattle.rat_room.proofs.TreeWeights.{Each}
use Rattle.rat_room.proofs.NineParts.{part_at}
use Rattle.rat_room.proofs.BeforeOthers.{IsBare, looped_bare, lengthened_bare, pended_bare, begun_bare, counted_bare, word_holds}
use Rattle.deck_laws.specs.Whole.{AreWholeFields, IsWhole}
use Rattle.rat_shapes.proofs.Codes.{IfAny, AllFine, Holds, HoldIn, HoldAmong}

-- of an expression nothing is asked
abbrev pub IsAny : Formula → Type 0
IsAny e = Unit {0}

abbrev pub IsWholeCommand : Command → Type 0
IsWholeCommand c = Holds IsAny IsWhole c

abbrev pub AreWholeCommands : Commands → Type 0
AreWholeCommands ss = HoldIn IsAny IsWhole ss

abbrev AreWholeClauses : Clauses → Type 0
AreWholeClauses cs = HoldAmong IsAny IsWhole cs

abbrev pub IsWholeRoutine : RatRoutine → Type 0
IsWholeRoutine u = AreWholeCommands u.body

-- a clause, or a field, puts itself before others, and then all are whole where they are
abbrev pub IsWholePart : Val → Type 0
IsWholePart (val.transfer (part.field d)) = (all : Fields) → AreWholeFields all → AreWholeFields (d all)
IsWholePart (val.transfer (part.fields fs)) = AreWholeFields fs
IsWholePart (val.statement (part.deed p a)) = IsWhole a
IsWholePart (val.statement (part.command p c)) = IsWholeCommand c
IsWholePart (val.statement (part.commands ss)) = AreWholeCommands ss
IsWholePart (val.statement (part.clause d)) = (all : Clauses) → AreWholeClauses all → AreWholeClauses (d all)
IsWholePart (val.statement (part.clauses cs)) = AreWholeClauses cs
IsWholePart (val.unit (part.routine u)) = IsWholeRoutine u
IsWholePart (val.unit (part.routines us)) = Each IsWholeRoutine us
IsWholePart (val.unit (part.program p)) = Each IsWholeRoutine p.routines
IsWholePart _ = Unit {0}

whole_at : (n : ℕ) (vs : List Val) → Each IsWholePart vs → IsWholePart (at n vs)
whole_at n vs e = part_at IsWholePart tt n vs e

-- ---- what is read off a part ----

fields_whole : (v : Val) → IsWholePart v → AreWholeFields (as_fields v)
fields_whole (val.transfer (part.fields fs)) h = h
fields_whole _ h = tt

act_whole : (v : Val) → IsWholePart v → IsWhole (as_act v)
act_whole (val.statement (part.deed p a)) h = h
act_whole _ h = tt

act_part_whole : (v : Val) → IsWholePart v → IfAny IsWhole (act_part v)
act_part_whole (val.statement (part.deed p a)) h = h
act_part_whole _ h = tt

command_whole : (v : Val) → IsWholePart v → IsWholeCommand (as_command v)
command_whole (val.statement (part.command p c)) h = h
command_whole _ h = tt

statements_whole : (v : Val) → IsWholePart v → AreWholeCommands (as_statements v)
statements_whole (val.statement (part.commands ss)) h = h
statements_whole _ h = tt

clauses_whole : (v : Val) → IsWholePart v → AreWholeClauses (as_clauses v)
clauses_whole (val.statement (part.clauses cs)) h = h
clauses_whole _ h = tt

units_whole : (v : Val) → IsWholePart v → Each IsWholeRoutine (as_units v)
units_whole (val.unit (part.routines us)) h = h
units_whole _ h = tt

with_field_whole : (v : Val) (fs : Fields) → IsWholePart v → AreWholeFields fs → AreWholeFields (with_field v fs)
with_field_whole (val.transfer (part.field d)) fs h all = h fs all
with_field_whole _ fs h all = all

with_clause_whole : (v : Val) (cs : Clauses) → IsWholePart v → AreWholeClauses cs → AreWholeClauses (with_clause v cs)
with_clause_whole (val.statement (part.clause d)) cs h all = h cs all
with_clause_whole _ cs h all = all

with_routine_whole : (v : Val) (us : List RatRoutine) → IsWholePart v → Each IsWholeRoutine us → Each IsWholeRoutine (with_routine v us)
with_routine_whole (val.unit (part.routine u)) us h all = (h, all)
with_routine_whole _ us h all = all

-- ---- what is made of parts ----

worded_whole : (n : ℕ) (x : Text) (rest : Fields) → AreWholeFields rest → AreWholeFields (operators.worded n x rest)
worded_whole =
    word_holds (λ d. (rest : Fields) → AreWholeFields rest → AreWholeFields (d rest)) (λ n w rest all. (tt, all)) (λ n w rest all. (tt, all)) (λ n rest all. (refl, all)) (λ n rest all. (refl, all))

counted_field_whole : (n : ℕ) (v : Val) → IsWholePart v → (rest : Fields) → AreWholeFields rest → AreWholeFields (operators.counted_field n v rest)
counted_field_whole n (val.transfer (part.fields fs)) h rest all = (h, all)
counted_field_whole n v h rest all = worded_whole n (name_in v) rest all

bare_whole : (v : Val) → IsBare v → IsWholePart v
bare_whole (val.transfer (part.field d)) h = absurd h
bare_whole (val.transfer (part.fields fs)) h = absurd h
bare_whole (val.statement x) h = absurd h
bare_whole (val.unit x) h = absurd h
bare_whole _ h = tt

conditional_whole : (p : Place) (f : Formula) (c : Command) (v : Val) → IsWholeCommand c → IsWholePart v → IsWholeCommand (conditional p f c v)
conditional_whole p f c (val.statement (part.command q d)) h g = (tt, h, g)
conditional_whole p f c _ h g = (tt, h)

repetition_whole : (p : Place) (c : Command) (v : Val) → IsWholeCommand c → IsWholeCommand (repetition p c v)
repetition_whole p c (val.expression (part.located q f)) h = (h, tt)
repetition_whole p c _ h = h

marked_whole : (n : ℕ) (p : Place) (c : Command) → IsWholeCommand c → IsWholeCommand (with_own_label n p c)
marked_whole n p (Plain None q a) h = h
marked_whole n p (Plain (Some m) q a) h = h
marked_whole n p (Labelled m q c) h = h
marked_whole n p _ h = h

labelled_whole : (n : ℕ) (v : Val) → IsWholePart v → IsWholePart (labelled_value n v)
labelled_whole n (val.statement (part.command p c)) h = marked_whole n p c h
labelled_whole n _ h = h

typed_unit_whole : (w v : Val) (ss : Commands) → AreWholeCommands ss → AreWholeCommands (typed_unit w v ss).body
typed_unit_whole w (val.unit (part.heading p h)) ss all = all
typed_unit_whole w _ ss all = (tt, all)

formula_any : (e : Option Formula) → IfAny IsAny e
formula_any None = tt
formula_any (Some e) = tt

formulas_any : (es : Formulas) → AllFine IsAny IsWhole es
formulas_any NoFormula = tt
formulas_any (AndFormula e es) = (tt, formulas_any es)

-- ---- productions ----

pub keeps : (p : Production) (vs : List Val) → Each IsWholePart vs → IsWholePart (build p vs)
keeps productions.Whole vs e = units_whole (at 1 vs) (whole_at 1 vs e)
keeps productions.MoreUnits vs e = with_routine_whole (at 1 vs) (as_units (at 0 vs)) (whole_at 1 vs e) (units_whole (at 0 vs) (whole_at 0 vs e))
keeps productions.HeadedUnit vs e = statements_whole (at 0 vs) (whole_at 0 vs e)
keeps productions.TypedUnit vs e = typed_unit_whole (at 3 vs) (at 2 vs) (as_statements (at 0 vs)) (statements_whole (at 0 vs) (whole_at 0 vs e))
keeps productions.MarkedMain vs e =
    (command_whole (labelled_value (number_in (at 2 vs)) (at 1 vs)) (labelled_whole (number_in (at 2 vs)) (at 1 vs) (whole_at 1 vs e)), statements_whole (at 0 vs) (whole_at 0 vs e))
keeps productions.PlainMain vs e = (command_whole (at 1 vs) (whole_at 1 vs e), statements_whole (at 0 vs) (whole_at 0 vs e))
keeps productions.BodyMore vs e = (command_whole (at 1 vs) (whole_at 1 vs e), statements_whole (at 0 vs) (whole_at 0 vs e))
keeps productions.StatementsMore vs e = (command_whole (at 1 vs) (whole_at 1 vs e), statements_whole (at 0 vs) (whole_at 0 vs e))
keeps productions.Marked vs e = labelled_whole (number_in (at 1 vs)) (at 0 vs) (whole_at 0 vs e)
keeps productions.Braces vs e = statements_whole (at 1 vs) (whole_at 1 vs e)
keeps productions.IfStatement vs e = conditional_whole (place_in (at 3 vs)) (as_formula (at 2 vs)) (as_command (at 1 vs)) (at 0 vs) (command_whole (at 1 vs) (whole_at 1 vs e)) (whole_at 0 vs e)
keeps productions.WhileStatement vs e = (tt, command_whole (at 0 vs) (whole_at 0 vs e))
keeps productions.ForStatement vs e = (act_part_whole (at 6 vs) (whole_at 6 vs e), formula_any (formula_part (at 4 vs)), act_part_whole (at 2 vs) (whole_at 2 vs e), command_whole (at 0 vs) (whole_at 0 vs e))
keeps productions.RepeatStatement vs e = repetition_whole (place_in (at 2 vs)) (as_command (at 1 vs)) (at 0 vs) (command_whole (at 1 vs) (whole_at 1 vs e))
keeps productions.DoStatement vs e = command_whole (at 0 vs) (whole_at 0 vs e)
keeps productions.SwitchStatement vs e = (tt, clauses_whole (at 1 vs) (whole_at 1 vs e))
keeps productions.LeaveStatement vs e =
    if_both IsWholeCommand (is_word (codes "NEXT") (at 2 vs)) (Next (place_in (at 2 vs)) (count_or_one (at 1 vs))) (Break (place_in (at 2 vs)) (count_or_one (at 1 vs))) tt tt
keeps productions.ReturnStatement vs e = formula_any (formula_part (at 1 vs))
keeps productions.PlainStatement vs e = act_whole (at 1 vs) (whole_at 1 vs e)
keeps productions.Condition vs e = whole_at 1 vs e
keeps productions.MoreClauses vs e = with_clause_whole (at 1 vs) (as_clauses (at 0 vs)) (whole_at 1 vs e) (clauses_whole (at 0 vs) (whole_at 0 vs e))
keeps productions.CaseClause vs e = λ all h. (formulas_any (chained (as_formula (at 3 vs) ∷ as_exprs (at 2 vs))), statements_whole (at 0 vs) (whole_at 0 vs e), h)
keeps productions.DefaultClause vs e = λ all h. (tt, statements_whole (at 0 vs) (whole_at 0 vs e), h)
keeps productions.GoPlain vs e = act_whole (at 0 vs) (whole_at 0 vs e)
keeps productions.TransferPlain vs e =
    if_both IsWhole (is_word (codes "READ") (at 6 vs)) (Read (as_par (at 4 vs)) (number_in (at 2 vs)) (listed (as_entries (at 0 vs)))) (Write (as_par (at 4 vs)) (number_in (at 2 vs)) (listed (as_entries (at 0 vs)))) tt tt
keeps productions.FormatPlain vs e = fields_whole (at 1 vs) (whole_at 1 vs e)
keeps productions.TwoWords vs e = whole_at 1 vs e
keeps productions.GoToWords vs e = whole_at 1 vs e
keeps productions.ComputedTarget vs e = omega arith
keeps productions.LoopRange vs e = whole_at 1 vs e
keeps productions.Loop vs e = bare_whole (operators.looped (at 2 vs) (at 0 vs)) (looped_bare (at 2 vs) (at 0 vs))
keeps productions.LoopLoop vs e = bare_whole (operators.lengthened (at 2 vs) (at 0 vs)) (lengthened_bare (at 2 vs) (at 0 vs))
keeps productions.LoopName vs e = bare_whole (operators.begun (name_in (at 1 vs)) (at 0 vs)) (begun_bare (name_in (at 1 vs)) (at 0 vs))
keeps productions.LoopElement vs e = bare_whole (operators.pended (Some (as_exprs (at 2 vs))) (at 0 vs)) (pended_bare (Some (as_exprs (at 2 vs))) (at 0 vs))
keeps productions.LoopScalar vs e = bare_whole (operators.pended None (at 0 vs)) (pended_bare None (at 0 vs))
keeps productions.NumberDatum vs e = bare_whole (counted (at 1 vs) (at 0 vs)) (counted_bare (at 1 vs) (at 0 vs))
keeps productions.EditFirst vs e = with_field_whole (at 1 vs) (as_fields (at 0 vs)) (whole_at 1 vs e) (fields_whole (at 0 vs) (whole_at 0 vs e))
keeps productions.SlashFirst vs e = (refl, fields_whole (at 0 vs) (whole_at 0 vs e))
keeps productions.EditSlash vs e = (refl, fields_whole (at 0 vs) (whole_at 0 vs e))
keeps productions.NextEdit vs e = with_field_whole (at 1 vs) (as_fields (at 0 vs)) (whole_at 1 vs e) (fields_whole (at 0 vs) (whole_at 0 vs e))
keeps productions.NextSlash vs e = (refl, fields_whole (at 0 vs) (whole_at 0 vs e))
keeps productions.SlashEdit vs e = with_field_whole (at 1 vs) (as_fields (at 0 vs)) (whole_at 1 vs e) (fields_whole (at 0 vs) (whole_at 0 vs e))
keeps productions.SlashSlash vs e = (refl, fields_whole (at 0 vs) (whole_at 0 vs e))
keeps productions.CountedEdit vs e = counted_field_whole (count_in (at 1 vs)) (at 0 vs) (whole_at 0 vs e)
keeps productions.WordEdit vs e = worded_whole 1 (name_in (at 0 vs))
keeps productions.GroupEdit vs e = λ all h. (fields_whole (at 1 vs) (whole_at 1 vs e), h)
keeps productions.LetterEdit vs e = λ all h. (refl, h)
keeps productions.CharsEdit vs e = λ all h. (refl, h)
keeps productions.CountedGroup vs e = whole_at 1 vs e
keeps _ vs e = assumption (whole_at 0 vs e)
