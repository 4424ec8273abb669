-- How many statements of FORTRAN what a part gives becomes at most, and a list of expressions as many as it has.
use Rattle.std.proofs.Common.{◌≡◌, ◌≤◌, ℕ, ◌+◌, arith, List, [], ◌∷◌, length, Option, Some, None, refl}
use Rattle.std.specs.Prelude.{codes}
use Rattle.ground.specs.declared.place.Place.{Place}
use Rattle.f66_tree.specs.Syntax.{Formula}
use Rattle.f66_tree.specs.Views.{chained}
use Rattle.f66_tree.proofs.Tries.{if_both}
use Rattle.rat_tree.specs.Syntax.{Command, Next, Break, Return, Plain, Labelled, Commands, Clauses, NoClause, RatRoutine}
use Rattle.rat_parse_values.specs.Kinds as part
use Rattle.rat_parse_values.specs.Values.{Val}
use Rattle.rat_parse_values.specs.Values as val
use Rattle.rat_parse_values.specs.Parts.{as_exprs, as_statements, as_clauses, as_command, as_units, with_clause, with_routine, is_word}
use Rattle.rat_parse_values.specs.Statements.{conditional, repetition, with_own_label, labelled_value, left, typed_unit}
use Rattle.rat_room.proofs.Lines.{expressions, lines_of, lines_in, lines_among}
use Rattle.rat_room.proofs.PartWeights.{IsEven}
use Rattle.rat_room.proofs.BeforeOthers.{IsBare}
use Rattle.rat_room.proofs.Weights.{total, if_any}

abbrev pub lines_of_units : List RatRoutine → ℕ
lines_of_units us = total (λ u. lines_in u.body) us

abbrev pub size : Val → ℕ
size (val.expression (part.formulas fs)) = length fs
size (val.statement (part.command p c)) = lines_of c
size (val.statement (part.commands ss)) = lines_in ss
size (val.statement (part.clause d)) = lines_among (d NoClause)
size (val.statement (part.clauses cs)) = lines_among cs
size (val.unit (part.routine u)) = lines_in u.body
size (val.unit (part.routines us)) = lines_of_units us
size (val.unit (part.program p)) = lines_of_units p.routines
size _ = 0

-- ---- what is read off a part ----

pub exprs_size : (v : Val) → length (as_exprs v) ≤ size v
exprs_size (val.expression (part.formulas fs)) = omega arith
exprs_size _ = omega arith

pub command_size : (v : Val) → lines_of (as_command v) ≤ size v
command_size (val.statement (part.command p c)) = omega arith
command_size _ = omega arith

pub statements_size : (v : Val) → lines_in (as_statements v) ≤ size v
statements_size (val.statement (part.commands ss)) = omega arith
statements_size _ = omega arith

pub clauses_size : (v : Val) → lines_among (as_clauses v) ≤ size v
clauses_size (val.statement (part.clauses cs)) = omega arith
clauses_size _ = omega arith

pub with_clause_size : (v : Val) (cs : Clauses) → IsEven v → lines_among (with_clause v cs) ≤ size v + lines_among cs
with_clause_size (val.statement (part.clause d)) cs even = let here = even.is cs in let alone = even.is NoClause in rw (here, alone) (omega arith)
with_clause_size _ cs even = omega arith

pub chained_size : (fs : List Formula) → expressions (chained fs) ≡ length fs
chained_size [] = refl
chained_size (f ∷ fs) = omega (arith, chained_size fs)

pub units_size : (v : Val) → lines_of_units (as_units v) ≤ size v
units_size (val.unit (part.routines us)) = omega arith
units_size _ = omega arith

pub with_routine_size : (v : Val) (us : List RatRoutine) → lines_of_units (with_routine v us) ≤ size v + lines_of_units us
with_routine_size (val.unit (part.routine u)) us = omega arith
with_routine_size _ us = omega arith

-- ---- what is made of parts ----

pub bare_size : (v : Val) → IsBare v → size v ≡ 0
bare_size (val.expression x) h = absurd h
bare_size (val.statement x) h = absurd h
bare_size (val.unit x) h = absurd h
bare_size _ h = refl

pub any_one : {A : Type 0} (x : Option A) → if_any (λ a. 1) x ≤ 1
any_one None = omega arith
any_one (Some a) = omega arith

pub return_size : (p : Place) (e : Option Formula) → lines_of (Return p e) ≤ 2
return_size p None = omega arith
return_size p (Some e) = omega arith

pub conditional_size : (p : Place) (f : Formula) (c : Command) (v : Val) → lines_of (conditional p f c v) ≤ 4 + (lines_of c + size v)
conditional_size p f c (val.statement (part.command q d)) = omega arith
conditional_size p f c _ = omega arith

pub repetition_size : (p : Place) (c : Command) (v : Val) → lines_of (repetition p c v) ≡ 4 + lines_of c
repetition_size p c (val.expression (part.located q f)) = refl
repetition_size p c _ = refl

marked_size : (n : ℕ) (p : Place) (c : Command) → lines_of (with_own_label n p c) ≤ 1 + lines_of c
marked_size n p (Plain None q a) = omega arith
marked_size n p (Plain (Some m) q a) = omega arith
marked_size n p (Labelled m q c) = omega arith
marked_size n p _ = omega arith

pub labelled_size : (n : ℕ) (v : Val) → size (labelled_value n v) ≤ 1 + size v
labelled_size n (val.statement (part.command p c)) = marked_size n p c
labelled_size n _ = omega arith

pub left_size : (v : Val) (p : Place) (n : ℕ) → lines_of (left v p n) ≡ 1
left_size v p n = if_both (λ c. lines_of c ≡ 1) (is_word (codes "NEXT") v) (Next p n) (Break p n) refl refl

pub typed_unit_size : (w v : Val) (ss : Commands) → lines_in (typed_unit w v ss).body ≤ 1 + lines_in ss
typed_unit_size w (val.unit (part.heading p h)) ss = omega arith
typed_unit_size w _ ss = omega arith
