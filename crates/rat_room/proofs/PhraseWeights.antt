-- What the building functions make weighs no more than what they make it of.
use Rattle.std.proofs.Common.{◌≡◌, ◌≤◌, ℕ, ◌+◌, arith, List, [], ◌∷◌, Option, Some, None, refl}
use Rattle.std.specs.Prelude.{codes}
use Rattle.ground.specs.declared.place.Place.{Place}
use Rattle.f66_tree.specs.declared.expression.Operator.{Operator}
use Rattle.f66_tree.specs.declared.declaration.TypeWord.{TypeWord}
use Rattle.f66_tree.specs.Syntax.{Text, Header, FuncUnit, Formula, Pair, Plus, Minus, Par, Entries, Read, Write}
use Rattle.f66_tree.proofs.Tries.{if_both}
use Rattle.rat_tree.specs.Syntax.{Command, Next, Break, Plain, Labelled, Commands}
use Rattle.rat_parse_values.specs.Kinds as part
use Rattle.rat_parse_values.specs.Values.{Val}
use Rattle.rat_parse_values.specs.Values as val
use Rattle.rat_parse_values.specs.Parts.{is_word, is_minus, sign_in, type_word, with_entry}
use Rattle.rat_parse_values.specs.Phrases.{joined, signed, applied, applied_if, looped, lengthened, pended, begun}
use Rattle.rat_parse_values.specs.Plain.{counted, transfer}
use Rattle.rat_parse_values.specs.Statements.{conditional, repetition, with_own_label, labelled_value, left, declares, typed, typed_unit}
use Rattle.rat_room.proofs.Weights.{total, if_any, of_formula, of_par, of_entries, of_act, of_command, of_commands, of_header, weight}
use Rattle.rat_room.proofs.PartWeights.{chained_weighs, listed_weighs, with_entry_weighs, declareds_weigh}

-- ---- expressions ----

pub joined_weighs : (f : Formula) (js : List (Operator × Formula)) → of_formula (joined f js) ≡ of_formula f + total (λ j. of_formula j.1) js
joined_weighs f [] = omega arith
joined_weighs f (j ∷ js) = omega (arith, joined_weighs (Pair j.0 f j.1) js)

pub signed_weighs : (v : Val) (f : Formula) → of_formula (signed v f) ≡ of_formula f
signed_weighs v f = if_both (λ g. of_formula g ≡ of_formula f) (is_minus (sign_in v)) (Minus f) (Plus f) refl refl

pub applied_weighs : (x : Text) (v : Val) → of_formula (applied x v) ≤ 1 + weight v
applied_weighs x (val.expression (part.formulas fs)) = omega (arith, chained_weighs fs)
applied_weighs x _ = omega arith

-- ---- what READ and WRITE go over ----

pub looped_weighs : (v w : Val) → weight (looped v w) ≤ weight v + weight w
looped_weighs v (val.transfer (part.rest r)) = omega (arith, listed_weighs (with_entry v r.list), with_entry_weighs v r.list)
looped_weighs v _ = omega arith

pub lengthened_weighs : (v w : Val) → weight (lengthened v w) ≤ weight v + weight w
lengthened_weighs v (val.transfer (part.rest r)) = omega (arith, with_entry_weighs v r.list)
lengthened_weighs v _ = omega arith

pub pended_weighs : (args : Option (List Formula)) (v : Val) → weight (pended args v) ≤ if_any (total of_formula) args + weight v
pended_weighs args (val.transfer (part.rest r)) = omega arith
pended_weighs args _ = omega arith

applied_if_weighs : (x : Text) (args : Option (List Formula)) → of_formula (applied_if x args) ≤ 1 + if_any (total of_formula) args
applied_if_weighs x None = omega arith
applied_if_weighs x (Some fs) = omega (arith, chained_weighs fs)

pub begun_weighs : (x : Text) (v : Val) → weight (begun x v) ≤ 1 + weight v
begun_weighs x (val.parameter (part.range r)) = omega arith
begun_weighs x (val.transfer (part.pending args r)) = omega (arith, applied_if_weighs x args)
begun_weighs x _ = omega arith

pub transfer_weighs : (v : Val) (u : Par) (n : ℕ) (es : Entries) → of_act (transfer v u n es) ≡ of_par u + of_entries es
transfer_weighs v u n es = if_both (λ a. of_act a ≡ of_par u + of_entries es) (is_word (codes "READ") v) (Read u n es) (Write u n es) refl refl

pub counted_weighs : (n v : Val) → weight (counted n v) ≡ 0
counted_weighs n (val.expression (part.formula f)) = refl
counted_weighs n _ = refl

-- ---- statements and units ----

pub conditional_weighs : (p : Place) (f : Formula) (c : Command) (v : Val) → of_command (conditional p f c v) ≤ 2 + (of_formula f + (of_command c + weight v))
conditional_weighs p f c (val.statement (part.command q d)) = omega arith
conditional_weighs p f c _ = omega arith

pub repetition_weighs : (p : Place) (c : Command) (v : Val) → of_command (repetition p c v) ≤ 3 + (of_command c + weight v)
repetition_weighs p c (val.expression (part.located q f)) = omega arith
repetition_weighs p c _ = omega arith

marked_weighs : (n : ℕ) (p : Place) (c : Command) → of_command (with_own_label n p c) ≤ 1 + of_command c
marked_weighs n p (Plain None q a) = omega arith
marked_weighs n p (Plain (Some m) q a) = omega arith
marked_weighs n p (Labelled m q c) = omega arith
marked_weighs n p _ = omega arith

pub labelled_weighs : (n : ℕ) (v : Val) → weight (labelled_value n v) ≤ 1 + weight v
labelled_weighs n (val.statement (part.command p c)) = marked_weighs n p c
labelled_weighs n _ = omega arith

pub left_weighs : (v : Val) (p : Place) (n : ℕ) → of_command (left v p n) ≡ 0
left_weighs v p n = if_both (λ c. of_command c ≡ 0) (is_word (codes "NEXT") v) (Next p n) (Break p n) refl refl

pub declares_weighs : (w v : Val) → of_command (declares w v) ≤ weight v
declares_weighs w v = omega (arith, declareds_weigh v)

-- a type adds no name
typed_names : (t : TypeWord) (h : Header) → of_header (typed t h) ≡ of_header h
typed_names t (FuncUnit o x xs) = refl
typed_names t _ = refl

pub typed_unit_weighs : (w v : Val) (ss : Commands) → of_header (typed_unit w v ss).header + of_commands (typed_unit w v ss).body ≤ weight v + of_commands ss
typed_unit_weighs w (val.unit (part.heading p h)) ss = omega (arith, typed_names (type_word w) h)
typed_unit_weighs w v ss = omega (arith, declareds_weigh v)
