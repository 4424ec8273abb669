-- What the building functions make is no deeper than what they make it of, but for parentheses of its own.
use Rattle.std.proofs.Common.{◌≡◌, ◌≤◌, ℕ, suc, arith, List, [], ◌∷◌, Option, Some, None, refl}
use Rattle.std.specs.Prelude.{max, codes}
use Rattle.ground.specs.declared.place.Place.{Place}
use Rattle.f66_tree.specs.declared.expression.Operator.{Operator}
use Rattle.f66_tree.specs.Fields.{Fields}
use Rattle.f66_tree.specs.Syntax.{Text, Formula, Pair, Plus, Minus, Par, Entries, Read, Write}
use Rattle.f66_tree.proofs.Tries.{if_both}
use Rattle.rat_tree.specs.Syntax.{Command, Next, Break, Plain, Labelled, Commands}
use Rattle.rat_parse_values.specs.Kinds as part
use Rattle.rat_parse_values.specs.Values.{Val}
use Rattle.rat_parse_values.specs.Values as val
use Rattle.rat_parse_values.specs.Parts.{is_word, is_minus, sign_in, name_in, with_entry}
use Rattle.rat_parse_values.specs.Phrases.{joined, signed, applied, applied_if, looped, lengthened, pended, begun, worded, counted_field}
use Rattle.rat_parse_values.specs.Plain.{counted, transfer}
use Rattle.rat_parse_values.specs.Statements.{conditional, repetition, with_own_label, labelled_value, left, declares, typed_unit}
use Rattle.rat_room.proofs.BeforeOthers.{word_holds}
use Rattle.rat_room.proofs.Weights.{if_any}
use Rattle.deck_laws.specs.Nesting.{deepest, nesting, entries_nesting, fields_nesting, act_nesting}
use Rattle.rat_shapes.proofs.Depths.{depth_of, depth_in, subscripts_depth, depth, around_subscripts, around_fields}
use Rattle.rat_shapes.proofs.Parts.{chained_deep, listed_deep, with_entry_deep, declareds_deep}

-- ---- expressions ----

pub joined_deep : (f : Formula) (js : List (Operator × Formula)) → nesting (joined f js) ≡ max (nesting f) (deepest (λ j. nesting j.1) js)
joined_deep f [] = omega arith
joined_deep f (j ∷ js) = omega (arith, joined_deep (Pair j.0 f j.1) js)

pub signed_deep : (v : Val) (f : Formula) → nesting (signed v f) ≡ nesting f
signed_deep v f = if_both (λ g. nesting g ≡ nesting f) (is_minus (sign_in v)) (Minus f) (Plus f) refl refl

pub applied_deep : (x : Text) (v : Val) → nesting (applied x v) ≤ around_subscripts v
applied_deep x (val.expression (part.formulas fs)) = omega (arith, chained_deep fs)
applied_deep x _ = omega arith

-- ---- what READ and WRITE go over ----

pub looped_deep : (v w : Val) → depth (looped v w) ≤ suc (max (depth v) (depth w))
looped_deep v (val.transfer (part.rest r)) = omega (arith, listed_deep (with_entry v r.list), with_entry_deep v r.list)
looped_deep v _ = omega arith

pub lengthened_deep : (v w : Val) → depth (lengthened v w) ≤ max (depth v) (depth w)
lengthened_deep v (val.transfer (part.rest r)) = omega (arith, with_entry_deep v r.list)
lengthened_deep v _ = omega arith

pub pended_deep : (args : Option (List Formula)) (v : Val) → depth (pended args v) ≤ max (if_any subscripts_depth args) (depth v)
pended_deep args (val.transfer (part.rest r)) = omega arith
pended_deep args _ = omega arith

applied_if_deep : (x : Text) (args : Option (List Formula)) → nesting (applied_if x args) ≤ if_any subscripts_depth args
applied_if_deep x None = omega arith
applied_if_deep x (Some fs) = omega (arith, chained_deep fs)

pub begun_deep : (x : Text) (v : Val) → depth (begun x v) ≤ depth v
begun_deep x (val.parameter (part.range r)) = omega arith
begun_deep x (val.transfer (part.pending args r)) = omega (arith, applied_if_deep x args)
begun_deep x _ = omega arith

pub transfer_deep : (v : Val) (u : Par) (n : ℕ) (es : Entries) → act_nesting (transfer v u n es) ≡ max 1 (entries_nesting es)
transfer_deep v u n es = if_both (λ a. act_nesting a ≡ max 1 (entries_nesting es)) (is_word (codes "READ") v) (Read u n es) (Write u n es) refl refl

pub counted_deep : (n v : Val) → depth (counted n v) ≡ 0
counted_deep n (val.expression (part.formula f)) = refl
counted_deep n _ = refl

-- ---- formats ----

pub worded_deep : (n : ℕ) (x : Text) (rest : Fields) → fields_nesting (worded n x rest) ≡ fields_nesting rest
worded_deep = word_holds (λ d. (rest : Fields) → fields_nesting (d rest) ≡ fields_nesting rest) (λ n w rest. refl) (λ n w rest. refl) (λ n rest. refl) (λ n rest. refl)

pub counted_field_deep : (n : ℕ) (v : Val) (rest : Fields) → fields_nesting (counted_field n v rest) ≡ max (around_fields v) (fields_nesting rest)
counted_field_deep n (val.transfer (part.fields fs)) rest = refl
counted_field_deep n v rest = omega (arith, worded_deep n (name_in v) rest)

-- ---- statements and units ----

pub conditional_deep : (p : Place) (f : Formula) (c : Command) (v : Val) → depth_of (conditional p f c v) ≤ max (nesting f) (max (depth_of c) (depth v))
conditional_deep p f c (val.statement (part.command q d)) = omega arith
conditional_deep p f c _ = omega arith

pub repetition_deep : (p : Place) (c : Command) (v : Val) → depth_of (repetition p c v) ≤ max (depth_of c) (depth v)
repetition_deep p c (val.expression (part.located q f)) = omega arith
repetition_deep p c _ = omega arith

marked_deep : (n : ℕ) (p : Place) (c : Command) → depth_of (with_own_label n p c) ≡ depth_of c
marked_deep n p (Plain None q a) = refl
marked_deep n p (Plain (Some m) q a) = refl
marked_deep n p (Labelled m q c) = refl
marked_deep n p _ = refl

pub labelled_deep : (n : ℕ) (v : Val) → depth (labelled_value n v) ≡ depth v
labelled_deep n (val.statement (part.command p c)) = marked_deep n p c
labelled_deep n _ = refl

pub left_deep : (v : Val) (p : Place) (n : ℕ) → depth_of (left v p n) ≡ 0
left_deep v p n = if_both (λ c. depth_of c ≡ 0) (is_word (codes "NEXT") v) (Next p n) (Break p n) refl refl

pub declares_deep : (w v : Val) → depth_of (declares w v) ≤ depth v
declares_deep w v = omega (arith, declareds_deep v)

pub typed_unit_deep : (w v : Val) (ss : Commands) → depth_in (typed_unit w v ss).body ≤ max (depth v) (depth_in ss)
typed_unit_deep w (val.unit (part.heading p h)) ss = omega arith
typed_unit_deep w v ss = omega (arith, declareds_deep v)
