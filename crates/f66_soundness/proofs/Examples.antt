-- Main units that are sound, and for each thing that is asked of a sound unit and matters here one that lacks it and goes wrong.
use Rattle.std.proofs.Common.{◌≡◌, ℕ, zero, suc, true, false, List, [], ◌∷◌, Option, Some, None, slice_get, codes, refl, subst}
use Rattle.std.specs.Prelude.{pos, ⊤}
use Rattle.rule_table.specs.declared.rule.Rule.{Rule}
use Rattle.rule_table.specs.declared.rule.Rule.TheVariants.{Syntax}
use Rattle.f66_tree.specs.declared.declaration.TypeWord.TheVariants.{Logical}
use Rattle.f66_tree.specs.declared.expression.Operator.TheVariants.{Add, Lt}
use Rattle.f66_tree.specs.declared.editing.EditKind.TheVariants as edits
use Rattle.f66_tree.specs.Fields.{Takes, NoField, Single}
use Rattle.f66_tree.specs.Syntax.{Text, Formula, Int, Truth, Ref, Item, Pair, NoFormula, AndFormula, Constant, Named, One, Many, NoEntry, AndEntry, Act, Assign, When, Loop, Invoke, Continue, Read, Write, Format, Typed, Dimension, Line, unlabelled_line, labelled_line}
use Rattle.f66_tree.specs.World.{Wrong, Ended}
use Rattle.f66_tree.specs.Units.{notes_of}
use Rattle.f66_tree.specs.Execution.{nowhere}
use Rattle.f66_tree.specs.OneUnit.{executed}
use Rattle.f66_names.specs.BuiltActs.{is_built}
use Rattle.f66_names.specs.Rules.{breaks_name}
use Rattle.f66_soundness.specs.SoundUnits.{acts_in_unit, main_context, finds_format, IsSoundMain, RunsRightly}
use Rattle.f66_soundness.proofs.KindLemmas.{some_same, no_some}
use Rattle.f66_soundness.proofs.SoundLemmas.{never_wrong}

abbrev i : Text
i = codes "I"

abbrev k : Text
k = codes "K"

abbrev l : Text
l = codes "L"

abbrev num : ℕ → Formula
num n = Int (pos n)

abbrev of_one : Text → Formula → Formula
of_one x a = Item x (AndFormula a NoFormula)

abbrev of_two : Text → Formula → Formula → Formula
of_two x a b = Item x (AndFormula a (AndFormula b NoFormula))

abbrev says : Act → Line
says a = unlabelled_line nowhere a

-- DIMENSION K(3)
abbrev array : Act
array = Dimension (record { name = k; sizes = Constant (pos 3) ∷ [] } ∷ [])

-- LOGICAL L
abbrev logical : Act
logical = Typed Logical (record { name = l; sizes = [] } ∷ [])

-- ---- a sound unit with a DO loop ----

--       DIMENSION K(3)
--    10 FORMAT (I5)
--       DO 20 I = 1, 3, 1
--       K(I) = MOD(I, 2) + 1
--    20 IF (K(I) .LT. 2) WRITE (6, 10) K(I)
abbrev loop : List Line
loop =
    says array
    ∷ labelled_line 10 nowhere (Format (Single 1 (Takes edits.Whole 5) NoField))
    ∷ says (Loop 20 i (Constant (pos 1)) (Constant (pos 3)) (Constant (pos 1)))
    ∷ says (Assign (of_one k (Ref i)) (Pair Add (of_two (codes "MOD") (Ref i) (num 2)) (num 1)))
    ∷ labelled_line 20 nowhere (When (Pair Lt (of_one k (Ref i)) (num 2)) (Write (Constant (pos 6)) 10 (AndEntry (One (of_one k (Ref i))) NoEntry)))
    ∷ []

-- what holds of each statement by its number holds of the one that is looked up
abbrev Each : (ℕ → Act → Type 0) → List Act → Type 0
Each P [] = ⊤
Each P (a ∷ rest) = P 0 a × Each (λ n. P (suc n)) rest

each_at : (P : ℕ → Act → Type 0) (as' : List Act) → Each P as' → (n : ℕ) (a : Act) → slice_get as' n ≡ Some a → P n a
each_at P [] h n a e = no_some _ e
each_at P (b ∷ rest) h zero a e = subst (P 0) (some_same e) h.0
each_at P (b ∷ rest) h (suc n) a e = each_at (λ m. P (suc m)) rest h.1 n a e

abbrev Unbroken : List Line → ℕ → Act → Type 0
Unbroken code n a = (kind : Rule) → breaks_name (main_context code) (acts_in_unit code) n a kind ≡ false

abbrev act_at : List Line → ℕ → Act
act_at code n = or_passes (slice_get (acts_in_unit code) n)
  where
    or_passes : Option Act → Act
    or_passes None = Continue
    or_passes (Some a) = a

first_unbroken : Unbroken loop 0 (act_at loop 0)
first_unbroken Syntax = refl
first_unbroken _ = refl

second_unbroken : Unbroken loop 1 (act_at loop 1)
second_unbroken Syntax = refl
second_unbroken _ = refl

third_unbroken : Unbroken loop 2 (act_at loop 2)
third_unbroken Syntax = refl
third_unbroken _ = refl

fourth_unbroken : Unbroken loop 3 (act_at loop 3)
fourth_unbroken Syntax = refl
fourth_unbroken _ = refl

fifth_unbroken : Unbroken loop 4 (act_at loop 4)
fifth_unbroken Syntax = refl
fifth_unbroken _ = refl

loop_sound : IsSoundMain (main_context loop) loop
loop_sound = record {
  built = each_at (λ n a. is_built (main_context loop) a ≡ true) (acts_in_unit loop) (refl, (refl, (refl, (refl, (refl, tt)))));
  clean = each_at (Unbroken loop) (acts_in_unit loop) (first_unbroken, (second_unbroken, (third_unbroken, (fourth_unbroken, (fifth_unbroken, tt)))));
  formats = each_at (λ n a. finds_format (notes_of loop) a ≡ true) (acts_in_unit loop) (refl, (refl, (refl, (refl, (refl, tt)))));
}

loop_rightly : RunsRightly loop
loop_rightly = never_wrong loop loop_sound

-- ---- a sound unit that reads an array, and writes by an implied DO ----

abbrev format : Line
format = labelled_line 10 nowhere (Format (Single 3 (Takes edits.Whole 5) NoField))

--       DIMENSION K(3)
--    10 FORMAT (3I5)
--       READ (5, 10) K
--       WRITE (6, 10) (K(I), I = 1, 3, 1)
abbrev lists : List Line
lists =
    says array
    ∷ format
    ∷ says (Read (Constant (pos 5)) 10 (AndEntry (One (Ref k)) NoEntry))
    ∷ says (Write (Constant (pos 6)) 10 (AndEntry (Many (AndEntry (One (of_one k (Ref i))) NoEntry) i (Constant (pos 1)) (Constant (pos 3)) (Constant (pos 1))) NoEntry))
    ∷ []

array_unbroken : Unbroken lists 0 (act_at lists 0)
array_unbroken Syntax = refl
array_unbroken _ = refl

format_unbroken : Unbroken lists 1 (act_at lists 1)
format_unbroken Syntax = refl
format_unbroken _ = refl

read_unbroken : Unbroken lists 2 (act_at lists 2)
read_unbroken Syntax = refl
read_unbroken _ = refl

write_unbroken : Unbroken lists 3 (act_at lists 3)
write_unbroken Syntax = refl
write_unbroken _ = refl

lists_sound : IsSoundMain (main_context lists) lists
lists_sound = record {
  built = each_at (λ n a. is_built (main_context lists) a ≡ true) (acts_in_unit lists) (refl, (refl, (refl, (refl, tt))));
  clean = each_at (Unbroken lists) (acts_in_unit lists) (array_unbroken, (format_unbroken, (read_unbroken, (write_unbroken, tt))));
  formats = each_at (λ n a. finds_format (notes_of lists) a ≡ true) (acts_in_unit lists) (refl, (refl, (refl, (refl, tt))));
}

lists_rightly : RunsRightly lists
lists_rightly = never_wrong lists lists_sound

-- ---- units that are not sound ----

abbrev goes_wrong : List Line → Type 0
goes_wrong code = (executed code [] 9).end ≡ Ended Wrong

-- I = 1 + .TRUE.
type_clash : goes_wrong (says (Assign (Ref i) (Pair Add (num 1) (Truth true))) ∷ [])
type_clash = refl

-- DIMENSION K(3), and then K(1) = 1, and I = K(1, 1)
wrong_count : goes_wrong (says array ∷ says (Assign (of_one k (num 1)) (num 1)) ∷ says (Assign (Ref i) (of_two k (num 1) (num 1))) ∷ [])
wrong_count = refl

-- LOGICAL L and DIMENSION K(L), and then L = .TRUE., and K(1) = 1
bad_constant : goes_wrong (says logical ∷ says (Dimension (record { name = k; sizes = Named l ∷ [] } ∷ [])) ∷ says (Assign (Ref l) (Truth true)) ∷ says (Assign (of_one k (num 1)) (num 1)) ∷ [])
bad_constant = refl

-- MOD(1, 2) = 1
not_assignable : goes_wrong (says (Assign (of_two (codes "MOD") (num 1) (num 2)) (num 1)) ∷ [])
not_assignable = refl

-- CALL K
unbuilt : goes_wrong (says (Invoke k NoFormula) ∷ [])
unbuilt = refl

-- WRITE (6, 10) I, and no FORMAT
no_format : goes_wrong (says (Assign (Ref i) (num 1)) ∷ says (Write (Constant (pos 6)) 10 (AndEntry (One (Ref i)) NoEntry)) ∷ [])
no_format = refl

-- WRITE (6, 10) 1
no_place : goes_wrong (format ∷ says (Write (Constant (pos 6)) 10 (AndEntry (One (num 1)) NoEntry)) ∷ [])
no_place = refl

-- READ (5, 10) MOD(1, 2), and a record
not_readable : (executed (format ∷ says (Read (Constant (pos 5)) 10 (AndEntry (One (of_two (codes "MOD") (num 1) (num 2))) NoEntry)) ∷ []) ([] ∷ []) 9).end ≡ Ended Wrong
not_readable = refl
