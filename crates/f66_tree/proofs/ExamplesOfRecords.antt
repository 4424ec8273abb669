-- READ and WRITE, by computation: formats, lists, and their traps in their order.
use Rattle.std.proofs.Common.{◌≡◌, refl}
use Rattle.std.specs.Prelude.{ℕ, pos, List, [], ◌∷◌, None, codes}
use Rattle.std.specs.Fmt.{digits}
use Rattle.ground.specs.declared.trap.Trap.TheVariants.{Undefined, EndOfInput, BadField, BadUnit, FormatMismatch, LongRecord, Subscript, BadCharacter}
use Rattle.f66_tree.specs.declared.editing.EditKind.TheVariants as edits
use Rattle.f66_tree.specs.Fields.{Fields, NoField, Single, Group, Takes, Blanks, Chars, Slash}
use Rattle.f66_tree.specs.Syntax.{Text, Constant, One, Many, NoEntry, AndEntry, Entries, Write, Read, Format, Dimension, Stop, Line, unlabelled_line, labelled_line}
use Rattle.f66_tree.specs.World.{Shown, Ended, Done, Trapped, GoesOn}
use Rattle.f66_tree.proofs.ExampleParts.{here, i, k, m, n, num, var, with_one, set, items, write, read, i3, main, runs}

abbrev format : Fields → Line
format fs = labelled_line 9 (here 99) (Format fs)

abbrev whole : ℕ → Fields → Fields
whole w fs = Single 1 (Takes edits.Whole w) fs

abbrev three : List Line
three = unlabelled_line (here 1) (set k (num (pos 1))) ∷ unlabelled_line (here 2) (set m (num (pos 2))) ∷ unlabelled_line (here 3) (set n (num (pos 3))) ∷ []

abbrev written_by : Fields → List Text → Shown
written_by fs xs = runs (main (unlabelled_line (here 1) (set k (num (pos 1))) ∷ unlabelled_line (here 2) (set m (num (pos 2))) ∷ unlabelled_line (here 3) (set n (num (pos 3))) ∷ unlabelled_line (here 4) (write xs) ∷ format fs ∷ unlabelled_line (here 5) (Stop None) ∷ [])) [] 20

-- FORMAT (I3,(I2)) with three items: control goes back to the group
returns : (written_by (whole 3 (Group 1 (whole 2 NoField) NoField)) (k ∷ m ∷ n ∷ [])).records ≡ codes "  1 2" ∷ codes " 3" ∷ []
unfolding digits
returns = refl

-- FORMAT (I1,/,2HNO,1X,I2) with two items
slashed : (written_by (whole 1 (Single 1 Slash (Single 1 (Chars (codes "NO")) (Single 1 (Blanks 1) (whole 2 NoField))))) (k ∷ m ∷ [])).records ≡ codes "1" ∷ codes "NO  2" ∷ []
unfolding digits
slashed = refl

-- FORMAT (1X) with an item: no edit comes for it, and no record is written
no_edit : written_by (Single 1 (Blanks 1) NoField) (k ∷ []) ≡ record { records = []; end = Ended (Trapped FormatMismatch (here 4)); work = 4 }
no_edit = refl

-- an L edit does not take an integer, and this comes before the item is read
wrong_edit : (written_by (Single 1 (Takes edits.Truth 1) NoField) (i ∷ [])).end ≡ Ended (Trapped FormatMismatch (here 4))
wrong_edit = refl

-- an item without a value
no_value : (written_by (whole 1 NoField) (i ∷ [])).end ≡ Ended (Trapped Undefined (here 4))
no_value = refl

-- 133 blanks
too_long : (written_by (Single 1 (Blanks 133) (whole 1 NoField)) (k ∷ [])).end ≡ Ended (Trapped LongRecord (here 4))
too_long = refl

-- FORMAT (I1,/,L1) with two integers: the record before the slash is written, and then no edit comes for the second
mismatch_behind_slash : written_by (whole 1 (Single 1 Slash (Single 1 (Takes edits.Truth 1) NoField))) (k ∷ m ∷ []) ≡ record { records = codes "1" ∷ []; end = Ended (Trapped FormatMismatch (here 4)); work = 4 }
unfolding digits
mismatch_behind_slash = refl

-- FORMAT (I1,/,133X,I1): the record before the slash is written, and the one behind it is too long
long_behind_slash : written_by (whole 1 (Single 1 Slash (Single 1 (Blanks 133) (whole 1 NoField)))) (k ∷ m ∷ []) ≡ record { records = codes "1" ∷ []; end = Ended (Trapped LongRecord (here 4)); work = 4 }
unfolding digits
long_behind_slash = refl

-- A1 of the integer 1, which is no character
no_character : (written_by (Single 1 (Takes edits.Letter 1) NoField) (k ∷ [])).end ≡ Ended (Trapped BadCharacter (here 4))
no_character = refl

abbrev read_by : Fields → List Text → List Text → Shown
read_by fs xs input = runs (main (unlabelled_line (here 1) (read xs) ∷ format fs ∷ unlabelled_line (here 2) (write xs) ∷ unlabelled_line (here 3) (Stop None) ∷ [])) input 20

-- blanks within a field are zeros, and a sign with blanks behind it is zero
reads : (read_by (Single 2 (Takes edits.Whole 3) NoField) (k ∷ m ∷ []) (codes "1 2-" ∷ [])).records ≡ codes "102  0" ∷ []
unfolding digits
reads = refl

sign_alone : (read_by (whole 1 NoField) (k ∷ []) (codes "-" ∷ [])).end ≡ Ended (Trapped BadField (here 1))
sign_alone = refl

no_record : (read_by (whole 1 NoField) (k ∷ []) []).end ≡ Ended (Trapped EndOfInput (here 1))
no_record = refl

-- a READ meets nH
text_in_read : (read_by (Single 1 (Chars (codes "NO")) NoField) [] (codes "NO" ∷ [])).end ≡ Ended (Trapped FormatMismatch (here 1))
text_in_read = refl

-- READ (6,9): the unit is tested before a record is taken
wrong_unit : (runs (main (unlabelled_line (here 1) (Read (Constant (pos 6)) 9 (items (k ∷ []))) ∷ i3 ∷ [])) [] 5).end ≡ Ended (Trapped BadUnit (here 1))
wrong_unit = refl

-- DIMENSION M(3); READ M with (3I1); WRITE (M(I),I=2,3)
abbrev array : Entries → List Line
array es =
    unlabelled_line (here 1) (Dimension (record { name = m; sizes = Constant (pos 3) ∷ [] } ∷ [])) ∷ format (Single 3 (Takes edits.Whole 1) NoField)
    ∷ unlabelled_line (here 2) (read (m ∷ [])) ∷ unlabelled_line (here 3) (Write (Constant (pos 6)) 9 es) ∷ unlabelled_line (here 4) (Stop None) ∷ []

abbrev elements : ℕ → ℕ → Entries
elements a b = AndEntry (Many (AndEntry (One (with_one m (var i))) NoEntry) i (Constant (pos a)) (Constant (pos b)) (Constant (pos 1))) NoEntry

whole_array : (runs (main (array (items (m ∷ [])))) (codes "123" ∷ []) 9).records ≡ codes "123" ∷ []
unfolding digits
whole_array = refl

-- each turn of an implied DO counts as a statement begun
implied_do : runs (main (array (elements 2 3))) (codes "123" ∷ []) 9 ≡ record { records = codes "23" ∷ []; end = Ended Done; work = 5 }
unfolding digits
implied_do = refl

-- a run may stop in the middle of a WRITE, whose record is then not complete
stops_in_list : runs (main (array (elements 2 3))) (codes "123" ∷ []) 3 ≡ record { records = []; end = GoesOn; work = 3 }
unfolding digits
stops_in_list = refl

past_end : (runs (main (array (elements 3 4))) (codes "123" ∷ []) 9).end ≡ Ended (Trapped Subscript (here 3))
unfolding digits
past_end = refl
