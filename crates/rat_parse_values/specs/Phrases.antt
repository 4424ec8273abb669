-- What expressions, lists of READ and WRITE, and fields of a format give.
use Rattle.std.specs.Prelude.{ℕ, ◌+◌, ◌-◌, ◌*◌, ◌==◌, nat_le, Option, None, Some, List, [], ◌∷◌, if◌then◌else◌}
use Rattle.f66_tree.specs.declared.editing.EditKind.TheVariants as edits
use Rattle.f66_tree.specs.declared.expression.Operator.{Operator}
use Rattle.f66_tree.specs.Fields.{Fields, Single, Group, Takes, Blanks}
use Rattle.f66_tree.specs.Syntax.{Text, Formula, Int, Truth, Letter, Ref, Item, Plus, Minus, Pair, One, Many}
use Rattle.f66_tree.specs.Views.{chained, listed}
use Rattle.rat_parse_values.specs.Values.{Val, nothing, formula, range, entry, entries, rest, pending, field}
use Rattle.rat_parse_values.specs.Values as val
use Rattle.rat_parse_values.specs.Kinds as part
use Rattle.rat_parse_values.specs.Parts.{name_in, text_in, first_letter, integer_in, sign_in, is_true, is_minus, with_entry}

-- operators group to the left
abbrev pub joined : Formula → List (Operator × Formula) → Formula
joined f [] = f
joined f (j ∷ js) = joined (Pair j.0 f j.1) js

abbrev pub signed : Val → Formula → Formula
signed v f = if is_minus (sign_in v) then Minus f else Plus f

-- a name alone, or with arguments
abbrev pub applied : Text → Val → Formula
applied x (val.expression (part.formulas fs)) = Item x (chained fs)
applied x _ = Ref x

abbrev pub integer : Val → Val
integer v = formula (Int (integer_in v))

abbrev pub truth : Val → Val
truth v = formula (Truth (is_true (sign_in v)))

abbrev pub letter : Val → Val
letter v = formula (Letter (first_letter (text_in v)))

-- entries of an implied DO
abbrev pub looped : Val → Val → Val
looped v (val.transfer (part.rest r)) = entry (Many (listed (with_entry v r.list)) r.variable r.range.first r.range.last r.range.step)
looped v _ = nothing

abbrev pub lengthened : Val → Val → Val
lengthened v (val.transfer (part.rest r)) = rest (record { list = with_entry v r.list; variable = r.variable; range = r.range })
lengthened v _ = nothing

abbrev pub pended : Option (List Formula) → Val → Val
pended args (val.transfer (part.rest r)) = pending args r
pended args _ = nothing

abbrev pub applied_if : Text → Option (List Formula) → Formula
applied_if x None = Ref x
applied_if x (Some fs) = Item x (chained fs)

abbrev pub begun : Text → Val → Val
begun x (val.parameter (part.range r)) = rest (record { list = []; variable = x; range = r })
begun x (val.transfer (part.pending args r)) = rest (record { list = One (applied_if x args) ∷ r.list; variable = r.variable; range = r.range })
begun x _ = nothing

-- a width is kept as 65,535 where it is above
abbrev pub decimal : ℕ → List ℕ → ℕ
decimal n [] = n
decimal n (d ∷ ds) = decimal (n * 10 + (d - 48)) ds

abbrev pub width : List ℕ → ℕ
width ds = if nat_le (decimal 0 ds) 65535 then decimal 0 ds else 65535

abbrev pub lettered : ℕ → ℕ → ℕ → (Fields → Fields)
lettered c n w =
    if c == 73 then Single n (Takes edits.Whole w)
    else (if c == 76 then Single n (Takes edits.Truth w) else (if c == 88 then Single 1 (Blanks n) else Single n (Takes edits.Letter 1)))

-- the field of a format that a word is, with its count
abbrev pub worded : ℕ → Text → (Fields → Fields)
worded n [] = Single n (Takes edits.Letter 1)
worded n (c ∷ ds) = lettered c n (width ds)

abbrev pub counted_field : ℕ → Val → (Fields → Fields)
counted_field n (val.transfer (part.fields fs)) = Group n fs
counted_field n v = worded n (name_in v)
