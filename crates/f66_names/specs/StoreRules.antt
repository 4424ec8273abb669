-- The rules of constants, formats, stores and sizes (X3.9-1966, sections 5.1.3, 7.1.1, 7.2.1.1 and 7.2.3).
use Rattle.std.specs.Prelude.{ℕ, zero, suc, pos, Bool, true, false, not, ◌&&◌, nat_le, nat_lt, int_le, min, unsigned_abs, length}
use Rattle.std.specs.List.{list_any}
use Rattle.f66_tree.specs.declared.editing.Way.{Way}
use Rattle.f66_tree.specs.declared.editing.Way.TheVariants.{Reading, Writing}
use Rattle.f66_tree.specs.Fields.{Step, Takes, Blanks, Chars, Slash, Fields, NoField, Single, Group}
use Rattle.f66_tree.specs.Syntax.{Text, Formula, Ref, Item, Par, Constant, Named, Declared, Entry, One, Many, Entries, NoEntry, AndEntry, Act, Assign, When, Loop, Read, Write, Format}
use Rattle.f66_tree.specs.Units.{Context, places_of}
use Rattle.f66_names.specs.Declaring.{declared_in}
use Rattle.f66_names.specs.Sorts.{is_array_name, is_dummy, is_counter}

-- a dimension of zero, or a name that is no adjustable dimension: that of a dummy is an integer dummy
abbrev pub is_bad_size : Context → Text → Par → Bool
is_bad_size c x (Constant z) = int_le z (pos 0)
is_bad_size c x (Named n) = not (is_dummy c x && (is_dummy c n && is_counter c n))

abbrev pub has_bad_size : Context → Declared → Bool
has_bad_size c d = list_any (is_bad_size c d.name) d.sizes

abbrev pub has_bad_constant : Context → Act → Bool
has_bad_constant c a = list_any (has_bad_size c) (declared_in a)

-- ---- formats ----

abbrev pub is_between : ℕ → ℕ → ℕ → Bool
is_between a b n = nat_le a n && nat_le n b

-- a count is 1 to 999, a width 1 to 132, and the n of nX and nH 1 to 255
abbrev pub is_fit_edit : ℕ → Step → Bool
is_fit_edit n (Takes k w) = is_between 1 999 n && is_between 1 132 w
is_fit_edit n (Blanks m) = is_between 1 255 m
is_fit_edit n (Chars text) = is_between 1 255 (length text)
is_fit_edit n Slash = true

-- so are all counts and widths, and groups nest at most so deep
abbrev pub are_fit : ℕ → Fields → Bool
are_fit deep NoField = true
are_fit deep (Single n s fs) = is_fit_edit n s && are_fit deep fs
are_fit zero (Group n inside fs) = false
are_fit (suc deep) (Group n inside fs) = is_between 1 999 n && (are_fit deep inside && are_fit (suc deep) fs)

-- groups nest at most two deep inside the outer parentheses
abbrev pub is_sound_format : Fields → Bool
is_sound_format fs = are_fit 2 fs

abbrev pub has_bad_format : Act → Bool
has_bad_format (Format fs) = not (is_sound_format fs)
has_bad_format _ = false

-- ---- stores ----

-- a variable or an element, and no whole array
abbrev pub is_assignable : Context → Formula → Bool
is_assignable c (Ref x) = not (is_array_name c x)
is_assignable c (Item x es) = is_array_name c x
is_assignable c _ = false

-- into what is read something is stored: a variable, an array, or an element
abbrev pub is_readable : Context → Formula → Bool
is_readable c (Item x es) = is_array_name c x
is_readable c _ = true

abbrev pub stores_item : Way → Context → Formula → Bool
stores_item Reading c e = is_readable c e
stores_item Writing c e = true

-- so an item of a READ takes a store, and the variable of an implied DO is no array
abbrev mutual
  pub stores_entry : Way → Context → Entry → Bool
  stores_entry way c (One e) = stores_item way c e
  stores_entry way c (Many es x p q r) = store_entries way c es && not (is_array_name c x)

  pub store_entries : Way → Context → Entries → Bool
  store_entries way c NoEntry = true
  store_entries way c (AndEntry e es) = stores_entry way c e && store_entries way c es

abbrev pub stores_wrong : Context → Act → Bool
stores_wrong c (Assign x e) = not (is_assignable c x)
stores_wrong c (Loop l x p q r) = is_array_name c x
stores_wrong c (When e a) = stores_wrong c a
stores_wrong c (Read u l es) = not (store_entries Reading c es)
stores_wrong c (Write u l es) = not (store_entries Writing c es)
stores_wrong c _ = false

-- ---- sizes ----

-- an array has more than 32,767 places
abbrev pub is_large : Declared → Bool
is_large d = nat_lt 32767 (places_of d.sizes)

abbrev pub has_large_array : Act → Bool
has_large_array a = list_any is_large (declared_in a)

-- a dimension, up to one place more than the limit
abbrev pub capped_size : Par → ℕ
capped_size (Constant z) = min (unsigned_abs z) 32768
capped_size (Named x) = 0
