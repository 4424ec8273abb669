-- The fields of a format, and the edits that they stand for (X3.9-1966, section 7.2.3).
use Rattle.std.specs.Prelude.{ℕ, zero, suc, Bool, true, false, ◌||◌, List, [], ◌∷◌, ◌++◌}
use Rattle.f66_tree.specs.declared.editing.EditKind.{EditKind}

-- one edit: it takes an item, skips or writes blanks, writes a text, or ends the record
pub data Step : Type 0 where
  Takes : EditKind → ℕ → Step
  Blanks : ℕ → Step
  Chars : List ℕ → Step
  Slash : Step

-- a list of fields: an edit with its count, or a group with its count, and what follows
pub data Fields : Type 0 where
  NoField : Fields
  Single : ℕ → Step → Fields → Fields
  Group : ℕ → Fields → Fields → Fields

-- a list so many times
abbrev pub copies : {A : Type 0} → ℕ → List A → List A
copies zero xs = []
copies (suc n) xs = xs ++ copies n xs

-- the edits, with all counts and groups written out
abbrev pub steps : Fields → List Step
steps NoField = []
steps (Single n s fs) = copies n (s ∷ []) ++ steps fs
steps (Group n inside fs) = copies n (steps inside) ++ steps fs

-- from the group that the last right parenthesis before the format's own ends; or from the beginning
abbrev pub last_group : Fields → Fields → Fields
last_group found NoField = found
last_group found (Single n s fs) = last_group found fs
last_group found (Group n inside fs) = last_group (Group n inside fs) fs

abbrev pub again : Fields → Fields
again fs = last_group fs fs

abbrev pub is_item : Step → Bool
is_item (Takes k w) = true
is_item _ = false

-- whether an edit takes an item
abbrev pub has_item : List Step → Bool
has_item [] = false
has_item (s ∷ ss) = is_item s || has_item ss
