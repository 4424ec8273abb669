-- The text of a format's fields, one instruction of its flat code after the other.
use Rattle.std.specs.Prelude.{◌≡◌, ℕ, Bool, true, false, List, [], ◌∷◌, ◌++◌}
use Rattle.f66_tree.specs.Fields.{NoField, Single, Group}
use Rattle.format_io.specs.Places.{Code, Once, Enter, Leave}
use Rattle.stmt_text.specs.Characters.{opening, closing}
use Rattle.stmt_text.specs.Texts.{count_text, is_slash, separated, step_of_format}

-- the new text is the old one with what was added, whatever comes next
abbrev pub Adds : List ℕ → List ℕ → (List ℕ → List ℕ) → Type 0
Adds old new added = (k : List ℕ) → old ++ added k ≡ new ++ k

-- an instruction, where a field needs no comma before it, or else one
abbrev pub flat_one : Bool → Code → List ℕ → List ℕ
flat_one free (Once n s) k = separated free (Single n s NoField) (step_of_format n s k)
flat_one free (Enter l n z) k = separated free (Group n NoField NoField) (count_text n (opening ∷ k))
flat_one free (Leave l z) k = closing ∷ k

-- behind a slash and within a group's parenthesis a field needs no comma
abbrev pub free_behind : Code → Bool
free_behind (Once n s) = is_slash s
free_behind (Enter l n z) = true
free_behind (Leave l z) = false

abbrev pub flat_text : Bool → List Code → List ℕ → List ℕ
flat_text free [] k = k
flat_text free (c ∷ cs) k = flat_one free c (flat_text (free_behind c) cs k)
