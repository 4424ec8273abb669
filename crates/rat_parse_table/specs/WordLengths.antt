-- Words by their lengths.
use Rattle.std.specs.Prelude.{ℕ, ◌==◌, List, length}
use Rattle.std.specs.List.{filter}
use Rattle.rat_parse_table.specs.declared.table.Terminal.{Terminal}

-- those of so many letters
abbrev pub of_length : ℕ → List (List ℕ × Terminal) → List (List ℕ × Terminal)
of_length n words = filter (λ w. length w.0 == n) words
