-- Where a deck ends.
use Rattle.std.specs.Prelude.{ℕ, ◌+◌, ◌==◌, List}
use Rattle.std.specs.List.{count_by}
use Rattle.ground.specs.declared.place.Place.{Place}

-- behind its last byte, on the line behind all that end with a byte 10
abbrev pub end_of : List ℕ → Place
end_of bytes = record { file = 0; line = count_by (λ b. b == 10) bytes + 1 }
