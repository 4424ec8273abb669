-- A deck that is read is not too long.
use Rattle.std.proofs.Common.{◌≡◌, ◌<◌, ◌≤◌, ◌^◌, ℕ, Bool, true, false, List, length, map, Ok, refl, arith}
use Rattle.std.specs.Prelude.{nat_lt, if◌then◌else◌}
use Rattle.std.proofs.lemmas.Bool.{ltb-false}
use Rattle.ports.specs.Records.{input_records}
use Rattle.f66_tree.specs.Syntax.{Routine}
use Rattle.card_reader.specs.Cards.{card}
use Rattle.card_reader.specs.Reading.{Reading, stops, over_limit, read_cards, no_counts}
use Rattle.deck_reader.specs.Answers.{deck_units, unless_refused}
use Rattle.deck_reader.specs.Units.{Units, units_of}

abbrev of_reading : Reading → Units
of_reading r = unless_refused r.fault (units_of r.lines)

by_length : (b : Bool) (n : ℕ) (r : Reading) (rs : List Routine) → nat_lt 134217728 n ≡ b → of_reading (if b then stops (over_limit 0 1) else r) ≡ Ok rs → n < 2 ^ 31
by_length true n r rs e h = absurd (let q = h in cc)
by_length false n r rs e h = let few : n ≤ 134217728 = ltb-false 134217728 n e in omega (arith, few)

pub read_is_short : (bytes : List ℕ) (rs : List Routine) → deck_units bytes ≡ Ok rs → length bytes < 2 ^ 31
read_is_short bytes rs h = by_length (nat_lt 134217728 (length bytes)) (length bytes) (read_cards 0 no_counts 1 (map card (input_records bytes))) rs refl h
