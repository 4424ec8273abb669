-- The bytes so far are characters exactly where the least and the greatest of them are.
use Rattle.std.proofs.Common.{◌≡◌, take, ◌&&◌, nat_le}
use Rattle.std.specs.List.{list_all}
use Rattle.f66_tree.specs.Fielded.{is_character}
use Rattle.format_io.proofs.characters.are_characters.Given as goal

abbrev pub invariant-loop-i : goal.invariant-loop-i
invariant-loop-i l = list_all is_character (take l.i l.text) ≡ (nat_le 32 l.least && nat_le l.greatest 126)
