-- Contexts in which names are the same.
use Rattle.std.specs.Prelude.{◌≡◌}
use Rattle.f66_tree.specs.Syntax.{Text}
use Rattle.f66_tree.specs.Units.{Context, dummies_of, kind_of, position, sizes_of}

-- each name has the same dimensions, the same type, and is the same dummy
abbrev pub AreSame : Context → Context → Type 0
AreSame a b =
    ((q : Text) → sizes_of q a.notes ≡ sizes_of q b.notes) × ((q : Text) → kind_of a q ≡ kind_of b q) × ((q : Text) → position q (dummies_of a.header) ≡ position q (dummies_of b.header))
