-- What constants of DATA and the statements READ and WRITE give.
use Rattle.std.specs.Prelude.{ℕ, ℤ, codes, if◌then◌else◌}
use Rattle.f66_tree.specs.Syntax.{Int, Par, Entries, Act, Read, Write}
use Rattle.rat_parse_values.specs.Values.{Val, datum}
use Rattle.rat_parse_values.specs.Values as val
use Rattle.rat_parse_values.specs.Kinds as part
use Rattle.rat_parse_values.specs.Parts.{integer_in, number_in, is_word}

-- a constant of DATA, with its count
abbrev pub counted_with : ℕ → ℤ → Val → Val
counted_with n z (val.expression (part.formula f)) = datum n f
counted_with n z _ = datum 1 (Int z)

abbrev pub counted : Val → Val → Val
counted n v = counted_with (number_in n) (integer_in n) v

abbrev pub transfer : Val → Par → ℕ → Entries → Act
transfer v u n es = if is_word (codes "READ") v then Read u n es else Write u n es
