-- The number is that of the first of the names from here on that is the same.
use Rattle.std.proofs.Common.{◌≡◌}
use Rattle.std.specs.List.{position_from}
use Rattle.std.specs.Str.{bytes_eq}
use Rattle.macro_define.specs.Macros.{number_of}
use Rattle.macro_define.specs.Uses.{table}
use Rattle.macro_define.proofs.macros.number_among.Given as goal

abbrev pub invariant-loop-number : goal.invariant-loop-number
invariant-loop-number l =
    (goal.iterator-loop-number).can_next l.number-iterator ×
    (goal.iterator-loop-number).is_finite l.number-iterator ×
    (number_of (table l.macros) l.key ≡ position_from (λ k. bytes_eq l.key k.items) l.number-iterator.count l.number-iterator.iter)
