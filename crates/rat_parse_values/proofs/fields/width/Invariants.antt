-- What holds at each turn of the loops of `width`.
use Rattle.std.proofs.Common.{◌≡◌, ◌≤◌, drop}
use Rattle.rat_parse_values.specs.Phrases.{decimal}
use Rattle.rat_parse_values.proofs.fields.width.Given as goal

abbrev pub invariant-loop-digit : goal.invariant-loop-digit
invariant-loop-digit l = (decimal 0 l.digits ≡ decimal l.width (drop l.digit-index l.digits)) × (l.width ≤ 65535)
