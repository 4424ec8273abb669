-- Why `type_token` reads its nonterminal.
use Rattle.std.proofs.Common.{refl}
use Rattle.rat_parse_table.specs.declared.table.Production.TheVariants as productions
use Rattle.descent.specs.Reading.{done, next}
use Rattle.rat_descent.proofs.Productions.{production}
use Rattle.rat_descent.proofs.tokens.type_token.Goals as goal

pub returns-then-is_at : goal.returns-then-is_at
returns-then-is_at c = production productions.OneWord refl refl refl refl (next c.in_ok-take_token.ensures done)

pub returns : goal.returns
returns c = production productions.TwoWords refl refl refl refl (next c.in_ok-token.ensures (next c.in_ok-take_token-2.ensures done))
