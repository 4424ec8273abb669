-- Why `name_token` reads its nonterminal.
use Rattle.std.proofs.Common.{refl}
use Rattle.rat_parse_table.specs.declared.table.Production.TheVariants as productions
use Rattle.descent.specs.Reading.{done, next}
use Rattle.rat_descent.proofs.Productions.{production}
use Rattle.rat_descent.proofs.tokens.name_token.Goals as goal

pub returns-in_ok-take_token : goal.returns-in_ok-take_token
returns-in_ok-take_token c = production productions.PlainName refl refl refl refl (next c.in_ok-take_token.ensures done)

pub returns-in_ok-take_token-2 : goal.returns-in_ok-take_token-2
returns-in_ok-take_token-2 c = production productions.FieldName refl refl refl refl (next c.in_ok-take_token-2.ensures done)
