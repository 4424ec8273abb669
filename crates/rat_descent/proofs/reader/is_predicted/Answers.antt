-- Why what `is_predicted` finds is predicted.
use Rattle.std.proofs.Common.{Some, sym, ap, ◌∙◌}
use Rattle.rat_parse_table.specs.RatforSound.{sound}
use Rattle.rat_parse_values.specs.Values.{tok}
use Rattle.rat_parse.specs.Build.{build}
use Rattle.rat_descent.proofs.reader.is_predicted.Goals as goal

pub returns-in-Some : goal.returns-in-Some
returns-in-Some c = λ found. sym c.predict.ensures ∙ (c.in-Some.is ∙ ap Some ((sound (λ t. tok t) build).same_production.is c.in-Some.found c.args.production (sym c.eq.ensures ∙ found)))
