-- The rules one behind the other.
use Rattle.efl_types.specs.declared.rule.TypeRule.TheVariants.{InitialTwice, ManyValues}
use Rattle.efl_types.specs.Expressions.{when}
use Rattle.efl_places.proofs.RuleLemmas.{both_are, three_are}
use Rattle.efl_reading.proofs.presets.with_earlier.Goals as goal

pub returns : goal.returns
returns c = λ rs own.
    three_are c.lower-2.result c.args.own c.lower.result rs (when c.args.meets InitialTwice) (when c.args.passes ManyValues) c.lower-2.ensures own
    (both_are c.lower.result c.rule_if-twice.result c.rule_if-many.result (when c.args.meets InitialTwice) (when c.args.passes ManyValues) c.lower.ensures c.rule_if-twice.ensures c.rule_if-many.ensures)
