-- What a unit with its tables means, and the names in statements in memory.
use Rattle.f66_tree.specs.Units.{Context}
use Rattle.f66_tree.specs.Views.{formulas_of, routine_of}
use Rattle.f66_program.specs.Mentions.{AVariable, ACall, AKnown, context_of}
use Rattle.f66_program.specs.Mentions as program
use Rattle.f66_mentions.specs.declared.mentions.Mention.{Mention}
use Rattle.f66_mentions.specs.declared.mentions.Mention.TheVariants.{Variable, Call, Known}
use Rattle.f66_mentions.specs.declared.unit_names.UnitNames.{UnitNames}

-- what names mean in the unit
abbrev pub context_in : UnitNames → Context
context_in n = context_of (routine_of n.unit.now)

abbrev pub mention_of : Mention → program.Mention
mention_of (Variable x) = AVariable x.now
mention_of (Call b x es) = ACall b x.now (formulas_of es.now)
mention_of (Known x) = AKnown x.now
