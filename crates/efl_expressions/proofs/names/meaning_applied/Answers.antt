-- A structure's name before parentheses is no place.
use Rattle.std.proofs.Common.{sym, subst}
use Rattle.efl_expressions.specs.declared.names.Applied.TheVariants.{Calls}
use Rattle.efl_expressions.specs.NameViews.{IsApplied}
use Rattle.efl_expressions.proofs.NameLemmas.{no_places}
use Rattle.efl_expressions.proofs.names.meaning_applied.Goals as goal

pub returns-in-Structure : goal.returns-in-Structure
returns-in-Structure c = λ f ss n made.
    subst (λ u. IsApplied f ss u (Calls c.nothing.result)) (sym (no_places f ss n c.args.meaning.now c.in-Structure.field-0 made c.in-Structure.is)) (c.nothing.ensures f ss)
