-- A structure is no variable.
use Rattle.std.proofs.Common.{sym, subst}
use Rattle.efl_expressions.specs.TypeViews.{IsType}
use Rattle.efl_expressions.proofs.NameLemmas.{no_variable}
use Rattle.efl_expressions.proofs.names.as_variable.Goals as goal

pub returns-in-Structure : goal.returns-in-Structure
returns-in-Structure c = λ f ss n t made.
    subst (λ u. IsType f ss u c.nothing.result) (sym (no_variable f ss n c.args.meaning.now c.in-Structure.field-0 t made c.in-Structure.is)) (c.nothing.ensures f ss)
