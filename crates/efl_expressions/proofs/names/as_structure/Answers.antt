-- A variable is no structure.
use Rattle.std.proofs.Common.{sym, subst}
use Rattle.efl_scope.specs.Scopes.{structured}
use Rattle.efl_expressions.specs.TypeViews.{IsType}
use Rattle.efl_expressions.proofs.NameLemmas.{no_members}
use Rattle.efl_expressions.proofs.names.as_structure.Goals as goal

pub returns-in-Variable : goal.returns-in-Variable
returns-in-Variable c = λ f ss n made.
    subst (λ o. IsType f ss (structured o) c.nothing.result) (sym (no_members f ss n c.args.meaning.now c.in-Variable.field-0 made c.in-Variable.is)) (c.nothing.ensures f ss)
