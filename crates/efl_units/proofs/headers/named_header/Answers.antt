-- A procedure that gives a scalar is a function, and else a subroutine.
use Rattle.std.proofs.Common.{◌∙◌, ap}
use Rattle.f66_tree.specs.Syntax.{SubUnit}
use Rattle.efl_units.specs.NamesSeen.{naming_in}
use Rattle.efl_units.proofs.HeaderLemmas.{named_sub}
use Rattle.efl_units.proofs.headers.named_header.Goals as goal

pub returns-in-None : goal.returns-in-None
returns-in-None c = λ r e.
    ap (λ x. SubUnit x c.args.list.items) c.in_ok-name.ensures ∙ named_sub (naming_in c.args.naming.now c.args.room) c.args.unit c.args.list.items r (e ∙ c.in-None.is)
