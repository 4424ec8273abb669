-- The names of the part are met.
use Rattle.std.proofs.Common.{refl, ap, ◌∙◌}
use Rattle.std.proofs.lemmas.Result.{on_ok_weaker}
use Rattle.efl_tree.specs.Views.{kind_of}
use Rattle.efl_scope.specs.Parts.{States, part}
use Rattle.efl_storage.specs.Named.{texts_of}
use Rattle.efl_storage.proofs.PartLemmas.{uses_counted}
use Rattle.efl_storage.proofs.met.take_statement.Goals as goal

pub returns : goal.returns
returns c =
    on_ok_weaker c.meet_names.result
    (λ takes labels f ss us u a p vs sees unit.
    uses_counted us u vs (part a p (States labels (kind_of c.args.kind.now))) c.args.sight.now.unit (texts_of c.deref.result.now) c.args.storage.now c.meet_names.new.storage sees.found unit refl
    (ap texts_of c.deref.ensures.value ∙ c.in_ok-names.ensures) (takes f ss us u a.blocks sees))
    c.meet_names.ensures
