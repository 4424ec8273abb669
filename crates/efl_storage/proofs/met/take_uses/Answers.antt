-- The names of the declaration are met.
use Rattle.std.proofs.Common.{ap, subst, ◌∙◌}
use Rattle.std.proofs.lemmas.Result.{on_ok_weaker}
use Rattle.efl_tree.specs.Views.{decl_kind_of}
use Rattle.efl_scope.specs.Scopes.{implied_of}
use Rattle.efl_scope.specs.Uses.{uses_declared}
use Rattle.efl_storage.specs.Named.{texts_of}
use Rattle.efl_storage.specs.Parts.{Takes, undeclared_in}
use Rattle.efl_storage.proofs.PartLemmas.{named_met}
use Rattle.efl_storage.proofs.met.take_uses.Goals as goal

pub returns : goal.returns
returns c =
    on_ok_weaker c.meet_names.result
    (λ takes f ss us u bs sees.
    subst (λ vs. Takes us c.args.sight.now.unit vs c.args.storage.now c.meet_names.new.storage)
    (ap (undeclared_in (implied_of u) bs) (ap texts_of c.deref.ensures.value ∙ c.in_ok-names.ensures) ∙ named_met (implied_of u) bs (uses_declared (decl_kind_of c.args.kind.now)))
    (takes f ss us u bs sees))
    c.meet_names.ensures
