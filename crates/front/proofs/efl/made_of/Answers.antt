-- What is found behind the scopes is found of the tree.
use Rattle.std.proofs.Common.{◌∙◌, subst}
use Rattle.efl_tree.specs.Views.{program_of}
use Rattle.efl_checks.specs.Answers.{typed_fault}
use Rattle.front.specs.Efl.{IsTyped}
use Rattle.front.specs.Translated.{Finds}
use Rattle.front.proofs.EflPrograms.{scoped_found}
use Rattle.front.proofs.efl.made_of.Goals as goal

pub returns : goal.returns
returns c =
    let r = c.made_of_scoped.result in
    scoped_found (program_of c.args.program) r c.in_ok-scoped.ensures.scoped
    (subst (λ p. Finds (IsTyped (program_of p) (typed_fault (program_of p))) r) (c.program.ensures.program ∙ c.in_ok-scoped.ensures.accepted) c.made_of_scoped.ensures)
