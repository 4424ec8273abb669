-- The walk finds the first part that is not built.
use Rattle.std.proofs.Common.{map, ap, ◌∙◌}
use Rattle.efl_tree.specs.Views.{procedure_of, program_of}
use Rattle.efl_built.specs.Walks.{first_in_procedures}
use Rattle.efl_built.proofs.BuiltLemmas.{walk_finds}
use Rattle.efl_built.proofs.procedures.first_unbuilt.Goals as goal

pub returns : goal.returns
returns c = c.first_in_procedures.ensures ∙ ap (λ us. first_in_procedures (map procedure_of us)) c.deref.ensures.value ∙ walk_finds (program_of c.args.program.now)
