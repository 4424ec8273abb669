-- The numbers are those of the procedures.
use Rattle.std.proofs.Common.{map, ◌∙◌}
use Rattle.efl_tree.specs.Views.{procedure_of}
use Rattle.efl_whole.specs.CallViews.{numbers_of}
use Rattle.efl_whole.proofs.NameLemmas.{first_is}
use Rattle.efl_whole.proofs.names.first_taken.Goals as goal

pub returns : goal.returns
returns c = c.taken.ensures ∙ first_is (map procedure_of c.args.procedures.now) (numbers_of c.args.numbers.now) c.requires
