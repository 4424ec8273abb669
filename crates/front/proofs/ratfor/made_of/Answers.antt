-- Why `made_of` keeps its clause.
use Rattle.rat_tree.specs.Views.{program_of}
use Rattle.front.proofs.ProgramLemmas.{no_first, units_program}
use Rattle.front.proofs.ratfor.made_of.Goals as goal

pub lower_accepted-requires-clause-accepted : goal.lower_accepted-requires-clause-accepted
lower_accepted-requires-clause-accepted c = no_first (program_of c.args.program).routines c.in_ok-check_program.ensures.accepted.units

pub returns : goal.returns
returns c = units_program c.units_serve.ensures (program_of c.args.program) c.in_ok-units.units.items c.requires.few c.in_ok-check_program.ensures.accepted c.in_ok-units.ensures c.requires.passes
