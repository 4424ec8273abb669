-- The units of an accepted tree are a program of what it means.
use Rattle.std.proofs.Common.{refl}
use Rattle.efl_tree.specs.Views.{program_of}
use Rattle.efl_built.proofs.BuiltLemmas.{built_parts}
use Rattle.front.specs.Efl.{meaning_of}
use Rattle.front.proofs.EflPrograms.{served_found}
use Rattle.front.proofs.efl.made_of_built.Goals as goal

pub returns : goal.returns
returns c =
    let tree = program_of c.args.program.now in
    let are = c.in_ok-units.ensures (built_parts tree c.requires.accepted.built) c.requires.numbered in
    let laws = c.legal_is_whole.ensures in
    (meaning_of tree, refl, served_found c.legal_has_linkage.ensures laws.sound laws.well laws.whole tree c.in_ok-units.units.items (c.accepted_serves.ensures tree c.requires.accepted) are)
