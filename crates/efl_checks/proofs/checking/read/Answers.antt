-- What is known behind all parts.
use Rattle.std.proofs.Common.{[], map, subst}
use Rattle.efl_tree.specs.Views.{procedure_of}
use Rattle.efl_types.specs.Signatures.{signatures}
use Rattle.efl_blocks.specs.ProcedureViews.{AreAllUnits, AreOuters}
use Rattle.efl_reading.specs.Walked.{Read}
use Rattle.efl_checks.specs.Walks.{ReadsAll}
use Rattle.efl_checks.proofs.checking.read.Goals as goal

pub returns : goal.returns
returns c = λ fit.
    let list = c.args.program.now.procedures.items in
    let us = map procedure_of list in
    let y = c.open_procedures.new.types in
    let opened = c.in_ok-opened.opened in
    let w = c.in_ok-walk.walk in
    let q = c.check_procedures.new.walk in
    let begun : Read us [] w = subst (λ xs. Read (map procedure_of xs) [] w) c.deref-2.ensures.value c.in_ok-walk.ensures in
    let reads : ReadsAll y us opened.outers.items opened.units w c.check_procedures.new.types q =
    subst (λ xs. ReadsAll y (map procedure_of xs) opened.outers.items opened.units w c.check_procedures.new.types q) c.deref-3.ensures.value c.in_ok-check_procedures.ensures in
    reads.adds fit (subst (λ xs. AreOuters y (map procedure_of xs) opened.outers.items) c.deref.ensures.value c.in_ok-opened.ensures.outers)
    (subst (λ xs. AreAllUnits y (signatures (map procedure_of xs)) opened.units) c.deref.ensures.value c.in_ok-opened.ensures.units) begun
