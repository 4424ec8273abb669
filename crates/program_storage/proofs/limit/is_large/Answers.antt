-- The units up to one are counted.
use Rattle.std.proofs.Common.{◌+◌, arith}
use Rattle.std.proofs.lemmas.List.Elements.{All-take}
use Rattle.f66_tree.specs.Views.{routine_of}
use Rattle.f66_program.specs.Association.{IsBadUnit}
use Rattle.program_storage.proofs.LimitLemmas.{counted}
use Rattle.program_storage.proofs.limit.is_large.Goals as goal

pub number_program-requires-clause-well : goal.number_program-requires-clause-well
number_program-requires-clause-well c = All-take (λ u. ¬ IsBadUnit (routine_of u)) (c.args.unit + 1) c.args.units.now c.requires.well

pub returns-then-storage-most : goal.returns-then-storage-most
returns-then-storage-most c =
    let total = c.in_ok-storage.storage.total in
    (total, counted routine_of c.args.units.now c.args.unit total _ c.in_ok-storage.ensures.numbered, c.if-storage-most.true)

pub returns : goal.returns
returns c =
    let total = c.in_ok-storage.storage.total in
    (total, counted routine_of c.args.units.now c.args.unit total _ c.in_ok-storage.ensures.numbered, (let l = c.if-storage-most.false in omega (arith, l)))
