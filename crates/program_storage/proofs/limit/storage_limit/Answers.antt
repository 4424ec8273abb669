-- None, or the first unit up to which there are too many.
use Rattle.std.proofs.Common.{◌≡◌, ◌<◌, ◌-◌, length, map, arith}
use Rattle.std.proofs.lemmas.List.{length-map}
use Rattle.std.proofs.lemmas.List.Elements.{All-map}
use Rattle.std.specs.List.{All}
use Rattle.f66_tree.specs.Views.{routine_of}
use Rattle.f66_program.specs.Association.{IsBadUnit}
use Rattle.linker.specs.Rules.{program_of}
use Rattle.linker.proofs.PartLemmas.{got_mapped}
use Rattle.program_storage.specs.Numbers.{number_in_program}
use Rattle.program_storage.proofs.LimitLemmas.{all_small, all_large, some_units, first_large}
use Rattle.program_storage.proofs.limit.storage_limit.Goals as goal

pub returns-then-storage-le-MOST : goal.returns-then-storage-le-MOST
returns-then-storage-le-MOST c = λ finish.
    let units = c.args.units.now in
    let well : All (λ r. ¬ IsBadUnit r) (map routine_of units) = All-map (λ r. ¬ IsBadUnit r) routine_of units c.requires.well in
    all_small (program_of units finish) well c.args.storage.now.total (number_in_program c.args.storage.now, c.requires.numbered) c.if-storage-le-MOST.true

pub first_large-requires-clause-some : goal.first_large-requires-clause-some
first_large-requires-clause-some c =
    let units = c.args.units.now in
    let many : length (map routine_of units) ≡ length units = length-map units routine_of in
    let l = c.if-storage-le-MOST.false in
    let some = some_units (map routine_of units) c.args.storage.now.total (number_in_program c.args.storage.now, c.requires.numbered) (omega (arith, l)) in
    omega (arith, some, many)

pub first_large-requires-clause-large : goal.first_large-requires-clause-large
first_large-requires-clause-large c =
    let units = c.args.units.now in
    let many : length (map routine_of units) ≡ length units = length-map units routine_of in
    let l = c.if-storage-le-MOST.false in
    let some = some_units (map routine_of units) c.args.storage.now.total (number_in_program c.args.storage.now, c.requires.numbered) (omega (arith, l)) in
    all_large 2000000 (map routine_of units) (length units - 1) c.args.storage.now.total (omega (arith, some, many)) (number_in_program c.args.storage.now, c.requires.numbered) l

pub returns : goal.returns
returns c = λ finish.
    let units = c.args.units.now in
    let u = c.in_ok-first.first in
    let l = c.in_ok-first.ensures in
    let many : length (map routine_of units) ≡ length units = length-map units routine_of in
    let lt : u < length units = (let i = l.inside in omega (arith, i, many)) in
    first_large (program_of units finish) u (routine_of c.index-units-first.result) (got_mapped routine_of units u c.index-units-first.result lt c.index-units-first.is) l c.limit_fault-fault.result
    c.limit_fault-fault.ensures.kind.0 c.limit_fault-fault.ensures.kind.1 c.limit_fault-fault.ensures.place
