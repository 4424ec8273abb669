-- All units are counted, and where they have too many, the first unit up to which there are too many is searched for.
use Rattle.std.proofs.Common.{◌≡◌, ◌<◌, ◌-◌, length, map, arith}
use Rattle.std.proofs.lemmas.List.{length-map}
use Rattle.f66_tree.specs.Views.{routine_of}
use Rattle.linker.specs.Rules.{program_of}
use Rattle.linker.proofs.PartLemmas.{got_mapped}
use Rattle.program_storage.specs.Numbers.{number_in_program}
use Rattle.program_storage.proofs.LimitLemmas.{all_large, some_units}
use Rattle.rat_link.specs.Linking.{most_of_text}
use Rattle.rat_link.proofs.LimitLemmas.{text_limit}
use Rattle.rat_link.proofs.limit.text_limit.Goals as goal

pub returns-then-storage-le-MOST : goal.returns-then-storage-le-MOST
returns-then-storage-le-MOST c = λ finish. (c.in_ok-storage.storage.total, (number_in_program c.in_ok-storage.storage, c.in_ok-storage.ensures.numbered), c.if-storage-le-MOST.true)

pub first_large-requires-clause-some : goal.first_large-requires-clause-some
first_large-requires-clause-some c =
    let units = c.args.said.now in
    let many : length (map routine_of units) ≡ length units = length-map units routine_of in
    let l = c.if-storage-le-MOST.false in
    let some = some_units (map routine_of units) c.in_ok-storage.storage.total (number_in_program c.in_ok-storage.storage, c.in_ok-storage.ensures.numbered) (omega (arith, l)) in
    omega (arith, some, many)

pub first_large-requires-clause-large : goal.first_large-requires-clause-large
first_large-requires-clause-large c =
    let units = c.args.said.now in
    let many : length (map routine_of units) ≡ length units = length-map units routine_of in
    let l = c.if-storage-le-MOST.false in
    let some = some_units (map routine_of units) c.in_ok-storage.storage.total (number_in_program c.in_ok-storage.storage, c.in_ok-storage.ensures.numbered) (omega (arith, l)) in
    all_large most_of_text (map routine_of units) (length units - 1) c.in_ok-storage.storage.total (omega (arith, some, many)) (number_in_program c.in_ok-storage.storage, c.in_ok-storage.ensures.numbered) l

pub returns : goal.returns
returns c = λ finish.
    let units = c.args.said.now in
    let u = c.in_ok-first.first in
    let l = c.in_ok-first.ensures in
    let many : length (map routine_of units) ≡ length units = length-map units routine_of in
    let lt : u < length units = (let i = l.inside in omega (arith, i, many)) in
    text_limit (program_of units finish) u (routine_of c.index-said-first.result) (got_mapped routine_of units u c.index-said-first.result lt c.index-said-first.is) l c.limit_fault.result
    c.limit_fault.ensures.kind.0 c.limit_fault.ensures.kind.1 c.limit_fault.ensures.place
