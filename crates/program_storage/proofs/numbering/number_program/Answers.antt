-- The rows and links of the units number their storage units, and never are bad.
use Rattle.std.proofs.Common.{◌≡◌, ◌+◌, ◌∙◌, length, map, suc, Some, arith}
use Rattle.std.proofs.lemmas.List.Elements.{All-map}
use Rattle.std.specs.List.{All}
use Rattle.f66_tree.specs.Views.{routine_of}
use Rattle.f66_program.specs.Association.{IsBadUnit}
use Rattle.f66_program.specs.Linking.{unit_names_block}
use Rattle.storage_assoc.specs.Answers.{NumberRightly, RefuseRightly}
use Rattle.storage_assoc.specs.Listings.{number_of_name}
use Rattle.program_storage.proofs.PartLemmas.{any_mapped, part_within, never_bad, are_numbers, row_inside, number_below, have_spots}
use Rattle.program_storage.proofs.numbering.number_program.Goals as goal

pub rows_of-requires-clause-named : goal.rows_of-requires-clause-named
rows_of-requires-clause-named c = λ k d lt q e. c.in_ok-labels.ensures.listed q ∙ any_mapped (unit_names_block (Some q)) routine_of c.args.units.now k d lt e

pub number_units-requires-clause-within : goal.number_units-requires-clause-within
number_units-requires-clause-within c =
    let labels = c.in_ok-labels.labels in
    rw (c.deref.ensures.value, c.deref-2.ensures.value) (part_within (map routine_of c.args.units.now) (number_of_name labels) (suc (length labels.names.items)) c.in_ok-all.all c.in_ok-all.ensures.part)

pub unreachable-requires : goal.unreachable-requires
unreachable-requires c =
    let labels = c.in_ok-labels.labels in
    let rs = map routine_of c.args.units.now in
    let count : c.len-2.result + 1 ≡ suc (length labels.names.items) = grind arith in
    let well : All (λ r. ¬ IsBadUnit r) rs = All-map (λ r. ¬ IsBadUnit r) routine_of c.args.units.now c.requires.well in
    let refuse : RefuseRightly (suc (length labels.names.items)) c.in_ok-all.all.links.items = rw (c.in_default.is, c.deref.ensures.value, count) at c.in_ok-numbers.ensures.numbered in
    never_bad rs (number_of_name labels) (suc (length labels.names.items)) c.in_ok-all.all c.in_ok-all.ensures.part well refuse

pub invariant_of-result : goal.invariant_of-result
invariant_of-result c =
    let labels = c.in_ok-labels.labels in
    let rs = map routine_of c.args.units.now in
    let all = c.in_ok-all.all in
    let firsts = c.in-Some.numbers.firsts.items in
    let count : c.len-2.result + 1 ≡ suc (length labels.names.items) = grind arith in
    let right : NumberRightly (suc (length labels.names.items)) all.links.items all.sizes.items firsts c.in-Some.numbers.total =
    rw (c.in-Some.is, c.deref.ensures.value, c.deref-2.ensures.value, count) at c.in_ok-numbers.ensures.numbered in
    let many : length firsts ≡ length all.sizes.items = rw (c.in-Some.is, c.deref-2.ensures.value) at c.in_ok-numbers.ensures.many in
    let inside = row_inside rs (number_of_name labels) (suc (length labels.names.items)) all c.in_ok-all.ensures.part firsts c.in-Some.numbers.total right in
    let below = number_below rs (number_of_name labels) (suc (length labels.names.items)) all c.in_ok-all.ensures.part firsts c.in-Some.numbers.total right in
    record {
      inside = λ u x i e. (let l = inside u x i e in (l, rw many l));
      fits = λ u x i o e lt. (let l = below u x i o e lt in omega (arith, l));
    }

pub returns : goal.returns
returns c =
    let labels = c.in_ok-labels.labels in
    let rs = map routine_of c.args.units.now in
    let count : c.len-2.result + 1 ≡ suc (length labels.names.items) = grind arith in
    let right : NumberRightly (suc (length labels.names.items)) c.in_ok-all.all.links.items c.in_ok-all.all.sizes.items c.in-Some.numbers.firsts.items c.in-Some.numbers.total =
    rw (c.in-Some.is, c.deref.ensures.value, c.deref-2.ensures.value, count) at c.in_ok-numbers.ensures.numbered in
    record {
      numbered = are_numbers rs (number_of_name labels) (suc (length labels.names.items)) c.in_ok-all.all c.in_ok-all.ensures.part c.in-Some.numbers.firsts.items c.in-Some.numbers.total right;
      spots = have_spots rs (number_of_name labels) (suc (length labels.names.items)) c.in_ok-all.all c.in_ok-all.ensures.part c.in-Some.numbers.firsts.items c.in-Some.numbers.total right;
    }
