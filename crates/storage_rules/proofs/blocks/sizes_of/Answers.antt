-- One label more has its size.
use Rattle.std.proofs.Common.{◌≡◌, ◌<◌, ◌+◌, ◌∙◌, length, map, subst, sym, ap, arith, [], Some, None, suc, rules}
use Rattle.std.proofs.lemmas.Int.{to_z-of_z}
use Rattle.std.specs.Prelude.{FitsSigned}
use mir.Syntax.{w128}
use Rattle.std.proofs.lemmas.List.{get_or-map}
use Rattle.std.specs.HashMap.{get_by}
use Rattle.std.specs.Option.{option_or}
use Rattle.std.specs.Prelude.{if◌then◌else◌}
use Rattle.std.specs.Str.{bytes_eq}
use Rattle.storage_rules.specs.Reach.{AreLabelSizes, IsReach}
use Rattle.storage_rules.proofs.LabelLemmas.{labels_none, labels_more}
use Rattle.storage_rules.proofs.blocks.sizes_of.Goals as goal

pub loop-k-init : goal.loop-k-init
loop-k-init c = labels_none c.args.seats.now c.args.sizes.now (map (λ k. k.now) c.args.labels.now) (λ q. get_by (λ k. bytes_eq q k.now) c.new-all.result) (λ q. grind (arith))

pub loop-k-preserved : goal.loop-k-preserved
loop-k-preserved c =
    let labels = map (λ k. k.now) c.args.labels.now in
    let k = c.loop-k.k in
    let z = c.size_of-size.result in
    let fits : FitsSigned w128 z = search rules in
    let lt : k < length c.args.labels.now = c.loop-k-test.true in
    let suc_is : k + 1 ≡ suc k = omega arith in
    let reach : IsReach c.args.seats.now c.args.sizes.now (suc k) z = rw suc_is at c.size_of-size.ensures in
    let noted = simp to_z-of_z at c.in_ok-note.ensures in
    labels_more c.args.seats.now c.args.sizes.now labels k z reach (λ q. get_by (λ k. bytes_eq q k.now) c.loop-k.all) (λ q. get_by (λ k. bytes_eq q k.now) c.note.new.table) c.loop-k.invariant
    (λ q. noted q ∙ ap (λ x. option_or (get_by (λ k. bytes_eq q k.now) c.loop-k.all) (if bytes_eq q x then Some z else None)) (sym (get_or-map (λ k. k.now) c.args.labels.now k _ [] lt)))

pub returns : goal.returns
returns c =
    let n : c.loop-k.k ≡ length c.args.labels.now = (let a = c.loop-k.auto.k-end in let b = c.loop-k-test.false in omega (arith, a, b)) in
    subst (λ m. AreLabelSizes c.args.seats.now c.args.sizes.now (map (λ k. k.now) c.args.labels.now) m (λ q. get_by (λ k. bytes_eq q k.now) c.loop-k.all)) n c.loop-k.invariant
