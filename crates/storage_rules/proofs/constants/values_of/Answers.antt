-- One value more, as often as its count says and as there is room.
use Rattle.std.proofs.Common.{◌≡◌, ◌-◌, ◌∙◌, ◌++◌, min, length, map, take, replicate, ap, sym, arith}
use Rattle.std.proofs.lemmas.List.{length-map}
use Rattle.ground.specs.Content.{Content}
use Rattle.f66_tree.specs.Views.{formula_of, initial_of}
use Rattle.f66_program.specs.Initial.{content_of, values_of}
use Rattle.storage_assoc.proofs.ListLemmas.{taken_more}
use Rattle.storage_rules.specs.Presets.{content_seen}
use Rattle.storage_rules.proofs.PairLemmas.{take_more_times, values_of-push}
use Rattle.storage_rules.proofs.constants.values_of.Goals as goal

pub loop-count-preserved : goal.loop-count-preserved
loop-count-preserved c =
    let list = c.args.list.now in
    let most = c.args.most in
    let i = c.loop-count.count-index in
    let item = c.loop-count-item.result in
    let old = c.loop-count.values.items in
    let before = map initial_of (take i list) in
    let inv : map content_seen old ≡ take most (values_of before) = c.loop-count.invariant in
    let long : length (map content_seen old) ≡ length old = length-map old content_seen in
    let times : c.min.result ≡ min (most - length (map content_seen old)) item.0 = grind (arith, long) in
    let one : Content = content_of (formula_of item.1) in
    let taken = taken_more initial_of list i item c.loop-count-test.true c.loop-count-item.is in
    c.in_ok-add_times.ensures
    ∙ ap (λ n. map content_seen old ++ replicate n (content_seen c.in_ok-value.value)) times
    ∙ ap (λ x. map content_seen old ++ replicate (min (most - length (map content_seen old)) item.0) x) c.in_ok-value.ensures
    ∙ ap (λ xs. xs ++ replicate (min (most - length xs) item.0) one) inv
    ∙ sym (ap (λ vs. take most (values_of vs)) taken ∙ ap (take most) (values_of-push before (initial_of item)) ∙ take_more_times most (values_of before) item.0 one)
