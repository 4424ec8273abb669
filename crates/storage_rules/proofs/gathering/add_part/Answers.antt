-- Values that no place is left for count for nothing.
use Rattle.std.proofs.Common.{◌≡◌, ◌∙◌, ◌++◌, length, map, take, ap, subst, arith}
use Rattle.std.specs.Prelude.{OnOk}
use Rattle.std.proofs.lemmas.List.{length-map}
use Rattle.f66_tree.specs.Views.{formula_of, initial_of}
use Rattle.f66_program.specs.Initial.{paired, values_of}
use Rattle.f66_mentions.specs.UnitViews.{context_in}
use Rattle.storage_rules.specs.Presets.{content_seen, preset_seen}
use Rattle.storage_rules.proofs.PairLemmas.{paired_take}
use Rattle.storage_rules.proofs.gathering.add_part.Goals as goal

pub returns : goal.returns
returns c =
    let u = c.args.unit in
    let i = c.args.part in
    let k = context_in c.args.names.now in
    let places = c.args.places.now.places.items in
    let es = map formula_of places in
    let long : length es ≡ length places = length-map places formula_of in
    let many : c.len.result ≡ length es = grind (arith, long) in
    let values : map content_seen c.in_ok-values.values.items ≡ take (length es) (values_of (map initial_of c.args.places.now.values.items)) =
    c.in_ok-values.ensures
    ∙ ap (λ n. take n (values_of (map initial_of c.deref.result.now))) many
    ∙ ap (λ xs. take (length es) (values_of (map initial_of xs))) c.deref.ensures.value in
    let all : paired u i k (map formula_of c.deref-2.result.now) (map content_seen c.deref-3.result.now) ≡ paired u i k es (values_of (map initial_of c.args.places.now.values.items)) =
    ap (λ xs. paired u i k (map formula_of xs) (map content_seen c.deref-3.result.now)) c.deref-2.ensures.value
    ∙ ap (λ vs. paired u i k es (map content_seen vs)) c.deref-3.ensures.value
    ∙ ap (paired u i k es) values
    ∙ paired_take u i k es (values_of (map initial_of c.args.places.now.values.items)) in
    subst (λ ps. OnOk c.add_places.result (map preset_seen c.add_places.new.presets.items ≡ map preset_seen c.args.presets.now.items ++ ps)) all c.add_places.ensures
