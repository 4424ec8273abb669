-- One dimension more.
use Rattle.std.proofs.Common.{◌*◌, ◌+◌, ◌∙◌, ap, map, drop, min, arith}
use Rattle.f66_tree.specs.Units.{places_of}
use Rattle.f66_tree.specs.Views.{par_of}
use Rattle.f66_names.proofs.SizeLemmas.{sized_step, read_on}
use Rattle.f66_names.proofs.store_rules.is_large.Goals as goal

pub loop-size-preserved : goal.loop-size-preserved
loop-size-preserved c =
    let xs = c.deref-size-items.result.now in
    let i = c.loop-size.size-index in
    let p = c.loop-size.places in
    let item = c.size-item.result in (
      omega (arith, c.times-places.ensures),
      ap (λ n. min (n * places_of (map par_of (drop (i + 1) xs))) 32768) c.times-places.ensures
          ∙ sized_step p (par_of item) (map par_of (drop (i + 1) xs))
          ∙ ap (λ ns. min (p * places_of (map par_of ns)) 32768) (read_on xs i item c.loop-size-test.true c.size-item.is)
          ∙ c.loop-size.invariant.1,
    )
