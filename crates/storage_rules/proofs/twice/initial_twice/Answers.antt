-- The first number that stands twice is that of a place which its statement fills again.
use Rattle.std.proofs.Common.{◌≡◌, ◌<◌, ◌∙◌, Some, length, map, ap, sym, arith}
use Rattle.std.proofs.lemmas.List.{length-map}
use Rattle.std.proofs.lemmas.Simd.{map-map}
use Rattle.f66_tree.specs.Views.{routine_of}
use Rattle.f66_program.specs.Initial.{presets_of}
use Rattle.linker.specs.Rules.{program_of}
use Rattle.program_storage.specs.Numbers.{number_in_program}
use Rattle.storage_rules.specs.Presets.{preset_seen}
use Rattle.storage_rules.specs.Repeats.{IsFirstRepeat, HasNoRepeat}
use Rattle.storage_rules.proofs.SeenLemmas.{preset_here, preset_stands}
use Rattle.storage_rules.proofs.TwiceLemmas.{number_of, values_kept, values_broken}
use Rattle.storage_rules.proofs.twice.initial_twice.Goals as goal

pub place_of-place-requires : goal.place_of-place-requires
place_of-place-requires c =
    let rs = map routine_of c.args.units.now in
    let presets = c.args.presets.now in
    let ns = c.args.numbers.now in
    let k = c.in-Some.k in
    let h : IsFirstRepeat ns k = rw c.in-Some.is at c.in_ok-k.ensures in
    let many : length presets ≡ length ns = sym (length-map presets _) ∙ ap length c.requires.numbers ∙ length-map ns (λ n. Some n) in
    let lt : k < length presets = (let i = h.inside in omega (arith, i, many)) in
    preset_stands rs presets c.requires.presets k c.index-presets-k.result lt c.index-presets-k.is

pub returns-in-Some : goal.returns-in-Some
returns-in-Some c = λ finish.
    let p = program_of c.args.units.now finish in
    let presets = c.args.presets.now in
    let ns = c.args.numbers.now in
    let storage = c.args.storage.now in
    let number = number_in_program storage in
    let k = c.in-Some.k in
    let h : IsFirstRepeat ns k = rw c.in-Some.is at c.in_ok-k.ensures in
    let many : length presets ≡ length ns = sym (length-map presets _) ∙ ap length c.requires.numbers ∙ length-map ns (λ n. Some n) in
    let lt : k < length presets = (let i = h.inside in omega (arith, i, many)) in
    let f = number_of p number storage.total c.requires.numbered ns in
    let are : map f (presets_of p.units) ≡ map (λ n. Some n) ns = ap (map f) (sym c.requires.presets) ∙ map-map f preset_seen presets ∙ c.requires.numbers in
    values_broken p number storage.total c.requires.numbered ns are k (preset_seen c.index-presets-k.result) (preset_here p.units presets c.requires.presets k c.index-presets-k.result lt c.index-presets-k.is) h c.twice_at.result c.twice_at.ensures.kind c.twice_at.ensures.number
    (c.place_of-place.ensures finish ∙ ap Some (sym c.twice_at.ensures.place))

pub returns-in-None : goal.returns-in-None
returns-in-None c = λ finish.
    let p = program_of c.args.units.now finish in
    let presets = c.args.presets.now in
    let ns = c.args.numbers.now in
    let storage = c.args.storage.now in
    let number = number_in_program storage in
    let h : HasNoRepeat ns = rw c.in-None.is at c.in_ok-k.ensures in
    let f = number_of p number storage.total c.requires.numbered ns in
    let are : map f (presets_of p.units) ≡ map (λ n. Some n) ns = ap (map f) (sym c.requires.presets) ∙ map-map f preset_seen presets ∙ c.requires.numbers in
    values_kept p number storage.total c.requires.numbered ns are h
