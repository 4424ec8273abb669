-- One unit more is clear, with its sizes; or the first statement of it that names a block of another size.
use Rattle.std.proofs.Common.{◌≤◌, ◌∙◌, ℕ, ℤ, Bool, List, Option, length, map, find, ap, sym, subst, arith}
use Rattle.std.proofs.lemmas.List.{length-map}
use Rattle.std.specs.HashMap.{get_by}
use Rattle.std.specs.List.{list_any}
use Rattle.std.specs.Option.{option_or}
use Rattle.std.specs.Str.{bytes_eq}
use Rattle.f66_tree.specs.Syntax.{Line}
use Rattle.f66_tree.specs.Views.{routine_of}
use Rattle.f66_program.specs.Association.{IsBadUnit}
use Rattle.linker.proofs.PartLemmas.{got_mapped}
use Rattle.storage_assoc.specs.Naming.{IsReady}
use Rattle.storage_rules.specs.Blocks.{AreSizes}
use Rattle.storage_rules.specs.Mismatch.{any_label, is_other}
use Rattle.storage_rules.proofs.FirstLemmas.{first_at, none_at, placed, not_placed}
use Rattle.storage_rules.proofs.MismatchLemmas.{clear_more, clear_all, firsts_more, firsts_none, line_sound, line_whole, noted_sizes}
use Rattle.storage_rules.proofs.mismatch.first_other.Goals as goal

pub loop-unit-init : goal.loop-unit-init
loop-unit-init c = record {
  clear = λ u r lt. absurd (omega (arith, lt));
  firsts = firsts_none (map routine_of c.args.units.now) (λ q. get_by (λ k. bytes_eq q k.now) c.new-firsts.result) (λ q. grind (arith));
}

pub blocks_of-requires-clause-ready : goal.blocks_of-requires-clause-ready
blocks_of-requires-clause-ready c = subst (λ u. IsReady (routine_of u)) (sym c.unit-item.is) (c.requires.ready c.loop-unit.unit-index c.unit-item.result c.loop-unit-test.true)

pub blocks_of-requires-clause-well : goal.blocks_of-requires-clause-well
blocks_of-requires-clause-well c = subst (λ u. ¬ IsBadUnit (routine_of u)) (sym c.unit-item.is) (c.requires.well c.loop-unit.unit-index c.unit-item.result c.loop-unit-test.true)

pub returns-in-Some : goal.returns-in-Some
returns-in-Some c =
    let firsts : List ℕ → Option ℤ = λ q. get_by (λ k. bytes_eq q k.now) c.loop-unit.firsts in
    let sizes : List ℕ → Option ℤ = λ q. get_by (λ k. bytes_eq q k.now) c.in_ok-blocks.blocks.sizes in
    let test : Line → Bool = λ s. any_label (is_other firsts sizes) s.act in
    let rs = map routine_of c.args.units.now in
    let n = c.loop-unit.unit-index in
    let r = routine_of c.unit-item.result in
    let here = got_mapped routine_of c.args.units.now n c.unit-item.result c.loop-unit-test.true c.unit-item.is in
    let v = c.loop-unit.invariant in
    let s : AreSizes r sizes = c.in_ok-blocks.ensures.sizes in
    let w = placed (λ (s : Line). s.place) (find test r.lines) c.in-Some.place (sym c.other_in.ensures ∙ c.in-Some.is) in
    let f = first_at test r.lines w.0 w.1 in
    record {
      number = n;
      unit = r;
      index = f.index;
      line = w.0;
      here = here;
      stands = f.here;
      other = line_sound rs n r here firsts sizes v.firsts s w.0 f.passes;
      units = v.clear;
      lines = λ i l lt at. line_whole rs n r here firsts sizes v.firsts s i l at (f.earlier i l lt at);
      place = w.2;
    }

pub loop-unit-preserved : goal.loop-unit-preserved
loop-unit-preserved c =
    let firsts : List ℕ → Option ℤ = λ q. get_by (λ k. bytes_eq q k.now) c.loop-unit.firsts in
    let sizes : List ℕ → Option ℤ = λ q. get_by (λ k. bytes_eq q k.now) c.in_ok-blocks.blocks.sizes in
    let new : List ℕ → Option ℤ = λ q. get_by (λ k. bytes_eq q k.now) c.note_sizes.new.firsts in
    let test : Line → Bool = λ s. any_label (is_other firsts sizes) s.act in
    let rs = map routine_of c.args.units.now in
    let n = c.loop-unit.unit-index in
    let r = routine_of c.unit-item.result in
    let here = got_mapped routine_of c.args.units.now n c.unit-item.result c.loop-unit-test.true c.unit-item.is in
    let v = c.loop-unit.invariant in
    let s : AreSizes r sizes = c.in_ok-blocks.ensures.sizes in
    let none = not_placed (λ (s : Line). s.place) (find test r.lines) (sym c.other_in.ensures ∙ c.in_default.is) in
    let labels = map (λ k. k.now) c.in_ok-blocks.blocks.labels.items in
    record {
      clear = clear_more rs n r here v.clear (λ i l at. line_whole rs n r here firsts sizes v.firsts s i l at (none_at test r.lines none i l at));
      firsts = firsts_more rs n r here firsts sizes v.firsts s new (λ q. c.in_ok-note_sizes.ensures q
          ∙ ap (option_or (firsts q)) (noted_sizes r sizes s q (list_any (bytes_eq q) labels) (c.in_ok-blocks.ensures.labels q)));
    }

pub returns : goal.returns
returns c =
    let rs = map routine_of c.args.units.now in
    let n = c.loop-unit.unit-index in
    let past : length rs ≤ n = grind (arith, length-map, c.loop-unit-test.false) in
    clear_all rs n past c.loop-unit.invariant.clear
