-- Marks that are sound and closed are those of the nodes that come to the goal.
use Rattle.std.proofs.Common.{◌≡◌, ◌<◌, true, length, set, arith, rules, sym, ◌∙◌}
use Rattle.std.proofs.lemmas.List.{length-set}
use Rattle.call_cycles.proofs.MarkLemmas.{marks_are, whole_written}
use Rattle.call_cycles.proofs.marks.marks_to.Goals as goal

pub returns : goal.returns
returns c =
    let old = c.in_ok-marks.marks in
    let new = c.spread_all.new.marks in
    let none = c.in_ok-marks.ensures in
    let full : old.len ≡ length (set old.items c.args.goal true) = (let e : old.len ≡ length old.items = search rules in e ∙ sym (length-set old.items c.args.goal true)) in
    let kept : length new ≡ old.len = search rules in
    let same = whole_written new (set old.items c.args.goal true) old.len full kept in
    let goal_in : c.args.goal < length old.items = (let g = c.requires.goal in let m = none.0 in omega arith) in
    rw same (
      (let m = none.0 in let e : old.len ≡ length old.items = search rules in omega arith),
      marks_are c.args.edges.now old.items new c.args.goal none.1 goal_in (rw c.deref_mut.ensures.value at c.spread_all.ensures.kept) (rw c.deref_mut.ensures.value at c.spread_all.ensures.sound) c.spread_all.ensures.closed,
    )
