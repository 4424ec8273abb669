-- The next number is seen before, or one more is seen.
use Rattle.std.proofs.Common.{◌∙◌, eqb, slice_index, sym}
use Rattle.std.specs.HashSet.{contains}
use Rattle.storage_rules.proofs.RepeatLemmas.{repeat_here, none_more, none_all, not_true, not_false, seen_more}
use Rattle.storage_rules.proofs.repeats.first_repeat.Goals as goal

pub returns-then-not-branch : goal.returns-then-not-branch
returns-then-not-branch c =
    let ns = c.args.numbers.now in
    let k = c.loop-k.k in
    let n = slice_index ns k in
    let v = c.loop-k.invariant in
    let t = not_false (contains eqb c.loop-k.seen n) (sym c.in_ok-insert.ensures.added ∙ c.if-not-branch.true) in
    repeat_here ns k c.loop-k-test.true v.none (sym (v.seen n) ∙ t)

pub loop-k-preserved : goal.loop-k-preserved
loop-k-preserved c =
    let ns = c.args.numbers.now in
    let k = c.loop-k.k in
    let n = slice_index ns k in
    let v = c.loop-k.invariant in
    let f = not_true (contains eqb c.loop-k.seen n) (sym c.in_ok-insert.ensures.added ∙ c.if-not-branch.false) in
    record {
      none = none_more ns k c.loop-k-test.true v.none (sym (v.seen n) ∙ f);
      seen = λ m. seen_more ns k m c.loop-k-test.true (contains eqb c.loop-k.seen m) (contains eqb c.insert.new.self m) (v.seen m) (c.in_ok-insert.ensures.updates.0 m);
    }

pub returns : goal.returns
returns c = none_all c.args.numbers.now c.loop-k.k c.loop-k-test.false c.loop-k.invariant.none
