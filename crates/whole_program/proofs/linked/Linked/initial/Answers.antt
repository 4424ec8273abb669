-- Behind the last place nothing is left.
use Rattle.std.proofs.Common.{ap, ◌∙◌}
use Rattle.whole_program.specs.Linked.{initial_in}
use Rattle.whole_program.proofs.PairLemmas.{all_there}
use Rattle.whole_program.proofs.linked.Linked.initial.Goals as goal

pub returns : goal.returns
returns c =
    let ns = c.args.self.now.numbers.items in
    let ps = c.deref-preset-items.result.now in
    all_there c.loop-k.pairs.items (initial_in ns ps) ns ps c.loop-k.k c.loop-k-test.false c.loop-k.invariant ∙ ap (initial_in ns) c.deref-preset-items.ensures.value
