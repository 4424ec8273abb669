-- The numbers of the rows before are put at their nodes.
use Rattle.offset_classes.specs.Numbers.{ArePut}
use Rattle.offset_classes.proofs.numbers.scatter.Given as goal

abbrev pub invariant-loop-k : goal.invariant-loop-k
invariant-loop-k l = ArePut l.rows l.sizes l.numbers l.k l.firsts.items
