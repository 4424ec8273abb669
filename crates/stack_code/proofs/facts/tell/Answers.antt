-- A new fact is told.
use Rattle.std.proofs.Common.{arith, subst}
use Rattle.stack_code.specs.Views.{code_of}
use Rattle.stack_code.specs.Facts.{Learns}
use Rattle.stack_code.proofs.FactsLemmas.{learns_tells, learns_less, learns_later}
use Rattle.stack_code.proofs.facts.tell.Goals as goal

-- src/facts.rt:47:1
pub returns-then-to-pc : goal.returns-then-to-pc
returns-then-to-pc c =
    let h = subst (Learns c.args.facts.now.items c.meet.new.facts.items c.args.to) c.in_ok-fact.ensures c.in-New.ensures in
    (learns_tells (code_of c.args.ops.now) c.args.facts.now.items c.meet.new.facts.items c.args.to c.args.behind.now c.requires.reached h c.requires.way, learns_less c.args.facts.now.items c.meet.new.facts.items c.args.to c.args.behind.now h)

-- src/facts.rt:47:1
pub returns-else-to-pc : goal.returns-else-to-pc
returns-else-to-pc c =
    let h = subst (Learns c.args.facts.now.items c.meet.new.facts.items c.args.to) c.in_ok-fact.ensures c.in-New.ensures in
    (learns_tells (code_of c.args.ops.now) c.args.facts.now.items c.meet.new.facts.items c.args.to c.args.behind.now c.requires.reached h c.requires.way, learns_later c.args.facts.now.items c.meet.new.facts.items c.args.to c.args.behind.now h c.args.pc (omega arith))
