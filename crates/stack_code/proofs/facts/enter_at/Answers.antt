-- What holds at an entry is told.
use Rattle.std.proofs.Common.{sym, subst}
use Rattle.stack_code.specs.Views.{instruction_of, code_of}
use Rattle.stack_code.specs.Facts.{HasWay, IsTold, Tells}
use Rattle.stack_code.proofs.FactsLemmas.{code_at, call_way, calls_none, calls_one, passes_none, tells_passes}
use Rattle.stack_code.proofs.facts.enter_at.Goals as goal

pub tell-requires-clause-way : goal.tell-requires-clause-way
tell-requires-clause-way c =
    let stands = code_at c.args.ops.now c.args.at c.index-ops-at.result c.requires.within c.index-ops-at.is in
    subst (HasWay (code_of c.args.ops.now) c.in-Some.to) (sym c.root-root.ensures) (call_way (code_of c.args.ops.now) c.args.at (instruction_of c.index-ops-at.result) c.in-Some.to c.in-Some.count stands (sym c.in-Some.ensures))

pub returns-in-Settled : goal.returns-in-Settled
returns-in-Settled c =
    let code = code_of c.args.ops.now in
    let stands = code_at c.args.ops.now c.args.at c.index-ops-at.result c.requires.within c.index-ops-at.is in
    let t = subst (IsTold code c.args.facts.now.items c.tell.new.facts.items 0 c.in-Some.to c.root-root.result) c.in-Settled.is c.in_ok-tell-in-Some.ensures in
    let u = subst (Tells code c.args.facts.now.items c.tell.new.facts.items c.in-Some.to) c.root-root.ensures t.0 in
    (tells_passes code _ _ c.in-Some.to _ u, calls_one code c.tell.new.facts.items c.args.at (instruction_of c.index-ops-at.result) c.in-Some.to c.in-Some.count stands (sym c.in-Some.ensures) u.known)

pub returns-in-Earlier : goal.returns-in-Earlier
returns-in-Earlier c =
    let code = code_of c.args.ops.now in
    let stands = code_at c.args.ops.now c.args.at c.index-ops-at.result c.requires.within c.index-ops-at.is in
    let t = subst (IsTold code c.args.facts.now.items c.tell.new.facts.items 0 c.in-Some.to c.root-root.result) c.in-Earlier.is c.in_ok-tell-in-Some.ensures in
    let u = subst (Tells code c.args.facts.now.items c.tell.new.facts.items c.in-Some.to) c.root-root.ensures t.0 in
    (tells_passes code _ _ c.in-Some.to _ u, calls_one code c.tell.new.facts.items c.args.at (instruction_of c.index-ops-at.result) c.in-Some.to c.in-Some.count stands (sym c.in-Some.ensures) u.known)

pub returns-in-None : goal.returns-in-None
returns-in-None c =
    let code = code_of c.args.ops.now in
    let stands = code_at c.args.ops.now c.args.at c.index-ops-at.result c.requires.within c.index-ops-at.is in
    (passes_none code c.args.facts.now.items c.requires.reached, calls_none code c.args.facts.now.items c.args.at (instruction_of c.index-ops-at.result) stands (sym c.in-None.ensures))
