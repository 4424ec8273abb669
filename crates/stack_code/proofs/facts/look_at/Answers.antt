-- An instruction is looked at.
use Rattle.std.proofs.Common.{arith, refl, sym, ◌∙◌, subst, Some, None}
use Rattle.stack_code.specs.Views.{instruction_of, code_of}
use Rattle.stack_code.specs.ValidCode.{IsIn}
use Rattle.stack_code.specs.Facts.{IsToldAll}
use Rattle.stack_code.proofs.FactsLemmas.{code_at, known_at, way_on, spread_none, spread_of, invalid_stuck}
use Rattle.stack_code.proofs.facts.look_at.Goals as goal

pub tell_all-requires-clause-way : goal.tell_all-requires-clause-way
tell_all-requires-clause-way c =
    let stands = code_at c.args.ops.now c.args.pc c.index-ops-pc.result c.requires.within c.index-ops-pc.is in
    let known = known_at c.args.facts.now.items c.args.pc c.index.result.now (Some c.in-Some.fact) (omega (arith, c.requires.within, c.requires.long)) c.index.ensures c.in-Some.is in
    let gives = sym c.in_ok-behind-in-Some.ensures ∙ c.in-Some-2.is in
    λ to goes. way_on (code_of c.args.ops.now) c.args.facts.now.items c.args.pc (instruction_of c.index-ops-pc.result) c.in-Some.fact c.in-Some-2.behind c.requires.reached known stands gives to (subst (IsIn to) (c.deref.ensures.value ∙ c.in_ok-ways-in-Some-2.ensures) goes)

pub returns-in-None : goal.returns-in-None
returns-in-None c =
    let known = known_at c.args.facts.now.items c.args.pc c.index.result.now None (omega (arith, c.requires.within, c.requires.long)) c.index.ensures c.in-None.is in
    (spread_none (code_of c.args.ops.now) c.args.facts.now.items c.args.facts.now.items c.args.pc c.requires.reached refl known, λ at le. refl)

pub returns-in-None-2 : goal.returns-in-None-2
returns-in-None-2 c =
    let stands = code_at c.args.ops.now c.args.pc c.index-ops-pc.result c.requires.within c.index-ops-pc.is in
    let known = known_at c.args.facts.now.items c.args.pc c.index.result.now (Some c.in-Some.fact) (omega (arith, c.requires.within, c.requires.long)) c.index.ensures c.in-Some.is in
    invalid_stuck (code_of c.args.ops.now) c.args.facts.now.items c.args.pc (instruction_of c.index-ops-pc.result) c.in-Some.fact c.requires.reached known stands (sym c.in_ok-behind-in-Some.ensures ∙ c.in-None-2.is)

pub returns-in_ok-told-in-Some-2 : goal.returns-in_ok-told-in-Some-2
returns-in_ok-told-in-Some-2 c =
    let code = code_of c.args.ops.now in
    let a = c.args.facts.now.items in
    let b = c.tell_all.new.facts.items in
    let i = instruction_of c.index-ops-pc.result in
    let stands = code_at c.args.ops.now c.args.pc c.index-ops-pc.result c.requires.within c.index-ops-pc.is in
    let known = known_at a c.args.pc c.index.result.now (Some c.in-Some.fact) (omega (arith, c.requires.within, c.requires.long)) c.index.ensures c.in-Some.is in
    let gives = sym c.in_ok-behind-in-Some.ensures ∙ c.in-Some-2.is in
    let told = subst (λ ws. IsToldAll code a b c.args.pc ws c.in-Some-2.behind c.in_ok-told-in-Some-2.told) (c.deref.ensures.value ∙ c.in_ok-ways-in-Some-2.ensures) c.in_ok-told-in-Some-2.ensures in
    spread_of code a b c.args.pc i c.in-Some.fact c.in-Some-2.behind known stands gives c.in_ok-told-in-Some-2.told told
