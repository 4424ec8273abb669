-- The spot of an element.
use Rattle.std.proofs.Common.{◌-◌, refl, arith}
use Rattle.runner.proofs.ElementArms.{element_tall, element_spot, element_outside, element_past, element_works}
use Rattle.runner.proofs.elements.element.Goals as goal

pub overflow_sub-sizes : goal.overflow_sub-sizes
overflow_sub-sizes c =
    let m = c.requires in
    let tall = element_tall c.args.count c.args.stack.now c.args.top m.within _ m.plans m.core m.world m.stand m.right in
    let within = m.within in
    omega arith

pub overflow_sub-subscripts : goal.overflow_sub-subscripts
overflow_sub-subscripts c =
    let m = c.requires in
    let tall = element_tall c.args.count c.args.stack.now c.args.top m.within _ m.plans m.core m.world m.stand m.right in
    let within = m.within in
    omega arith

pub far_by-requires-clause-subscripts : goal.far_by-requires-clause-subscripts
far_by-requires-clause-subscripts c =
    let m = c.requires in
    let tall = element_tall c.args.count c.args.stack.now c.args.top m.within _ m.plans m.core m.world m.stand m.right in
    let within = m.within in
    omega arith

pub far_by-requires-clause-sizes : goal.far_by-requires-clause-sizes
far_by-requires-clause-sizes c =
    let m = c.requires in
    let tall = element_tall c.args.count c.args.stack.now c.args.top m.within _ m.plans m.core m.world m.stand m.right in
    let within = m.within in
    omega arith

pub word_at-requires-clause-some : goal.word_at-requires-clause-some
word_at-requires-clause-some c =
    let m = c.requires in
    let tall = element_tall c.args.count c.args.stack.now c.args.top m.within _ m.plans m.core m.world m.stand m.right in
    let within = m.within in
    omega arith

pub word_at-requires-clause-within : goal.word_at-requires-clause-within
word_at-requires-clause-within c =
    let m = c.requires in
    let tall = element_tall c.args.count c.args.stack.now c.args.top m.within _ m.plans m.core m.world m.stand m.right in
    let within = m.within in
    omega arith

pub overflow_sub-under : goal.overflow_sub-under
overflow_sub-under c =
    let m = c.requires in
    let tall = element_tall c.args.count c.args.stack.now c.args.top m.within _ m.plans m.core m.world m.stand m.right in
    let within = m.within in
    omega arith

pub push-requires : goal.push-requires
push-requires c =
    let m = c.requires in
    let tall = element_tall c.args.count c.args.stack.now c.args.top m.within _ m.plans m.core m.world m.stand m.right in
    let within = m.within in
    omega arith

pub returns-in-Some-shifted-clause-room : goal.returns-in-Some-shifted-clause-room
returns-in-Some-shifted-clause-room c =
    let m = c.requires in
    let tall = element_tall c.args.count c.args.stack.now c.args.top m.within _ m.plans m.core m.world m.stand m.right in
    let within = m.within in
    omega arith

pub shifted-requires-clause-spot : goal.shifted-requires-clause-spot
shifted-requires-clause-spot c =
    let m = c.requires in
    element_spot c.args.count c.args.stack.now c.args.top m.within _ m.plans m.core m.world m.stand m.right ((c.args.top - c.args.count) - c.args.count) refl _ _ c.word_at.ensures

pub returns-in-None-clause-works : goal.returns-in-None-clause-works
returns-in-None-clause-works c = λ plans s w st fine. element_outside c.args.count c.args.stack.now c.args.top c.requires.within _ plans s w st fine ((c.args.top - c.args.count) - c.args.count) refl c.in-None.ensures.is

pub returns-in-None-shifted-clause-works : goal.returns-in-None-shifted-clause-works
returns-in-None-shifted-clause-works c = λ plans s w st fine. element_past c.args.count c.args.stack.now c.args.top c.requires.within _ plans s w st fine ((c.args.top - c.args.count) - c.args.count) refl c.in-Some.far c.in-Some.ensures.is _ _ c.word_at.ensures c.in-None-shifted.ensures

pub returns-in-Some-shifted-clause-works : goal.returns-in-Some-shifted-clause-works
returns-in-Some-shifted-clause-works c = λ plans s w st fine. element_works c.args.count c.args.stack.now c.args.top c.requires.within _ plans s w st fine ((c.args.top - c.args.count) - c.args.count) refl c.in-Some.far c.in-Some.ensures.is _ _ c.word_at.ensures c.in-Some-shifted.word _ c.in-Some-shifted.ensures c.push.ensures
