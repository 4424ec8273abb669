-- The stack before the first token, behind each one, and behind the last.
use Rattle.std.proofs.Common.{◌≡◌, ◌∷◌, [], ap, ◌∙◌, sym, subst, length, arith}
use Rattle.std.specs.Prelude.{MatchBool}
use Rattle.ground.specs.declared.fault.Refusal.TheVariants as refusals
use Rattle.grammar.specs.declared.language.Event.TheVariants.{Open}
use Rattle.grammar.specs.Descent.{opened, Takes, Refuses}
use Rattle.grammar.specs.Stack.{items, Finishes}
use Rattle.grammar.proofs.RunLemmas.{Reached, reached_first, accepted, never_unfinished}
use Rattle.grammar.proofs.AnswerLemmas.{syntax_fault, limit_fault, reached_more, reached_all}
use Rattle.grammar.proofs.parser.parse.Goals as goal

pub loop-token-init : goal.loop-token-init
loop-token-init g c =
    let l = g.L.Language.grammar in
    let meter = g.L.Language.meter in
    let first : c.next_meters-meters.result ≡ meter.next (Open l.start) meter.first =
    c.next_meters-meters.ensures ∙ (ap (λ p. meter.next (Open p) c.first_meters.result) c.start-start.ensures ∙ ap (meter.next (Open l.start)) c.first_meters.ensures) in
    let alone : items g.L.Language.view c.new_stack-stack.result ≡ opened l.start ∷ [] =
    c.new_stack-stack.ensures ∙ ap (λ p. opened p ∷ []) c.start-start.ensures in
    subst (λ fs. Reached l g.L.Language.certificate.predict meter [] fs c.next_meters-meters.result) (sym alone)
    (reached_first l g.L.Language.certificate meter g.met.L.Language.sound c.next_meters-meters.result first)

pub returns-then-not-branch : goal.returns-then-not-branch
returns-then-not-branch g c =
    let l = g.L.Language.grammar in
    let predict = g.L.Language.certificate.predict in
    let fs = items g.L.Language.view c.loop-token.stack in
    let t = c.token-item.result in
    let refuses : Refuses l predict g.L.Language.meter fs c.loop-token.meters t =
    subst (λ b. MatchBool b (Takes l predict g.L.Language.meter fs c.loop-token.meters t (items g.L.Language.view c.take_token.new.stack) c.take_token.new.meters)
    (Refuses l predict g.L.Language.meter fs c.loop-token.meters t)) c.if-not-branch.true c.in_ok-take_token.ensures.takes in
    syntax_fault l g.L.Language.certificate g.L.Language.meter g.met.L.Language.sound g.L.Language.view c.args.tokens.now c.loop-token.token-index t fs c.loop-token.meters
    c.loop-token-test.true c.token-item.is c.loop-token.invariant refuses (refusals.Fault c.new.result) (ap (λ f. refusals.Fault f) c.new.ensures)

pub returns-in-Some : goal.returns-in-Some
returns-in-Some g c =
    let l = g.L.Language.grammar in
    let predict = g.L.Language.certificate.predict in
    let fs = items g.L.Language.view c.loop-token.stack in
    let gs = items g.L.Language.view c.take_token.new.stack in
    let t = c.token-item.result in
    let takes : Takes l predict g.L.Language.meter fs c.loop-token.meters t gs c.take_token.new.meters =
    subst (λ b. MatchBool b (Takes l predict g.L.Language.meter fs c.loop-token.meters t gs c.take_token.new.meters)
    (Refuses l predict g.L.Language.meter fs c.loop-token.meters t)) c.if-not-branch.false c.in_ok-take_token.ensures.takes in
    limit_fault l g.L.Language.certificate g.L.Language.meter g.met.L.Language.sound g.L.Language.view c.args.tokens.now c.loop-token.token-index t fs c.loop-token.meters
    gs c.take_token.new.meters c.in-Some.number c.loop-token-test.true c.token-item.is c.loop-token.invariant takes (c.in_ok-take_token.ensures.linked c.if-not-branch.false)
    (sym c.in-Some.ensures) (refusals.Fault c.limit.result) (ap (λ f. refusals.Fault f) c.limit.ensures)

pub loop-token-preserved : goal.loop-token-preserved
loop-token-preserved g c =
    let l = g.L.Language.grammar in
    let predict = g.L.Language.certificate.predict in
    let fs = items g.L.Language.view c.loop-token.stack in
    let gs = items g.L.Language.view c.take_token.new.stack in
    let t = c.token-item.result in
    let takes : Takes l predict g.L.Language.meter fs c.loop-token.meters t gs c.take_token.new.meters =
    subst (λ b. MatchBool b (Takes l predict g.L.Language.meter fs c.loop-token.meters t gs c.take_token.new.meters)
    (Refuses l predict g.L.Language.meter fs c.loop-token.meters t)) c.if-not-branch.false c.in_ok-take_token.ensures.takes in
    reached_more l g.L.Language.certificate g.L.Language.meter g.met.L.Language.sound c.args.tokens.now c.loop-token.token-index t fs c.loop-token.meters
    gs c.take_token.new.meters c.loop-token-test.true c.token-item.is c.loop-token.invariant takes (c.in_ok-take_token.ensures.linked c.if-not-branch.false)
    (sym c.in_default.ensures)

pub unreachable-requires : goal.unreachable-requires
unreachable-requires g c =
    let l = g.L.Language.grammar in
    let fs = items g.L.Language.view c.loop-token.stack in
    let full : c.loop-token.token-index ≡ length c.args.tokens.now = omega arith in
    never_unfinished l g.L.Language.certificate g.L.Language.meter g.met.L.Language.sound g.L.Language.view c.args.tokens.now fs c.loop-token.meters
    (reached_all l g.L.Language.certificate g.L.Language.meter g.met.L.Language.sound c.args.tokens.now c.loop-token.token-index fs c.loop-token.meters full c.loop-token.invariant)
    c.requires (subst (λ o. Finishes l g.L.Language.certificate.predict g.L.Language.view fs o) c.in-None.is c.in_ok-value.ensures)

pub returns : goal.returns
returns g c =
    let l = g.L.Language.grammar in
    let fs = items g.L.Language.view c.loop-token.stack in
    let full : c.loop-token.token-index ≡ length c.args.tokens.now = omega arith in
    accepted l g.L.Language.certificate g.L.Language.meter g.met.L.Language.sound g.L.Language.view c.args.tokens.now fs c.loop-token.meters
    (reached_all l g.L.Language.certificate g.L.Language.meter g.met.L.Language.sound c.args.tokens.now c.loop-token.token-index fs c.loop-token.meters full c.loop-token.invariant)
    c.in-Some-2.value (subst (λ o. Finishes l g.L.Language.certificate.predict g.L.Language.view fs o) c.in-Some-2.is c.in_ok-value.ensures)
