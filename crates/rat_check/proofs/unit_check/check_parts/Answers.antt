-- One part more, which breaks no rule, or is the first one that does.
use Rattle.std.proofs.Common.{◌≡◌, ◌+◌, length, drop, sym, ap, ◌∙◌, arith}
use Rattle.std.proofs.lemmas.List.{length-map}
use Rattle.f66_names.specs.ActViews.{act_said}
use Rattle.f66_names.specs.DeclarationViews.{context_in}
use Rattle.rat_check.specs.Said.{said_by, said_in}
use Rattle.rat_check.specs.FirstFault.{first_broken}
use Rattle.rat_check.specs.FormViews.{form_of}
use Rattle.rat_check.specs.PartViews.{part_of, parts_seen, before_of, whole_by}
use Rattle.rat_check.specs.Survey.{own_labels}
use Rattle.rat_check.proofs.RuleLemmas.{next_part, said_on, rule_passed, rule_broken}
use Rattle.rat_check.proofs.unit_check.check_parts.Goals as goal

pub broken_rule-requires-clause-within : goal.broken_rule-requires-clause-within
broken_rule-requires-clause-within c =
    let l = c.loop-part in
    let on = said_on (context_in c.args.names.now.declarations).header c.args.parts.now l.part-index c.part-item.result l.before.said _ c.loop-part-test.true c.part-item.is l.invariant.said in
    omega (arith, on, length-map c.args.names.now.declarations.sayings.now act_said, ap length c.in_ok-sayings_into.ensures, length-map c.sayings_into.new.sayings.items act_said)

pub add-requires : goal.add-requires
add-requires c =
    let l = c.loop-part in
    let on = said_on (context_in c.args.names.now.declarations).header c.args.parts.now l.part-index c.part-item.result l.before.said _ c.loop-part-test.true c.part-item.is l.invariant.said in
    omega (arith, on, length-map c.args.names.now.declarations.sayings.now act_said, ap length c.in_ok-sayings_into.ensures, length-map c.sayings_into.new.sayings.items act_said)

pub returns-in-Some-clause-fault : goal.returns-in-Some-clause-fault
returns-in-Some-clause-fault c =
    let l = c.loop-part in
    let u = whole_by c.args.names.now c.args.formats.now in
    let rest = parts_seen (drop (l.part-index + 1) c.args.parts.now) in
    sym l.invariant.fault
    ∙ ap (first_broken u (before_of l.before)) (next_part c.args.parts.now l.part-index c.part-item.result c.loop-part-test.true c.part-item.is)
    ∙ rule_broken u (before_of l.before) (part_of c.part-item.result) rest c.in-Some.rule c.fault.result (sym c.in-Some.is ∙ c.in_ok-broken.ensures) c.fault.ensures

pub loop-part-preserved : goal.loop-part-preserved
loop-part-preserved c =
    let l = c.loop-part in
    let u = whole_by c.args.names.now c.args.formats.now in
    let rest = parts_seen (drop (l.part-index + 1) c.args.parts.now) in
    let next = next_part c.args.parts.now l.part-index c.part-item.result c.loop-part-test.true c.part-item.is in
    let on = said_on (context_in c.args.names.now.declarations).header c.args.parts.now l.part-index c.part-item.result l.before.said _ c.loop-part-test.true c.part-item.is l.invariant.said in
    let says : c.len.result ≡ length (said_by u.context.header (form_of c.part-item.result.form)) =
    omega (arith, c.len.ensures, ap length c.in_ok-sayings_into.ensures, length-map c.sayings_into.new.sayings.items act_said) in
    record {
      fault =
          rule_passed u (before_of l.before) (before_of c.add.new.self) (part_of c.part-item.result) rest (sym c.in_default.is ∙ c.in_ok-broken.ensures) (c.in_ok-add.ensures.before u.context.header says)
          ∙ sym (ap (first_broken u (before_of l.before)) next) ∙ l.invariant.fault;
      labels = ap (own_labels rest) c.in_ok-add.ensures.labels ∙ sym (ap (λ vs. own_labels vs l.before.labels) next) ∙ l.invariant.labels;
      said = ap (λ b. b.said + length (said_in u.context.header rest)) (c.in_ok-add.ensures.before u.context.header says) ∙ on;
    }
