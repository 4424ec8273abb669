-- A name that stood before, or one more that did not.
use Rattle.std.proofs.Common.{arith, ◌∙◌, ap, sym, is_some}
use Rattle.std.specs.HashMap.{get_by}
use Rattle.std.specs.Str.{bytes_eq}
use Rattle.rule_table.proofs.WordLemmas.{place_steps, repeated, not_repeated}
use Rattle.unit_rules.proofs.again.repeats.Goals as goal

pub returns-then-branch : goal.returns-then-branch
returns-then-branch c =
    sym (repeated (λ d. d.now.name) c.args.list.now c.loop-declared.declared-index c.declared-item.result c.loop-declared-test.true c.declared-item.is
    (sym (c.loop-declared.invariant.0 c.declared-item.result.now.name)
    ∙ ap (λ n. is_some (get_by (λ k. bytes_eq n k.now) c.loop-declared.seen)) (sym c.as_bytes.ensures)
    ∙ sym c.in_ok-note_repeat.ensures.known ∙ c.if-branch.true))

pub loop-declared-preserved : goal.loop-declared-preserved
loop-declared-preserved c = (
  λ q. grind (arith, place_steps, c.loop-declared.invariant.0 q),
  not_repeated (λ d. d.now.name) c.args.list.now c.loop-declared.declared-index c.declared-item.result c.loop-declared-test.true c.declared-item.is c.loop-declared.invariant.1
      (sym (c.loop-declared.invariant.0 c.declared-item.result.now.name)
      ∙ ap (λ n. is_some (get_by (λ k. bytes_eq n k.now) c.loop-declared.seen)) (sym c.as_bytes.ensures)
      ∙ sym c.in_ok-note_repeat.ensures.known ∙ c.if-branch.false),
)
