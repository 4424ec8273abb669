-- A name that stood before, or one more that did not.
use Rattle.std.proofs.Common.{arith, ◌∙◌, ap, sym, is_some}
use Rattle.std.specs.HashMap.{get_by}
use Rattle.std.specs.Str.{bytes_eq}
use Rattle.rule_table.proofs.WordLemmas.{place_steps}
use Rattle.unit_rules.proofs.NameLemmas.{repeated, not_repeated}
use Rattle.unit_rules.proofs.heads.repeats.Goals as goal

pub returns-then-branch : goal.returns-then-branch
returns-then-branch c =
    sym (repeated c.args.list.now c.loop-name.name-index c.name-item.result c.loop-name-test.true c.name-item.is
    (sym (c.loop-name.invariant.0 c.name-item.result)
    ∙ ap (λ n. is_some (get_by (λ k. bytes_eq n k.now) c.loop-name.seen)) (sym c.as_bytes.ensures)
    ∙ sym c.in_ok-note_repeat.ensures.known ∙ c.if-branch.true))

pub loop-name-preserved : goal.loop-name-preserved
loop-name-preserved c = (
  λ q. grind (arith, place_steps, c.loop-name.invariant.0 q),
  not_repeated c.args.list.now c.loop-name.name-index c.name-item.result c.loop-name-test.true c.name-item.is c.loop-name.invariant.1
      (sym (c.loop-name.invariant.0 c.name-item.result)
      ∙ ap (λ n. is_some (get_by (λ k. bytes_eq n k.now) c.loop-name.seen)) (sym c.as_bytes.ensures)
      ∙ sym c.in_ok-note_repeat.ensures.known ∙ c.if-branch.false),
)
