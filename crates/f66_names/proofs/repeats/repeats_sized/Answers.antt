-- A name that stood before, or one more that did not.
use Rattle.std.proofs.Common.{arith, map, filter, take, ◌≡◌, ◌∙◌, ap, sym, true, ◌&&◌}
use Rattle.std.specs.List.{list_any}
use Rattle.std.specs.Str.{bytes_eq}
use Rattle.f66_names.specs.Declaring.{is_sized}
use Rattle.f66_tree.specs.Views.{declared_of}
use Rattle.rule_table.proofs.WordLemmas.{place_steps, repeated_among, not_repeated_among}
use Rattle.rule_table.proofs.WordLemmas.{and_left, and_right}
use Rattle.f66_names.proofs.repeats.repeats_sized.Goals as goal

pub returns-then-branch : goal.returns-then-branch
returns-then-branch c =
    let known : (is_sized (declared_of c.declared-item.result) && list_any (bytes_eq c.declared-item.result.name) (map (λ d. d.name) (filter (λ d. is_sized (declared_of d)) (take c.loop-declared.declared-index c.args.list.now)))) ≡ true =
    ap (λ b. is_sized (declared_of c.declared-item.result) && b) (sym (c.loop-declared.invariant.0 c.declared-item.result.name)) ∙ sym c.in_ok-note_sized_repeat.ensures.known ∙ c.if-branch.true in
    sym (repeated_among (λ d. d.name) (λ d. is_sized (declared_of d)) c.args.list.now c.loop-declared.declared-index c.declared-item.result c.loop-declared-test.true c.declared-item.is
    (and_left _ _ known) (and_right _ _ known))

pub loop-declared-preserved : goal.loop-declared-preserved
loop-declared-preserved c = (
  λ q. grind (arith, place_steps, c.loop-declared.invariant.0 q),
  not_repeated_among (λ d. d.name) (λ d. is_sized (declared_of d)) c.args.list.now c.loop-declared.declared-index c.declared-item.result c.loop-declared-test.true c.declared-item.is c.loop-declared.invariant.1
      (ap (λ b. is_sized (declared_of c.declared-item.result) && b) (sym (c.loop-declared.invariant.0 c.declared-item.result.name)) ∙ sym c.in_ok-note_sized_repeat.ensures.known ∙ c.if-branch.false),
)
