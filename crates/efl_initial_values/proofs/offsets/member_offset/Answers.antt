-- Only a structure has members.
use Rattle.std.proofs.Common.{sym, ap, subst, ◌∙◌}
use Rattle.std.specs.Option.{option_map}
use Rattle.efl_types.specs.Presets.{member_offset}
use Rattle.efl_scoped.specs.Told.{capped}
use Rattle.efl_expressions.specs.TypeViews.{Is, AreMembers}
use Rattle.efl_expressions.proofs.TypeLemmas.{structure_is, is_there, one_got, none_got, bounds_none, bounds_some}
use Rattle.efl_initial_values.proofs.PlaceLemmas.{no_offset}
use Rattle.efl_initial_values.proofs.offsets.member_offset.Goals as goal

pub returns-then-not-is_empty : goal.returns-then-not-is_empty
returns-then-not-is_empty c = λ f t made.
    let d = c.args.kind.now in
    let some = bounds_some c.is_empty.result d.bounds.now c.is_empty.ensures c.if-not-is_empty.true in
    sym (ap (option_map capped) (no_offset f c.args.structures.now.list.items t d.bounds.now d.element c.args.name.now made.made (λ i none is. some none)))

pub returns-in-None : goal.returns-in-None
returns-in-None c = λ f t made.
    let ss = c.args.structures.now.list.items in
    let d = c.args.kind.now in
    let none = bounds_none c.is_empty.result d.bounds.now c.is_empty.ensures c.if-not-is_empty.false in
    let got = none_got ss c.deref.result.now c.in-Structured.number c.deref.ensures.value c.in-None.ensures.lookup.3 in
    absurd (is_there f ss t d.element c.in-Structured.number (subst (λ cs. Is f ss t cs d.element) none made.made) c.in-Structured.is got)

pub returns-in-Some : goal.returns-in-Some
returns-in-Some c = λ f t made.
    let ss = c.args.structures.now.list.items in
    let d = c.args.kind.now in
    let s = c.in-Some.structure.now in
    let none = bounds_none c.is_empty.result d.bounds.now c.is_empty.ensures c.if-not-is_empty.false in
    let got = one_got ss c.deref.result.now c.in-Structured.number s c.deref.ensures.value c.in-Some.ensures.lookup.3.0 c.in-Some.ensures.lookup.1 in
    let one = structure_is f ss t d.element c.in-Structured.number s (subst (λ cs. Is f ss t cs d.element) none made.made) c.in-Structured.is got in
    let kept = subst (AreMembers f ss one.members) (sym c.deref-in-Some.ensures.value) one.made in
    c.before_member.ensures f ss one.members kept ∙ sym (ap (λ u. option_map capped (member_offset c.args.name.now u)) one.is)

pub returns-in_default : goal.returns-in_default
returns-in_default c = λ f t made.
    let d = c.args.kind.now in
    sym (ap (option_map capped) (no_offset f c.args.structures.now.list.items t d.bounds.now d.element c.args.name.now made.made (λ i none is. c.in_default.not-Structured i is)))
