-- Why `Names::keep_name` keeps its clauses.
use Rattle.std.proofs.Common.{ap, sym, ◌∙◌, ◌∷◌, [], ◌++◌}
use Rattle.name_alloc.specs.MadeNames.{number_of, taking_if}
use Rattle.name_alloc.proofs.Made.{keeps}
use Rattle.name_alloc.proofs.names.Names.keep_name.Goals as goal

pub invariant_of-self-in_default : goal.invariant_of-self-in_default
invariant_of-self-in_default c =
    let i = c.self.inside in
    let items = c.in_ok-push.ensures.items ∙ ap (λ v. i.kept.items ++ v ∷ []) c.in_ok-copy.ensures in
    let number = sym (ap (number_of i.letter) c.as_bytes.ensures) ∙ sym c.number_of.ensures ∙ c.in_default.is in
    let all = keeps i.letter i.numbers i.numbers i.kept.items c.push.new.self.items c.args.name.now c.self.invariant.0 c.self.invariant.1 items (sym (ap (taking_if i.numbers) number)) in
    (all.0, all.1, c.self.invariant.2, c.self.invariant.3)

pub invariant_of-self-in-Ok : goal.invariant_of-self-in-Ok
invariant_of-self-in-Ok c =
    let i = c.self.inside in
    let items = c.in_ok-push.ensures.items ∙ ap (λ v. i.kept.items ++ v ∷ []) c.in_ok-copy.ensures in
    let number = sym (ap (number_of i.letter) c.as_bytes.ensures) ∙ sym c.number_of.ensures ∙ c.in-Some.is in
    let all = keeps i.letter i.numbers c.take.new.self i.kept.items c.push.new.self.items c.args.name.now c.self.invariant.0 c.self.invariant.1 items (c.in-Ok.ensures.taken ∙ sym (ap (taking_if i.numbers) number)) in
    (all.0, all.1, all.2 ∙ c.self.invariant.2, c.self.invariant.3)
