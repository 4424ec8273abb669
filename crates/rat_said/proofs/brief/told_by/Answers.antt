-- One part more is told.
use Rattle.std.proofs.Common.{◌≡◌, ◌+◌, [], ◌∷◌, ◌++◌, take, ap, sym, subst, ◌∙◌, arith}
use Rattle.std.proofs.lemmas.List.{map-append, take_all, take_more}
use Rattle.f66_tree.specs.Views.{header_of, lines_of, routine_of}
use Rattle.f66_program.specs.Mentions.{context_of}
use Rattle.f66_names.specs.ActViews.{acts_of}
use Rattle.f66_mentions.specs.UnitViews.{context_in}
use Rattle.rat_check.specs.PartViews.{part_of, parts_seen}
use Rattle.rat_said.specs.Brief.{IsTelling, IsTold}
use Rattle.rat_said.specs.Said.{said_lines}
use Rattle.rat_said.specs.Seen.{has}
use Rattle.rat_said.proofs.PartsSaid.{part_told}
use Rattle.rat_said.proofs.brief.told_by.Goals as goal

pub loop-part-preserved : goal.loop-part-preserved
loop-part-preserved c =
    let context = context_in c.in_ok-names.names in
    let h = header_of c.args.header.now in
    let parts = c.args.parts.now in
    let i = c.loop-part.part-index in
    let p = c.part-item.result in
    let later = c.tell_all.new.teller in
    let acts = acts_of c.deref.result.now in
    let more : parts_seen (take i parts) ++ part_of p ∷ [] ≡ parts_seen (take (i + 1) parts) =
    sym (ap parts_seen (take_more parts i p c.loop-part-test.true ∙ ap (λ y. take i parts ++ y ∷ []) (sym c.part-item.is)) ∙ map-append part_of (take i parts) (p ∷ [])) in
    subst (λ vs. IsTelling context (said_lines h vs) (lines_of later.told.items) (has later.seen)) more
    (part_told context h (parts_seen (take i parts)) (part_of p) (lines_of later.told.items) (has later.seen) acts (ap acts_of c.deref.ensures.value ∙ c.in_ok-sayings_into.ensures)
    (c.in_ok-tell_all.ensures (said_lines h (parts_seen (take i parts))) c.loop-part.invariant))

pub returns : goal.returns
returns c =
    let h = header_of c.args.header.now in
    let parts = c.args.parts.now in
    let told = lines_of c.loop-part.teller.told.items in
    let behind = c.loop-part-test.false in
    subst (λ u. IsTold (context_of (routine_of u)) (said_lines h (parts_seen parts)) told) c.in_ok-names.ensures
    (subst (λ ps. IsTold (context_in c.in_ok-names.names) (said_lines h (parts_seen ps)) told) (take_all c.loop-part.part-index parts (omega (arith, behind))) c.loop-part.invariant.brief)
