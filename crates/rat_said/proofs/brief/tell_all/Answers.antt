-- One saying more is told.
use Rattle.std.proofs.Common.{◌≡◌, ◌+◌, [], ◌∷◌, ◌++◌, map, take, ap, sym, subst, ◌∙◌, arith}
use Rattle.std.proofs.lemmas.List.{map-append, take_all, take_more}
use Rattle.f66_tree.specs.Views.{lines_of}
use Rattle.f66_names.specs.ActViews.{act_said, acts_of}
use Rattle.f66_mentions.specs.UnitViews.{context_in}
use Rattle.rat_check.specs.PartViews.{part_of}
use Rattle.rat_said.specs.Brief.{IsTelling}
use Rattle.rat_said.specs.Said.{said_line}
use Rattle.rat_said.specs.Seen.{has}
use Rattle.rat_said.proofs.PartsSaid.{one_told}
use Rattle.rat_said.proofs.brief.tell_all.Goals as goal

pub loop-saying-preserved : goal.loop-saying-preserved
loop-saying-preserved c = λ said t.
    let context = context_in c.args.names.now in
    let sayings = c.args.sayings.now in
    let i = c.loop-saying.saying-index in
    let s = c.saying-item.result in
    let f = said_line (part_of c.args.part.now) in
    let later = c.tell.new.teller in
    let more : acts_of (take i sayings) ++ act_said s ∷ [] ≡ acts_of (take (i + 1) sayings) =
    sym (ap acts_of (take_more sayings i s c.loop-saying-test.true ∙ ap (λ y. take i sayings ++ y ∷ []) (sym c.saying-item.is)) ∙ map-append act_said (take i sayings) (s ∷ [])) in
    subst (λ ls. IsTelling context ls (lines_of later.told.items) (has later.seen))
    (one_told said f (acts_of (take i sayings)) (act_said s) ∙ ap (λ bs. said ++ map f bs) more)
    (c.in_ok-tell.ensures (said ++ map f (acts_of (take i sayings))) (c.loop-saying.invariant said t))

pub returns : goal.returns
returns c = λ said t.
    let context = context_in c.args.names.now in
    let sayings = c.args.sayings.now in
    let f = said_line (part_of c.args.part.now) in
    let last = c.loop-saying.teller in
    let behind = c.loop-saying-test.false in
    subst (λ ss. IsTelling context (said ++ map f (acts_of ss)) (lines_of last.told.items) (has last.seen)) (take_all c.loop-saying.saying-index sayings (omega (arith, behind))) (c.loop-saying.invariant said t)
