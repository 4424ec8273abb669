-- One name more.
use Rattle.std.proofs.Common.{[], get_or, take, subst, sym}
use Rattle.std.specs.Borrow.{Bor}
use Rattle.efl_tree.specs.Syntax.{Text}
use Rattle.efl_storage.specs.Named.{texts_of}
use Rattle.efl_storage.proofs.PartLemmas.{texts_next, texts_all}
use Rattle.efl_reading.specs.Counting.{TakesListed}
use Rattle.efl_reading.proofs.CountingLemmas.{listed_begun, listed_passed}
use Rattle.efl_reading.proofs.counting.meet_listed.Goals as goal

pub loop-name-init : goal.loop-name-init
loop-name-init c = λ y. listed_begun y c.args.site.now c.args.firsts.now c.args.storage.now

pub loop-name-preserved : goal.loop-name-preserved
loop-name-preserved c = λ y.
    let l = c.loop-name in
    let s = c.args.site.now in
    let firsts = c.args.firsts.now in
    let all = c.args.names.now in
    let old = c.args.storage.now in
    let new = c.meet_name.new.storage in
    let none : Bor Text = record { ref_ptr = (0, 0); now = [] } in
    subst (λ xs. TakesListed y s firsts xs old new) (sym (texts_next all l.name-index none c.loop-name-test.true))
    (listed_passed y s firsts (texts_of (take l.name-index all)) (get_or all l.name-index none).now old l.storage new (l.invariant y) (c.in_ok-meet_name.ensures y))

pub returns : goal.returns
returns c = λ y.
    let l = c.loop-name in
    subst (λ xs. TakesListed y c.args.site.now c.args.firsts.now xs c.args.storage.now l.storage) (texts_all c.args.names.now l.name-index c.loop-name-test.false) (l.invariant y)
