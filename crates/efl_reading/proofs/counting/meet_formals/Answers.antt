-- One formal more.
use Rattle.std.proofs.Common.{[], get_or, take, subst, sym}
use Rattle.std.specs.Borrow.{Bor}
use Rattle.efl_tree.specs.Syntax.{Text}
use Rattle.efl_storage.specs.Named.{texts_of}
use Rattle.efl_storage.proofs.PartLemmas.{texts_next, texts_all}
use Rattle.efl_storage.proofs.ListedLemmas.{text_held}
use Rattle.efl_reading.specs.Counting.{TakesFormals}
use Rattle.efl_reading.proofs.CountingLemmas.{formals_begun, formals_passed}
use Rattle.efl_reading.proofs.counting.meet_formals.Goals as goal

pub loop-name-init : goal.loop-name-init
loop-name-init c = formals_begun c.args.unit (texts_of c.args.names.now) c.args.blocks.now c.args.storage.now

pub loop-name-preserved : goal.loop-name-preserved
loop-name-preserved c =
    let l = c.loop-name in
    let n = c.args.unit in
    let blocks = c.args.blocks.now in
    let all = c.args.names.now in
    let old = c.args.storage.now in
    let new = c.meet_named.new.self in
    let none : Bor Text = record { ref_ptr = (0, 0); now = [] } in
    subst (λ xs. TakesFormals n (texts_of all) blocks xs old new) (sym (texts_next all l.name-index none c.loop-name-test.true))
    (formals_passed n (texts_of all) blocks (texts_of (take l.name-index all)) (get_or all l.name-index none).now c.declared_kind-kind.result old l.storage new (text_held all l.name-index none c.loop-name-test.true) l.invariant
    c.declared_kind-kind.ensures c.in_ok-meet_named.ensures)

pub returns : goal.returns
returns c =
    let l = c.loop-name in
    let all = c.args.names.now in
    subst (λ xs. TakesFormals c.args.unit (texts_of all) c.args.blocks.now xs c.args.storage.now l.storage) (texts_all all l.name-index c.loop-name-test.false) l.invariant
