-- One name more.
use Rattle.std.proofs.Common.{[], get_or, take, subst, sym}
use Rattle.std.specs.Borrow.{Bor}
use Rattle.efl_tree.specs.Syntax.{Text}
use Rattle.efl_storage.specs.Named.{texts_of}
use Rattle.efl_storage.specs.Parts.{TakesNames}
use Rattle.efl_storage.proofs.PartLemmas.{names_begun, names_passed, texts_next, texts_all}
use Rattle.efl_storage.proofs.met.meet_names.Goals as goal

pub loop-name-init : goal.loop-name-init
loop-name-init c = names_begun c.args.sight.now c.args.storage.now

pub loop-name-preserved : goal.loop-name-preserved
loop-name-preserved c =
    let l = c.loop-name in
    let s = c.args.sight.now in
    let all = c.args.names.now in
    let new = c.meet_name.new.storage in
    let none : Bor Text = record { ref_ptr = (0, 0); now = [] } in
    subst (λ xs. TakesNames s xs c.args.storage.now new) (sym (texts_next all l.name-index none c.loop-name-test.true))
    (names_passed s (texts_of (take l.name-index all)) (get_or all l.name-index none).now c.args.storage.now l.storage new l.invariant c.in_ok-meet_name.ensures)

pub returns : goal.returns
returns c =
    let l = c.loop-name in
    subst (λ xs. TakesNames c.args.sight.now xs c.args.storage.now l.storage) (texts_all c.args.names.now l.name-index c.loop-name-test.false) l.invariant
