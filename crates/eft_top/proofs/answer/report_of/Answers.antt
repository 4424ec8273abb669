-- Why `report_of` keeps its clauses.
use Rattle.std.proofs.Common.{sym, subst, refl}
use Rattle.std.specs.Prelude.{IfOk}
use Rattle.eft_top.specs.Input.{HasGiven, HasGot}
use Rattle.eft_top.specs.Reading.{asked_command}
use Rattle.eft_top.specs.Story.{CameOf, HasPut, HasBroken}
use Rattle.eft_top.proofs.Reports.{if_ok, cards_unread, listing_unread}
use Rattle.eft_top.proofs.answer.report_of.Goals as goal

pub returns-in-Cards-clause-came : goal.returns-in-Cards-clause-came
returns-in-Cards-clause-came g c =
    let files = g.L.Library.files c.args.library.now in
    let before = g.L.Library.faults c.args.library.now in
    let now = g.L.Library.faults c.print_file.new.library in
    let given = HasGiven g.S.Source.left g.S.Source.faults c.args.input.now c.args.input.now in
    let got = HasGot g.S.Source.left c.args.input.now c.args.input.now in
    let put = HasPut g.K.Sink.puts g.K.Sink.faults c.args.out.now c.print_file.new.out in
    let broken = HasBroken g.K.Sink.puts g.K.Sink.faults c.args.out.now c.print_file.new.out in
    subst (λ asked. IfOk c.print_file.result (CameOf (asked_command asked) files before now given got put broken)) (sym c.in-Cards.is)
    (if_ok (λ report came. cards_unread c.in-Cards.language c.in-Cards.file.now files before now given got put broken report came) c.print_file.result c.print_file.ensures.came)

pub returns-in-Cards-clause-all_read : goal.returns-in-Cards-clause-all_read
returns-in-Cards-clause-all_read g c = if_ok (λ report came other. refl) c.print_file.result c.print_file.ensures.came

pub returns-in-Listing-clause-came : goal.returns-in-Listing-clause-came
returns-in-Listing-clause-came g c =
    let files = g.L.Library.files c.args.library.now in
    let before = g.L.Library.faults c.args.library.now in
    let now = g.L.Library.faults c.list_file.new.library in
    let given = HasGiven g.S.Source.left g.S.Source.faults c.args.input.now c.args.input.now in
    let got = HasGot g.S.Source.left c.args.input.now c.args.input.now in
    let put = HasPut g.K.Sink.puts g.K.Sink.faults c.args.out.now c.list_file.new.out in
    let broken = HasBroken g.K.Sink.puts g.K.Sink.faults c.args.out.now c.list_file.new.out in
    subst (λ asked. IfOk c.list_file.result (CameOf (asked_command asked) files before now given got put broken)) (sym c.in-Listing.is)
    (if_ok (λ report came. listing_unread c.in-Listing.language c.in-Listing.file.now files before now given got put broken report came) c.list_file.result c.list_file.ensures.came)

pub returns-in-Listing-clause-all_read : goal.returns-in-Listing-clause-all_read
returns-in-Listing-clause-all_read g c = if_ok (λ report came other. refl) c.list_file.result c.list_file.ensures.came
