-- All formals are counted.
use Rattle.std.proofs.Common.{ap, ◌∙◌}
use Rattle.std.proofs.lemmas.Result.{on_ok_weaker}
use Rattle.efl_storage.specs.Named.{texts_of}
use Rattle.efl_reading.proofs.CountingLemmas.{header_counted}
use Rattle.efl_reading.proofs.counting.count_header.Goals as goal

pub returns : goal.returns
returns c =
    on_ok_weaker c.meet_formals.result
    (header_counted c.args.unit c.args.formals.now c.args.block.now (texts_of c.deref.result.now) c.args.storage.now c.meet_formals.new.storage (ap texts_of c.deref.ensures.value ∙ c.in_ok-names.ensures))
    c.meet_formals.ensures
