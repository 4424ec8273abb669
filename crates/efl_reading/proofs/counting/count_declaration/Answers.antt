-- What the declaration lists is counted, and then what it uses.
use Rattle.std.proofs.Common.{ap, ◌∙◌}
use Rattle.std.proofs.lemmas.Result.{on_ok_weaker}
use Rattle.efl_tree.specs.Views.{decl_kind_of}
use Rattle.efl_storage.specs.Named.{texts_of}
use Rattle.efl_reading.proofs.CountingLemmas.{declaration_counted}
use Rattle.efl_reading.proofs.counting.count_declaration.Goals as goal

pub returns : goal.returns
returns c =
    on_ok_weaker c.take_uses.result
    (λ meets y.
    declaration_counted y c.args.site.now c.args.firsts.now (decl_kind_of c.args.kind.now) (texts_of c.deref.result.now) c.sight_of.result c.args.storage.now c.meet_listed.new.storage c.take_uses.new.storage
    (λ before. ap texts_of c.deref.ensures.value ∙ c.in_ok-names.ensures before) (c.in_ok-meet_listed.ensures y) c.sight_of.ensures.unit (c.sight_of.ensures.sees y) meets)
    c.take_uses.ensures
