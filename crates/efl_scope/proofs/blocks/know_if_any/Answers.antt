-- A structure's name becomes known.
use Rattle.std.proofs.Common.{◌∙◌}
use Rattle.std.proofs.lemmas.Result.{on_ok_weaker}
use Rattle.efl_scope.specs.BlockViews.{kinds_of}
use Rattle.efl_scope.proofs.TableLemmas.{known_named}
use Rattle.efl_scope.proofs.blocks.know_if_any.Goals as goal

pub returns-in-Some : goal.returns-in-Some
returns-in-Some c =
    on_ok_weaker c.know.result
    (λ e known. e known ∙ known_named c.args.kept c.args.name.now c.in-Some.name c.as_bytes.result.now c.if-not-kept.false c.in-Some.is c.as_bytes.ensures (kinds_of c.args.kinds.now known))
    c.know.ensures
