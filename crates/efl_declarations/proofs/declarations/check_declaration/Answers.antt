-- Counted, and then told.
use Rattle.std.proofs.Common.{refl}
use Rattle.std.proofs.lemmas.Result.{on_ok_weaker}
use Rattle.efl_tree.specs.Views.{decl_of}
use Rattle.efl_reading.specs.declared.walk.Walk.{Walk}
use Rattle.efl_declarations.proofs.CheckLemmas.{declaration_checked}
use Rattle.efl_declarations.proofs.declarations.check_declaration.Goals as goal

pub returns : goal.returns
returns c =
    let old = c.args.walk.now in
    let new : Walk = record { progress = c.tell_declaration.new.progress; storage = c.count_inside.new.storage; firsts = old.firsts } in
    on_ok_weaker c.tell_declaration.result
    (declaration_checked c.args.types.now c.tell_declaration.new.types c.args.known.now c.tell_declaration.new.known c.args.site.now old new (decl_of c.args.declaration.now) c.in_ok-count_inside.ensures refl)
    c.tell_declaration.ensures
