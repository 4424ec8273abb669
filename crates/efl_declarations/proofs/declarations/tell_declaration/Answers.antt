-- Initial values among all blocks, and what the others break.
use Rattle.std.proofs.Common.{map, sym, subst}
use Rattle.std.proofs.lemmas.Result.{on_ok_weaker}
use Rattle.efl_tree.specs.Views.{preset_of, decl_kind_of}
use Rattle.efl_declarations.specs.Checks.{NotesInside, TellsDeclaration}
use Rattle.efl_declarations.proofs.CheckLemmas.{other_presets, declaration_told, presets_told}
use Rattle.efl_declarations.proofs.declarations.tell_declaration.Goals as goal

pub returns-in-Initial : goal.returns-in-Initial
returns-in-Initial c =
    let y = c.args.types.now in
    let known = c.args.known.now in
    let s = c.args.site.now in
    let old = c.args.progress.now in
    let new = c.tell_presets.new.progress in
    let p = c.args.declaration.now.place in
    on_ok_weaker c.tell_presets.result
    (λ noted. subst (λ k. TellsDeclaration y known s old (record { kind = decl_kind_of k; place = p }) y known new) (sym c.in-Initial.is)
    (presets_told y known s old new p (map preset_of c.in-Initial.presets.items) (subst (λ ps. NotesInside y known s p (map preset_of ps) old new) c.deref.ensures.value noted)))
    c.tell_presets.ensures

pub returns-in_ok-fault-in_default : goal.returns-in_ok-fault-in_default
returns-in_ok-fault-in_default c =
    let k = c.args.declaration.now.kind in
    declaration_told c.args.types.now c.see_declaration.new.types c.args.known.now c.see_declaration.new.block c.args.site.now c.args.progress.now c.note_all.new.self
    c.args.declaration.now.place (decl_kind_of k) c.in_ok-fault-in_default.fault (other_presets k c.in_default.not-Initial) c.in_ok-fault-in_default.ensures c.note_all.ensures
