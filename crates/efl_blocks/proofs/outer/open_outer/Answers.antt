-- The names first, then the variables and letters, and then the formals.
use Rattle.std.proofs.Common.{subst}
use Rattle.efl_tree.specs.Views.{decls_of, procedure_of}
use Rattle.efl_scoped.specs.Seen.{table_of}
use Rattle.efl_blocks.specs.DeclaredViews.{declared_names, NamesAll}
use Rattle.efl_blocks.specs.OuterViews.{DeclaresOuterAll, DeclaresFormals}
use Rattle.efl_blocks.proofs.OuterLemmas.{outer_opened}
use Rattle.efl_blocks.proofs.outer.open_outer.Goals as goal

pub returns : goal.returns
returns c =
    let y = c.args.types.now in
    let z = c.declare_outer.new.types in
    let none = c.new-known.result in
    let known = c.name_declared.new.block in
    let empty = c.new-block.result in
    let between = c.declare_outer.new.block in
    let before = c.new-letters.result in
    let letters = c.declare_outer.new.letters in
    let new = c.declare_formals.new.block in
    outer_opened y z none known empty between new before letters (procedure_of c.args.procedure.now) c.new-known.ensures c.new-block.ensures
    (c.new-letters.ensures (table_of y.numbers) y.structures.list.items)
    (subst (λ ds. NamesAll none (declared_names (decls_of ds)) known) c.deref.ensures.value c.in_ok-name_declared.ensures)
    (subst (λ ds. DeclaresOuterAll y known empty before (decls_of ds) z between letters) c.deref-2.ensures.value c.in_ok-declare_outer.ensures)
    (subst (λ xs. DeclaresFormals letters between xs new) c.deref-3.ensures.value c.in_ok-declare_formals.ensures)
