-- The variables, and then the formals.
use Rattle.std.proofs.Common.{Some, refl, subst}
use Rattle.efl_tree.specs.Views.{decls_of, procedure_of}
use Rattle.efl_bindings.specs.declared.homes.Home.{Home}
use Rattle.efl_bindings.specs.Declarations.{AreDeclared, DeclaresFormals}
use Rattle.efl_bindings.proofs.OuterLemmas.{outer_opened}
use Rattle.efl_bindings.proofs.outer.outer_table.Goals as goal

pub returns : goal.returns
returns c =
    let h : Home = record { unit = c.args.unit; place = Some 0; variables = c.args.variables } in
    let letters = c.args.letters.now in
    outer_opened c.args.unit (procedure_of c.args.procedure.now) letters c.args.variables.now h c.in_ok-table.table c.declare_formals.new.table refl refl refl
    (subst (λ ds. AreDeclared h (decls_of ds) c.in_ok-table.table) c.deref.ensures.value c.in_ok-table.ensures)
    (subst (λ fs. DeclaresFormals h letters c.in_ok-table.table fs c.declare_formals.new.table) c.deref-2.ensures.value c.in_ok-declare_formals.ensures)
