-- Each kind of declaration.
use Rattle.std.proofs.Common.{[], sym, subst}
use Rattle.std.proofs.lemmas.Result.{on_ok_weaker}
use Rattle.efl_tree.specs.Views.{type_of, vars_of, decl_kind_of}
use Rattle.efl_scope.specs.Scopes.{data_type, declared_by}
use Rattle.efl_initial_values.specs.Surveys.{Adds, variables_of}
use Rattle.efl_initial_values.proofs.areas.add_declared.Goals as goal

pub returns-in-Variables : goal.returns-in-Variables
returns-in-Variables c =
    let members = c.args.members.now in
    let areas = c.args.areas.now in
    let next = c.add_variables.new in
    let v = c.in-Variables in
    on_ok_weaker c.add_variables.result
    (λ adds bs. let t = data_type bs (type_of v.field-1) in
    subst (λ k. Adds (declared_by [] bs (decl_kind_of k)) members areas next.members next.areas) (sym v.is)
    (subst (λ xs. Adds (variables_of v.area t (vars_of xs)) members areas next.members next.areas) c.deref.ensures.value
    (subst (λ q. Adds (variables_of q t (vars_of c.deref.result.now)) members areas next.members next.areas) c.area_bytes.ensures (adds t))))
    c.add_variables.ensures
