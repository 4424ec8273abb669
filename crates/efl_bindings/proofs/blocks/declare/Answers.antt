-- Variables, or none.
use Rattle.std.proofs.Common.{sym, subst}
use Rattle.std.proofs.lemmas.Result.{on_ok_weaker}
use Rattle.efl_tree.specs.Views.{type_of, vars_of, decl_kind_of}
use Rattle.efl_bindings.specs.Declarations.{DeclaresAll, Declares}
use Rattle.efl_bindings.proofs.TableLemmas.{variables_declared, none_declared}
use Rattle.efl_bindings.proofs.blocks.declare.Goals as goal

pub returns-in-Variables : goal.returns-in-Variables
returns-in-Variables c =
    let h = c.args.home.now in
    let old = c.args.table.now in
    let new = c.declare_all.new.table in
    let v = c.in-Variables in
    on_ok_weaker c.declare_all.result
    (λ added. subst (λ k. Declares h old (decl_kind_of k) new) (sym v.is)
    (variables_declared h old new v.field-0 (type_of v.kind) (vars_of v.list.items) c.plain_kind.result c.plain_kind.ensures
    (subst (λ vs. DeclaresAll h c.plain_kind.result old (vars_of vs) new) c.deref.ensures.value added)))
    c.declare_all.ensures

pub returns-in_default : goal.returns-in_default
returns-in_default c = none_declared c.args.home.now c.args.table.now c.args.kind.now c.in_default.not-Variables
