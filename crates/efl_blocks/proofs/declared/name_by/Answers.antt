-- Variables and areas alone give names.
use Rattle.std.proofs.Common.{sym, subst}
use Rattle.std.proofs.lemmas.Result.{on_ok_weaker}
use Rattle.efl_tree.specs.Views.{vars_of, groups_of, decl_kind_of}
use Rattle.efl_scope.specs.Parts.{names_of}
use Rattle.efl_scope.specs.Marks.{variables_listed}
use Rattle.efl_blocks.specs.DeclaredViews.{NamesAll, named_by}
use Rattle.efl_blocks.proofs.DeclaredLemmas.{other_names}
use Rattle.efl_blocks.proofs.declared.name_by.Goals as goal

pub returns-in-Variables : goal.returns-in-Variables
returns-in-Variables c =
    let block = c.args.block.now in
    let new = c.name_variables.new.block in
    on_ok_weaker c.name_variables.result
    (λ named. subst (λ k. NamesAll block (named_by (decl_kind_of k)) new) (sym c.in-Variables.is) (subst (λ vs. NamesAll block (names_of (vars_of vs)) new) c.deref.ensures.value named))
    c.name_variables.ensures

pub returns-in-Area : goal.returns-in-Area
returns-in-Area c =
    let block = c.args.block.now in
    let new = c.name_groups.new.block in
    on_ok_weaker c.name_groups.result
    (λ named. subst (λ k. NamesAll block (named_by (decl_kind_of k)) new) (sym c.in-Area.is) (subst (λ gs. NamesAll block (variables_listed (groups_of gs)) new) c.deref-in-Area.ensures.value named))
    c.name_groups.ensures

pub returns-in_default : goal.returns-in_default
returns-in_default c = other_names c.args.block.now c.args.kind.now c.in_default.not-Variables c.in_default.not-Area
