-- Each kind of declaration.
use Rattle.std.proofs.Common.{map, sym, subst}
use Rattle.std.proofs.lemmas.Result.{on_ok_weaker}
use Rattle.efl_tree.specs.Views.{type_of, groups_of, vars_of, preset_of, decl_kind_of}
use Rattle.efl_blocks.specs.DeclaredViews.{Declares, AddsList, AddsGroups, KnowsStructure}
use Rattle.efl_blocks.proofs.DeclaredLemmas.{implicit_declared, initial_declared, variables_declared, area_declared, structure_declared}
use Rattle.efl_blocks.proofs.declared.declare.Goals as goal

pub returns-in_ok-make_type-in-Implicit : goal.returns-in_ok-make_type-in-Implicit
returns-in_ok-make_type-in-Implicit c =
    let y = c.args.types.now in
    let known = c.args.known.now in
    let block = c.args.block.now in
    let beyond = c.args.beyond.now in
    let z = c.make_type.new.types in
    let after = c.make_type.new.block in
    subst (λ k. Declares y known beyond block (decl_kind_of k) z after block) (sym c.in-Implicit.is)
    (implicit_declared y z known after block beyond c.in-Implicit.field-0.items (type_of c.in-Implicit.kind) c.in_ok-make_type-in-Implicit.field-0 c.in_ok-make_type-in-Implicit.ensures)

pub returns-in-Initial : goal.returns-in-Initial
returns-in-Initial c =
    let y = c.args.types.now in
    let known = c.args.known.now in
    let block = c.args.block.now in
    let beyond = c.args.beyond.now in
    subst (λ k. Declares y known beyond block (decl_kind_of k) y known block) (sym c.in-Initial.is) (initial_declared y known block beyond (map preset_of c.in-Initial.field-0.items))

pub returns-in-Variables : goal.returns-in-Variables
returns-in-Variables c =
    let y = c.args.types.now in
    let known = c.args.known.now in
    let block = c.args.block.now in
    let beyond = c.args.beyond.now in
    let next = c.declare_list.new in
    let v = c.in-Variables in
    on_ok_weaker c.declare_list.result
    (λ added. subst (λ k. Declares y known beyond block (decl_kind_of k) next.types next.known next.block) (sym v.is)
    (variables_declared y next.types known next.known block next.block beyond v.field-0 (type_of v.kind) (vars_of v.list.items)
    (subst (λ vs. AddsList y known beyond block (type_of v.kind) (vars_of vs) next.types next.known next.block) c.deref.ensures.value added)))
    c.declare_list.ensures

pub returns-in-Area : goal.returns-in-Area
returns-in-Area c =
    let y = c.args.types.now in
    let known = c.args.known.now in
    let block = c.args.block.now in
    let beyond = c.args.beyond.now in
    let next = c.declare_groups.new in
    let a = c.in-Area in
    on_ok_weaker c.declare_groups.result
    (λ added. subst (λ k. Declares y known beyond block (decl_kind_of k) next.types next.known next.block) (sym a.is)
    (area_declared y next.types known next.known block next.block beyond a.field-0 (groups_of a.groups.items)
    (subst (λ gs. AddsGroups y known beyond block (groups_of gs) next.types next.known next.block) c.deref-in-Area.ensures.value added)))
    c.declare_groups.ensures

pub returns-in-Structure : goal.returns-in-Structure
returns-in-Structure c =
    let y = c.args.types.now in
    let known = c.args.known.now in
    let block = c.args.block.now in
    let beyond = c.args.beyond.now in
    let next = c.know_structure.new in
    let s = c.in-Structure in
    on_ok_weaker c.know_structure.result
    (λ seen. subst (λ k. Declares y known beyond block (decl_kind_of k) next.types next.known block) (sym s.is)
    (structure_declared y next.types known next.known block beyond s.name (groups_of s.groups.items)
    (subst (λ gs. KnowsStructure y known beyond s.name (groups_of gs) next.types next.known) c.deref-in-Structure.ensures.value seen)))
    c.know_structure.ensures
