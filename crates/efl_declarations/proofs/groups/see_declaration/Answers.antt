-- Each kind of declaration.
use Rattle.std.proofs.Common.{None, map, sym, subst}
use Rattle.std.proofs.lemmas.Result.{IfOk-weaker}
use Rattle.efl_tree.specs.Views.{type_of, groups_of, vars_of, preset_of, decl_kind_of}
use Rattle.efl_declarations.specs.Sees.{SeesList, SeesGroups, SeesNamed, SeesDeclaration}
use Rattle.efl_declarations.proofs.SeenLemmas.{implicit_seen, initial_seen, variables_seen, area_seen, structure_seen}
use Rattle.efl_declarations.proofs.groups.see_declaration.Goals as goal

pub returns-in_ok-seen-in-Implicit : goal.returns-in_ok-seen-in-Implicit
returns-in_ok-seen-in-Implicit c =
    let y = c.args.types.now in
    let block = c.args.block.now in
    let beyond = c.args.beyond.now in
    let p = c.args.place in
    let formals = c.args.formals.now in
    let z = c.see_type.new.types in
    let after = c.see_type.new.block in
    let s = c.in_ok-seen-in-Implicit.seen in
    subst (λ k. SeesDeclaration y block beyond p formals (decl_kind_of k) z after s.fault) (sym c.in-Implicit.is)
    (implicit_seen y z block after beyond p formals c.in-Implicit.field-0.items (type_of c.in-Implicit.kind) s c.in_ok-seen-in-Implicit.ensures)

pub returns-in-Initial : goal.returns-in-Initial
returns-in-Initial c =
    let y = c.args.types.now in
    let block = c.args.block.now in
    let beyond = c.args.beyond.now in
    let p = c.args.place in
    let formals = c.args.formals.now in
    subst (λ k. SeesDeclaration y block beyond p formals (decl_kind_of k) y block None) (sym c.in-Initial.is) (initial_seen y block beyond p formals (map preset_of c.in-Initial.field-0.items))

pub returns-in-Variables : goal.returns-in-Variables
returns-in-Variables c =
    let y = c.args.types.now in
    let block = c.args.block.now in
    let beyond = c.args.beyond.now in
    let p = c.args.place in
    let formals = c.args.formals.now in
    let next = c.see_list.new in
    let v = c.in-Variables in
    IfOk-weaker c.see_list.result (λ f. SeesList y block beyond p formals (type_of v.kind) (vars_of c.deref.result.now) next.types next.block f)
    (λ f. SeesDeclaration y block beyond p formals (decl_kind_of c.args.kind.now) next.types next.block f)
    (λ f seen. subst (λ k. SeesDeclaration y block beyond p formals (decl_kind_of k) next.types next.block f) (sym v.is)
    (variables_seen y next.types block next.block beyond p formals v.field-0 (type_of v.kind) (vars_of v.list.items) f
    (subst (λ vs. SeesList y block beyond p formals (type_of v.kind) (vars_of vs) next.types next.block f) c.deref.ensures.value seen)))
    c.see_list.ensures

pub returns-in-Area : goal.returns-in-Area
returns-in-Area c =
    let y = c.args.types.now in
    let block = c.args.block.now in
    let beyond = c.args.beyond.now in
    let p = c.args.place in
    let formals = c.args.formals.now in
    let next = c.see_groups.new in
    let a = c.in-Area in
    IfOk-weaker c.see_groups.result (λ f. SeesGroups y block beyond (groups_of c.deref-in-Area.result.now) next.types next.block f)
    (λ f. SeesDeclaration y block beyond p formals (decl_kind_of c.args.kind.now) next.types next.block f)
    (λ f seen. subst (λ k. SeesDeclaration y block beyond p formals (decl_kind_of k) next.types next.block f) (sym a.is)
    (area_seen y next.types block next.block beyond p formals a.field-0 (groups_of a.groups.items) f
    (subst (λ gs. SeesGroups y block beyond (groups_of gs) next.types next.block f) c.deref-in-Area.ensures.value seen)))
    c.see_groups.ensures

pub returns-in-Structure : goal.returns-in-Structure
returns-in-Structure c =
    let y = c.args.types.now in
    let block = c.args.block.now in
    let beyond = c.args.beyond.now in
    let p = c.args.place in
    let formals = c.args.formals.now in
    let next = c.see_named.new in
    let s = c.in-Structure in
    IfOk-weaker c.see_named.result (λ f. SeesNamed y block beyond s.name (groups_of c.deref-in-Structure.result.now) next.types next.block f)
    (λ f. SeesDeclaration y block beyond p formals (decl_kind_of c.args.kind.now) next.types next.block f)
    (λ f seen. subst (λ k. SeesDeclaration y block beyond p formals (decl_kind_of k) next.types next.block f) (sym s.is)
    (structure_seen y next.types block next.block beyond p formals s.name (groups_of s.groups.items) f
    (subst (λ gs. SeesNamed y block beyond s.name (groups_of gs) next.types next.block f) c.deref-in-Structure.ensures.value seen)))
    c.see_named.ensures
