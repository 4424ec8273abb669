-- Each kind of declaration.
use Rattle.std.proofs.Common.{map, sym, subst}
use Rattle.std.proofs.lemmas.Result.{on_ok_weaker}
use Rattle.efl_tree.specs.Syntax as efl
use Rattle.efl_tree.specs.Views.{type_of, groups_of, vars_of, preset_of, decl_kind_of}
use Rattle.efl_scoped.specs.Seen.{table_of, SeesDeclaration}
use Rattle.efl_scoped.proofs.ListLemmas.{implicit_seen, initial_seen, structure_seen}
use Rattle.efl_scoped.proofs.lists.see_declaration.Goals as goal

pub returns-in-Implicit : goal.returns-in-Implicit
returns-in-Implicit c =
    let f = table_of c.args.numbers.now in
    let known = c.args.known.now in
    let lists = c.args.lists.now in
    let next = c.see_alone.new in
    on_ok_weaker c.see_alone.result
    (λ seen. subst (λ k. SeesDeclaration f known lists (decl_kind_of k) (table_of next.numbers) next.known lists) (sym c.in-Implicit.is)
    (implicit_seen f (table_of next.numbers) known next.known c.in-Implicit.field-0.items (type_of c.in-Implicit.kind) lists seen))
    c.see_alone.ensures

pub returns-in-Initial : goal.returns-in-Initial
returns-in-Initial c =
    let f = table_of c.args.numbers.now in
    let known = c.args.known.now in
    let lists = c.args.lists.now in
    subst (λ k. SeesDeclaration f known lists (decl_kind_of k) f known lists) (sym c.in-Initial.is) (initial_seen f known (map preset_of c.in-Initial.field-0.items) lists)

pub returns-in-Variables : goal.returns-in-Variables
returns-in-Variables c =
    let f = table_of c.args.numbers.now in
    let known = c.args.known.now in
    let lists = c.args.lists.now in
    let next = c.see_variables.new in
    let v = c.in-Variables in
    on_ok_weaker c.see_variables.result
    (λ seen. subst (λ k. SeesDeclaration f known lists (decl_kind_of k) (table_of next.numbers) next.known next.lists) (sym v.is)
    (subst (λ vs. SeesDeclaration f known lists (efl.Variables v.area (type_of v.kind) (vars_of vs)) (table_of next.numbers) next.known next.lists) c.deref.ensures.value seen))
    c.see_variables.ensures

pub returns-in-Area : goal.returns-in-Area
returns-in-Area c =
    let f = table_of c.args.numbers.now in
    let known = c.args.known.now in
    let lists = c.args.lists.now in
    let next = c.see_area.new in
    on_ok_weaker c.see_area.result
    (λ seen. subst (λ k. SeesDeclaration f known lists (decl_kind_of k) (table_of next.numbers) next.known next.lists) (sym c.in-Area.is)
    (subst (λ gs. SeesDeclaration f known lists (efl.Area c.in-Area.area (groups_of gs)) (table_of next.numbers) next.known next.lists) c.deref-in-Area.ensures.value seen))
    c.see_area.ensures

pub returns-in-Structure : goal.returns-in-Structure
returns-in-Structure c =
    let f = table_of c.args.numbers.now in
    let known = c.args.known.now in
    let lists = c.args.lists.now in
    let next = c.see_structure.new in
    on_ok_weaker c.see_structure.result
    (λ seen. subst (λ k. SeesDeclaration f known lists (decl_kind_of k) (table_of next.numbers) next.known lists) (sym c.in-Structure.is)
    (subst (λ gs. SeesDeclaration f known lists (efl.Structure c.in-Structure.name (groups_of gs)) (table_of next.numbers) next.known lists) c.deref-in-Structure.ensures.value
    (structure_seen f (table_of next.numbers) known next.known c.in-Structure.name (groups_of c.deref-in-Structure.result.now) lists seen)))
    c.see_structure.ensures
