-- Variables of an area, and others.
use Rattle.std.proofs.Common.{sym, subst}
use Rattle.std.proofs.lemmas.Result.{on_ok_weaker}
use Rattle.efl_tree.specs.Syntax as efl
use Rattle.efl_tree.specs.Views.{type_of, vars_of}
use Rattle.efl_scoped.specs.Seen.{table_of, SeesDeclaration}
use Rattle.efl_scoped.proofs.ListLemmas.{variables_seen}
use Rattle.efl_scoped.proofs.lists.see_variables.Goals as goal

pub returns-in-None : goal.returns-in-None
returns-in-None c =
    let f = table_of c.args.numbers.now in
    let known = c.args.known.now in
    let lists = c.args.lists.now in
    let next = c.see_alone.new in
    let t = type_of c.args.kind.now in
    let vs = vars_of c.args.list.now in
    on_ok_weaker c.see_alone.result
    (λ seen. subst (λ q. SeesDeclaration f known lists (efl.Variables q t vs) (table_of next.numbers) next.known lists) (sym c.in-None.is)
    (variables_seen f (table_of next.numbers) known next.known t vs lists seen))
    c.see_alone.ensures

pub returns-in-Some : goal.returns-in-Some
returns-in-Some c =
    let f = table_of c.args.numbers.now in
    let known = c.args.known.now in
    let lists = c.args.lists.now in
    let next = c.see_area_variables.new in
    let t = type_of c.args.kind.now in
    let vs = vars_of c.args.list.now in
    on_ok_weaker c.see_area_variables.result
    (λ seen. subst (λ q. SeesDeclaration f known lists (efl.Variables q t vs) (table_of next.numbers) next.known next.lists) (sym c.in-Some.is) seen)
    c.see_area_variables.ensures
