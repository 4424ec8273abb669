-- Letters apart.
use Rattle.std.proofs.Common.{sym, subst}
use Rattle.std.proofs.lemmas.Result.{on_ok_weaker}
use Rattle.efl_tree.specs.Views.{type_of, decl_kind_of}
use Rattle.efl_blocks.specs.OuterViews.{Implies, DeclaresOuter}
use Rattle.efl_blocks.proofs.OuterLemmas.{implicit_outer, other_outer}
use Rattle.efl_blocks.proofs.outer.declare_one.Goals as goal

pub returns-in-Implicit : goal.returns-in-Implicit
returns-in-Implicit c =
    let y = c.args.types.now in
    let known = c.args.known.now in
    let block = c.args.block.now in
    let letters = c.args.letters.now in
    let next = c.imply.new in
    let i = c.in-Implicit in
    on_ok_weaker c.imply.result
    (λ made. subst (λ k. DeclaresOuter y known block letters (decl_kind_of k) next.types next.known block next.letters) (sym i.is)
    (implicit_outer y next.types known next.known block letters next.letters i.ranges.items (type_of i.kind)
    (subst (λ rs. Implies y known letters rs (type_of i.kind) next.types next.known next.letters) c.deref.ensures.value made)))
    c.imply.ensures

pub returns-in_default : goal.returns-in_default
returns-in_default c =
    let next = c.declare.new in
    on_ok_weaker c.declare.result
    (λ declared. other_outer c.args.types.now next.types c.args.known.now next.known c.args.block.now next.block c.args.letters.now c.args.kind.now c.in_default.not-Implicit declared)
    c.declare.ensures
