-- Ranges of letters, or none.
use Rattle.std.proofs.Common.{sym, subst}
use Rattle.std.proofs.lemmas.Result.{on_ok_weaker}
use Rattle.efl_tree.specs.Views.{type_of, decl_kind_of}
use Rattle.efl_bindings.specs.Declarations.{GivesAll, Implies}
use Rattle.efl_bindings.proofs.LetterLemmas.{ranges_implied, none_implied}
use Rattle.efl_bindings.proofs.letters.imply.Goals as goal

pub returns-in-Implicit : goal.returns-in-Implicit
returns-in-Implicit c =
    let old = c.args.letters.now in
    let new = c.give_all.new.letters in
    let i = c.in-Implicit in
    on_ok_weaker c.give_all.result
    (λ given. subst (λ k. Implies old (decl_kind_of k) new) (sym i.is)
    (ranges_implied old new i.ranges.items (type_of i.kind) c.plain_kind.result c.plain_kind.ensures
    (subst (λ rs. GivesAll c.plain_kind.result old rs new) c.deref.ensures.value given)))
    c.give_all.ensures

pub returns-in_default : goal.returns-in_default
returns-in_default c = none_implied c.args.letters.now c.args.kind.now c.in_default.not-Implicit
