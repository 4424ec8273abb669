-- So many subscripts fit nothing.
use Rattle.std.proofs.Common.{sym, subst}
use Rattle.efl_expressions.specs.TypeViews.{IsType}
use Rattle.efl_expressions.proofs.TypeLemmas.{unfit}
use Rattle.efl_expressions.proofs.types.Structures.subscripted.Goals as goal

pub returns : goal.returns
returns c = λ f t made.
    let ss = c.args.self.now.list.items in
    let d = c.args.kind.now in
    subst (λ u. IsType f ss u c.nothing.result) (sym (unfit f ss t d.bounds.now d.element c.args.count made.made c.if-count-eq0.false c.if-count-kind.false)) (c.nothing.ensures f ss)
