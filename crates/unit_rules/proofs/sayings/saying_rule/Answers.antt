-- What the parts break is what the statements of FORTRAN break that they are parts of.
use Rattle.std.proofs.Common.{false, not, ap, refl}
use Rattle.f66_tree.specs.Views.{formula_of, par_of}
use Rattle.f66_names.specs.DeclarationViews.{context_in, acts_in}
use Rattle.unit_rules.proofs.SayingLemmas.{part_told, value_first, counting_first, returned_first}
use Rattle.unit_rules.proofs.sayings.saying_rule.Goals as goal

pub returns-in-Value : goal.returns-in-Value
returns-in-Value c =
    let d = c.args.names.now.declarations in
    part_told (context_in d) (acts_in d) c.args.i c.part_rule-in-Value.result c.args.saying.now _ _ _ false _ _ false c.in-Value.is
    (ap not c.stands-in-Value.ensures) (ap not c.fits-clashing-in-Value.ensures) refl (value_first (context_in d) (acts_in d) c.args.i (formula_of c.in-Value.e.now)) c.part_rule-in-Value.ensures

pub returns-in-Counting : goal.returns-in-Counting
returns-in-Counting c =
    let d = c.args.names.now.declarations in
    let g = c.in-Counting in
    part_told (context_in d) (acts_in d) c.args.i c.part_rule-in-Counting.result c.args.saying.now _ _ _ _ _ _ _ g.is
    (ap not c.is_counting_form-misformed.ensures) (ap not c.counts-clashing.ensures) c.is_array-stored.ensures
    (counting_first (context_in d) (acts_in d) c.args.i g.variable.now (par_of g.first.now) (par_of g.last.now) (par_of g.step.now)) c.part_rule-in-Counting.ensures

pub returns-in-Returned : goal.returns-in-Returned
returns-in-Returned c =
    let d = c.args.names.now.declarations in
    part_told (context_in d) (acts_in d) c.args.i c.part_rule-in-Returned.result c.args.saying.now _ _ _ _ _ _ _ c.in-Returned.is
    (ap not c.is_returned_form-misformed.ensures) c.clashes_returned-clashing.ensures c.is_array-stored-in-Returned.ensures
    (returned_first (context_in d) (acts_in d) c.args.i c.in-Returned.name.now (formula_of c.in-Returned.e.now)) c.part_rule-in-Returned.ensures
