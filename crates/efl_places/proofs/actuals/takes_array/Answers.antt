-- By what the actual is.
use Rattle.std.proofs.Common.{◌≡◌, false, ◌&&◌, sym, ap, ◌∙◌}
use Rattle.efl_scope.specs.DataTypes.{agrees}
use Rattle.efl_types.specs.Expressions.{element_of, takes_array}
use Rattle.efl_places.proofs.TypedLemmas.{array_takes, other_takes}
use Rattle.efl_places.proofs.actuals.takes_array.Goals as goal

pub returns-in-Array : goal.returns-in-Array
returns-in-Array c = λ f t u apart told is.
    let ss = c.args.structures.now.list.items in
    c.agrees.ensures f t (element_of u) apart told (c.element.ensures f u is).told ∙ sym (array_takes t u c.args.actual.now.is_element (c.in-Array.ensures f ss u is))

pub returns-then-actual : goal.returns-then-actual
returns-then-actual c = λ f t u apart told is.
    let form = sym (c.form.ensures f c.args.structures.now.list.items u is) in
    c.agrees-then-actual.ensures f t u apart told is.told
    ∙ sym (other_takes t u c.args.actual.now.is_element (λ e. c.in_default.not-Array (form ∙ e)) (λ e. c.in_default.not-NoType (form ∙ e)) ∙ ap (λ b. b && agrees t u) c.if-actual.true)

pub returns-else-actual : goal.returns-else-actual
returns-else-actual c = λ f t u apart told is.
    let form = sym (c.form.ensures f c.args.structures.now.list.items u is) in
    let none : false ≡ takes_array t c.args.actual.now.is_element u =
    sym (other_takes t u c.args.actual.now.is_element (λ e. c.in_default.not-Array (form ∙ e)) (λ e. c.in_default.not-NoType (form ∙ e)) ∙ ap (λ b. b && agrees t u) c.if-actual.false) in
    c.if-actual.false ∙ none
