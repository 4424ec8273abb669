-- Why `typed_unit` reads its nonterminal.
use Rattle.std.proofs.Common.{refl, sym, ◌∙◌, ap, Some, None, map}
use Rattle.f66_tree.specs.Syntax.{FuncUnit, Typed}
use Rattle.f66_tree.specs.Views.{declared_of}
use Rattle.rat_tree.specs.Syntax.{AndCommand, Plain}
use Rattle.rat_parse_table.specs.declared.table.Production.TheVariants as productions
use Rattle.rat_parse_values.specs.Values.{routine}
use Rattle.rat_parse_values.specs.Parts.{kind_name, as_statements}
use Rattle.rat_parse_values.specs.Statements.{main}
use Rattle.descent.specs.Reading.{done, next}
use Rattle.rat_descent.proofs.Productions.{production, as_value}
use Rattle.rat_descent.proofs.Bodies.{behind_none}
use Rattle.rat_descent.proofs.units.typed_unit.Goals as goal

pub returns-then-is_at : goal.returns-then-is_at
returns-then-is_at c =
    let q = c.in_ok-token.token.now.place in
    let word = c.type_at-word.result in
    let list = c.in_ok-list.list.items in
    let body = c.in_ok-body.ensures in
    as_value
    (ap (λ t. routine (record { header = FuncUnit (Some t) (kind_name c.in_ok-name_token.field-0.now.kind) list; body = as_statements body.value; place = q })) (sym c.type_at-word.ensures)
    ∙ ap (λ x. routine (record { header = FuncUnit (Some word) x list; body = as_statements body.value; place = q })) (sym c.in_ok-name.ensures)
    ∙ ap (λ b. routine (record { header = FuncUnit (Some word) c.in_ok-name.name list; body = b; place = q })) (behind_none body.value c.new.ensures.items body.is))
    (production productions.TypedUnit refl refl refl refl (next c.in_ok-token.ensures
    (next (production productions.TypedFunction refl refl refl refl (next c.in_ok-take_token.ensures (next c.in_ok-name_token.ensures (next c.in_ok-list.ensures done))))
    (next c.in_ok-ending.ensures.reads (next body.reads done)))))

pub returns : goal.returns
returns c =
    let q = c.in_ok-token.token.now.place in
    let rest = c.in_ok-main_from.ensures in
    as_value
    (ap (λ t. routine (main q (AndCommand (Plain None q (Typed t (map declared_of c.in_ok-list-2.list.items))) (as_statements rest.value)))) (sym c.type_at-word.ensures) ∙ ap routine rest.is)
    (production productions.TypedUnit refl refl refl refl (next c.in_ok-token.ensures
    (next (production productions.TypedMain refl refl refl refl (next c.in_ok-list-2.ensures done)) (next c.in_ok-ending-2.ensures.reads (next rest.reads done)))))
