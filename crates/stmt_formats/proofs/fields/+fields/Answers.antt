-- All fields, and a group.
use Rattle.std.proofs.Common.{◌≡◌, ◌≤◌, List, Some, ap, sym, arith, ◌∙◌}
use Rattle.std.proofs.lemmas.List.{at_drop_all}
use Rattle.stmt_formats.specs.declared.items.Item.{Item}
use Rattle.stmt_formats.specs.States.{items_of, onto_fields}
use Rattle.stmt_formats.proofs.ItemLemmas.{nest_seen, strung_before}
use Rattle.stmt_reader.specs.Formats.{field_of, fields_of, grouped}
use Rattle.stmt_formats.proofs.fields.+fields.Goals as goal

pub fields-returns : goal.fields-returns
fields-returns t c =
    ap Some (strung_before c.loop-item.fields.items)
    ∙ sym (ap (onto_fields c.loop-item.fields.items) (at_drop_all (λ (all : List Item). fields_of (items_of all)) c.args.items.now c.loop-item.item-index (omega (arith, c.loop-item-test.false))))
    ∙ c.loop-item.invariant

pub meaning_in-returns-in_ok-fields-in-Nest : goal.meaning_in-returns-in_ok-fields-in-Nest
meaning_in-returns-in_ok-fields-in-Nest t c =
    c.group.ensures ∙ ap (grouped c.in-Nest.count) c.in_ok-fields-in-Nest.ensures
    ∙ nest_seen field_of c.args.item.now c.in-Nest.count c.in-Nest.inside c.deref.result.now c.in-Nest.is c.deref.ensures.value
