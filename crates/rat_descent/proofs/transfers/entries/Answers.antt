-- Why `entries` reads its nonterminal.
use Rattle.std.proofs.Common.{refl, ap, sym, ◌∙◌, map, ◌++◌, [], ◌∷◌}
use Rattle.f66_tree.specs.Views.{entry_of}
use Rattle.rat_parse_table.specs.declared.table.Production.TheVariants as productions
use Rattle.rat_parse_values.specs.Parts.{as_entries}
use Rattle.descent.specs.Reading.{done, next}
use Rattle.rat_descent.proofs.Productions.{production, nothing, otherwise, lengthens_nothing, lengthens_more, viewed_more}
use Rattle.rat_descent.proofs.transfers.entries.Goals as goal

pub returns-then-is_predicted : goal.returns-then-is_predicted
returns-then-is_predicted c = record {
  value = _;
  reads = nothing productions.NoEntries refl refl (c.is_predicted.ensures c.if-is_predicted.true);
  is = ap (map entry_of) (sym c.new-list.ensures.items);
}

pub returns-then-not-is_at : goal.returns-then-not-is_at
returns-then-not-is_at c =
    let rest = c.more.invariant (map entry_of c.more.list.items) c.more.reader
    (lengthens_nothing productions.NoMoreEntry as_entries refl refl refl (otherwise _ _ _ (sym c.is_at.ensures ∙ c.if-not-is_at.true))) in
    record {
      value = _;
      reads = production productions.SomeEntries refl refl refl refl (next c.in_ok-entry.ensures (next rest.reads done));
      is = sym (ap (λ xs. map entry_of xs ++ as_entries rest.value) (c.in_ok-push.ensures.items ∙ ap (λ xs. xs ++ c.in_ok-entry.field-0 ∷ []) c.new-list.ensures.items)) ∙ rest.is;
    }

pub more-preserved : goal.more-preserved
more-preserved c = λ all s more. c.more.invariant all s
    (lengthens_more as_entries (map entry_of c.more.list.items) {v = more.value}
    (production productions.MoreEntry refl refl refl refl (next c.in_ok-take_token.ensures (next c.in_ok-entry-2.ensures (next more.reads done))))
    refl (viewed_more entry_of c.more.list.items c.in_ok-entry-2.field-0 c.in_ok-push-2.ensures.items) more.is)
