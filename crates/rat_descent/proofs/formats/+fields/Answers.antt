-- Why the functions of fields read their nonterminals.
use Rattle.std.proofs.Common.{Vec, Global, refl, ap, sym, ◌∙◌}
use Rattle.f66_tree.specs.Fields.{NoField, Single, Slash}
use Rattle.f66_tree.specs.Views.{field_then}
use Rattle.f66_tree.specs.declared.format.Field.{Field}
use Rattle.f66_tree.specs.declared.format.Field.TheVariants as forms
use Rattle.rat_parse_table.specs.declared.table.Production.TheVariants as productions
use Rattle.rat_parse_values.specs.Values.{field, fields}
use Rattle.rat_parse_values.specs.Phrases.{worded, counted_field}
use Rattle.descent.specs.Reading.{done, next}
use Rattle.rat_descent.proofs.Productions.{production, as_value}
use Rattle.rat_descent.proofs.FormatLemmas.{followed, followed_more, followed_all, carried, slash_at, comma_at, edit_at, ends_at}
use Rattle.rat_descent.proofs.formats.+fields.Goals.{listed-in-Slash+in_ok-take_token-in-Slash+in_ok-push-in-Slash, listed-in-Comma+in_default-position+in_ok-take_token-in-Comma, listed-in_default+in_default-position-3+in_ok-edit-in_default+in_ok-push-in_default}
use Rattle.rat_descent.proofs.formats.+fields.Goals as goal

pub counted-returns-then-is_at : goal.counted-returns-then-is_at
counted-returns-then-is_at t c = record {
  value = _;
  reads = production productions.CountedGroup refl refl refl refl c.in_ok-enclosed.ensures.parts;
  is = sym c.group.ensures;
}

pub counted-returns : goal.counted-returns
counted-returns t c = record {
  value = _;
  reads = production productions.CountedWord refl refl refl refl (next c.in_ok-take_token.ensures done);
  is = ap (worded c.args.count) (sym c.in_ok-name.ensures) ∙ sym c.word_field.ensures;
}

pub edit-returns-in_ok-counted-in-Octal : goal.edit-returns-in_ok-counted-in-Octal
edit-returns-in_ok-counted-in-Octal t c =
    let part = c.in_ok-counted-in-Octal.ensures in
    as_value (ap field (ap (λ n. counted_field n part.value) (sym c.count_of-count.ensures) ∙ part.is))
    (production productions.CountedEdit refl refl refl refl (next c.in_ok-number_token-in-Octal.ensures (next part.reads done)))

pub edit-returns-in_ok-enclosed-in-Open : goal.edit-returns-in_ok-enclosed-in-Open
edit-returns-in_ok-enclosed-in-Open t c =
    as_value (ap field (sym c.group.ensures)) (production productions.GroupEdit refl refl refl refl c.in_ok-enclosed-in-Open.ensures.parts)

pub edit-returns-in_ok-text_field-in-Letter : goal.edit-returns-in_ok-text_field-in-Letter
edit-returns-in_ok-text_field-in-Letter t c =
    as_value (ap field (sym c.in_ok-text_field-in-Letter.ensures))
    (production productions.LetterEdit refl refl refl refl (next c.in_ok-take_token-in-Letter.ensures done))

pub edit-returns-in_ok-text_field-in-Chars : goal.edit-returns-in_ok-text_field-in-Chars
edit-returns-in_ok-text_field-in-Chars t c =
    as_value (ap field (sym c.in_ok-text_field-in-Chars.ensures))
    (production productions.CharsEdit refl refl refl refl (next c.in_ok-take_token-in-Chars.ensures done))

pub edit-returns-in_ok-name-in_default : goal.edit-returns-in_ok-name-in_default
edit-returns-in_ok-name-in_default t c =
    as_value (ap field (ap (worded 1) (sym c.in_ok-name-in_default.ensures) ∙ sym c.word_field.ensures))
    (production productions.WordEdit refl refl refl refl (next c.in_ok-take_token-in_default.ensures done))

pub enclosed-returns : goal.enclosed-returns
enclosed-returns t c = record {
  first = c.in_ok-take_token.field-0.now;
  last = c.in_ok-take_token-2.field-0.now;
  parts = next c.in_ok-take_token.ensures (next c.in_ok-list.ensures (next c.in_ok-take_token-2.ensures done));
}

pub listed-returns-in_default-position-2 : goal.listed-returns-in_default-position-2
listed-returns-in_default-position-2 t c =
    as_value (ap fields (followed_all c.more.list.items))
    (c.more.invariant NoField c.more.reader (ends_at c.more.position c.in_default-position-2.not-Comma c.in-Close.is))

pub listed-more-preserved : goal.listed-more-preserved
listed-more-preserved t c = λ g s more. elim c.match-reader.branch [
  | listed-in-Slash+in_ok-take_token-in-Slash+in_ok-push-in-Slash w ↦
      as_value (ap fields (sym (followed_more c.more.list.items forms.Slash g (ap (λ (l : Vec Field Global). l.items) w.list-is ∙ w.in_ok-push-in-Slash.ensures.items))))
      (c.more.invariant (Single 1 Slash g) s (slash_at c.more.position w.in_ok-take_token-in-Slash.ensures (carried w.position-is w.reader-is more)))
  | listed-in-Comma+in_default-position+in_ok-take_token-in-Comma w ↦
      as_value (ap (λ (l : Vec Field Global). fields (followed l.items g)) (sym w.list-is))
      (c.more.invariant g s (comma_at c.more.position w.in_default-position.not-Start w.in_default-position.not-Comma w.in_ok-take_token-in-Comma.ensures (carried w.position-is w.reader-is more)))
  | listed-in_default+in_default-position-3+in_ok-edit-in_default+in_ok-push-in_default w ↦
      let f = w.in_ok-edit-in_default.field-0 in
      as_value (ap fields (sym (followed_more c.more.list.items f g (ap (λ (l : Vec Field Global). l.items) w.list-is ∙ w.in_ok-push-in_default.ensures.items))))
      (c.more.invariant (field_then f g) s (edit_at c.more.position w.in_default-position-3.not-Edit w.in_ok-edit-in_default.ensures (carried w.position-is w.reader-is more)))
]
