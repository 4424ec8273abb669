-- The formats of trees in memory are whole.
use Rattle.std.proofs.Common.{List, [], ◌∷◌, refl}
use Rattle.f66_tree.specs.declared.format.Field.{Field}
use Rattle.f66_tree.specs.declared.format.Field as f
use Rattle.f66_tree.specs.Fields.{Fields}
use Rattle.f66_tree.specs.Views.{field_then, row_fields, fields_of}
use Rattle.deck_laws.specs.Whole.{AreWholeFields}

mutual
  field_whole : (a : Field) (rest : Fields) → AreWholeFields rest → AreWholeFields (field_then a rest)
  field_whole (f.Whole n w) rest all = (tt, all)
  field_whole (f.Truth n w) rest all = (tt, all)
  field_whole (f.Letter n) rest all = (refl, all)
  field_whole (f.Skip n) rest all = (refl, all)
  field_whole (f.Chars text) rest all = (refl, all)
  field_whole f.Slash rest all = (refl, all)
  field_whole (f.Group' n shape inside) rest all = (row_whole inside, all)

  row_whole : {m : _} (row : f.Row_of-Field m) → AreWholeFields (row_fields row)
  row_whole f.end_of-Field = tt
  row_whole (f.more_of-Field a rest) = field_whole a (row_fields rest) (row_whole rest)

pub format_whole : (all : List Field) → AreWholeFields (fields_of all)
format_whole [] = tt
format_whole (a ∷ all) = field_whole a (fields_of all) (format_whole all)
