-- A clause puts itself before others, and so does a field of a format: what holds of each that a production makes holds of each part.
use Rattle.std.proofs.Common.{ℕ, Bool, true, false, List, [], ◌∷◌, Option, Some, None}
use Rattle.std.specs.Prelude.{◌==◌}
use Rattle.ground.specs.declared.place.Place.{Place}
use Rattle.f66_tree.specs.declared.editing.EditKind.TheVariants as edits
use Rattle.f66_tree.specs.Fields.{Fields, Step, Single, Group, Takes, Blanks, Chars}
use Rattle.f66_tree.specs.Syntax.{Text, Formula, Formulas, NoFormula}
use Rattle.f66_tree.specs.Views.{chained}
use Rattle.f66_tree.proofs.Tries.{if_both}
use Rattle.rat_tree.specs.Syntax.{Commands, Clauses, AndClause}
use Rattle.rat_parse_table.specs.declared.table.Production.{Production}
use Rattle.rat_parse_table.specs.declared.table.Production.TheVariants as productions
use Rattle.rat_parse_values.specs.Kinds as part
use Rattle.rat_parse_values.specs.Values.{Val, at}
use Rattle.rat_parse_values.specs.Values as val
use Rattle.rat_parse_values.specs.Parts.{place_in, name_in, number_in, count_in, text_in, as_exprs, as_fields, as_statements, as_formula}
use Rattle.rat_parse_values.specs.Phrases.{looped, lengthened, pended, begun, width, worded, counted_field}
use Rattle.rat_parse_values.specs.Plain.{counted}
use Rattle.rat_parse_values.specs.Statements.{labelled_value}
use Rattle.rat_parse.specs.Build.{build}
use Rattle.rat_room.proofs.TreeWeights.{Each}
use Rattle.rat_room.proofs.NineParts.{part_at}

-- ---- parts of lists ----

-- what the lists of READ, WRITE and DATA are made of, and nothing: no expression, statement, field or unit
abbrev pub IsBare : Val → Type 0
IsBare val.nothing = Unit {0}
IsBare (val.declaration x) = Unit {0}
IsBare (val.transfer (part.entry x)) = Unit {0}
IsBare (val.transfer (part.rest r)) = Unit {0}
IsBare (val.transfer (part.pending args r)) = Unit {0}
IsBare _ = ⊥

pub looped_bare : (v w : Val) → IsBare (looped v w)
looped_bare v (val.transfer (part.rest r)) = tt
looped_bare v _ = tt

pub lengthened_bare : (v w : Val) → IsBare (lengthened v w)
lengthened_bare v (val.transfer (part.rest r)) = tt
lengthened_bare v _ = tt

pub pended_bare : (args : Option (List Formula)) (v : Val) → IsBare (pended args v)
pended_bare args (val.transfer (part.rest r)) = tt
pended_bare args _ = tt

pub begun_bare : (x : Text) (v : Val) → IsBare (begun x v)
begun_bare x (val.parameter (part.range r)) = tt
begun_bare x (val.transfer (part.pending args r)) = tt
begun_bare x _ = tt

pub counted_bare : (n v : Val) → IsBare (counted n v)
counted_bare n (val.expression (part.formula f)) = tt
counted_bare n _ = tt

-- ---- the field that a word is ----

module _ (OfField : (Fields → Fields) → Type 0) (whole : (n w : ℕ) → OfField (Single n (Takes edits.Whole w))) (truth : (n w : ℕ) → OfField (Single n (Takes edits.Truth w)))
    (blanks : (n : ℕ) → OfField (Single 1 (Blanks n))) (letter : (n : ℕ) → OfField (Single n (Takes edits.Letter 1))) where
  pub word_holds : (n : ℕ) (x : Text) → OfField (worded n x)
  word_holds n [] = letter n
  word_holds n (c ∷ ds) =
      if_both OfField (c == 73) _ _ (whole n (width ds)) (if_both OfField (c == 76) _ _ (truth n (width ds)) (if_both OfField (c == 88) _ _ (blanks n) (letter n)))

-- ---- clauses and fields ----

module _ (OfClause : (Clauses → Clauses) → Type 0) (OfField : (Fields → Fields) → Type 0) where
  abbrev pub HoldsBefore : Val → Type 0
  HoldsBefore (val.statement (part.clause d)) = OfClause d
  HoldsBefore (val.transfer (part.field d)) = OfField d
  HoldsBefore _ = Unit {0}

  holds_at : (n : ℕ) (vs : List Val) → Each HoldsBefore vs → HoldsBefore (at n vs)
  holds_at n vs e = part_at HoldsBefore tt n vs e

  bare_holds : (v : Val) → IsBare v → HoldsBefore v
  bare_holds (val.statement x) h = absurd h
  bare_holds (val.transfer (part.field d)) h = absurd h
  bare_holds _ h = tt

  labelled_holds : (n : ℕ) (v : Val) → HoldsBefore v → HoldsBefore (labelled_value n v)
  labelled_holds n (val.statement (part.command p c)) h = tt
  labelled_holds n _ h = h

  module _ (clause : (es : Formulas) (fallback : Bool) (ss : Commands) (p : Place) → OfClause (AndClause es fallback ss p))
      (single : (n : ℕ) (s : Step) → OfField (Single n s)) (group : (n : ℕ) (fs : Fields) → OfField (Group n fs)) where
    worded_holds : (n : ℕ) (x : Text) → OfField (worded n x)
    worded_holds = word_holds OfField (λ n w. single n (Takes edits.Whole w)) (λ n w. single n (Takes edits.Truth w)) (λ n. single 1 (Blanks n)) (λ n. single n (Takes edits.Letter 1))

    counted_field_holds : (n : ℕ) (v : Val) → OfField (counted_field n v)
    counted_field_holds n (val.transfer (part.fields fs)) = group n fs
    counted_field_holds n v = worded_holds n (name_in v)

    pub keeps_each : (p : Production) (vs : List Val) → Each HoldsBefore vs → HoldsBefore (build p vs)
    keeps_each productions.CaseClause vs e = clause (chained (as_formula (at 3 vs) ∷ as_exprs (at 2 vs))) false (as_statements (at 0 vs)) (place_in (at 4 vs))
    keeps_each productions.DefaultClause vs e = clause NoFormula true (as_statements (at 0 vs)) (place_in (at 2 vs))
    keeps_each productions.CountedEdit vs e = counted_field_holds (count_in (at 1 vs)) (at 0 vs)
    keeps_each productions.WordEdit vs e = worded_holds 1 (name_in (at 0 vs))
    keeps_each productions.GroupEdit vs e = group 1 (as_fields (at 1 vs))
    keeps_each productions.LetterEdit vs e = single 1 (Chars (text_in (at 0 vs)))
    keeps_each productions.CharsEdit vs e = single 1 (Chars (text_in (at 0 vs)))
    keeps_each productions.Marked vs e = labelled_holds (number_in (at 1 vs)) (at 0 vs) (holds_at 0 vs e)
    keeps_each productions.TwoWords vs e = holds_at 1 vs e
    keeps_each productions.Condition vs e = holds_at 1 vs e
    keeps_each productions.GoToWords vs e = holds_at 1 vs e
    keeps_each productions.LoopRange vs e = holds_at 1 vs e
    keeps_each productions.CountedGroup vs e = holds_at 1 vs e
    keeps_each productions.Loop vs e = bare_holds (looped (at 2 vs) (at 0 vs)) (looped_bare (at 2 vs) (at 0 vs))
    keeps_each productions.LoopLoop vs e = bare_holds (lengthened (at 2 vs) (at 0 vs)) (lengthened_bare (at 2 vs) (at 0 vs))
    keeps_each productions.LoopName vs e = bare_holds (begun (name_in (at 1 vs)) (at 0 vs)) (begun_bare (name_in (at 1 vs)) (at 0 vs))
    keeps_each productions.LoopElement vs e = bare_holds (pended (Some (as_exprs (at 2 vs))) (at 0 vs)) (pended_bare (Some (as_exprs (at 2 vs))) (at 0 vs))
    keeps_each productions.LoopScalar vs e = bare_holds (pended None (at 0 vs)) (pended_bare None (at 0 vs))
    keeps_each productions.NumberDatum vs e = bare_holds (counted (at 1 vs) (at 0 vs)) (counted_bare (at 1 vs) (at 0 vs))
    keeps_each _ vs e = assumption (holds_at 0 vs e)
