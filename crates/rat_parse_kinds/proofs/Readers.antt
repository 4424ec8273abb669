-- What is read off a part is read off what it is seen as.
use Rattle.std.proofs.Common.{◌≡◌, ℕ, ℤ, Option, Some, List, ◌⊎◌, inl, inr, refl, ap}
use Rattle.ground.specs.declared.place.Place.{Place}
use Rattle.ground.specs.declared.token.TokenKind.{TokenKind}
use Rattle.ground.specs.declared.token.TokenKind.TheVariants as tokens
use Rattle.f66_tree.specs.declared.declaration.TypeWord.{TypeWord}
use Rattle.f66_tree.specs.Fields.{Fields}
use Rattle.f66_tree.specs.Syntax.{Text, Formula, Entry, Declared, Area, PresetPart, Many}
use Rattle.f66_tree.specs.Views.{listed}
use Rattle.rat_tree.specs.Syntax.{Command, Commands, Clauses, RatRoutine}
use Rattle.rat_parse_values.specs.Values.{Val}
use Rattle.rat_parse_values.specs.Values as val
use Rattle.rat_parse_values.specs.Kinds as part
use Rattle.rat_parse_values.specs.Parts.{kind_name, kind_word, name_in, with_declared, with_area, with_preset, with_entry, with_field, with_clause, with_routine, with_datum, as_formula, as_command, formula_part, act_part, name_if_any, count_or_one, octal_if_any, step_or_one}
use Rattle.rat_parse_values.specs.Phrases.{applied, looped, lengthened, pended, begun, worded, counted_field}
use Rattle.rat_parse_values.specs.Plain.{counted_with}
use Rattle.rat_parse_values.specs.Statements.{conditional, repetition, labelled_value, typed_from}
use Rattle.rat_parse_kinds.specs.Kinds.{Declared as kind_declared, Area as kind_area, Preset as kind_preset, Datum, Entry as kind_entry, Field, Clause, Routine, Rest, RestStart, Command as kind_command, PerhapsFormula, PerhapsPlaced, PerhapsFormulas, PerhapsPar, PerhapsDeed, PerhapsCommand}
use Rattle.rat_parse_kinds.proofs.Seen.{only, word, if_word, if_number, any_formula, heading_or_declareds, word_or_fields}

-- ---- tokens ----

word_named : (k : TokenKind) → kind_name k ≡ kind_name (tokens.Word (kind_word k))
word_named (tokens.Word w) = refl
word_named _ = refl

pub name : (v : Val) → name_in v ≡ name_in (word v)
name (val.tok t) = word_named t.kind
name _ = refl

pub some_name : (v : Val) → name_if_any v ≡ name_if_any (if_word v)
some_name (val.tok t) = ap Some (word_named t.kind)
some_name _ = refl

pub some_count : (v : Val) → count_or_one v ≡ count_or_one (if_number v)
some_count (val.tok t) = refl
some_count _ = refl

pub some_octal : (v : Val) → octal_if_any v ≡ octal_if_any (if_number v)
some_octal (val.tok t) = refl
some_octal _ = refl

-- ---- the first of a list ----

pub first_declared : (v : Val) (all : List Declared) → with_declared v all ≡ with_declared (only kind_declared v) all
first_declared (val.declaration (part.declared d)) all = refl
first_declared _ all = refl

pub first_area : (v : Val) (all : List Area) → with_area v all ≡ with_area (only kind_area v) all
first_area (val.declaration (part.area d)) all = refl
first_area _ all = refl

pub first_preset : (v : Val) (all : List PresetPart) → with_preset v all ≡ with_preset (only kind_preset v) all
first_preset (val.declaration (part.preset d)) all = refl
first_preset _ all = refl

pub first_datum : (v : Val) (all : List (ℕ × Formula)) → with_datum v all ≡ with_datum (only Datum v) all
first_datum (val.declaration (part.datum n f)) all = refl
first_datum _ all = refl

pub first_entry : (v : Val) (all : List Entry) → with_entry v all ≡ with_entry (only kind_entry v) all
first_entry (val.transfer (part.entry e)) all = refl
first_entry _ all = refl

pub first_field : (v : Val) (all : Fields) → with_field v all ≡ with_field (only Field v) all
first_field (val.transfer (part.field f)) all = refl
first_field _ all = refl

pub first_clause : (v : Val) (all : Clauses) → with_clause v all ≡ with_clause (only Clause v) all
first_clause (val.statement (part.clause c)) all = refl
first_clause _ all = refl

pub first_routine : (v : Val) (all : List RatRoutine) → with_routine v all ≡ with_routine (only Routine v) all
first_routine (val.unit (part.routine r)) all = refl
first_routine _ all = refl

-- ---- parts that may be missing, and those of two kinds ----

pub some_formula : (v : Val) → formula_part v ≡ formula_part (only PerhapsFormula v)
some_formula (val.expression (part.formula f)) = refl
some_formula _ = refl

pub some_act : (v : Val) → act_part v ≡ act_part (only PerhapsDeed v)
some_act (val.statement (part.deed p a)) = refl
some_act _ = refl

pub some_step : (v : Val) → step_or_one v ≡ step_or_one (only PerhapsPar v)
some_step (val.parameter (part.par p)) = refl
some_step _ = refl

pub some_else : (p : Place) (f : Formula) (c : Command) (v : Val) → conditional p f c v ≡ conditional p f c (only PerhapsCommand v)
some_else p f c (val.statement (part.command q d)) = refl
some_else p f c _ = refl

pub some_until : (p : Place) (c : Command) (v : Val) → repetition p c v ≡ repetition p c (only PerhapsPlaced v)
some_until p c (val.expression (part.located q f)) = refl
some_until p c _ = refl

pub some_arguments : (x : Text) (v : Val) → applied x v ≡ applied x (only PerhapsFormulas v)
some_arguments x (val.expression (part.formulas fs)) = refl
some_arguments x _ = refl

pub some_constant : (n : ℕ) (z : ℤ) (v : Val) → counted_with n z v ≡ counted_with n z (only PerhapsFormula v)
some_constant n z (val.expression (part.formula f)) = refl
some_constant n z _ = refl

pub either_formula : (v : Val) → as_formula v ≡ as_formula (any_formula v)
either_formula (val.expression (part.located p f)) = refl
either_formula _ = refl

pub either_field : (n : ℕ) (v : Val) → counted_field n v ≡ counted_field n (word_or_fields v)
either_field n (val.transfer (part.fields fs)) = refl
either_field n (val.tok t) = ap (λ x. worded n x) (word_named t.kind)
either_field n _ = refl

pub either_unit : (q : Place) (t : TypeWord) (v : Val) (body : Commands) → typed_from q t v body ≡ typed_from q t (heading_or_declareds v) body
either_unit q t (val.unit (part.heading p h)) body = refl
either_unit q t _ body = refl

-- ---- statements behind a label, and entries of an implied DO ----

pub labelled_command : (n : ℕ) (v : Val) → as_command (labelled_value n v) ≡ as_command (labelled_value n (only kind_command v))
labelled_command n (val.statement (part.command p c)) = refl
labelled_command n _ = refl

pub labelled : (n : ℕ) (v : Val) → (labelled_value n v ≡ labelled_value n (only kind_command v)) ⊎ (labelled_value n v ≡ v)
labelled n (val.statement (part.command p c)) = inl refl
labelled n _ = inr refl

pub rest_looped : (v w : Val) → looped v w ≡ looped (only kind_entry v) (only Rest w)
rest_looped v (val.transfer (part.rest r)) = ap (λ es. val.entry (Many (listed es) r.variable r.range.first r.range.last r.range.step)) (first_entry v r.list)
rest_looped v _ = refl

pub rest_lengthened : (v w : Val) → lengthened v w ≡ lengthened (only kind_entry v) (only Rest w)
rest_lengthened v (val.transfer (part.rest r)) = ap (λ es. val.rest (record { list = es; variable = r.variable; range = r.range })) (first_entry v r.list)
rest_lengthened v _ = refl

pub rest_pended : (args : Option (List Formula)) (v : Val) → pended args v ≡ pended args (only Rest v)
rest_pended args (val.transfer (part.rest r)) = refl
rest_pended args _ = refl

pub rest_begun : (x : Text) (v : Val) → begun x v ≡ begun x (only RestStart v)
rest_begun x (val.parameter (part.range r)) = refl
rest_begun x (val.transfer (part.pending args r)) = refl
rest_begun x _ = refl
