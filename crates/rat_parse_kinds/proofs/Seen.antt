-- A part as one of a kind: itself if it is of the kind, else one that reads the same.
use Rattle.std.proofs.Common.{◌≡◌, Bool, true, false, ◌||◌, if◌then◌else◌, List, [], ◌∷◌, refl, subst, sym}
use Rattle.ground.specs.declared.place.Place.{Place}
use Rattle.ground.specs.declared.token.TokenKind.{TokenKind}
use Rattle.ground.specs.declared.token.TokenKind.TheVariants as tokens
use Rattle.grammar.specs.declared.language.Symbol.TheVariants.{Nonterminal}
use Rattle.rat_parse_table.specs.declared.table.Nonterminal.TheVariants as nonterminals
use Rattle.rat_parse_values.specs.Values.{Val, last_of, others}
use Rattle.rat_parse_values.specs.Values as val
use Rattle.rat_parse_values.specs.Kinds as part
use Rattle.rat_parse_values.specs.Parts.{place_in, text_in, integer_in, sign_in, word_in, as_exprs, as_joins, as_names, as_numbers, as_pars, as_declareds, as_areas, as_groups, as_presets, as_data, as_entries, as_fields, as_statements, as_clauses, as_units, as_formula, as_par, as_act, as_command, as_header, as_range, as_program}
use Rattle.rat_parse_kinds.specs.Kinds.{Kind, Word, Number, Quoted, Sign, Mark, Other, Nothing, Formula, Placed, AnyFormula, Formulas, Joins, Names, Numbers, Par, Pars, Range, Declared, Declareds, Area, Areas, Groups, Preset, Presets, Datum, Data, Entry, Entries, Rest, RestStart, Field, Fields, WordOrFields, Deed, Command, Commands, Clause, Clauses, Heading, HeadingOrDeclareds, Routine, Routines, Program, PerhapsWord, PerhapsNumber, PerhapsMark, PerhapsFormula, PerhapsPlaced, PerhapsFormulas, PerhapsPar, PerhapsDeed, PerhapsCommand, is_token, is, kind_of}
use Rattle.rat_parse_kinds.specs.Readings.{ASymbol, is_nothing, StandsFor, EachStandsFor}

-- a part of another kind is left out
abbrev pub only : Kind → Val → Val
only k v = if is k v then v else val.nothing

-- a token of another kind has no word, and the number 0
abbrev pub word : Val → Val
word v = val.tok (record { kind = tokens.Word (word_in v); place = place_in v })

abbrev pub number : Val → Val
number v = val.tok (record { kind = tokens.Number (integer_in v); place = place_in v })

abbrev pub if_word : Val → Val
if_word (val.tok t) = word (val.tok t)
if_word _ = val.nothing

abbrev pub if_number : Val → Val
if_number (val.tok t) = number (val.tok t)
if_number _ = val.nothing

abbrev pub as_mark : TokenKind → TokenKind
as_mark tokens.LineEnd = tokens.LineEnd
as_mark tokens.Semicolon = tokens.Semicolon
as_mark _ = tokens.TextEnd

abbrev pub mark_in : Val → TokenKind
mark_in (val.tok t) = as_mark t.kind
mark_in _ = tokens.TextEnd

abbrev pub any_formula : Val → Val
any_formula (val.expression (part.located p f)) = val.located p f
any_formula v = val.formula (as_formula v)

abbrev pub heading_or_declareds : Val → Val
heading_or_declareds (val.unit (part.heading p h)) = val.heading p h
heading_or_declareds v = val.declareds (as_declareds v)

abbrev pub word_or_fields : Val → Val
word_or_fields (val.transfer (part.fields fs)) = val.fields fs
word_or_fields v = word v

abbrev pub seen : Kind → Val → Val
seen Word v = word v
seen Number v = number v
seen Quoted v = val.tok (record { kind = tokens.Quoted (text_in v); place = place_in v })
seen Sign v = val.tok (record { kind = tokens.Sign (sign_in v); place = place_in v })
seen Mark v = val.tok (record { kind = mark_in v; place = place_in v })
seen Formula v = val.formula (as_formula v)
seen Placed v = val.located (place_in v) (as_formula v)
seen Formulas v = val.formulas (as_exprs v)
seen Joins v = val.joins (as_joins v)
seen Names v = val.names (as_names v)
seen Numbers v = val.numbers (as_numbers v)
seen Par v = val.par (as_par v)
seen Pars v = val.pars (as_pars v)
seen Range v = val.range (as_range v)
seen Declareds v = val.declareds (as_declareds v)
seen Areas v = val.areas (as_areas v)
seen Groups v = val.groups (as_groups v)
seen Presets v = val.presets (as_presets v)
seen Data v = val.data_values (as_data v)
seen Entries v = val.entries (as_entries v)
seen Fields v = val.fields (as_fields v)
seen Deed v = val.deed (place_in v) (as_act v)
seen Command v = val.command (place_in v) (as_command v)
seen Commands v = val.commands (as_statements v)
seen Clauses v = val.clauses (as_clauses v)
seen Heading v = val.heading (place_in v) (as_header v)
seen Routines v = val.routines (as_units v)
seen Program v = val.program (as_program v)
seen AnyFormula v = any_formula v
seen HeadingOrDeclareds v = heading_or_declareds v
seen WordOrFields v = word_or_fields v
seen PerhapsWord v = if_word v
seen PerhapsNumber v = if_number v
seen k v = only k v

-- ---- a part of the kind is seen as itself ----

pub untrue : false ≡ true → ⊥
untrue e = cc

only_keeps : (k : Kind) (v : Val) → is k v ≡ true → only k v ≡ v
only_keeps k v h = subst (λ b. (if b then v else val.nothing) ≡ v) (sym h) refl

token_keeps : (k : Kind) (t : TokenKind) (p : Place) → is_token k t ≡ true → seen k (val.tok (record { kind = t; place = p })) ≡ val.tok (record { kind = t; place = p })
token_keeps Word (tokens.Word w) p h = refl
token_keeps PerhapsWord (tokens.Word w) p h = refl
token_keeps WordOrFields (tokens.Word w) p h = refl
token_keeps Number (tokens.Number n) p h = refl
token_keeps PerhapsNumber (tokens.Number n) p h = refl
token_keeps Quoted (tokens.Quoted w) p h = refl
token_keeps Sign (tokens.Sign s) p h = refl
token_keeps Mark tokens.LineEnd p h = refl
token_keeps Mark tokens.Semicolon p h = refl
token_keeps Mark tokens.TextEnd p h = refl
token_keeps PerhapsMark tokens.LineEnd p h = refl
token_keeps PerhapsMark tokens.Semicolon p h = refl
token_keeps PerhapsMark tokens.TextEnd p h = refl
token_keeps Other t p h = refl
token_keeps _ t p h = absurd (untrue h)

keeps : (k : Kind) (v : Val) → is k v ≡ true → seen k v ≡ v
keeps k (val.tok t) h = token_keeps k t.kind t.place h
keeps Other v h = only_keeps Other v h
keeps Nothing v h = only_keeps Nothing v h
keeps Declared v h = only_keeps Declared v h
keeps Area v h = only_keeps Area v h
keeps Preset v h = only_keeps Preset v h
keeps Datum v h = only_keeps Datum v h
keeps Entry v h = only_keeps Entry v h
keeps Rest v h = only_keeps Rest v h
keeps RestStart v h = only_keeps RestStart v h
keeps Field v h = only_keeps Field v h
keeps Clause v h = only_keeps Clause v h
keeps Routine v h = only_keeps Routine v h
keeps PerhapsMark v h = only_keeps PerhapsMark v h
keeps PerhapsFormula v h = only_keeps PerhapsFormula v h
keeps PerhapsPlaced v h = only_keeps PerhapsPlaced v h
keeps PerhapsFormulas v h = only_keeps PerhapsFormulas v h
keeps PerhapsPar v h = only_keeps PerhapsPar v h
keeps PerhapsDeed v h = only_keeps PerhapsDeed v h
keeps PerhapsCommand v h = only_keeps PerhapsCommand v h
keeps Formula (val.expression (part.formula f)) h = refl
keeps Placed (val.expression (part.located p f)) h = refl
keeps AnyFormula (val.expression (part.formula f)) h = refl
keeps AnyFormula (val.expression (part.located p f)) h = refl
keeps Formulas (val.expression (part.formulas fs)) h = refl
keeps Joins (val.expression (part.joins js)) h = refl
keeps Names (val.parameter (part.names xs)) h = refl
keeps Numbers (val.parameter (part.numbers ns)) h = refl
keeps Par (val.parameter (part.par p)) h = refl
keeps Pars (val.parameter (part.pars ps)) h = refl
keeps Range (val.parameter (part.range r)) h = refl
keeps Declareds (val.declaration (part.declareds ds)) h = refl
keeps Areas (val.declaration (part.areas list)) h = refl
keeps Groups (val.declaration (part.groups gs)) h = refl
keeps Presets (val.declaration (part.presets ps)) h = refl
keeps Data (val.declaration (part.data_values ds)) h = refl
keeps Entries (val.transfer (part.entries es)) h = refl
keeps Fields (val.transfer (part.fields fs)) h = refl
keeps WordOrFields (val.transfer (part.fields fs)) h = refl
keeps Deed (val.statement (part.deed p a)) h = refl
keeps Command (val.statement (part.command p c)) h = refl
keeps Commands (val.statement (part.commands cs)) h = refl
keeps Clauses (val.statement (part.clauses cs)) h = refl
keeps Heading (val.unit (part.heading p head)) h = refl
keeps HeadingOrDeclareds (val.unit (part.heading p head)) h = refl
keeps HeadingOrDeclareds (val.declaration (part.declareds ds)) h = refl
keeps Routines (val.unit (part.routines rs)) h = refl
keeps Program (val.unit (part.program p)) h = refl
keeps PerhapsWord val.nothing h = refl
keeps PerhapsNumber val.nothing h = refl
keeps _ _ h = absurd (untrue h)

-- ---- what a part is seen as is of the kind, or nothing ----

or_true : (b : Bool) → b || true ≡ true
or_true true = refl
or_true false = refl

only_is : (k : Kind) (v : Val) (b : Bool) → is k v ≡ b → is k (if b then v else val.nothing) || is_nothing (if b then v else val.nothing) ≡ true
only_is k v true h = subst (λ c. c || is_nothing v ≡ true) (sym h) refl
only_is k v false h = or_true (is k val.nothing)

any_is : (v : Val) → is AnyFormula (any_formula v) || is_nothing (any_formula v) ≡ true
any_is (val.expression (part.located p f)) = refl
any_is _ = refl

heading_is : (v : Val) → is HeadingOrDeclareds (heading_or_declareds v) || is_nothing (heading_or_declareds v) ≡ true
heading_is (val.unit (part.heading p h)) = refl
heading_is _ = refl

fields_is : (v : Val) → is WordOrFields (word_or_fields v) || is_nothing (word_or_fields v) ≡ true
fields_is (val.transfer (part.fields fs)) = refl
fields_is _ = refl

mark_is : (t : TokenKind) → is_token Mark (as_mark t) || false ≡ true
mark_is tokens.LineEnd = refl
mark_is _ = refl

marks : (v : Val) → is Mark (seen Mark v) || is_nothing (seen Mark v) ≡ true
marks (val.tok t) = mark_is t.kind
marks _ = refl

perhaps_word : (v : Val) → is PerhapsWord (if_word v) || is_nothing (if_word v) ≡ true
perhaps_word (val.tok t) = refl
perhaps_word _ = refl

perhaps_number : (v : Val) → is PerhapsNumber (if_number v) || is_nothing (if_number v) ≡ true
perhaps_number (val.tok t) = refl
perhaps_number _ = refl

seen_is : (k : Kind) (v : Val) → is k (seen k v) || is_nothing (seen k v) ≡ true
seen_is AnyFormula v = any_is v
seen_is HeadingOrDeclareds v = heading_is v
seen_is WordOrFields v = fields_is v
seen_is PerhapsWord v = perhaps_word v
seen_is PerhapsNumber v = perhaps_number v
seen_is Mark v = marks v
seen_is Other v = only_is Other v (is Other v) refl
seen_is Nothing v = only_is Nothing v (is Nothing v) refl
seen_is Declared v = only_is Declared v (is Declared v) refl
seen_is Area v = only_is Area v (is Area v) refl
seen_is Preset v = only_is Preset v (is Preset v) refl
seen_is Datum v = only_is Datum v (is Datum v) refl
seen_is Entry v = only_is Entry v (is Entry v) refl
seen_is Rest v = only_is Rest v (is Rest v) refl
seen_is RestStart v = only_is RestStart v (is RestStart v) refl
seen_is Field v = only_is Field v (is Field v) refl
seen_is Clause v = only_is Clause v (is Clause v) refl
seen_is Routine v = only_is Routine v (is Routine v) refl
seen_is PerhapsMark v = only_is PerhapsMark v (is PerhapsMark v) refl
seen_is PerhapsFormula v = only_is PerhapsFormula v (is PerhapsFormula v) refl
seen_is PerhapsPlaced v = only_is PerhapsPlaced v (is PerhapsPlaced v) refl
seen_is PerhapsFormulas v = only_is PerhapsFormulas v (is PerhapsFormulas v) refl
seen_is PerhapsPar v = only_is PerhapsPar v (is PerhapsPar v) refl
seen_is PerhapsDeed v = only_is PerhapsDeed v (is PerhapsDeed v) refl
seen_is PerhapsCommand v = only_is PerhapsCommand v (is PerhapsCommand v) refl
seen_is _ v = refl

-- ---- the parts of a production ----

-- a statement behind a label is taken as it is
abbrev pub seen_at : ASymbol → Val → Val
seen_at (Nonterminal nonterminals.Bare) v = only Command v
seen_at x v = seen (kind_of x) v

abbrev pub all_seen : List ASymbol → List Val → List Val
all_seen [] vs = []
all_seen (x ∷ xs) vs = seen_at x (last_of vs) ∷ all_seen xs (others vs)

stands : (x : ASymbol) (v : Val) → StandsFor x v (seen_at x v)
stands (Nonterminal nonterminals.Bare) v = record { same = only_keeps Command v; other = only_is Command v (is Command v) refl }
stands x v = record { same = keeps (kind_of x) v; other = seen_is (kind_of x) v }

pub all_stand : (xs : List ASymbol) (vs : List Val) → EachStandsFor xs vs (all_seen xs vs)
all_stand [] vs = refl
all_stand (x ∷ xs) vs = (stands x (last_of vs), all_stand xs (others vs))
