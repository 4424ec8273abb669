-- What the table reads as a statement of FORTRAN is one of the published grammar.
use Rattle.std.proofs.Common.{ℕ, List, [], ◌∷◌, Option, None, Some, inl, inr, refl, sym, subst, if◌then◌else◌}
use Rattle.std.specs.Prelude.{codes}
use Rattle.ground.specs.declared.token.Token.{Token}
use Rattle.ground.specs.declared.token.TokenKind.TheVariants as kinds
use Rattle.ground.specs.declared.token.Sign.TheVariants as signs
use Rattle.f66_tree.specs.Fields as fields
use Rattle.f66_tree.specs.Syntax as f66
use Rattle.f66_tree.specs.Syntax.{Text, Formula, Int, Par, Constant, Named, Entries}
use Rattle.f66_tree.specs.Views.{chained, listed}
use Rattle.rat_parse_table.specs.declared.table.Production.TheVariants as p
use Rattle.rat_parse_table.specs.declared.table.Nonterminal.TheVariants as n
use Rattle.rat_parse_values.specs.Values.{Val, tok, nothing, par}
use Rattle.rat_parse_values.specs.Values as val
use Rattle.rat_parse_values.specs.Kinds as part
use Rattle.rat_parse_values.specs.Parts.{name_in, integer_in, number_in, count_in, text_in, place_in, first_letter, octal_if_any, step_or_one, name_if_any}
use Rattle.rat_parse_values.specs.Phrases.{signed, applied_if, begun, worded, counted_field, truth as truth_value}
use Rattle.rat_parse_values.specs.Plain.{counted_with, transfer}
use Rattle.rat_grammar.specs.Tokens.{Tokens, one, Sign, Name, Number, word, Listed, Several}
use Rattle.rat_grammar.specs.Expressions as e
use Rattle.rat_grammar.specs.Formats as f
use Rattle.rat_grammar.specs.Declarations as d
use Rattle.rat_grammar.specs.Plain as pl
use Rattle.rat_grammar.proofs.Readings.{LoopTail, RestStart, SaysStart, view_start, Repeated, perhaps, reading}
use Rattle.rat_grammar.proofs.Derivations.{Reads}
use Rattle.rat_grammar.proofs.Steps.{Step}
use Rattle.rat_grammar.proofs.Taken as taken
use Rattle.rat_grammar.proofs.Standing.{place_of, exact, sole, Either, first, second, either, word_of, spelled, Choice, this, that, choice}
use Rattle.rat_grammar.proofs.ReservedWords.{is_other}

-- ---- go to, stop and call ----

pub simple_plain : Step p.SimplePlain
simple_plain a h = λ y b r. (y, refl, (r.0, pl.simple r.1))

pub go_plain : Step p.GoPlain
go_plain a h = λ v m g y b t. ((place_in v, y.1), refl, (g.0, t a g.1))

pub goto_word : Step p.GotoWord
goto_word a h = λ y b r. (tok y, refl, (place_of r, pl.one_word (word_of r)))

pub go_to_words : Step p.GoToWords
go_to_words a h = λ y m r z b s. (tok y, refl, (place_of r, pl.two_words (word_of r) (word_of s)))

pub one_target : Step p.OneTarget
one_target a h = λ y b c. ((y.place, f66.Goto (number_in (tok y))), refl, λ g k. pl.goto k (d.natural c.1))

pub computed_target : Step p.ComputedTarget
computed_target a h = λ o i r y j c ns k t z l s u m q x b e. (
  (o.place, f66.Computed (number_in (tok y) ∷ ns) (name_in (tok x))),
  refl,
  λ g w. pl.computed w (sole r) (t i (number_in (tok y)) (d.natural c.1)) (sole s) (sole q) e.1,
)

pub more_number : Step p.MoreNumber
more_number a h = λ y m r z k c ns b t. (number_in (tok z) ∷ ns, refl, λ g x q. Listed.comma q (sole r) (t m (number_in (tok z)) (d.natural c.1)))

pub no_more_number : Step p.NoMoreNumber
no_more_number a h = ([], refl, λ g x q. Listed.last q)

pub continue_plain : Step p.ContinuePlain
continue_plain a h = λ y b r. ((y.place, f66.Continue), refl, (place_of r, pl.continue (word_of r)))

pub stop_plain : Step p.StopPlain
stop_plain a h = λ y m r v b t. ((y.place, f66.Stop (octal_if_any v)), refl, (place_of r, t a (word_of r)))

pub octal_stop : Step p.OctalStop
octal_stop a h = λ y b r. (tok y, refl, λ g k. pl.stop_with k (taken.octal r))

pub bare_stop : Step p.BareStop
bare_stop a h = (nothing, refl, λ g k. pl.stop k)

pub assignment : Step p.Assignment
assignment a h = λ y m r z k s f b c. ((y.0, f66.Assign y.1 f), refl, (r.0, pl.assignment r.1 (sole s) c))

pub invocation : Step p.Invocation
invocation a h = λ y m r x k c fs b t. ((y.place, f66.Invoke (name_in (tok x)) (chained fs)), refl, (place_of r, t a m (name_in (tok x)) (word_of r) c.1))

pub some_actuals : Step p.SomeActuals
some_actuals a h = λ y m r f k q fs j t z b s. (f ∷ fs, refl, λ g i x w c. pl.call_with w c (sole r) (t m f q) (sole s))

pub no_actuals : Step p.NoActuals
no_actuals a h = ([], refl, λ g i x w c. pl.call w c)

pub expr_actual : Step p.ExprActual
expr_actual a h = λ f b q. (f, refl, pl.expr q)

pub letter_actual : Step p.LetterActual
letter_actual a h = λ y b r. (f66.Letter (first_letter (text_in (tok y))), refl, pl.letter (taken.letter r))

pub more_actual : Step p.MoreActual
more_actual a h = λ y m r f k c fs b t. (f ∷ fs, refl, λ g x q. Listed.comma q (sole r) (t m f c))

pub no_more_actual : Step p.NoMoreActual
no_more_actual a h = ([], refl, λ g x q. Listed.last q)

-- ---- parameters ----

pub number_par : Step p.NumberPar
number_par a h = λ y b c. (Constant (integer_in (tok y)), refl, d.number c.1)

pub name_par : Step p.NamePar
name_par a h = λ y b c. (Named (name_in (tok y)), refl, d.name c.1)

pub range : Step p.Range
range a h = λ u m q y k r w j s v b t. (record { first = u; last = w; step = step_or_one v }, refl, t a m k u w q (sole r) s)

pub some_step : Step p.SomeStep
some_step a h = λ y m r w b t. (par w, refl, λ g i k v u q c s. d.whole q c s (sole r) t)

pub no_step : Step p.NoStep
no_step a h = (nothing, refl, λ g i k v u q c s. d.short q c s)

-- ---- what READ and WRITE go over ----

moved : {a b c i j k l : Tokens} {y : Token} {u : Par} {m : ℕ} {es : Entries} → Choice (codes "READ") (codes "WRITE") a b y → Sign signs.Open b c → d.Parameter c i u →
    Sign signs.Comma i j → d.Natural j k m → Sign signs.Close k l → {z : Tokens} → d.AnyEntries l z es → pl.Plain a z (transfer (tok y) u m es)
moved {a} {b} {u = u} {m = m} {es = es} (this (spelled {w = w} h)) o q c r s {z} t =
    subst (λ v. pl.Plain a z (if v then f66.Read u m es else f66.Write u m es)) (sym (is_other (codes "READ") (codes "READ") w h)) (pl.read (word h) o q c r s t)
moved {a} {b} {u = u} {m = m} {es = es} (that (spelled {w = w} h)) o q c r s {z} t =
    subst (λ v. pl.Plain a z (if v then f66.Read u m es else f66.Write u m es)) (sym (is_other (codes "READ") (codes "WRITE") w h)) (pl.write (word h) o q c r s t)

pub transfer_plain : Step p.TransferPlain
transfer_plain a h = λ y i r o j s u k q c l w x m v z l1 z1 es b t. (
  (y.place, transfer (tok y) u (number_in (tok x)) (listed es)),
  refl,
  (place_of r, moved (choice r) (sole s) q (sole w) (d.natural v.1) (sole z1) t),
)

pub some_entries : Step p.SomeEntries
some_entries a h = λ x m q es b t. (x ∷ es, refl, d.some (t a x q))

pub no_entries : Step p.NoEntries
no_entries a h = ([], refl, d.none)

pub item_entry : Step p.ItemEntry
item_entry a h = λ y b r. (f66.One y.1, refl, d.item r.1)

pub loop_entry : Step p.LoopEntry
loop_entry a h = λ x b q. (x, refl, q)

pub more_entry : Step p.MoreEntry
more_entry a h = λ y m r x k q es b t. (x ∷ es, refl, λ g z c. d.comma c (sole r) (t m x q))

pub no_more_entry : Step p.NoMoreEntry
no_more_entry a h = ([], refl, λ g z c. d.last c)

looped : {a m b : Tokens} {es : List f66.Entry} {x : Text} {r : part.Range} → Sign signs.Open a m → LoopTail m b es x r → d.Entry a b (f66.Many (listed es) x r.first r.last r.step)
looped o w = d.loop o w.entries w.comma w.name w.assign w.range w.close

longer : {a g i b : Tokens} {y : f66.Entry} {es : List f66.Entry} {x : Text} {r : part.Range} → d.Entry g i y → Sign signs.Comma i a → LoopTail a b es x r → LoopTail g b (y ∷ es) x r
longer q c w = record {
  behind = w.behind;
  named = w.named;
  equal = w.equal;
  begun = w.begun;
  ended = w.ended;
  entries = d.comma q c w.entries;
  comma = w.comma;
  name = w.name;
  assign = w.assign;
  range = w.range;
  close = w.close;
}

pub loop : Step p.Loop
loop a h = λ y m o x k q z j c l b t. (
  f66.Many (listed (x ∷ l.list)) l.variable l.range.first l.range.last l.range.step,
  refl,
  looped (sole o) (t m k x q (sole c)),
)

pub loop_loop : Step p.LoopLoop
loop_loop a h = λ x m q z k c l b t. (
  record { list = x ∷ l.list; variable = l.variable; range = l.range },
  refl,
  λ g i y s w. longer s w (t a m x q (sole c)),
)

named : {a m b : Tokens} (x : Text) (y : RestStart) → Name a m x → SaysStart m b y → Reads (reading n.LoopRest) a b (begun x (view_start y))
named {a} {m} {b} x (inl r) c s = (
  record { list = []; variable = x; range = r },
  refl,
  λ g i y q w. record {
    behind = i;
    named = a;
    equal = m;
    begun = s.0;
    ended = s.1;
    entries = d.last q;
    comma = w;
    name = c;
    assign = s.2;
    range = s.3;
    close = s.4;
  },
)
named {a} x (inr z) c s = (
  record { list = f66.One (applied_if x z.0) ∷ z.1.list; variable = z.1.variable; range = z.1.range },
  refl,
  λ g i y q w. longer q w (s a x c),
)

pub loop_name : Step p.LoopName
loop_name a h = λ x m c y b s. named (name_in (tok x)) y c.1 s

pub loop_range : Step p.LoopRange
loop_range a h = λ y m r w k q z b s. (inl w, refl, (m, k, sole r, q, sole s))

pub loop_element : Step p.LoopElement
loop_element a h = λ fs m q y k c l b t. (
  inr (Some fs, l),
  refl,
  λ g x i. t g m (f66.One (f66.Item x (chained fs))) (d.item (e.applied i q.2 q.3 q.4)) (sole c),
)

pub loop_scalar : Step p.LoopScalar
loop_scalar a h = λ y m c l b t. (inr (None, l), refl, λ g x i. t g a (f66.One (f66.Ref x)) (d.item (e.name i)) (sole c))

pub element : Step p.Element
element a h = λ fs b q. (fs, refl, q)

-- ---- specifications ----

pub dimension_plain : Step p.DimensionPlain
dimension_plain a h = λ y m r ds b q. ((y.place, f66.Dimension ds), refl, (place_of r, pl.dimension (word_of r) q))

pub declared_list : Step p.DeclaredList
declared_list a h = λ x m q xs b t. (x ∷ xs, refl, t a x q)

pub more_declared : Step p.MoreDeclared
more_declared a h = λ y m r x k c xs b t. (x ∷ xs, refl, λ g z q. Listed.comma q (sole r) (t m x c))

pub no_more_declared : Step p.NoMoreDeclared
no_more_declared a h = ([], refl, λ g x q. Listed.last q)

pub declared : Step p.Declared
declared a h = λ x m c us b t. (record { name = name_in (tok x); sizes = us }, refl, t a (name_in (tok x)) c.1)

pub some_sizes : Step p.SomeSizes
some_sizes a h = λ y m r u k q us j t z b s. (u ∷ us, refl, λ g x c. d.sized c (sole r) (t m u q) (sole s))

pub no_sizes : Step p.NoSizes
no_sizes a h = ([], refl, λ g x c. Declared_name c)
  where
    Declared_name : {a b : Tokens} {x : Text} → Name a b x → d.Declared a b (record { name = x; sizes = [] })
    Declared_name c = d.Declared.name c

pub more_par : Step p.MorePar
more_par a h = λ y m r x k c xs b t. (x ∷ xs, refl, λ g z q. Listed.comma q (sole r) (t m x c))

pub no_more_par : Step p.NoMorePar
no_more_par a h = ([], refl, λ g x q. Listed.last q)

pub common_plain : Step p.CommonPlain
common_plain a h = λ y m r x k t xs b q. ((y.place, f66.Common (x ∷ xs)), refl, (place_of r, pl.common (word_of r) (t b xs q)))

pub named_first : Step p.NamedFirst
named_first a h = λ x b q. (x, refl, λ c xs s. d.areas q s)

pub blank_first : Step p.BlankFirst
blank_first a h = λ ds b q. (record { name = None; list = ds }, refl, λ c xs s. d.Areas.blank q s)

pub area : Step p.Area
area a h = λ y m r v k t z j s ds b q. (record { name = name_if_any v; list = ds }, refl, t a j b ds (sole r) (sole s) q)

pub some_area : Step p.SomeArea
some_area a h = λ y b c. (tok y, refl, λ g i k ds r s q. d.named r c.1 s q)

pub no_area : Step p.NoArea
no_area a h = (nothing, refl, λ g i k ds r s q. d.Area.blank r s q)

pub more_area : Step p.MoreArea
more_area a h = λ x m q xs b t. (x ∷ xs, refl, Several.more q t)

pub no_more_area : Step p.NoMoreArea
no_more_area a h = ([], refl, Several.none)

pub equivalence_plain : Step p.EquivalencePlain
equivalence_plain a h = λ y m r fs k q gs b t. ((y.place, f66.Equivalence (fs ∷ gs)), refl, (place_of r, pl.equivalence (word_of r) (t m fs q)))

pub alias : Step p.Alias
alias a h = λ o i r y j q z k c w l s fs m t u b x. (
  y.1 ∷ w.1 ∷ fs,
  refl,
  d.alias (sole r) q.1 (sole c) (t k w.1 s.1) (sole x),
)

pub more_alias : Step p.MoreAlias
more_alias a h = λ y m r x k c xs b t. (x ∷ xs, refl, λ g z q. Listed.comma q (sole r) (t m x c))

pub no_more_alias : Step p.NoMoreAlias
no_more_alias a h = ([], refl, λ g x q. Listed.last q)

pub more_ref : Step p.MoreRef
more_ref a h = λ y m r x k c xs b t. (x.1 ∷ xs, refl, λ g z q. Listed.comma q (sole r) (t m x.1 c.1))

pub no_more_ref : Step p.NoMoreRef
no_more_ref a h = ([], refl, λ g x q. Listed.last q)

-- ---- DATA ----

pub data_plain : Step p.DataPlain
data_plain a h = λ y m r x k q xs b t. ((y.place, f66.Preset (x ∷ xs)), refl, (place_of r, pl.data_ (word_of r) (t m x q)))

pub preset : Step p.Preset
preset a h = λ y i q fs j t z k r x l s xs m u w b v. (
  record { places = y.1 ∷ fs; values = x ∷ xs },
  refl,
  d.preset (t a y.1 q.1) (sole r) (u k x s) (sole v),
)

pub more_preset : Step p.MorePreset
more_preset a h = λ y m r x k c xs b t. (x ∷ xs, refl, λ g z q. Listed.comma q (sole r) (t m x c))

pub no_more_preset : Step p.NoMorePreset
no_more_preset a h = ([], refl, λ g x q. Listed.last q)

counted : {a m b : Tokens} (y : Token) (o : Option Formula) → Number a m (integer_in (tok y)) → Repeated m b o →
    Reads (reading n.Datum) a b (counted_with (number_in (tok y)) (integer_in (tok y)) (perhaps (λ x. val.formula x) o))
counted {a} y None c s = ((1, Int (integer_in (tok y))), refl, subst (λ i. d.Datum a i (1, Int (integer_in (tok y)))) s (d.once (d.Value.number c)))
counted y (Some x) c s = ((number_in (tok y), x), refl, d.repeated (d.natural c) s.1 s.2)

pub number_datum : Step p.NumberDatum
number_datum a h = λ y m c o b s. counted y o c.1 s

pub other_datum : Step p.OtherDatum
other_datum a h = λ x b q. ((1, x), refl, d.once q)

pub more_datum : Step p.MoreDatum
more_datum a h = λ y m r x k c xs b t. (x ∷ xs, refl, λ g z q. Listed.comma q (sole r) (t m x c))

pub no_more_datum : Step p.NoMoreDatum
no_more_datum a h = ([], refl, λ g x q. Listed.last q)

pub repeated : Step p.Repeated
repeated a h = λ y m r x b q. (Some x, refl, (m, sole r, q))

pub once : Step p.Once
once a h = (None, refl, refl)

pub number_constant : Step p.NumberConstant
number_constant a h = λ y b c. (Int (integer_in (tok y)), refl, d.Value.number c.1)

pub other_constant : Step p.OtherConstant
other_constant a h = λ x b q. (x, refl, q)

signed_number : {a m b : Tokens} {y : Token} (z : Token) → Either (kinds.Sign signs.Plus) (kinds.Sign signs.Minus) a m y → Number m b (integer_in (tok z)) →
    d.Value a b (signed (tok y) (Int (integer_in (tok z))))
signed_number z (first exact) c = d.plus one c
signed_number z (second exact) c = d.minus one c

pub signed_constant : Step p.SignedNumber
signed_constant a h = λ y m r z b c. (signed (tok y) (Int (integer_in (tok z))), refl, signed_number z (either r) c.1)

truth : {a b : Tokens} {y : Token} → Either (kinds.Sign signs.True) (kinds.Sign signs.False) a b y → Reads (reading n.Unnumbered) a b (truth_value (tok y))
truth (first exact) = (_, refl, d.truth one)
truth (second exact) = (_, refl, d.falsehood one)

pub truth_constant : Step p.TruthConstant
truth_constant a h = λ y b r. truth (either r)

pub letter_constant : Step p.LetterConstant
letter_constant a h = λ y b r. (f66.Letter (first_letter (text_in (tok y))), refl, d.Value.letter (taken.letter r))

-- ---- formats ----

pub format_plain : Step p.FormatPlain
format_plain a h = λ y m r o k s fs j q z b t. (
  (y.place, f66.Format fs),
  refl,
  (place_of r, pl.format (word_of r) (sole s) q (sole t)),
)

pub edit_first : Step p.EditFirst
edit_first a h = λ x m q fs b t. (x fs, refl, f.some (t a x q))

pub slash_first : Step p.SlashFirst
slash_first a h = λ y m r fs b t. (fields.Single 1 fields.Slash fs, refl, f.some (t a (sole r)))

pub no_fields : Step p.NoFields
no_fields a h = (fields.NoField, refl, f.none)

pub edit_comma : Step p.EditComma
edit_comma a h = λ y m r fs b q. (fs, refl, λ g x c. f.comma c (sole r) q)

pub edit_slash : Step p.EditSlash
edit_slash a h = λ y m r fs b t. (fields.Single 1 fields.Slash fs, refl, λ g x c. f.before_slash c (sole r) (t a (sole r)))

pub edit_done : Step p.EditDone
edit_done a h = (fields.NoField, refl, λ g x c. f.last c)

pub next_edit : Step p.NextEdit
next_edit a h = λ x m q fs b t. (x fs, refl, t a x q)

pub next_slash : Step p.NextSlash
next_slash a h = λ y m r fs b t. (fields.Single 1 fields.Slash fs, refl, t a (sole r))

pub slash_comma : Step p.SlashComma
slash_comma a h = λ y m r fs b q. (fs, refl, λ g s. f.comma (f.slash s) (sole r) q)

pub slash_edit : Step p.SlashEdit
slash_edit a h = λ x m q fs b t. (x fs, refl, λ g s. f.behind_slash s (t a x q))

pub slash_slash : Step p.SlashSlash
slash_slash a h = λ y m r fs b t. (fields.Single 1 fields.Slash fs, refl, λ g s. f.behind_slash s (t a (sole r)))

pub slash_done : Step p.SlashDone
slash_done a h = (fields.NoField, refl, λ g s. f.last (f.slash s))

pub counted_edit : Step p.CountedEdit
counted_edit a h = λ y m c v b t. (counted_field (count_in (tok y)) v, refl, t a (count_in (tok y)) (f.count c.1))

pub word_edit : Step p.WordEdit
word_edit a h = λ y b r. (worded 1 (name_in (tok y)), refl, f.Field.word (taken.field_word r))

pub group_edit : Step p.GroupEdit
group_edit a h = λ y m r fs k q z b s. (fields.Group 1 fs, refl, f.group (sole r) q (sole s))

pub letter_edit : Step p.LetterEdit
letter_edit a h = λ y b r. (fields.Single 1 (fields.Chars (text_in (tok y))), refl, taken.letter_field r)

pub chars_edit : Step p.CharsEdit
chars_edit a h = λ y b r. (fields.Single 1 (fields.Chars (text_in (tok y))), refl, taken.chars_field r)

pub counted_word : Step p.CountedWord
counted_word a h = λ y b r. (tok y, refl, λ g k c. f.counted_word c (taken.field_word r))

pub counted_group : Step p.CountedGroup
counted_group a h = λ y m r fs k q z b s. (val.fields fs, refl, λ g i c. f.counted_group c (sole r) q (sole s))
