-- What each production makes of parts that fit its symbols fits its nonterminal, and so does what a derivation gives.
use Rattle.std.proofs.Common.{◌≡◌, ℕ, Bool, true, false, ◌&&◌, if◌then◌else◌, ℤ, Option, None, Some, List, [], ◌∷◌, refl, sym, subst}
use Rattle.ground.specs.declared.token.Token.{Token}
use Rattle.ground.specs.declared.token.TokenKind.{TokenKind}
use Rattle.ground.specs.declared.token.TokenKind.TheVariants as tokens
use Rattle.ground.specs.declared.token.Sign.{Sign}
use Rattle.ground.specs.declared.token.Sign.TheVariants as signs
use Rattle.grammar.specs.declared.language.Symbol.TheVariants.{Nonterminal}
use Rattle.grammar.specs.Grammar.{Tree, Trees, leaf, node, none, some, Offers, Derives, DerivesAll, value_of, values_of}
use Rattle.f66_tree.specs.Syntax.{Text, Formula as AFormula}
use Rattle.rat_parse_table.specs.declared.table.Terminal.{Terminal as ATerminal}
use Rattle.rat_parse_table.specs.declared.table.Terminal.TheVariants as terminals
use Rattle.rat_parse_table.specs.declared.table.Nonterminal.{Nonterminal as ANonterminal}
use Rattle.rat_parse_table.specs.declared.table.Production.{Production}
use Rattle.rat_parse_table.specs.declared.table.Production.TheVariants as productions
use Rattle.rat_parse_table.specs.Table.{symbols, nonterminal_of}
use Rattle.rat_parse_table.specs.Words.{reserved, is_spelled, terminal_in, word_seen, is_field_word, is_octal, text_terminal, sign_terminal, kind_terminal}
use Rattle.rat_parse_values.specs.Values.{Val, last_of, at}
use Rattle.rat_parse_values.specs.Values as val
use Rattle.rat_parse_values.specs.Kinds as part
use Rattle.rat_parse_values.specs.Parts.{name_in, number_in, integer_in, as_exprs}
use Rattle.rat_parse_values.specs.Phrases.{looped, lengthened, pended, begun}
use Rattle.rat_parse_values.specs.Plain.{counted_with}
use Rattle.rat_parse_values.specs.Statements.{labelled_value}
use Rattle.rat_parse.specs.Build.{build}
use Rattle.rat_parse.specs.Ratfor.{grammar}
use Rattle.rat_parse_kinds.specs.Kinds.{Kind, Word, Number, Mark, Nothing, Formula, Placed, AnyFormula, Formulas, Par, Range, Declareds, Datum, Entry, Rest, RestStart, Fields, WordOrFields, Deed, Command, HeadingOrDeclareds, PerhapsWord, PerhapsNumber, PerhapsMark, PerhapsFormula, PerhapsPlaced, PerhapsFormulas, PerhapsPar, PerhapsDeed, PerhapsCommand, is_token, is, of_terminal}
use Rattle.rat_parse_kinds.specs.Readings.{ASymbol, turned, symbols_back, fits, EachFits}
use Rattle.rat_parse_kinds.proofs.Seen.{untrue}

-- ---- kinds that hold others ----

abbrev pub wider : Kind → Kind
wider Word = PerhapsWord
wider Number = PerhapsNumber
wider Mark = PerhapsMark
wider Formula = PerhapsFormula
wider Placed = AnyFormula
wider Formulas = PerhapsFormulas
wider Par = PerhapsPar
wider Range = RestStart
wider Declareds = HeadingOrDeclareds
wider Fields = WordOrFields
wider Deed = PerhapsDeed
wider Command = PerhapsCommand
wider k = k

token_widens : (k : Kind) (t : TokenKind) → is_token k t ≡ true → is_token (wider k) t ≡ true
token_widens Word (tokens.Word w) h = refl
token_widens Number (tokens.Number n) h = refl
token_widens Mark tokens.LineEnd h = refl
token_widens Mark tokens.Semicolon h = refl
token_widens Mark tokens.TextEnd h = refl
token_widens Word _ h = absurd (untrue h)
token_widens Number _ h = absurd (untrue h)
token_widens Mark _ h = absurd (untrue h)
token_widens Formula _ h = absurd (untrue h)
token_widens Placed _ h = absurd (untrue h)
token_widens Formulas _ h = absurd (untrue h)
token_widens Par _ h = absurd (untrue h)
token_widens Range _ h = absurd (untrue h)
token_widens Declareds _ h = absurd (untrue h)
token_widens Fields _ h = absurd (untrue h)
token_widens Deed _ h = absurd (untrue h)
token_widens Command _ h = absurd (untrue h)
token_widens _ t h = h

widens : (k : Kind) (v : Val) → is k v ≡ true → is (wider k) v ≡ true
widens k (val.tok t) h = token_widens k t.kind h
widens Formula (val.expression (part.formula f)) h = refl
widens Placed (val.expression (part.located p f)) h = refl
widens Formulas (val.expression (part.formulas fs)) h = refl
widens Par (val.parameter (part.par p)) h = refl
widens Range (val.parameter (part.range r)) h = refl
widens Declareds (val.declaration (part.declareds ds)) h = refl
widens Fields (val.transfer (part.fields fs)) h = refl
widens Deed (val.statement (part.deed p a)) h = refl
widens Command (val.statement (part.command p c)) h = refl
widens Word _ h = absurd (untrue h)
widens Number _ h = absurd (untrue h)
widens Mark _ h = absurd (untrue h)
widens Formula _ h = absurd (untrue h)
widens Placed _ h = absurd (untrue h)
widens Formulas _ h = absurd (untrue h)
widens Par _ h = absurd (untrue h)
widens Range _ h = absurd (untrue h)
widens Declareds _ h = absurd (untrue h)
widens Fields _ h = absurd (untrue h)
widens Deed _ h = absurd (untrue h)
widens Command _ h = absurd (untrue h)
widens _ v h = h

field_word : (t : TokenKind) → is_token Word t ≡ true → is_token WordOrFields t ≡ true
field_word (tokens.Word w) h = refl
field_word _ h = absurd (untrue h)

word_is_field : (v : Val) → is Word v ≡ true → is WordOrFields v ≡ true
word_is_field (val.tok t) h = field_word t.kind h
word_is_field _ h = absurd (untrue h)

-- no part at all
empty : (k : Kind) (vs : List Val) → vs ≡ [] → is k val.nothing ≡ true → is k (last_of vs) ≡ true
empty k vs e h = subst (λ l. is k (last_of l) ≡ true) (sym e) h

-- ---- what is made by cases ----

labelled_fits : (n : ℕ) (v : Val) → is Command v ≡ true → is Command (labelled_value n v) ≡ true
labelled_fits n (val.statement (part.command p c)) h = refl
labelled_fits n _ h = h

looped_fits : (v w : Val) → is Rest w ≡ true → is Entry (looped v w) ≡ true
looped_fits v (val.transfer (part.rest r)) h = refl
looped_fits v _ h = absurd (untrue h)

lengthened_fits : (v w : Val) → is Rest w ≡ true → is Rest (lengthened v w) ≡ true
lengthened_fits v (val.transfer (part.rest r)) h = refl
lengthened_fits v _ h = absurd (untrue h)

pended_fits : (args : Option (List AFormula)) (v : Val) → is Rest v ≡ true → is RestStart (pended args v) ≡ true
pended_fits args (val.transfer (part.rest r)) h = refl
pended_fits args _ h = absurd (untrue h)

begun_fits : (x : Text) (v : Val) → is RestStart v ≡ true → is Rest (begun x v) ≡ true
begun_fits x (val.parameter (part.range r)) h = refl
begun_fits x (val.transfer (part.pending args r)) h = refl
begun_fits x _ h = absurd (untrue h)

counted_fits : (n : ℕ) (z : ℤ) (v : Val) → is Datum (counted_with n z v) ≡ true
counted_fits n z (val.expression (part.formula f)) = refl
counted_fits n z _ = refl

-- ---- productions ----

pub makes : (p : Production) (vs : List Val) → EachFits (symbols_back p) vs → fits (Nonterminal (nonterminal_of p)) (build p vs) ≡ true
makes productions.BlankLine vs h = h.0
makes productions.OneUnit vs h = h.0
makes productions.TypedMain vs h = widens Declareds (last_of vs) h.0
makes productions.OneWord vs h = h.0
makes productions.TwoWords vs h = h.1.0
makes productions.SomeFormals vs h = h.0
makes productions.BodyLine vs h = h.0
makes productions.EndingLine vs h = widens Mark (last_of vs) h.0
makes productions.EndingSign vs h = widens Mark (last_of vs) h.0
makes productions.NoEnding vs h = empty PerhapsMark vs h refl
makes productions.StatementLine vs h = h.0
makes productions.StatementItem vs h = h.0
makes productions.StatementsLine vs h = h.0
makes productions.Marked vs h = labelled_fits (number_in (at 1 vs)) (at 0 vs) h.0
makes productions.Unmarked vs h = h.0
makes productions.UntypedBare vs h = h.0
makes productions.Condition vs h = h.1.0
makes productions.ElseLine vs h = h.0
makes productions.ElseBody vs h = widens Command (last_of vs) h.0
makes productions.NoElse vs h = empty PerhapsCommand vs h refl
makes productions.UntilLine vs h = h.0
makes productions.NoUntil vs h = empty PerhapsPlaced vs h refl
makes productions.SomePart vs h = widens Deed (last_of vs) h.0
makes productions.NoPart vs h = empty PerhapsDeed vs h refl
makes productions.SomeTest vs h = widens Formula (last_of vs) h.0
makes productions.NoTest vs h = empty PerhapsFormula vs h refl
makes productions.SomeCount vs h = widens Number (last_of vs) h.0
makes productions.NoCount vs h = empty PerhapsNumber vs h refl
makes productions.SomeOutcome vs h = widens Formula (last_of vs) h.0
makes productions.NoOutcome vs h = empty PerhapsFormula vs h refl
makes productions.OneLine vs h = h.0
makes productions.NoLine vs h = empty Nothing vs h refl
makes productions.SimplePlain vs h = h.0
makes productions.GotoWord vs h = h.0
makes productions.GoToWords vs h = h.1.0
makes productions.OctalStop vs h = widens Number (last_of vs) h.0
makes productions.BareStop vs h = empty PerhapsNumber vs h refl
makes productions.ExprActual vs h = h.0
makes productions.SomeStep vs h = widens Par (last_of vs) h.0
makes productions.NoStep vs h = empty PerhapsPar vs h refl
makes productions.LoopEntry vs h = h.0
makes productions.Loop vs h = looped_fits (at 2 vs) (at 0 vs) h.0
makes productions.LoopLoop vs h = lengthened_fits (at 2 vs) (at 0 vs) h.0
makes productions.LoopName vs h = begun_fits (name_in (at 1 vs)) (at 0 vs) h.0
makes productions.LoopRange vs h = widens Range (at 1 vs) h.1.0
makes productions.LoopElement vs h = pended_fits (Some (as_exprs (at 2 vs))) (at 0 vs) h.0
makes productions.LoopScalar vs h = pended_fits None (at 0 vs) h.0
makes productions.Element vs h = h.0
makes productions.NamedFirst vs h = h.0
makes productions.SomeArea vs h = widens Word (last_of vs) h.0
makes productions.NoArea vs h = empty PerhapsWord vs h refl
makes productions.NumberDatum vs h = counted_fits (number_in (at 1 vs)) (integer_in (at 1 vs)) (at 0 vs)
makes productions.Repeated vs h = widens Formula (last_of vs) h.0
makes productions.Once vs h = empty PerhapsFormula vs h refl
makes productions.OtherConstant vs h = h.0
makes productions.EditComma vs h = h.0
makes productions.SlashComma vs h = h.0
makes productions.CountedWord vs h = word_is_field (last_of vs) h.0
makes productions.CountedGroup vs h = widens Fields (at 1 vs) h.1.0
makes productions.Affirmed vs h = h.0
makes productions.UnsignedTerm vs h = h.0
makes productions.RefPrime vs h = widens Placed (last_of vs) h.0
makes productions.SomeArguments vs h = widens Formulas (last_of vs) h.0
makes productions.NoArguments vs h = empty PerhapsFormulas vs h refl
makes productions.PlainName vs h = h.0
makes productions.FieldName vs h = h.0
makes productions.OctalNumber vs h = h.0
makes productions.DecimalNumber vs h = h.0
makes _ vs h = refl

-- ---- tokens ----

abbrev pub is_wordy : ATerminal → List ℕ → Bool
is_wordy k w = is_token (of_terminal k) (tokens.Word w)

abbrev pub all_wordy : List (List ℕ × ATerminal) → List ℕ → Bool
all_wordy [] w = true
all_wordy (x ∷ xs) w = is_wordy x.1 w && all_wordy xs w

left : (a b : Bool) → a && b ≡ true → a ≡ true
left true b h = refl
left false b h = absurd (untrue h)

right : (a b : Bool) → a && b ≡ true → b ≡ true
right true b h = h
right false b h = absurd (untrue h)

field_or_name : (b : Bool) (w : List ℕ) → is_wordy (if b then terminals.FieldWord else terminals.Name) w ≡ true
field_or_name true w = refl
field_or_name false w = refl

this_or_later : (b : Bool) (k : ATerminal) (later : Option ATerminal) (w : List ℕ) → is_wordy k w ≡ true → is_wordy (word_seen later w) w ≡ true →
    is_wordy (word_seen (if b then Some k else later) w) w ≡ true
this_or_later true k later w h g = h
this_or_later false k later w h g = g

words_fit : (xs : List (List ℕ × ATerminal)) (w : List ℕ) → all_wordy xs w ≡ true → is_wordy (word_seen (terminal_in xs w) w) w ≡ true
words_fit [] w h = field_or_name (is_field_word w) w
words_fit (x ∷ xs) w h =
    this_or_later (is_spelled x.0 w) x.1 (terminal_in xs w) w (left (is_wordy x.1 w) (all_wordy xs w) h) (words_fit xs w (right (is_wordy x.1 w) (all_wordy xs w) h))

number_fits : (b : Bool) (z : ℤ) → is_token (of_terminal (if b then terminals.Octal else terminals.Number)) (tokens.Number z) ≡ true
number_fits true z = refl
number_fits false z = refl

text_fits : (w : List ℕ) → is_token (of_terminal (text_terminal w)) (tokens.Quoted w) ≡ true
text_fits [] = refl
text_fits (c ∷ []) = refl
text_fits (c ∷ d ∷ ds) = refl

sign_fits : (s : Sign) → is_token (of_terminal (sign_terminal s)) (tokens.Sign s) ≡ true
sign_fits signs.Plus = refl
sign_fits _ = refl

token_fits : (t : TokenKind) → is_token (of_terminal (kind_terminal t)) t ≡ true
token_fits (tokens.Word w) = words_fit reserved w refl
token_fits (tokens.Number z) = number_fits (is_octal z) z
token_fits (tokens.Quoted w) = text_fits w
token_fits (tokens.Sign s) = sign_fits s
token_fits _ = refl

-- ---- derivations ----

-- the nonterminal of a production that is offered
offered_by : (n : ANonterminal) (p : Production) (ts : List Token) → Offers grammar n p ts → nonterminal_of p ≡ n
offered_by n p [] h = absurd h
offered_by n p (t ∷ ts) h = h.0

mutual
  pub gives : (c : Tree Token Production) (x : ASymbol) (ts rest : List Token) → Derives grammar c x ts rest → fits x (value_of grammar c) ≡ true
  gives (leaf t) x ts rest h = subst (λ y. fits y (val.tok t) ≡ true) (sym h.0) (token_fits t.kind)
  gives (node p cs) x ts rest h =
      subst (λ y. fits y (value_of grammar (node p cs)) ≡ true) (sym h.1)
      (subst (λ n. fits (Nonterminal n) (value_of grammar (node p cs)) ≡ true) (offered_by h.0 p ts h.2)
      (makes p (values_of grammar cs []) (all_give cs (symbols p) [] [] ts rest h.3 refl)))

  all_give : (cs : Trees Token Production) (xs done : List ASymbol) (earlier : List Val) (ts rest : List Token) → DerivesAll grammar cs xs ts rest → EachFits done earlier →
      EachFits (turned xs done) (values_of grammar cs earlier)
  all_give none xs done earlier ts rest h k = subst (λ ys. EachFits (turned ys done) earlier) (sym h.0) k
  all_give (some c cs) xs done earlier ts rest h k =
      subst (λ ys. EachFits (turned ys done) (values_of grammar cs (value_of grammar c ∷ earlier))) (sym h.3)
      (all_give cs h.1 (h.0 ∷ done) (value_of grammar c ∷ earlier) h.2 rest h.5 (gives c h.0 ts h.2 h.4, k))
