-- Where no format begins so, none does with more tokens; and the parentheses that are open, the innermost last in memory.
use Rattle.std.proofs.Common.{◌≡◌, ℕ, ◌+◌, ◌<◌, Bool, true, false, Option, Some, None, List, [], ◌∷◌, ◌++◌, length, get_or, drop, refl, sym, ap, ◌∙◌}
use Rattle.std.proofs.lemmas.Bool.{false≢true}
use Rattle.std.proofs.lemmas.List.{at_drop_more}
use Rattle.f66_tree.specs.Syntax.{Text}
use Rattle.stmt_reader.specs.declared.token.Token.{Token}
use Rattle.stmt_reader.specs.declared.token.Token.TheVariants as t
use Rattle.stmt_reader.specs.Formats as f
use Rattle.stmt_formats.specs.declared.places.Around.{Around}
use Rattle.stmt_formats.specs.States.{around_of, arounds_onto, has_some}

stays_lost : (tokens : List Token) → f.take_all f.Lost tokens ≡ f.Lost
stays_lost [] = refl
stays_lost (token ∷ tokens) = stays_lost tokens

pub lost_from : (p : f.Place) (tokens : List Token) (i : ℕ) (token : Token) → i < length tokens → token ≡ get_or tokens i token → f.Lost ≡ f.take p token → None ≡ f.all_taken (f.take_all p (drop i tokens))
lost_from p tokens i token within is lost =
    sym (at_drop_more (λ (ts : List Token). f.all_taken (f.take_all p ts)) tokens i token within
    ∙ ap (λ (y : Token). f.all_taken (f.take_all (f.take p y) (drop (i + 1) tokens))) (sym is)
    ∙ ap (λ (q : f.Place). f.all_taken (f.take_all q (drop (i + 1) tokens))) (sym lost)
    ∙ ap f.all_taken (stays_lost (drop (i + 1) tokens)))

pub around_last : (all : List Around) (a : Around) (below : List f.Around) → arounds_onto (all ++ a ∷ []) below ≡ around_of a ∷ arounds_onto all below
around_last [] a below = refl
around_last (b ∷ all) a below = around_last all a (around_of b ∷ below)

pub around_popped : (old new : List Around) (outer : Around) → old ≡ new ++ outer ∷ [] → arounds_onto old [] ≡ around_of outer ∷ arounds_onto new []
around_popped old new outer is = ap (λ (all : List Around). arounds_onto all []) is ∙ around_last new outer []

some_below : (all : List Around) (a : f.Around) (below : List f.Around) → has_some (arounds_onto all (a ∷ below)) ≡ true
some_below [] a below = refl
some_below (b ∷ all) a below = some_below all (around_of b) (a ∷ below)

pub some_around : (all : List Around) → has_some (arounds_onto all []) ≡ has_some all
some_around [] = refl
some_around (b ∷ all) = some_below all (around_of b) []

pub counted_none : (around : List f.Around) (before : List f.Item) (n : ℕ) → f.all_taken (f.At around before (Some n)) ≡ None
counted_none [] before n = refl
counted_none (a ∷ around) before n = refl

pub some_open : (around : List f.Around) (before : List f.Item) → has_some around ≡ true → None ≡ f.all_taken (f.At around before None)
some_open [] before is = absurd (false≢true is)
some_open (a ∷ around) before is = refl

pub none_open : (around : List f.Around) (before : List f.Item) → has_some around ≡ false → f.all_taken (f.At around before None) ≡ Some (f.items before)
none_open [] before is = refl
none_open (a ∷ around) before is = absurd (false≢true (sym is))

pub take_word : (around : List f.Around) (before : List f.Item) (n : Option ℕ) (w : Text) → f.take (f.At around before n) (t.Word w) ≡ f.At around (before ++ f.Edit n w ∷ []) None
take_word around before None w = refl
take_word around before (Some n) w = refl

pub take_open : (around : List f.Around) (before : List f.Item) (n : Option ℕ) → f.take (f.At around before n) t.Open ≡ f.At (record { count = n; before = before } ∷ around) [] None
take_open around before None = refl
take_open around before (Some n) = refl
