-- The text of a plain statement with few operands fits its cards, and so do type statements of few names and headers of few dummies.
use Rattle.std.proofs.Common.{◌≡◌, ◌≤◌, ◌+◌, ◌*◌, ℕ, List, [], ◌∷◌, ◌++◌, length, Some, None, sym, subst, arith, inl, inr}
use Rattle.std.specs.Prelude.{decimal, codes}
use Rattle.std.specs.List.{All}
use Rattle.std.proofs.lemmas.List.Elements.{All-head, All-tail}
use Rattle.ground.specs.declared.value.Kind.{Kind}
use Rattle.f66_tree.specs.declared.declaration.TypeWord.{TypeWord}
use Rattle.f66_tree.specs.declared.declaration.TypeWord.TheVariants as words
use Rattle.f66_tree.specs.Syntax.{Text, Item, Ref, Declared, Header, MainUnit, SubUnit, FuncUnit, Act, Assign, Goto, When, Invoke, Continue, Stop, Return, Read, Write, Format, Typed, Line, Par, Entries}
use Rattle.f66_tree.specs.Units.{Context}
use Rattle.stmt_text.specs.Characters.{closing, comma, equals, opening}
use Rattle.stmt_text.specs.Texts.{statement_text, header_text, type_text, declared_text, more_commas, commas, name_text, in_parentheses, arguments_text, entries_text, par_text, formula_text}
use Rattle.plain_units.specs.Plain.{IsPlain, IsUnit, AreListed}
use Rattle.plain_units.specs.Known.{AreKnown, AreDummies, IsPlainHeader, IsGiven, IsTyping, IsHead}
use Rattle.plain_decks.specs.Few.{dummies_of, entries_of, width_of_act, HasFew, NamesShortLabel, HasFewNames, HasFewDummies}
use Rattle.plain_decks.proofs.Numbers.{name_length, label_length}
use Rattle.plain_decks.proofs.Formats.{length-fields_text}
use Rattle.plain_decks.proofs.Operands.{call_length, value_length, test_length, unit_length, listed_length}

-- ---- statements ----

type_length : (t : TypeWord) (k : List ℕ) → length (type_text t ++ k) ≤ 8 + length k
type_length words.Integer k = omega arith
type_length words.Logical k = omega arith
type_length words.Other k = omega arith

few_wide : (a : Act) → HasFew a → width_of_act a ≤ 1320
few_wide (Assign x (Item f es)) few = omega (arith, few)
few_wide (Invoke x es) few = omega (arith, few)
few_wide (Read u l es) few = omega (arith, few)
few_wide (Write u l es) few = omega (arith, few)
few_wide (Format fs) few = omega (arith, few)
few_wide a few = omega arith

module _ (V F : Text → Kind → Type 0) (S : Text → Type 0) (c : Context) (known : AreKnown V F S c) where
  transfer_length : (u : Par) (l : ℕ) (es : Entries) → IsUnit V F S u → AreListed V F S es → l ≤ 99999 → length (par_text u (comma ∷ decimal l ++ closing ∷ entries_text es [])) ≤ 17 + 7 * entries_of es
  transfer_length u l es n h low =
      omega (arith, unit_length V F S c known u (comma ∷ decimal l ++ closing ∷ entries_text es []) n, label_length l (closing ∷ entries_text es []) low, listed_length V F S c known es [] h)

  pub act_length : (a : Act) → IsPlain V F S a → NamesShortLabel a → length (statement_text a) ≤ width_of_act a
  act_length (Assign (Ref x) e) h low = omega (arith, name_length x (equals ∷ formula_text e []) (known.variables x h.0 h.1).0.text.short, value_length V F S c known e h.0 [] h.2)
  act_length (When e (Goto l)) h low = omega (arith, test_length V F S c known e (closing ∷ codes "GO TO " ++ (decimal l ++ [])) h, label_length l [] low)
  act_length (Goto l) h low = omega (arith, label_length l [] low)
  act_length Continue h low = omega arith
  act_length Return h low = omega arith
  act_length (Stop None) h low = omega arith
  act_length (Stop (Some n)) h low = absurd (let e : Some n ≡ None = h in cc)
  act_length (Invoke x es) h low = omega (arith, name_length x (arguments_text es []) (known.called x h.0).text.short, call_length V F S c known es [] h.1)
  act_length (Read u l es) h low = omega (arith, transfer_length u l es h.0 h.1 low)
  act_length (Write u l es) h low = omega (arith, transfer_length u l es h.0 h.1 low)
  act_length (Format fs) h low = omega (arith, length-fields_text fs (closing ∷ []))
  act_length a h low = absurd h

  pub fits : (a : Act) → IsPlain V F S a → HasFew a → NamesShortLabel a → length (statement_text a) ≤ 1320
  fits a h few low = omega (arith, act_length a h low, few_wide a few)

  -- ---- type statements ----

  given_length : (h : Header) (j : Kind) (d : Declared) (t : List ℕ) → IsGiven V F S h j d → length (declared_text d t) ≤ 6 + length t
  given_length h j d t g =
      subst (λ ps. length (d.name ++ in_parentheses par_text ps t) ≤ 6 + length t) (sym g.sizes)
      (elim g.is [ inl v ↦ name_length d.name t (known.variables d.name j v).0.text.short | inr f ↦ name_length d.name t (known.functions d.name j f).0.text.short ])

  more_given : (h : Header) (j : Kind) (ds : List Declared) (t : List ℕ) → All (λ d. IsGiven V F S h j d) ds → length (more_commas declared_text ds t) ≤ 7 * length ds + length t
  more_given h j [] t all = omega arith
  more_given h j (d ∷ ds) t all =
      omega (arith, given_length h j d (more_commas declared_text ds t) (All-head (λ d. IsGiven V F S h j d) d ds all), more_given h j ds t (All-tail (λ d. IsGiven V F S h j d) d ds all))

  all_given : (h : Header) (j : Kind) (ds : List Declared) (t : List ℕ) → All (λ d. IsGiven V F S h j d) ds → length (commas declared_text ds t) ≤ 7 * length ds + length t
  all_given h j [] t all = omega arith
  all_given h j (d ∷ ds) t all =
      omega (arith, given_length h j d (more_commas declared_text ds t) (All-head (λ d. IsGiven V F S h j d) d ds all), more_given h j ds t (All-tail (λ d. IsGiven V F S h j d) d ds all))

  pub typing_length : (h : Header) (t : TypeWord) (ds : List Declared) → IsTyping V F S h (Typed t ds) → length (statement_text (Typed t ds)) ≤ 8 + 7 * length ds
  typing_length h t ds is = omega (arith, type_length t (commas declared_text ds []), all_given h is.0 ds [] is.3)

  typing_fits : (h : Header) (a : Act) → IsTyping V F S h a → HasFewNames a → length (statement_text a) ≤ 1320
  typing_fits h (Typed t ds) is few = omega (arith, few, typing_length h t ds is)
  typing_fits h a is few = absurd is

  pub head_fits : (h : Header) (s : Line) → IsHead V F S h s → HasFewNames s.act → length (statement_text s.act) ≤ 1320
  head_fits h s is few = typing_fits h s.act is.typing few

  -- ---- headers ----

  dummy_length : (x : Text) (k : Kind) (t : List ℕ) → V x k → length (name_text x t) ≤ 6 + length t
  dummy_length x k t v = name_length x t (known.variables x k v).0.text.short

  more_dummies : (ds : List Text) (t : List ℕ) → AreDummies V F S ds → length (more_commas name_text ds t) ≤ 7 * length ds + length t
  more_dummies [] t all = omega arith
  more_dummies (x ∷ ds) t all = omega (arith, dummy_length x all.0.0 (more_commas name_text ds t) all.0.1, more_dummies ds t all.1)

  dummies_length : (ds : List Text) (t : List ℕ) → AreDummies V F S ds → length (commas name_text ds t) ≤ 7 * length ds + length t
  dummies_length [] t all = omega arith
  dummies_length (x ∷ ds) t all = omega (arith, dummy_length x all.0.0 (more_commas name_text ds t) all.0.1, more_dummies ds t all.1)

  some_dummies : (ds : List Text) (t : List ℕ) → AreDummies V F S ds → length (in_parentheses name_text ds t) ≤ 2 + 7 * length ds + length t
  some_dummies [] t all = omega arith
  some_dummies (x ∷ ds) t all = omega (arith, dummies_length (x ∷ ds) (closing ∷ t) all)

  pub header_length : (h : Header) → IsPlainHeader V F S h → length (header_text h) ≤ 25 + 7 * dummies_of h
  header_length MainUnit is = omega arith
  header_length (SubUnit x ds) is = omega (arith, name_length x (in_parentheses name_text ds []) is.0.short, some_dummies ds [] is.2)
  header_length (FuncUnit (Some t) x ds) is =
      omega (arith, type_length t (codes "FUNCTION " ++ x ++ opening ∷ commas name_text ds (closing ∷ [])), dummy_length x is.0.0 (opening ∷ commas name_text ds (closing ∷ [])) is.0.2, dummies_length ds (closing ∷ []) is.3)
  header_length h is = absurd is

  pub header_fits : (h : Header) → IsPlainHeader V F S h → HasFewDummies h → length (header_text h) ≤ 1320
  header_fits MainUnit is few = omega arith
  header_fits (SubUnit x ds) is few = omega (arith, few, header_length (SubUnit x ds) is)
  header_fits (FuncUnit (Some t) x ds) is few = omega (arith, few, header_length (FuncUnit (Some t) x ds) is)
  header_fits h is few = absurd is
