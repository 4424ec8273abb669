-- Each unit of a program fits its cards, and its statements are as decks ask.
use Rattle.std.proofs.Common.{◌≡◌, ◌≤◌, ℕ, Bool, true, false, List, [], ◌∷◌, ◌++◌, map, length, Option, None, Some, refl, subst, arith, if◌then◌else◌}
use Rattle.std.specs.Prelude.{is_none, option_map, unwrap_or}
use Rattle.std.specs.List.{All, slice_get}
use Rattle.std.proofs.lemmas.List.{length-map}
use Rattle.std.proofs.lemmas.List.Elements.{All-nil, All-cons, All-head, All-tail}
use Rattle.ground.specs.declared.value.Kind.{Kind}
use Rattle.f66_tree.specs.Syntax.{Text, MainUnit, Line, Routine}
use Rattle.stmt_text.specs.Fitting.{IsPrintable}
use Rattle.deck.specs.Decks.{unit_cards}
use Rattle.deck_laws.specs.Whole.{IsShallowUnit}
use Rattle.plain_units.specs.Units.{IsPlainUnit}
use Rattle.plain_decks.specs.Bytes.{unit_bytes}
use Rattle.plain_decks.specs.Few.{HasFew, HasFewDummies, HasFewNames, HasWholeFormat, HasFewOperands}
use Rattle.plain_decks.proofs.Bytes.{unit_short}
use Rattle.plain_decks.proofs.Units.{unit_printable, unit_is_shallow}
use Rattle.efl_tree.specs.Syntax.{EflProcedure, EflProgram}
use Rattle.efl_scope.specs.Scopes.{meaning, outer}
use Rattle.efl_scope.specs.Marks.{program_variables, meant_by, number_of}
use Rattle.efl_types.specs.Signatures.{Result, Nothing, Gives, Unknown, result_of}
use Rattle.efl_types.specs.TypeRules as types
use Rattle.efl_typed.specs.Linking.{formals_in}
use Rattle.efl_typed.specs.Typing.{bodies_of}
use Rattle.efl_lowered.specs.Naming.{Naming}
use Rattle.efl_lowered.specs.Lowering.{declared_scalar, or_spare, named_header, header_of, dummies, routes_of, lines_of}
use Rattle.efl_lowered.specs.Facts.{is_unit, formals, gives_kind, has_scalar, is_function, uses_function, uses_procedure, AreReady}
use Rattle.efl_lowered.proofs.Lists.{some_of}
use Rattle.efl_plain.specs.Written.{AllWritten}
use Rattle.efl_plain.proofs.Alike.{function_use, procedure_use}
use Rattle.efl_plain.proofs.FewFormals.{few_formals}
use Rattle.efl_plain.proofs.PlainActs as plain
use Rattle.efl_plain.proofs.Said.{Say, lines_say}
use Rattle.efl_lower.proofs.FewExpressions.{Short, ActsShort}
use Rattle.efl_lower.proofs.FewStatements.{all_short}

-- ---- what holds of all lines ----

left_of : {X : Type 0} (P : X → Type 0) (xs ys : List X) → All P (xs ++ ys) → All P xs
left_of P [] ys h = All-nil P
left_of P (x ∷ xs) ys h = All-cons P x xs (All-head P x (xs ++ ys) h) (left_of P xs ys (All-tail P x (xs ++ ys) h))

right_of : {X : Type 0} (P : X → Type 0) (xs ys : List X) → All P (xs ++ ys) → All P ys
right_of P [] ys h = h
right_of P (x ∷ xs) ys h = right_of P xs ys (All-tail P x (xs ++ ys) h)

told : {X : Type 0} (P Q : X → Type 0) → ((x : X) → P x → Q x) → (xs : List X) → All P xs → All Q xs
told P Q f [] h = All-nil Q
told P Q f (x ∷ xs) h = All-cons Q x xs (f x (All-head P x xs h)) (told P Q f xs (All-tail P x xs h))

abbrev ShortLine : Line → Type 0
ShortLine s = Short s.act

module _ (V F : Text → Kind → Type 0) (S : Text → Type 0) (r : Routine) (unit : IsPlainUnit V F S r) (header : HasFewDummies r.header) (says : Say Short r.lines) where
  all : All ShortLine (unit.heads ++ (unit.body ++ unit.last ∷ []))
  all = subst (All ShortLine) unit.lines says

  body : All ShortLine unit.body
  body = left_of ShortLine unit.body (unit.last ∷ []) (right_of ShortLine unit.heads (unit.body ++ unit.last ∷ []) all)

  few_operands : HasFewOperands V F S r unit
  few_operands = record {
    header = header;
    heads = told ShortLine (λ s. HasFewNames s.act) (λ s h. h.2) unit.heads (left_of ShortLine unit.heads (unit.body ++ unit.last ∷ []) all);
    body = told ShortLine (λ s. HasFew s.act) (λ s h. h.0) unit.body body;
  }

  pub short_printable : IsPrintable r
  short_printable = unit_printable V F S r unit few_operands

  pub short_bytes : length (unit_cards r) ≤ unit_bytes r
  short_bytes = unit_short V F S r unit few_operands

  pub short_shallow : IsShallowUnit r
  short_shallow = unit_is_shallow V F S r unit (told ShortLine (λ s. HasWholeFormat s.act) (λ s h. h.1) unit.body body)

-- ---- units of a program ----

spare_few : (x : Text) (ds : List Text) → length ds ≤ 32 → length (or_spare x ds) ≤ 180
spare_few x [] h = omega arith
spare_few x (d ∷ ds) h = omega (h, arith)

names_few : (xs : List Text) → length xs ≤ 8 → length (map declared_scalar xs) ≤ 8
names_few xs h = let same = length-map xs declared_scalar in omega (h, same, arith)

module _ (p : EflProgram) (names : Naming) (ready : AreReady p names) (no_type : types.first_fault p ≡ None)
    (written : (n : ℕ) → is_unit p n ≡ true → (K : Kind) → ((k : Kind) → gives_kind p n k ≡ true → k ≡ K) → AllWritten K (bodies_of p n)) where
  few_in : (n : ℕ) (u : EflProcedure) → slice_get p.procedures n ≡ Some u → length (formals_in (program_variables p) n u) ≤ 32
  few_in n u here = let few = few_formals p no_type n u here in let same = length-map u.formals (λ x. number_of (program_variables p) n (meant_by [] x (meaning (outer u) x))) in omega (few, same, arith)

  few_called : (m : ℕ) → length (formals p m) ≤ 32
  few_called m = by_unit (slice_get p.procedures m) refl
    where
      by_unit : (o : Option EflProcedure) → slice_get p.procedures m ≡ o → length (unwrap_or (option_map (formals_in (program_variables p) m) o) []) ≤ 32
      by_unit None e = omega arith
      by_unit (Some u) e = few_in m u e

  acts_short : (n : ℕ) → is_unit p n ≡ true → ActsShort (routes_of names p n)
  acts_short n is =
      let w = some_of (slice_get p.procedures n) is in
      let K = plain.K p names ready n w.0 w.1 in
      all_short names.home names.temp names.callee (names.label n) (names.callee n) (λ v k. has_scalar p n v k ≡ true) (λ m k c. uses_function p n m k c ≡ true) (λ m c. uses_procedure p n m c ≡ true) (names.room n) (is_function p n ≡ true) K
      (λ m k c h. let same = (function_use p n m k c h).0.counts in let few = few_called m in omega (same, few, arith))
      (λ m c h. let same = (procedure_use p n m c h).0.counts in let few = few_called m in omega (same, few, arith))
      (bodies_of p n) [] 0 (ready.bodies n is) (written n is K (plain.given_alone p names ready n w.0 w.1))

  pub lines_short : (n : ℕ) (u : EflProcedure) → is_unit p n ≡ true → Say Short (lines_of names p n u)
  lines_short n u is = lines_say Short (λ t xs le. (tt, tt, names_few xs le)) (λ l. (tt, tt, tt)) (tt, tt, tt) (tt, tt, tt) (tt, tt, tt) p names n u (acts_short n is)

  pub header_short : (n : ℕ) (u : EflProcedure) → slice_get p.procedures n ≡ Some u → HasFewDummies (header_of names (program_variables p) n u)
  header_short n u here = by_main (is_none u.name)
    where
      few : length (dummies names (program_variables p) n u) ≤ 32
      few = let le = few_in n u here in let same = length-map (formals_in (program_variables p) n u) names.home in omega (le, same, arith)

      by_result : (r : Result) → HasFewDummies (named_header names n r (dummies names (program_variables p) n u))
      by_result (Gives k) = spare_few (names.temp _ (names.room n)) (dummies names (program_variables p) n u) few
      by_result Nothing = omega (few, arith)
      by_result Unknown = omega (few, arith)

      by_main : (b : Bool) → HasFewDummies (if b then MainUnit else named_header names n (result_of u.result) (dummies names (program_variables p) n u))
      by_main true = tt
      by_main false = by_result (result_of u.result)
