-- A program of a main, a subroutine and a function that share a block and an array with an adjustable dimension: its units are sound,
-- its calls are complete, and so it never goes wrong.
use Rattle.std.proofs.Common.{◌≡◌, ◌<◌, ℕ, zero, suc, Bool, true, false, true≢false, List, [], ◌∷◌, length, Option, Some, None, codes, refl, ap, sym, ◌∙◌, subst, arith, inl, inr}
use Rattle.std.specs.Prelude.{pos, not, is_none, ◌&&◌, if◌then◌else◌}
use Rattle.std.specs.Str.{bytes_eq}
use Rattle.std.specs.List.{All, Contains, slice_get, list_all, slice_index_or}
use Rattle.std.proofs.lemmas.Bool.{and_parts, cases_lt}
use Rattle.std.proofs.lemmas.Option.{slice_get_past}
use Rattle.rule_table.specs.declared.rule.Rule.{Rule}
use Rattle.rule_table.specs.FaultRules.{first_rule}
use Rattle.rule_table.specs.Words.{is_some_and}
use Rattle.rule_table.proofs.RuleLemmas.{first_rule-least}
use Rattle.f66_tree.specs.declared.expression.Operator.TheVariants.{Add}
use Rattle.f66_tree.specs.Syntax.{Text, Formula, Int, Ref, Item, Pair, NoFormula, AndFormula, Constant, Named, MainUnit, SubUnit, FuncUnit, Act, Assign, Loop, Invoke, Stop, Return, Dimension, Common, Line, unlabelled_line, labelled_line, Routine}
use Rattle.f66_tree.specs.Units.{Context, Linkage}
use Rattle.f66_tree.specs.World.{fresh, Done, Ended}
use Rattle.f66_tree.specs.Execution.{nowhere, f66}
use Rattle.f66_tree.specs.OneUnit.{list_number}
use Rattle.f66_flow.specs.declared.scope.Scope.TheVariants.{Whole}
use Rattle.f66_soundness.specs.SoundUnits.{acts_in_unit}
use Rattle.f66_check.specs.CheckRules as check
use Rattle.f66_check.specs.UnitChecks.{breaks_statement, breaks_unit}
use Rattle.f66_check.specs.Answers.{IsSoundUnit}
use Rattle.f66_program.specs.Mentions.{context_of}
use Rattle.f66_program.specs.Calls.{Call, calls_in, unit_named, miscounts}
use Rattle.f66_program.specs.Linking.{Program, Part, HasCall}
use Rattle.linked_soundness.specs.Laws.{IsComplete, IsCallLinkage, NeverEndsWrong}
use Rattle.linked_soundness.proofs.ProgramLemmas.{complete_never_wrong}

abbrev pub i : Text
i = codes "I"

abbrev pub k : Text
k = codes "K"

abbrev pub l : Text
l = codes "L"

abbrev pub m : Text
m = codes "M"

abbrev pub n : Text
n = codes "N"

abbrev pub fill : Text
fill = codes "FILL"

abbrev pub last : Text
last = codes "LAST"

abbrev pub says : Act → Line
says a = unlabelled_line nowhere a

abbrev pub of_one : Text → Formula → Formula
of_one x a = Item x (AndFormula a NoFormula)

-- COMMON N
abbrev pub shared : Act
shared = Common (record { name = None; list = record { name = n; sizes = [] } ∷ [] } ∷ [])

-- DIMENSION L(M)
abbrev pub adjustable : Act
adjustable = Dimension (record { name = l; sizes = Named m ∷ [] } ∷ [])

--       COMMON N
--       DIMENSION K(3)
--       N = 3
--       CALL FILL(K, N)
--       I = LAST(K, N) + 1
--       STOP
--       END
abbrev pub main : Routine
main = record {
  header = MainUnit;
  lines =
      says shared
      ∷ says (Dimension (record { name = k; sizes = Constant (pos 3) ∷ [] } ∷ []))
      ∷ says (Assign (Ref n) (Int (pos 3)))
      ∷ says (Invoke fill (AndFormula (Ref k) (AndFormula (Ref n) NoFormula)))
      ∷ says (Assign (Ref i) (Pair Add (Item last (AndFormula (Ref k) (AndFormula (Ref n) NoFormula))) (Int (pos 1))))
      ∷ says (Stop None)
      ∷ [];
  place = nowhere;
}

--       SUBROUTINE FILL(L, M)
--       DIMENSION L(M)
--       DO 10 I = 1, M, 1
--    10 L(I) = I
--       RETURN
--       END
abbrev pub subroutine : Routine
subroutine = record {
  header = SubUnit fill (l ∷ m ∷ []);
  lines =
      says adjustable
      ∷ says (Loop 10 i (Constant (pos 1)) (Named m) (Constant (pos 1)))
      ∷ labelled_line 10 nowhere (Assign (of_one l (Ref i)) (Ref i))
      ∷ says Return
      ∷ [];
  place = nowhere;
}

--       FUNCTION LAST(L, M)
--       COMMON N
--       DIMENSION L(M)
--       LAST = L(M) + N
--       RETURN
--       END
abbrev pub function : Routine
function = record {
  header = FuncUnit None last (l ∷ m ∷ []);
  lines =
      says shared
      ∷ says adjustable
      ∷ says (Assign (Ref last) (Pair Add (of_one l (Ref m)) (Ref n)))
      ∷ says Return
      ∷ [];
  place = nowhere;
}

abbrev nothing : Context
nothing = record { header = MainUnit; notes = [] }

abbrev units : List Routine
units = main ∷ subroutine ∷ function ∷ []

abbrev program : Program
program = record { units = units; finish = nowhere }

-- ---- each unit is sound ----

-- its first parts break no rule
abbrev clean_to : Routine → ℕ → Bool
clean_to u zero = true
clean_to u (suc part) = clean_to u part && is_none (first_rule (breaks_unit Whole u part))

none_there : (o : Option Rule) → is_none o ≡ true → None ≡ o
none_there None e = refl
none_there (Some rule) e = cc

clean_at : (u : Routine) (count : ℕ) → clean_to u count ≡ true → (part : ℕ) (rule : Rule) → part < count → breaks_unit Whole u part rule ≡ false
clean_at u zero h part rule lt = absurd (omega (arith, lt))
clean_at u (suc count) h part rule lt =
    let p = and_parts (clean_to u count) _ h in
    elim (cases_lt part count) [
      | inl less ↦ clean_at u count p.0 part rule less
      | inr most ↦
          let same : count ≡ part = omega (arith, lt, most) in
          subst (λ c. breaks_unit Whole u c rule ≡ false) same (first_rule-least (breaks_unit Whole u count) None (none_there (first_rule (breaks_unit Whole u count)) p.1) rule)
    ]

past : (u : Routine) (part : ℕ) (rule : Rule) → length u.lines < part → breaks_unit Whole u part rule ≡ false
past u zero rule lt = absurd (omega (arith, lt))
past u (suc part) rule lt =
    ap (is_some_and (λ s. breaks_statement Whole (check.context_of u) (acts_in_unit u.lines) u.lines part s rule)) (slice_get_past u.lines part (omega (arith, lt)))

sound_by : (u : Routine) → clean_to u (suc (length u.lines)) ≡ true → IsSoundUnit u
sound_by u h = record {
  clean = λ part rule. elim (cases_lt part (suc (length u.lines))) [ inl less ↦ clean_at u (suc (length u.lines)) h part rule less | inr most ↦ past u part rule (omega (arith, most)) ];
}

units_sound : All IsSoundUnit units
units_sound zero d lt = sound_by main refl
units_sound (suc zero) d lt = sound_by subroutine refl
units_sound (suc (suc zero)) d lt = sound_by function refl
units_sound (suc (suc (suc u))) d lt = absurd (omega (arith, lt))

-- ---- its calls are complete ----

all_at : {X : Type 0} (test : X → Bool) (xs : List X) (j : ℕ) (x : X) → list_all test xs ≡ true → slice_get xs j ≡ Some x → test x ≡ true
all_at test [] j x h is = let q : ⊥ = cc in absurd q
all_at test (y ∷ ys) zero x h is = let same : y ≡ x = cc in subst (λ z. test z ≡ true) same (and_parts (test y) _ h).0
all_at test (y ∷ ys) (suc j) x h is = all_at test ys j x (and_parts (test y) _ h).1 is

all_contained : {X : Type 0} (test : X → Bool) (xs : List X) (x : X) → list_all test xs ≡ true → Contains xs x → test x ≡ true
all_contained {X} test xs x h c = by_place xs c.0 h c.1 c.2
  where
    by_place : (ys : List X) (j : ℕ) → list_all test ys ≡ true → j < length ys → slice_index_or ys j x ≡ x → test x ≡ true
    by_place [] j g lt is = absurd (omega (arith, lt))
    by_place (y ∷ ys) zero g lt is = subst (λ z. test z ≡ true) is (and_parts (test y) _ g).0
    by_place (y ∷ ys) (suc j) g lt is = by_place ys j (and_parts (test y) _ g).1 (omega (arith, lt)) is

-- the call leads to a unit with as many dummies
abbrev is_fit : List Routine → Call → Bool
is_fit rs c = is_some_and (λ v. is_some_and (λ r. not (miscounts c r)) (slice_get rs v)) (unit_named c.name rs)

abbrev are_fit : List Routine → Bool
are_fit rs = list_all (λ r. list_all (λ s. list_all (is_fit rs) (calls_in (context_of r) s.act)) r.lines) rs

fit_at : (p : Program) → are_fit p.units ≡ true → (q : Part) (Holds : Context → Call → Type 0) (h : HasCall p q Holds) → is_fit p.units h.call ≡ true
fit_at p fit q Holds h =
    let at = h.at in
    let unit_fits = all_at (λ r. list_all (λ s. list_all (is_fit p.units) (calls_in (context_of r) s.act)) r.lines) p.units q.unit at.unit fit at.here in
    let line_fits = all_at (λ s. list_all (is_fit p.units) (calls_in (context_of at.unit) s.act)) at.unit.lines at.index at.line unit_fits at.stands in
    all_contained (is_fit p.units) (calls_in (context_of at.unit) at.line.act) h.call line_fits h.called

complete : (p : Program) → are_fit p.units ≡ true → IsComplete p
complete p fit = record {
  there = λ q h.
      let e = fit_at p fit q (λ c call. unit_named call.name p.units ≡ None) h in
      absurd (true≢false (sym e ∙ ap (λ o. is_some_and (λ v. is_some_and (λ r. not (miscounts h.call r)) (slice_get p.units v)) o) h.holds));
  counted = λ q h.
      let e = fit_at p fit q _ h in
      let t = h.holds in
      absurd (true≢false (sym e ∙ ap (λ o. is_some_and (λ v. is_some_and (λ r. not (miscounts h.call r)) (slice_get p.units v)) o) t.to
      ∙ ap (λ o. is_some_and (λ r. not (miscounts h.call r)) o) t.here ∙ ap not t.holds));
}

-- ---- and so it never goes wrong ----

-- what a run of units goes by, whatever the numbers of their places are
abbrev pub linkage_of : List Routine → (ℕ → Text → ℕ → ℕ) → Linkage
linkage_of rs number = record {
  context = λ u. elim (slice_get rs u) [ Some r ↦ context_of r | None ↦ nothing ];
  find = λ x. unit_named x rs;
  main = 0;
  deep = length rs;
  number = number;
  first = fresh [];
}

abbrev pub lines_of : List Routine → ℕ → List Line
lines_of rs u = elim (slice_get rs u) [ Some r ↦ r.lines | None ↦ [] ]

linked : (number : ℕ → Text → ℕ → ℕ) → IsCallLinkage units (linkage_of units number)
linked number = record {
  contexts = λ u r here. ap (λ o. elim o [ Some s ↦ context_of s | None ↦ nothing ]) here;
  finds = λ x. refl;
  main = (main, refl, refl);
}

never_wrong : (number : ℕ → Text → ℕ → ℕ) → NeverEndsWrong (linkage_of units number) (lines_of units)
never_wrong number =
    complete_never_wrong program units_sound (complete program refl) (linkage_of units number) (linked number) (lines_of units) (λ u r here. ap (λ o. elim o [ Some s ↦ s.lines | None ↦ [] ]) here)

-- N is shared, all other names have places of their own
abbrev sharing : ℕ → Text → ℕ → ℕ
sharing u x o = list_number ((if bytes_eq x n then 0 else u) ∷ o ∷ x)

-- and where the block is shared the run ends as it should
ends_well : (f66 (linkage_of units sharing) (lines_of units) [] 20).end ≡ Ended Done
ends_well = refl
