-- A small program and its unit: what is asked of programs and of units holds of them. The main sets a variable to 1 + 2.
use Rattle.std.proofs.Common.{◌≡◌, ◌≢◌, ℕ, zero, suc, ◌+◌, ◌*◌, ◌≤◌, ◌<◌, nat_eq, eqb-true, Bool, true, false, true≢false, List, [], ◌∷◌, None, refl, sym, ap, ◌∙◌, subst, arith}
use Rattle.std.specs.Prelude.{⊤, pos, ◌&&◌}
use Rattle.std.proofs.lemmas.Bool.Decides.{same_from_decides, Decides-eqb, Decides-like}
use Rattle.std.proofs.lemmas.Slice.Eq.{bytes_eq-Decides}
use Rattle.std.specs.Bool.{Decides}
use Rattle.std.specs.Str.{bytes_eq}
use Rattle.ground.specs.declared.value.Kind.{Kind}
use Rattle.ground.specs.declared.value.Kind.TheVariants.{Integer, Logical}
use Rattle.ground.specs.Content.{Nothing}
use Rattle.f66_tree.specs.declared.declaration.TypeWord.TheVariants as words
use Rattle.f66_tree.specs.declared.expression.Operator.TheVariants.{Add}
use Rattle.f66_tree.specs.Syntax.{Text, Header, MainUnit, SubUnit, Typed, Line, unlabelled_line}
use Rattle.f66_tree.specs.World.{Record, Finish, End, Ended, GoesOn, Lost}
use Rattle.f66_tree.specs.Agreement.{Agrees}
use Rattle.f66_tree.specs.Units.{is_main, position, dummies_of, kind_of, sizes_of, Note, Spot, Held, Linkage}
use Rattle.f66_tree.specs.Evaluation.{Intrinsic, Iabs, Mod, Isign, Idim, Max0, Min0, AnIntrinsic, sort_of, base_by}
use Rattle.f66_tree.specs.Execution.{nowhere, closers, f66}
use Rattle.efl_program.specs.Typed.{Scalar, Plain, Int, Pair, Assign, NoExpr, Variable, Evaluate, Stmts, NoStmt, AndStmt, Act}
use Rattle.efl_program.specs.Setting as efl
use Rattle.routes.specs.Code.{all_code}
use Rattle.efl_routes.specs.Expressions.{intrinsic_name}
use Rattle.efl_routes.specs.Statements.{all_route}
use Rattle.efl_program.specs.Meaning as meaning
use Rattle.efl_routes.proofs.Agrees.{efl_agrees}
use Rattle.routes.specs.Units.{Units, ending}
use Rattle.f66_tree.specs.OneUnit.{list_number}
use Rattle.f66_tree.proofs.ListNumbers.{numbers_differ}
use Rattle.efl_routes.specs.LoweredProgram.{Based, Begins, LoweredProgram, passed, size}

label_same : (m l : Text) → nat_eq (list_number m) (list_number l) ≡ bytes_eq m l
label_same m l =
    let units : Decides (nat_eq (list_number m) (list_number l)) (m ≡ l) = Decides-like (nat_eq (list_number m) (list_number l)) (numbers_differ m l) (λ e. ap list_number e) (Decides-eqb (list_number m) (list_number l)) in
    same_from_decides (nat_eq (list_number m) (list_number l)) (bytes_eq m l) units (bytes_eq-Decides m l)

abbrev body : Stmts
body = AndStmt (Act nowhere (Evaluate (Assign None (Variable 0 (Scalar Integer) NoExpr) (Pair (Plain Add) (Int (pos 1)) (Int (pos 2)))))) NoStmt

abbrev bit : Kind → ℕ
bit Integer = 0
bit Logical = 1

abbrev temp : Kind → ℕ → Text
temp k n = (2 + bit k + 2 * n) ∷ []

abbrev first_of : Text → ℕ
first_of [] = 0
first_of (c ∷ cs) = c

abbrev header : Bool → Header
header true = MainUnit
header false = SubUnit [] []

abbrev notes : List Note
notes = record { label = None; act = Typed words.Logical (record { name = temp Logical 0; sizes = [] } ∷ []) } ∷ []

abbrev target : Linkage
target = record { context = λ u. record { header = header (nat_eq u 0); notes = notes }; find = λ x. None; main = 0; deep = 1; number = λ u x o. first_of x; first = λ q. Nothing }

abbrev source : efl.Linkage
source = record { formals = λ v. []; owner = λ v. v; extent = λ v. 1; number = λ v k. 1; result = λ v. 0; main = 0; deep = 1; first = λ q. Nothing }

abbrev home : ℕ → Text
home x = 1 ∷ []

no_dummy : (b : Bool) (x : Text) → position x (dummies_of (header b)) ≡ None
no_dummy true x = refl
no_dummy false x = refl

main_is : (b : Bool) → is_main (header b) ≡ b
main_is true = refl
main_is false = refl

kinds : (u : ℕ) (k : Kind) (n : ℕ) → n < 1 → kind_of (target.context u) (temp k n) ≡ k
kinds u k n lt = let e : 0 ≡ n = omega (arith, lt) in subst (λ m. kind_of (target.context u) (temp k m) ≡ k) e (by_kind (nat_eq u 0) k)
  where
    by_kind : (b : Bool) (j : Kind) → kind_of (record { header = header b; notes = notes }) (temp j 0) ≡ j
    by_kind true Integer = refl
    by_kind true Logical = refl
    by_kind false Integer = refl
    by_kind false Logical = refl

plain : (k : Kind) (n : ℕ) → n < 1 → sizes_of (temp k n) notes ≡ []
plain k n lt = let e : 0 ≡ n = omega (arith, lt) in subst (λ m. sizes_of (temp k m) notes ≡ []) e (by_kind k)
  where
    by_kind : (j : Kind) → sizes_of (temp j 0) notes ≡ []
    by_kind Integer = refl
    by_kind Logical = refl

bits : (k : Kind) → bit k ≤ 1
bits Integer = omega arith
bits Logical = omega arith

known : (u : ℕ) (i : Intrinsic) → sort_of (target.context u) (intrinsic_name i) ≡ AnIntrinsic i
known u Iabs = refl
known u Mod = refl
known u Isign = refl
known u Idim = refl
known u Max0 = refl
known u Min0 = refl

abbrev Real : ℕ → Type 0
Real q = nat_eq q 1 ≡ true

abbrev is_integer : Kind → Bool
is_integer Integer = true
is_integer Logical = false

integer_of : (x : ℕ) (k : Kind) → (is_integer k && nat_eq x 0) ≡ true → k ≡ Integer
integer_of x Integer is = refl
integer_of x Logical is = absurd (true≢false (sym is))

never : false ≡ true → ⊥
never is = true≢false (sym is)

based_on : (v x : ℕ) (ps : List efl.Spot) (qs : List Spot) → size ps ≡ 0 → Based (λ q. q) Real source target (efl.base_by (efl.position x []) x ps) (base_by (position (home x) (dummies_of (header (nat_eq v 0)))) v (passed false qs) (home x))
based_on v x ps qs many = record { source = efl.Held x 0; target = Held v (home x) 0; is = refl; is1 = ap (λ o. base_by o v qs (home x)) (no_dummy (nat_eq v 0) (home x)); same = (refl, refl, refl) }

by_kind : (b : Bool) → kind_of (record { header = header b; notes = notes }) (home 0) ≡ Integer
by_kind true = refl
by_kind false = refl

abbrev program : LoweredProgram
program = record {
  source = source;
  target = target;
  bodies = λ v. body;
  code = λ u. all_route home temp (λ v. []) list_number [] body [] 0;
  unit_of = λ v. v;
  is_function = λ v. false;
  home = λ v. home;
  temp = λ v. temp;
  callee = λ v. [];
  label = λ v. list_number;
  own = λ v. [];
  gives = λ v. false;
  room = λ v. 1;
  has_scalar = λ v x k. is_integer k && nat_eq x 0;
  uses_function = λ v x k n. false;
  uses_procedure = λ v x n. false;
  is_unit = λ v. true;
  cell = λ q. q;
  is_place = λ q. nat_eq q 1;
  is_above = λ v j. false;
  lowered = λ v. refl;
  ready = λ v. (((refl, (tt, tt, tt)), omega arith), tt);
  same_label = λ v is. label_same;
  one_cell = λ q r is1 is2 e. e;
  temp_own = λ v k n lt. no_dummy (nat_eq v 0) (temp k n);
  temp_kind = kinds;
  temp_plain = λ v k n lt. plain k n lt;
  temp_apart = λ v k j m n lt lt1 apart e. apart (omega (arith, bits k, bits j, e));
  temp_no_cell = λ v k n q lt is e. omega (arith, eqb-true q 1 is, e);
  above_temp = λ v k n j lt is. absurd (never is);
  above_cell = λ v q j is out. absurd (never out);
  home_kind = λ v x k is. by_kind (nat_eq v 0) ∙ sym (integer_of x k is);
  bases = λ v x k is ps qs alike many. based_on v x ps qs many;
  main = λ v is. main_is (nat_eq v 0);
  own_based = λ v is. absurd (never is);
  own_cell = λ v is. absurd (never is);
  own_real = λ v is. absurd (never is);
  intrinsics = λ v is. known v;
  functions = λ v x k n is. absurd (never is);
  kinds = λ v x k n is. absurd (never is);
  found = λ v x k n is. absurd (never is);
  found_too = λ v x n is. absurd (never is);
  results = λ v x k n is. absurd (never is);
  reals = λ v x k n is. absurd (never is);
  arity = λ v x k n is. absurd (never is);
  arity_too = λ v x n is. absurd (never is);
  enters = λ v x k n is. absurd (never is);
  enters_too = λ v x n is. absurd (never is);
  above = λ v x k n is. absurd (never is);
  above_own = λ v x k n is. absurd (never is);
  above_too = λ v x n is. absurd (never is);
  above_own_too = λ v x n is. absurd (never is);
}

begins : Begins program
begins = record { unit = refl; main = refl; deep = refl; formals = refl; plain = refl; first = λ q is. refl }

-- ---- its unit ----

abbrev lines : Bool → List Line
lines b = unlabelled_line nowhere (Typed words.Logical (record { name = temp Logical 0; sizes = [] } ∷ [])) ∷ all_code (λ n. n) (all_route home temp (λ v. []) list_number [] body [] 0) 0 [] (ending b nowhere)

no_closers : (b : Bool) (m : ℕ) → closers m (lines b) ≡ []
no_closers true m = refl
no_closers false m = refl

abbrev units : Units
units = record {
  linked = target;
  codes = λ u. lines (is_main (header (nat_eq u 0)));
  bodies = λ u. all_route home temp (λ v. []) list_number [] body [] 0;
  made = λ u n. n;
  last = λ u. nowhere;
  executed = λ u. refl;
  placed = λ u. ((tt, (tt, tt)), tt);
  no_do = λ u m. no_closers (is_main (header (nat_eq u 0))) m;
}

-- ---- they agree ----

is_over : {e : Finish} → Ended e ≡ Lost → ⊥
is_over e = subst IsOver e tt
  where
    IsOver : End → Type 0
    IsOver (Ended f) = ⊤
    IsOver GoesOn = ⊥
    IsOver Lost = ⊥

never_lost : (b : ℕ) (input : List Record) → (meaning.efl source (λ v. body) b input).end ≢ Lost
never_lost zero input e = is_over e
never_lost (suc b) input e = is_over e

example_agrees : (input : List Record) → Agrees (λ b. meaning.efl source (λ v. body) b input) (λ n. f66 target units.codes input n)
example_agrees input = efl_agrees program begins units refl refl input (λ b. never_lost b input)
