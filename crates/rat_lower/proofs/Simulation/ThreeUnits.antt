-- A linked program whose main has a switch and calls a function of Ratfor, which calls one of FORTRAN beside: what is asked of a
-- linked program can be met.
use Rattle.std.proofs.Common.{◌≡◌, ◌≢◌, ℕ, zero, suc, ◌+◌, ◌<◌, Bool, true, false, true≢false, List, [], ◌∷◌, Option, Some, None, refl, sym, ap, ◌∙◌, subst, arith}
use Rattle.std.specs.Prelude.{pos, codes, if◌then◌else◌, ⊤}
use Rattle.std.specs.Str.{bytes_eq}
use Rattle.std.proofs.lemmas.Slice.Eq.{bytes_eq-Decides}
use Rattle.f66_tree.specs.Syntax.{Text, Header, MainUnit, FuncUnit, Assign, Int, Ref, Item, NoFormula, AndFormula, Line, unlabelled_line}
use Rattle.f66_tree.specs.World.{Record, fresh}
use Rattle.f66_tree.specs.Units.{name_of, Note, Linkage}
use Rattle.f66_tree.specs.Uses.{NamesOfLinesBy}
use Rattle.f66_tree.specs.Execution.{nowhere, f66}
use Rattle.f66_tree.specs.Agreement.{Agrees}
use Rattle.f66_tree.specs.OneUnit.{list_number}
use Rattle.f66_tree.proofs.ListNumbers.{numbers_differ}
use Rattle.rat_tree.specs.Syntax.{Commands, NoCommand, AndCommand, NoClause, AndClause, Switch, Return, Plain}
use Rattle.rat_tree.specs.Meaning.{Body, Ours, Theirs}
use Rattle.rat_lower.specs.Code.{unit_code}
use Rattle.rat_lower.specs.Checked.{Lacks, IsChecked}
use Rattle.rat_lower.specs.Linkages.{means_linked}
use Rattle.rat_lower.proofs.Simulation.SpareNotes.{spare_note}
use Rattle.rat_lower.proofs.Simulation.Linked.{Below}
use Rattle.rat_lower.proofs.Simulation.OneLinkage.{IsMade, AreLinked, units_agree}

abbrev i : Text
i = codes "I"

abbrev j : Text
j = codes "J"

abbrev nf : Text
nf = codes "NF"

abbrev ns : Text
ns = codes "NS"

abbrev z : Text
z = codes "Z00001"

abbrev header_at : ℕ → Header
header_at zero = MainUnit
header_at (suc zero) = FuncUnit None nf (j ∷ [])
header_at (suc (suc u)) = FuncUnit None ns (j ∷ [])

-- switch (nf(i)) { case 1: i = 2 }
abbrev main_body : Commands
main_body =
    AndCommand (Switch nowhere (Item nf (AndFormula (Ref i) NoFormula)) (AndClause (AndFormula (Int (pos 1)) NoFormula) false (AndCommand (Plain None nowhere (Assign (Ref i) (Int (pos 2)))) NoCommand) nowhere NoClause)) NoCommand

-- return (ns(j))
abbrev function_body : Commands
function_body = AndCommand (Return nowhere (Some (Item ns (AndFormula (Ref j) NoFormula)))) NoCommand

-- NS=J
abbrev lines_beside : List Line
lines_beside = unlabelled_line nowhere (Assign (Ref ns) (Ref j)) ∷ []

abbrev body_at : ℕ → Body
body_at zero = Ours main_body
body_at (suc zero) = Ours function_body
body_at (suc (suc u)) = Theirs lines_beside

abbrev made : ℕ → ℕ
made k = 23000 + k

abbrev code_at : ℕ → List Line
code_at zero = unit_code made z MainUnit nowhere nowhere main_body
code_at (suc zero) = unit_code made z (FuncUnit None nf (j ∷ [])) nowhere nowhere function_body
code_at (suc (suc u)) = lines_beside

abbrev spare_at : ℕ → Option Text
spare_at zero = Some z
spare_at (suc u) = None

abbrev notes_at : ℕ → List Note
notes_at zero = spare_note z ∷ []
notes_at (suc u) = []

abbrev rank_at : ℕ → ℕ
rank_at zero = 2
rank_at (suc zero) = 1
rank_at (suc (suc u)) = 0

-- each place of each name of each unit is a storage unit of its own
abbrev linkage : Linkage
linkage = record {
  context = λ u. record { header = header_at u; notes = notes_at u };
  find = λ x. if bytes_eq x nf then Some 1 else (if bytes_eq x ns then Some 2 else None);
  main = 0;
  deep = 3;
  number = λ u x o. list_number (u ∷ o ∷ x);
  first = fresh [];
}

differs : (x y : Text) → bytes_eq x y ≡ false → x ≢ y
differs x y e same = absurd (true≢false (sym ((bytes_eq-Decides x y).1 same) ∙ e))

lacks_z : Lacks z MainUnit main_body
lacks_z = record {
  own = differs [] z refl;
  dummies = refl;
  statements = (((differs nf z refl, (differs i z refl, tt)), ((tt, tt), ((differs i z refl, tt), tt), tt)), tt);
  dimensions = tt;
}

main_checked : IsChecked made z MainUnit main_body
main_checked = record { built = (((tt, tt), tt), tt); fits = (((tt, tt), tt), tt); lands = (((tt, tt), tt), tt); once = λ l. omega arith; rises = λ a b lt. omega arith; unused = λ k. refl; spared = λ there. lacks_z }

function_checked : IsChecked made z (FuncUnit None nf (j ∷ [])) function_body
function_checked = record { built = (tt, tt); fits = (tt, tt); lands = (tt, tt); once = λ l. omega arith; rises = λ a b lt. omega arith; unused = λ k. refl; spared = λ there. absurd (true≢false (sym there)) }

unit_at : (u : ℕ) → IsMade (linkage.context u) (spare_at u) (body_at u) (code_at u)
unit_at zero = record { made = made; name = z; first = nowhere; last = nowhere; checked = main_checked; is_code = refl; is_spare = refl; notes = refl }
unit_at (suc zero) = record { made = made; name = z; first = nowhere; last = nowhere; checked = function_checked; is_code = refl; is_spare = refl; notes = refl }
unit_at (suc (suc u)) = (refl, refl)

abbrev IsBelow : ℕ → Option ℕ → Type 0
IsBelow u None = ⊤
IsBelow u (Some v) = rank_at v < rank_at u

calls_below : (u : ℕ) → NamesOfLinesBy (Below linkage rank_at u) (code_at u)
calls_below zero = (tt, ((tt, (λ is v e. subst (IsBelow 0) e (omega arith), (tt, tt))), (((tt, tt), tt), (tt, (tt, ((tt, tt), (tt, (tt, (tt, tt)))))))))
calls_below (suc zero) = ((tt, (λ is v e. subst (IsBelow 1) e (omega arith), (tt, tt))), (tt, tt))
calls_below (suc (suc u)) = ((tt, tt), tt)

-- a name that is found is that of its unit
abbrev IsNamed : Text → Option ℕ → Type 0
IsNamed x None = ⊤
IsNamed x (Some v) = name_of (header_at v) ≡ x

named : (x : Text) (v : ℕ) → linkage.find x ≡ Some v → name_of (header_at v) ≡ x
named x v e = subst (IsNamed x) e (by_names (bytes_eq x nf) (bytes_eq x ns) (bytes_eq-Decides x nf).0 (bytes_eq-Decides x ns).0)
  where
    by_names : (a b : Bool) → (a ≡ true → x ≡ nf) → (b ≡ true → x ≡ ns) → IsNamed x (if a then Some 1 else (if b then Some 2 else None))
    by_names true b h k = sym (h refl)
    by_names false true h k = sym (k refl)
    by_names false false h k = tt

abbrev head_of : List ℕ → ℕ
head_of [] = 0
head_of (c ∷ cs) = c

abbrev tail_of : List ℕ → List ℕ
tail_of [] = []
tail_of (c ∷ cs) = cs

-- the number of a spare name is that of no other place
apart : (u : ℕ) (y : Text) → spare_at u ≡ Some y → (v : ℕ) (x : Text) (o : ℕ) → list_number (v ∷ o ∷ x) ≡ list_number (u ∷ 0 ∷ y) → (v ≡ u) × (x ≡ y)
apart u y is v x o e = let same = numbers_differ (v ∷ o ∷ x) (u ∷ 0 ∷ y) e in (ap head_of same, ap (λ l. tail_of (tail_of l)) same)

within : (u : ℕ) (y : Text) → spare_at u ≡ Some y → u < 1
within zero y is = omega arith
within (suc u) y is = absurd (subst IsNone is tt)
  where
    IsNone : Option Text → Type 0
    IsNone None = ⊤
    IsNone (Some q) = ⊥

three : AreLinked linkage body_at code_at
three = record { spares = spare_at; rank = rank_at; many = 1; units = unit_at; named = named; apart = apart; within = within; below = calls_below; deep = omega arith }

pub three_units_agree : (input : List Record) → Agrees (means_linked linkage body_at input) (f66 linkage code_at input)
three_units_agree input = units_agree linkage body_at code_at three input
