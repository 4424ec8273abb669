-- A unit with a declaration, a cycle, a label and a format, by computation: its labels lead to their places, and it does what its
-- routes do. It sets I to 0, and counts I up and writes it until it is above 2.
use Rattle.std.proofs.Common.{◌≡◌, ℕ, ◌+◌, ◌≤◌, Bool, true, false, List, [], ◌∷◌, ◌++◌, Some, refl, ap, subst, arith}
use Rattle.std.specs.Prelude.{pos, nat_eq, codes, if◌then◌else◌}
use Rattle.std.specs.Fmt.{digits}
use Rattle.std.proofs.lemmas.Bool.{ne_eqb}
use Rattle.std.proofs.lemmas.Option.{none-some}
use Rattle.f66_tree.specs.declared.declaration.TypeWord.TheVariants as words
use Rattle.f66_tree.specs.declared.editing.EditKind.TheVariants as edits
use Rattle.f66_tree.specs.declared.editing.Way.TheVariants.{Writing}
use Rattle.f66_tree.specs.declared.expression.Operator.TheVariants.{Add, Gt}
use Rattle.f66_tree.specs.Fields.{NoField, Single, Takes}
use Rattle.f66_tree.specs.Syntax.{Constant, Pair, Format, Typed, Line, unlabelled_line}
use Rattle.f66_tree.specs.World.{Record, Shown, Ended, Done}
use Rattle.f66_tree.specs.Units.{notes_of}
use Rattle.f66_tree.specs.Execution.{f66}
use Rattle.f66_tree.specs.OneUnit.{one_unit}
use Rattle.f66_tree.proofs.ExampleParts.{here, i, k, num, var, set, items}
use Rattle.routes.specs.Routes.{Plain, BreakIf, Cycle, Labelled, Transfer, Routes, NoRoute, AndRoute, only}
use Rattle.routes.specs.Running.{routed}
use Rattle.routes.specs.Code.{all_code}
use Rattle.routes.specs.Units.{ending, Units, Reaches}
use Rattle.routes.specs.Numbered.{bit, all_given, IsNumbered, AllPlain}
use Rattle.routes.specs.PlacedUnit.{IsPlacedUnit, units_of}
use Rattle.routes.proofs.Units.{units_reach}
use Rattle.routes.proofs.Placing.{ending_unlabelled, placed_unit, idle_unit, unit_notes}
use Rattle.routes.proofs.EnteredUnits.{entered_alone}

abbrev made : ℕ → ℕ
made n = 100 + n

abbrev body : Routes
body =
    AndRoute (Plain (here 1) (set i (num (pos 0))))
    (only (Cycle (here 2)
    (AndRoute (Labelled 10 (here 3) (Plain (here 3) (set i (Pair Add (var i) (num (pos 1)))))) (only (BreakIf (here 4) (Pair Gt (var i) (num (pos 2))) 0)))
    (only (Transfer (here 5) Writing (Constant (pos 6)) (Single 1 (Takes edits.Whole 3) NoField) (items (i ∷ []))))))

-- INTEGER K
abbrev before : List Line
before = unlabelled_line (here 0) (Typed words.Integer (record { name = k; sizes = [] } ∷ [])) ∷ []

abbrev lines : List Line
lines = before ++ all_code made body 0 [] (ending true (here 9))

-- ---- it is placed ----

one_label : (l : ℕ) → all_given l body ≤ 1
one_label l = go (nat_eq 10 l)
  where
    go : (v : Bool) → 0 + (bit v + 0 + (0 + 0) + (0 + 0) + 0) ≤ 1
    go true = omega arith
    go false = omega arith

body_numbered : IsNumbered made body
body_numbered = record {
  rises = λ a b lt. omega arith;
  once = one_label;
  unused = λ a. ap (λ v. 0 + (bit v + 0 + (0 + 0) + (0 + 0) + 0)) (ne_eqb 10 (100 + a) (λ e. omega (arith, e)));
}

body_plain : AllPlain body
body_plain = (tt, (((tt, (tt, tt)), (tt, tt)), tt))

body_placed : IsPlacedUnit made body (ending true (here 9)) (notes_of lines) lines
body_placed = placed_unit made body before (ending true (here 9)) body_numbered body_plain (refl, refl, tt) (ending_unlabelled true (here 9))

-- ---- it does what its routes do ----

abbrev units : Units
units = units_of (one_unit (notes_of lines)) (λ u. lines) (λ u. body) (λ u. made) (λ u. here 9) (λ u. body_placed)

body_reaches : (b : ℕ) (input : List Record) → Reaches b (routed (one_unit (notes_of lines)) (λ u. body) b input) (f66 (one_unit (notes_of lines)) (λ u. lines) input)
body_reaches = units_reach units

abbrev routes_show : Shown
routes_show = routed (one_unit (notes_of lines)) (λ u. body) 5 []

abbrev lines_show : Shown
lines_show = f66 (one_unit (notes_of lines)) (λ u. lines) [] 30

routes_write : routes_show.records ≡ codes "  1" ∷ codes "  2" ∷ []
unfolding digits
routes_write = refl

lines_write : lines_show.records ≡ codes "  1" ∷ codes "  2" ∷ []
unfolding digits
lines_write = refl

lines_end : lines_show.end ≡ Ended Done
unfolding digits
lines_end = refl

-- its notes are its declaration and its format
lines_notes : notes_of lines ≡ notes_of before ++ record { label = Some 102; act = Format (Single 1 (Takes edits.Whole 3) NoField) } ∷ []
lines_notes = unit_notes made body before (ending true (here 9)) body_plain (refl, refl, tt)

-- ---- with nothing under the other numbers ----

abbrev codes_alone : ℕ → List Line
codes_alone u = if nat_eq u 0 then lines else []

abbrev codes_ended : ℕ → List Line
codes_ended u = if nat_eq u 0 then lines else ending true (here 9)

abbrev bodies : ℕ → Routes
bodies u = if nat_eq u 0 then body else NoRoute

each_placed : (u : ℕ) → IsPlacedUnit made (bodies u) (ending true (here 9)) (notes_of lines) (codes_ended u)
each_placed u = go (nat_eq u 0)
  where
    go : (v : Bool) → IsPlacedUnit made (if v then body else NoRoute) (ending true (here 9)) (notes_of lines) (if v then lines else ending true (here 9))
    go true = body_placed
    go false = idle_unit made (ending true (here 9)) (notes_of lines) (ending_unlabelled true (here 9))

-- no name leads to a unit, so nothing but the main is entered
one_entered : (input : List Record) (n : ℕ) → f66 (one_unit (notes_of lines)) codes_ended input n ≡ f66 (one_unit (notes_of lines)) codes_alone input n
one_entered = entered_alone (one_unit (notes_of lines)) codes_ended codes_alone (λ x v e. absurd (none-some v e)) refl

alone_reaches : (b : ℕ) (input : List Record) → Reaches b (routed (one_unit (notes_of lines)) bodies b input) (f66 (one_unit (notes_of lines)) codes_alone input)
alone_reaches b input =
    let same : f66 (one_unit (notes_of lines)) codes_ended input ≡ f66 (one_unit (notes_of lines)) codes_alone input = λ i n. one_entered input n i in
    subst (Reaches b (routed (one_unit (notes_of lines)) bodies b input)) same (units_reach (units_of (one_unit (notes_of lines)) codes_ended bodies (λ u. made) (λ u. here 9) each_placed) b input)
