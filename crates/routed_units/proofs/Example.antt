-- A unit of routes that is one of plain statements, by computation: it has a declaration, a cycle, a label that is jumped to, and a format.
use Rattle.std.proofs.Common.{◌≡◌, ℕ, ◌+◌, ◌≤◌, Bool, true, false, List, [], ◌∷◌, refl, sym, ap, subst, arith, inl}
use Rattle.std.specs.Prelude.{pos, nat_eq}
use Rattle.std.specs.List.{All}
use Rattle.std.proofs.lemmas.Bool.{eqb-true, ne_eqb}
use Rattle.std.proofs.lemmas.List.Elements.{All-nil, All-cons}
use Rattle.ground.specs.declared.value.Kind.{Kind}
use Rattle.ground.specs.declared.value.Kind.TheVariants.{Integer}
use Rattle.f66_tree.specs.declared.declaration.TypeWord.TheVariants as words
use Rattle.f66_tree.specs.declared.editing.EditKind.TheVariants as edits
use Rattle.f66_tree.specs.declared.editing.Way.TheVariants.{Writing}
use Rattle.f66_tree.specs.declared.expression.Operator.TheVariants.{Add, Eq}
use Rattle.f66_tree.specs.Fields.{NoField, Single, Takes}
use Rattle.f66_tree.specs.Syntax.{Text, Declared, MainUnit, Constant, Pair, Goto, Typed, Line, Routine, unlabelled_line}
use Rattle.f66_tree.specs.Units.{Context}
use Rattle.f66_tree.specs.Evaluation.{Intrinsic, Iabs, Mod, Isign, Idim, Max0, Min0}
use Rattle.f66_tree.proofs.ExampleParts.{here, i, num, var, set, items}
use Rattle.f66_check.specs.CheckRules.{context_of}
use Rattle.unit_rules.specs.Roles.{role_held}
use Rattle.routes.specs.Routes.{Plain, BreakIf, Cycle, Labelled, Transfer, Routes, AndRoute, only}
use Rattle.routes.specs.Numbered.{bit, all_given, IsNumbered}
use Rattle.plain_units.specs.Plain.{IsPlain}
use Rattle.plain_units.specs.Known.{IsTyped, IsVariable, IsKnown, AreKnown, IsGiven, IsHead}
use Rattle.plain_units.specs.Units.{IsPlainUnit}
use Rattle.routed_units.specs.Routed.{AllActs, Leads}
use Rattle.routed_units.proofs.Labels.{IsLabel}
use Rattle.routed_units.proofs.Units.{unit_of, plain_unit}

abbrev made : ℕ → ℕ
made n = 100 + n

-- I = 0, and then turns that count I up, end where it is 2, and go to the count again
abbrev body : Routes
body =
    AndRoute (Plain (here 1) (set i (num (pos 0))))
    (only (Cycle (here 2)
    (AndRoute (Labelled 10 (here 3) (Plain (here 3) (set i (Pair Add (var i) (num (pos 1)))))) (only (BreakIf (here 4) (Pair Eq (var i) (num (pos 2))) 0)))
    (AndRoute (Transfer (here 5) Writing (Constant (pos 6)) (Single 1 (Takes edits.Whole 3) NoField) (items (i ∷ []))) (only (Plain (here 6) (Goto 10))))))

abbrev declared_i : Declared
declared_i = record { name = i; sizes = [] }

-- INTEGER I
abbrev heads : List Line
heads = unlabelled_line (here 0) (Typed words.Integer (declared_i ∷ [])) ∷ []

abbrev unit : Routine
unit = unit_of made body MainUnit heads true (here 9) (here 0)

-- ---- names ----

abbrev IsI : Text → Kind → Type 0
IsI x k = (x ≡ i) × (k ≡ Integer)

abbrev NoValue : Text → Kind → Type 0
NoValue x k = ⊥

abbrev NoCall : Text → Type 0
NoCall x = ⊥

abbrev context : Context
context = context_of unit

known_i : (x : Text) (k : Kind) → IsI x k → IsTyped context x k × IsVariable (role_held context.header x)
known_i x k is =
    subst (λ y. IsTyped context y k × IsVariable (role_held context.header y)) (sym is.0)
    (subst (λ j. IsTyped context i j × IsVariable (role_held context.header i)) (sym is.1)
    (record { text = record { name = refl; short = refl }; form = refl; kind = refl; declared = refl }, tt))

known_intrinsic : (g : Intrinsic) → IsKnown context g
known_intrinsic Iabs = record { sort = refl; kind = refl; declared = refl; held = refl }
known_intrinsic Mod = record { sort = refl; kind = refl; declared = refl; held = refl }
known_intrinsic Isign = record { sort = refl; kind = refl; declared = refl; held = refl }
known_intrinsic Idim = record { sort = refl; kind = refl; declared = refl; held = refl }
known_intrinsic Max0 = record { sort = refl; kind = refl; declared = refl; held = refl }
known_intrinsic Min0 = record { sort = refl; kind = refl; declared = refl; held = refl }

known : AreKnown IsI NoValue NoCall context
known = record {
  variables = known_i;
  functions = λ x k h. absurd h;
  called = λ x h. absurd h;
  intrinsics = known_intrinsic;
  no_function = λ x y k j v h. absurd h;
  no_variable = λ x y k v h. absurd h;
  no_value = λ x y k h s. absurd h;
}

-- ---- labels ----

one_label : (l : ℕ) → all_given l body ≤ 1
one_label l = go (nat_eq 10 l)
  where
    go : (v : Bool) → 0 + (bit v + 0 + (0 + 0) + (0 + (0 + 0)) + 0) ≤ 1
    go true = omega arith
    go false = omega arith

numbered : IsNumbered made body
numbered = record {
  rises = λ a b lt. omega arith;
  once = one_label;
  unused = λ a. ap (λ v. 0 + (bit v + 0 + (0 + 0) + (0 + (0 + 0)) + 0)) (ne_eqb 10 (100 + a) (λ e. omega (arith, e)));
}

own : (l : ℕ) → 1 ≤ all_given l body → IsLabel l
own l = go (nat_eq 10 l) refl
  where
    go : (v : Bool) → nat_eq 10 l ≡ v → 1 ≤ 0 + (bit v + 0 + (0 + 0) + (0 + (0 + 0)) + 0) → IsLabel l
    go true e h = let is : 10 ≡ l = eqb-true 10 l e in (omega arith, omega arith)
    go false e h = absurd (omega (arith, h))

-- ---- the unit ----

integer_i : IsI i Integer
integer_i = (refl, refl)

abbrev is_i : (k : Kind) × IsI i k
is_i = (Integer, integer_i)

abbrev Given : Declared → Type 0
Given d = IsGiven IsI NoValue NoCall MainUnit Integer d

abbrev Head : Line → Type 0
Head s = IsHead IsI NoValue NoCall MainUnit s

given : All Given (declared_i ∷ [])
given = All-cons Given declared_i [] (record { is = inl integer_i; sizes = refl; other = refl }) (All-nil Given)

typing : All Head heads
typing = All-cons Head (unlabelled_line (here 0) (Typed words.Integer (declared_i ∷ []))) [] (record { label = refl; typing = (Integer, refl, omega arith, given) }) (All-nil Head)

acts : AllActs (IsPlain IsI NoValue NoCall) body
acts = (
  (Integer, integer_i, (refl, refl)),
  ((((Integer, integer_i, (refl, integer_i, (refl, refl))), ((λ l. (refl, integer_i, refl)), tt)), (((λ l. (refl, (is_i, tt))), (refl, refl)), (tt, tt))), tt),
)

leads : Leads body (λ l. all_given l body) 0
leads = (tt, (((tt, (omega arith, tt)), (tt, (omega arith, tt))), tt))

unit_is_plain : IsPlainUnit IsI NoValue NoCall unit
unit_is_plain = plain_unit IsI NoValue NoCall made body MainUnit heads true (here 9) (here 0) tt typing refl acts known numbered leads own (λ n lt. (omega arith, omega arith))
