-- A unit of type statements and of the lines of routes is one of plain statements, where each of these is plain.
use Rattle.std.proofs.Common.{◌≡◌, ℕ, ◌<◌, ◌≤◌, Bool, true, false, List, [], ◌∷◌, ◌++◌, None, refl, ap, ◌∙◌}
use Rattle.std.specs.List.{All, flat_map}
use Rattle.std.proofs.lemmas.List.Elements.{All-nil, All-head, All-tail}
use Rattle.ground.specs.declared.place.Place.{Place}
use Rattle.ground.specs.declared.value.Kind.{Kind}
use Rattle.rule_table.specs.Words.{repeats}
use Rattle.f66_tree.specs.Syntax.{Text, Header, Act, Typed, Stop, Return, Line, Routine, unlabelled_line}
use Rattle.f66_tree.specs.Units.{is_note}
use Rattle.f66_check.specs.CheckRules.{context_of}
use Rattle.routes.specs.Routes.{Routes}
use Rattle.routes.specs.Code.{all_labels, all_code}
use Rattle.routes.specs.Units.{ending}
use Rattle.routes.specs.Numbered.{all_given, IsNumbered}
use Rattle.routes.specs.PlacedUnit.{AreDeclarations}
use Rattle.plain_units.specs.Plain.{IsPlain}
use Rattle.plain_units.specs.Known.{AreKnown, IsPlainHeader, IsTyping, IsHead, typed_names}
use Rattle.plain_units.specs.Units.{IsLast, IsPlainUnit}
use Rattle.routed_units.specs.Routed.{AllActs, Leads}
use Rattle.routed_units.proofs.Acts.{all_acts, all_before}
use Rattle.routed_units.proofs.Labels.{IsLabel, has_labels}

-- the unit of declarations and routes
abbrev pub unit_of : (ℕ → ℕ) → Routes → Header → List Line → Bool → Place → Place → Routine
unit_of made rs h heads main last place = record { header = h; lines = heads ++ all_code made rs 0 [] (ending main last); place = place }

abbrev last_act : Bool → Act
last_act true = Stop None
last_act false = Return

is_ending : (main : Bool) (p : Place) → ending main p ≡ unlabelled_line p (last_act main) ∷ []
is_ending true p = refl
is_ending false p = refl

is_last : (main : Bool) → IsLast (last_act main)
is_last true = refl
is_last false = tt

module _ (V F : Text → Kind → Type 0) (S : Text → Type 0) where
  is_noted : (h : Header) (a : Act) → IsTyping V F S h a → is_note a ≡ true
  is_noted h (Typed t ds) is = refl
  is_noted h _ is = absurd is

  pub are_declared : (h : Header) (heads : List Line) → All (λ s. IsHead V F S h s) heads → AreDeclarations heads
  are_declared h [] is = tt
  are_declared h (s ∷ heads) is =
      let head = All-head (λ t. IsHead V F S h t) s heads is in
      (head.label, is_noted h s.act head.typing, are_declared h heads (All-tail (λ t. IsHead V F S h t) s heads is))

  pub plain_unit : (made : ℕ → ℕ) (rs : Routes) (h : Header) (heads : List Line) (main : Bool) (last place : Place) →
      IsPlainHeader V F S h → All (λ s. IsHead V F S h s) heads → repeats (flat_map typed_names heads) ≡ false →
      AllActs (IsPlain V F S) rs → AreKnown V F S (context_of (unit_of made rs h heads main last place)) →
      IsNumbered made rs → Leads rs (λ l. all_given l rs) 0 → ((l : ℕ) → 1 ≤ all_given l rs → IsLabel l) → ((i : ℕ) → i < all_labels rs → IsLabel (made i)) →
      IsPlainUnit V F S (unit_of made rs h heads main last place)
  plain_unit made rs h heads main last place header typing once acts known numbered leads own new = record {
    heads = heads;
    body = all_code made rs 0 [] [];
    last = unlabelled_line last (last_act main);
    lines = ap (λ ls. heads ++ all_code made rs 0 [] ls) (is_ending main last) ∙ ap (λ ls. heads ++ ls) (all_before made rs 0 [] [] (unlabelled_line last (last_act main) ∷ []));
    header = header;
    typing = typing;
    once = once;
    plain = all_acts made (IsPlain V F S) (λ l. tt) tt rs 0 [] [] acts (All-nil (λ s. IsPlain V F S s.act));
    unlabelled = refl;
    ends = is_last main;
    known = known;
    labels = has_labels made rs heads main last (are_declared h heads typing) numbered leads own new;
  }
