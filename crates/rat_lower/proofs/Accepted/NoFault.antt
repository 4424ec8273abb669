-- What each part of a unit without a fault is, whatever stands before it.
use Rattle.std.proofs.Common.{◌≡◌, ℕ, Bool, true, false, true≢false, List, [], ◌∷◌, ◌++◌, Option, Some, None, refl, sym}
use Rattle.std.specs.Prelude.{◌&&◌, ◌||◌, ⊤}
use Rattle.std.specs.List.{list_all}
use Rattle.ground.specs.declared.place.Place.{Place}
use Rattle.f66_tree.specs.Syntax.{Text, Header, Formula, Formulas, NoFormula, AndFormula, Act, Assign, Sign, When, Invoke, Continue}
use Rattle.rat_check.specs.Parts.{Labels, Part, with_mark}
use Rattle.rat_check.specs.Said.{said_by, said_in, value_acts, said_if_any, condition_if_any}
use Rattle.rat_check.specs.Rules.{is_simple, is_ratfor, returns_wrong, Before, behind, UnitRules, finds_labels}
use Rattle.rat_check.proofs.CleanLemmas.{and_true, AllKeep}

pub both_false : (a b : Bool) → (a || b) ≡ false → (a ≡ false) × (b ≡ false)
both_false true b e = absurd (true≢false e)
both_false false b e = (refl, e)

-- ---- all parts are so ----

abbrev pub AllParts : (Part → Type 0) → List Part → Type 0
AllParts P [] = ⊤
AllParts P (v ∷ vs) = P v × AllParts P vs

module _ (P : Part → Type 0) where
  pub split : (xs ys : List Part) → AllParts P (xs ++ ys) → AllParts P xs × AllParts P ys
  split [] ys h = (tt, h)
  split (x ∷ xs) ys h = let k = split xs ys h.1 in ((h.0, k.0), k.1)

  -- the parts behind a second label
  pub unmarked : (k : ℕ) (r : Labels) (l : Option ℕ) (p : Place) (vs : List Part) → AllParts P (with_mark k r l p vs) → AllParts P vs
  unmarked k r None p vs h = h
  unmarked k r (Some l) p vs h = h.1

-- ---- a unit without a fault ----

-- the part is one of Ratfor, finds its labels and its loop, and returns a value in a function alone
pub record Fine (u : UnitRules) (v : Part) : Type 0 where
  pub ratfor : is_ratfor v.form ≡ true
  pub found : finds_labels u.formats v.reached v.form ≡ true
  pub inside : v.inside ≡ true
  pub returned : returns_wrong u.context.header v.form ≡ false

abbrev pub AllFine : UnitRules → List Part → Type 0
AllFine u vs = AllParts (Fine u) vs

pub all_fine : (u : UnitRules) (b : Before) (vs : List Part) → AllKeep u b vs → AllFine u vs
all_fine u b [] h = tt
all_fine u b (v ∷ vs) h = (record { ratfor = h.0.ratfor; found = h.0.found; inside = h.0.inside; returned = h.0.returned }, all_fine u (behind u.context.header b v) vs h.1)

-- ---- all that is said ----

abbrev pub AllOf : (Act → Type 0) → List Act → Type 0
AllOf Good [] = ⊤
AllOf Good (a ∷ more) = Good a × AllOf Good more

-- all that a part says is so, in a unit with this header
abbrev pub SaysSo : Header → (Act → Type 0) → Part → Type 0
SaysSo k Good v = AllOf Good (said_by k v.form)

pub of_split : (Good : Act → Type 0) (xs ys : List Act) → AllOf Good (xs ++ ys) → AllOf Good xs × AllOf Good ys
of_split Good [] ys h = (tt, h)
of_split Good (x ∷ xs) ys h = let k = of_split Good xs ys h.1 in ((h.0, k.0), k.1)

pub of_weaker : (Good Better : Act → Type 0) (xs : List Act) → ((a : Act) → Better a → Good a) → AllOf Better xs → AllOf Good xs
of_weaker Good Better [] f h = tt
of_weaker Good Better (x ∷ xs) f h = (f x h.0, of_weaker Good Better xs f h.1)

pub of_both : (Good Fit : Act → Type 0) (xs : List Act) → AllOf Good xs → AllOf Fit xs → AllOf (λ a. Good a × Fit a) xs
of_both Good Fit [] h k = tt
of_both Good Fit (x ∷ xs) h k = ((h.0, k.0), of_both Good Fit xs h.1 k.1)

pub of_test : (test : Act → Bool) (xs : List Act) → list_all test xs ≡ true → AllOf (λ a. test a ≡ true) xs
of_test test [] e = tt
of_test test (x ∷ xs) e = let h = and_true (test x) (list_all test xs) e in (h.0, of_test test xs h.1)

pub said_so : (k : Header) (Good : Act → Type 0) (vs : List Part) → AllOf Good (said_in k vs) → AllParts (SaysSo k Good) vs
said_so k Good [] h = tt
said_so k Good (v ∷ vs) h = let two = of_split Good (said_by k v.form) (said_in k vs) h in (two.0, said_so k Good vs two.1)

-- ---- what conditions, values and the parts of a `for` say ----

module _ (Good : Act → Type 0) where
  pub values_so : ((e : Formula) → Good (Sign e 0 0 0)) → (es : Formulas) → AllOf Good (value_acts es)
  values_so value NoFormula = tt
  values_so value (AndFormula e es) = (value e, values_so value es)

  module _ (assigns : (x e : Formula) → Good (Assign x e)) (calls : (x : Text) (es : Formulas) → Good (Invoke x es)) where
    step_so : (o : Option Act) (more : List Act) → is_simple o ≡ true → AllOf Good more → AllOf Good (said_if_any o ++ more)
    step_so None more is h = h
    step_so (Some (Assign x e)) more is h = (assigns x e, h)
    step_so (Some (Invoke x es)) more is h = (calls x es, h)
    step_so (Some _) more is h = absurd (true≢false (sym is))

    last_so : (o : Option Act) → is_simple o ≡ true → AllOf Good (said_if_any o)
    last_so None is = tt
    last_so (Some (Assign x e)) is = (assigns x e, tt)
    last_so (Some (Invoke x es)) is = (calls x es, tt)
    last_so (Some _) is = absurd (true≢false (sym is))

  test_so : ((e : Formula) → Good (When e Continue)) → (o : Option Formula) (more : List Act) → AllOf Good more → AllOf Good (condition_if_any o ++ more)
  test_so condition None more h = h
  test_so condition (Some e) more h = (condition e, h)

  pub prepared_so : ((x e : Formula) → Good (Assign x e)) → ((x : Text) (es : Formulas) → Good (Invoke x es)) → ((e : Formula) → Good (When e Continue)) → (a : Option Act) (e : Option Formula) (b : Option Act) → (is_simple a && is_simple b) ≡ true →
      AllOf Good (said_if_any a ++ (condition_if_any e ++ said_if_any b))
  prepared_so assigns calls condition a e b is =
      let k = and_true (is_simple a) (is_simple b) is in
      step_so assigns calls a (condition_if_any e ++ said_if_any b) k.0 (test_so condition e (said_if_any b) (last_so assigns calls b k.1))
