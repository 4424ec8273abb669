-- The units that serve for those of a program are what these became. By a linkage in which no other place has the number of a spare
-- variable, they do what the program means, where each call leads to a unit of lesser rank.
use Rattle.std.proofs.Common.{◌≡◌, ◌≢◌, ◌<◌, ℕ, zero, suc, Bool, true, false, List, [], ◌∷◌, length, map, Option, Some, None, refl, sym, ap, ◌∙◌, subst}
use Rattle.std.specs.Prelude.{if◌then◌else◌}
use Rattle.std.specs.List.{All, AllZip, slice_get}
use Rattle.std.proofs.lemmas.List.Elements.{All-head, All-tail}
use Rattle.std.proofs.lemmas.Option.{none-some, slice_get_within}
use Rattle.std.proofs.lemmas.Slice.Eq.{bytes_eq-Decides}
use Rattle.ground.specs.declared.place.Place.{Place}
use Rattle.f66_tree.specs.declared.unit.Unit.{Unit as AUnit}
use Rattle.f66_tree.specs.Syntax.{Text, Header, MainUnit, SubUnit, FuncUnit, DataUnit, Line, Routine}
use Rattle.f66_tree.specs.Views.{lines_of, routine_of}
use Rattle.f66_tree.specs.World.{Record, Lost}
use Rattle.f66_tree.specs.Units.{Context, name_of, Linkage}
use Rattle.f66_tree.specs.Uses.{NamesOfLinesBy}
use Rattle.f66_tree.specs.Execution.{f66}
use Rattle.f66_tree.specs.Agreement.{Agrees}
use Rattle.f66_program.specs.Mentions.{context_of}
use Rattle.f66_program.specs.Calls.{is_called, one_further, unit_named, Leads}
use Rattle.f66_program.specs.Linking.{IsLinkage}
use Rattle.rat_tree.specs.Syntax.{RatRoutine}
use Rattle.rat_check.specs.FirstFault.{unit_fault}
use Rattle.rat_lower.specs.Code.{have_switch}
use Rattle.rat_lower.specs.Linkages.{source_of}
use Rattle.rat_lower.specs.Served.{Serves, AllServe}
use Rattle.rat_lower.proofs.Units.{served_made}
use Rattle.rat_lower.proofs.Simulation.LinkedUnits.{spare_of}
use Rattle.rat_lower.proofs.Simulation.Linked.{Below}
use Rattle.rat_lower.proofs.Simulation.OneLinkage.{Made, IsMade, AreLinked, units_agree, never_lost}
use Rattle.spared_units.specs.Spared.{Pair}
use Rattle.spared_units.proofs.Among.{some_of}
use Rattle.spared_units.proofs.Places.{IsSpareAt}
use Rattle.rat_linked.specs.Made.{IsMadeOf}
use Rattle.rat_linked.specs.Meaning.{bodies_of, means_program}
use Rattle.rat_linked.proofs.Units.{spare_if}
use Rattle.rat_linked.proofs.Programs.{paired}
use Rattle.rat_linked.proofs.Proper.{clean_is_proper}
use Rattle.rat_linked.proofs.Below.{calls_fall}
use Rattle.rat_linked.proofs.Lacking.{lacks_name}

-- ---- units by their numbers ----

-- the spare name of a unit that became another, where it has one
abbrev pub spare_in : Option Pair → Option Text
spare_in None = None
spare_in (Some p) = p.spare

abbrev pub lines_in : Option Routine → List Line
lines_in None = []
lines_in (Some r) = r.lines

-- the statements of each unit, by its number
abbrev pub own_codes : List Routine → ℕ → List Line
own_codes rs u = lines_in (slice_get rs u)

called_so : (x : Text) (h : Header) → is_called x h ≡ true → name_of h ≡ x
called_so x MainUnit e = absurd (cc)
called_so x (SubUnit y ds) e = sym ((bytes_eq-Decides x y).0 e)
called_so x (FuncUnit t y ds) e = sym ((bytes_eq-Decides x y).0 e)
called_so x DataUnit e = absurd (cc)

-- the unit that a name leads to has this name
abbrev HasName : List Routine → ℕ → Text → Type 0
HasName rs v x = (r : Routine) × (slice_get rs v ≡ Some r) × (name_of r.header ≡ x)

named_so : (x : Text) (rs : List Routine) (v : ℕ) → unit_named x rs ≡ Some v → HasName rs v x
named_so x [] v e = absurd (none-some v e)
named_so x (r ∷ rs) v e = by_name (is_called x r.header) refl (unit_named x rs) (named_so x rs) e
  where
    by_name : (b : Bool) → is_called x r.header ≡ b → (o : Option ℕ) → ((w : ℕ) → o ≡ Some w → HasName rs w x) → (if b then Some zero else one_further o) ≡ Some v → HasName (r ∷ rs) v x
    by_name true c o there is = subst (λ w. HasName (r ∷ rs) w x) (some_of zero v is) (r, refl, called_so x r.header c)
    by_name false c None there is = absurd (none-some v is)
    by_name false c (Some w) there is = (let n = there w refl in subst (λ k. HasName (r ∷ rs) k x) (some_of (suc w) v is) (n.0, n.1, n.2))

same_spare : (b : Bool) (y : Text) → spare_of b y ≡ spare_if b y
same_spare true y = refl
same_spare false y = refl

-- ---- what the units of a program became ----

module _ (finish : Place) where
  abbrev one_made : (u : RatRoutine) (unit : AUnit) → Serves u finish unit → unit_fault u ≡ None → IsMadeOf u (routine_of unit)
  one_made u unit s none = record {
    made = s.made;
    spare = s.spare;
    finish = finish;
    header = s.header;
    code = s.code;
    proper = clean_is_proper u none;
    lacks = λ there. lacks_name s.spare u none (s.checked.spared there).own s.unnamed;
  }

  abbrev pub AllFaultless : List RatRoutine → Type 0
  AllFaultless us = All (λ u. unit_fault u ≡ None) us

  pub all_made : (us : List RatRoutine) (made : List AUnit) → AllServe us finish made → AllFaultless us → AllZip IsMadeOf us (map routine_of made)
  all_made [] [] h none = tt
  all_made [] (m ∷ made) h none = absurd h
  all_made (u ∷ us) [] h none = absurd h
  all_made (u ∷ us) (m ∷ made) h none = (one_made u m h.0 (All-head (λ u. unit_fault u ≡ None) u us none), all_made us made h.1 (All-tail (λ u. unit_fault u ≡ None) u us none))

  abbrev pub pairs_in : (us : List RatRoutine) (made : List AUnit) → AllServe us finish made → AllFaultless us → List Pair
  pairs_in us made h none = (paired us (map routine_of made) (all_made us made h none)).pairs

  made_there : (us : List RatRoutine) (made : List AUnit) (h : AllServe us finish made) (none : AllFaultless us) (c : Context) (i : ℕ) → ((r : Routine) → slice_get (map routine_of made) i ≡ Some r → c ≡ context_of r) →
      IsMade c (spare_in (slice_get (pairs_in us made h none) i)) (bodies_of us i) (own_codes (map routine_of made) i)
  unfolding paired all_made
  made_there [] [] h none c i is = (refl, refl)
  made_there [] (m ∷ made) h none c i is = absurd h
  made_there (u ∷ us) [] h none c i is = absurd h
  made_there (u ∷ us) (m ∷ made) h none c zero is =
      subst (λ d. Made d (spare_if (have_switch u.body) h.0.spare) u.body (lines_of m.statements.items)) (sym (is (routine_of m) refl))
      (subst (λ o. Made (context_of (routine_of m)) o u.body (lines_of m.statements.items)) (same_spare (have_switch u.body) h.0.spare) (served_made u finish m h.0))
  made_there (u ∷ us) (m ∷ made) h none c (suc i) is = made_there us made h.1 (All-tail (λ u. unit_fault u ≡ None) u us none) c i is

  -- ---- one linkage ----

  module _ (us : List RatRoutine) (made : List AUnit) (h : AllServe us finish made) (none : AllFaultless us) (l : Linkage) (is : IsLinkage (map routine_of made) l)
      (apart : (u : ℕ) (y : Text) → IsSpareAt (pairs_in us made h none) u y → (v : ℕ) (x : Text) (o : ℕ) → l.number v x o ≡ l.number u y 0 → (v ≡ u) × (x ≡ y))
      (rank : ℕ → ℕ) (falls : (u v : ℕ) → Leads (map routine_of made) u v → rank v < rank u) (low : (u : ℕ) → u < length (map routine_of made) → rank u < length (map routine_of made)) where
    abbrev rs : List Routine
    rs = map routine_of made

    abbrev ps : List Pair
    ps = pairs_in us made h none

    spare_there : (u : ℕ) (y : Text) → spare_in (slice_get ps u) ≡ Some y → IsSpareAt ps u y
    spare_there u y e = by_pair (slice_get ps u) refl e
      where
        by_pair : (o : Option Pair) → slice_get ps u ≡ o → spare_in o ≡ Some y → IsSpareAt ps u y
        by_pair None here f = absurd (none-some y f)
        by_pair (Some p) here f = record { pair = p; here = here; is = f }

    below : (u : ℕ) → NamesOfLinesBy (Below l rank u) (own_codes rs u)
    below u = by_unit (slice_get rs u) refl
      where
        by_unit : (o : Option Routine) → slice_get rs u ≡ o → NamesOfLinesBy (Below l rank u) (lines_in o)
        by_unit None here = tt
        by_unit (Some r) here = calls_fall rs l is rank falls u r here

    linked : AreLinked l (bodies_of us) (own_codes rs)
    linked = record {
      spares = λ u. spare_in (slice_get ps u);
      rank = rank;
      many = length ps;
      units = λ u. made_there us made h none (l.context u) u (λ r here. is.contexts u r here);
      named = λ x v e. let n = named_so x rs v (sym (is.finds x) ∙ e) in ap (λ c. name_of c.header) (is.contexts v n.0 n.1) ∙ n.2;
      apart = λ u y e. apart u y (spare_there u y e);
      within = λ u y e. let sp = spare_there u y e in slice_get_within ps u sp.pair sp.here;
      below = below;
      deep = subst (λ n. rank l.main < n) (sym is.deep) (low l.main (slice_get_within rs l.main is.main.0 is.main.1));
    }

    -- the units do what the program means, which is never lost
    pub units_do : (input : List Record) → Agrees (means_program us (source_of l (bodies_of us)) input) (f66 l (own_codes rs) input)
    units_do input = units_agree l (bodies_of us) (own_codes rs) linked input

    pub units_found : (input : List Record) (b : ℕ) → (means_program us (source_of l (bodies_of us)) input b).end ≢ Lost
    units_found input b = never_lost l (bodies_of us) (own_codes rs) linked input b
