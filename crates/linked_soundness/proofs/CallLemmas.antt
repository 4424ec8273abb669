-- In a program whose calls are complete each of them leads to a unit that has as many dummies as the call has actuals.
use Rattle.std.proofs.Common.{◌≡◌, ℕ, zero, suc, Bool, true, false, List, [], ◌∷◌, length, Option, Some, None, refl, sym, ◌∙◌, subst, arith}
use Rattle.std.specs.Prelude.{if◌then◌else◌}
use Rattle.std.specs.List.{Contains, slice_get, flat_map, AllByRecursion}
use Rattle.std.proofs.lemmas.Bool.{eqb-true, not-false}
use Rattle.f66_tree.specs.Syntax.{Text, Formulas, NoFormula, AndFormula, Line, Routine}
use Rattle.f66_tree.specs.Units.{dummies_of, Linkage}
use Rattle.f66_names.specs.Uses as uses
use Rattle.f66_soundness.proofs.KindLemmas.{some_same, no_some}
use Rattle.f66_program.specs.Mentions.{Mention, AVariable, ACall, AKnown, context_of, mentions_in}
use Rattle.f66_program.specs.Calls.{Call, call_in, calls_in, is_called, one_further, unit_named, many, miscounts}
use Rattle.f66_program.specs.Linking.{Program, at_part, IsLine}
use Rattle.linked_soundness.specs.Laws.{IsComplete}
use Rattle.linked_soundness.proofs.RunLemmas.{LeadsToUnit, IsLinked}

same_count : (es : Formulas) → many es ≡ uses.many es
same_count NoFormula = refl
same_count (AndFormula e es) = let e = same_count es in omega (arith, e)

-- ---- units by their names ----

abbrev IsThere : List Routine → ℕ → Type 0
IsThere rs v = (r : Routine) × (slice_get rs v ≡ Some r)

unit_there : (q : Text) (rs : List Routine) (v : ℕ) → unit_named q rs ≡ Some v → IsThere rs v
unit_there q [] v e = no_some _ e
unit_there q (r ∷ rs) v e = by_name (is_called q r.header) (unit_named q rs) (unit_there q rs) e
  where
    by_name : (b : Bool) (o : Option ℕ) → ((w : ℕ) → o ≡ Some w → IsThere rs w) → (if b then Some zero else one_further o) ≡ Some v → IsThere (r ∷ rs) v
    by_name true o there is = subst (IsThere (r ∷ rs)) (some_same is) (r, refl)
    by_name false None there is = no_some _ is
    by_name false (Some w) there is = subst (IsThere (r ∷ rs)) (some_same is) (there w refl)

-- ---- calls ----

-- what holds of each call that is listed holds of each name that calls
each_call : (P : Text → Formulas → Type 0) (Q : Mention → Type 0) → ((b : Bool) (x : Text) (es : Formulas) → P x es → Q (ACall b x es)) → ((x : Text) → Q (AVariable x)) → ((x : Text) → Q (AKnown x)) →
    (ms : List Mention) → ((k : Call) → Contains (flat_map call_in ms) k → P k.name k.actuals) → AllByRecursion Q ms
each_call P Q called variable known [] h = tt
each_call P Q called variable known (AVariable x ∷ ms) h = (variable x, each_call P Q called variable known ms h)
each_call P Q called variable known (AKnown x ∷ ms) h = (known x, each_call P Q called variable known ms h)
each_call P Q called variable known (ACall b x es ∷ ms) h = (
  called b x es (h (record { by_call = b; name = x; actuals = es }) (0, omega arith, refl)),
  each_call P Q called variable known ms (λ k c. let lt = c.1 in h k (suc c.0, omega (arith, lt), c.2)),
)

module _ (p : Program) (complete : IsComplete p) (u : ℕ) (r : Routine) (here : slice_get p.units u ≡ Some r) (i : ℕ) (s : Line) (stands : slice_get r.lines i ≡ Some s) where
  abbrev line : IsLine p (at_part u (suc i))
  line = record { unit = r; index = i; line = s; here = here; number = refl; stands = stands }

  -- the unit that is called is there
  call_named : (k : Call) → Contains (calls_in (context_of r) s.act) k → (o : Option ℕ) → unit_named k.name p.units ≡ o → (v : ℕ) × (unit_named k.name p.units ≡ Some v)
  call_named k called None is = absurd (complete.there (at_part u (suc i)) (record { at = line; call = k; called = called; holds = is }))
  call_named k called (Some v) is = (v, is)

  -- and it has as many dummies
  call_counted : (k : Call) → Contains (calls_in (context_of r) s.act) k → (v : ℕ) (t : Routine) → unit_named k.name p.units ≡ Some v → slice_get p.units v ≡ Some t → length (dummies_of t.header) ≡ many k.actuals
  call_counted k called v t to there = by_count (miscounts k t) refl
    where
      by_count : (b : Bool) → miscounts k t ≡ b → length (dummies_of t.header) ≡ many k.actuals
      by_count true is =
          absurd (complete.counted (at_part u (suc i)) (record { at = line; call = k; called = called; holds = record { number = v; unit = t; to = to; here = there; holds = is } }))
      by_count false is = sym (eqb-true (many k.actuals) (length (dummies_of t.header)) (not-false _ is))

  module _ (l : Linkage) (finds : (x : Text) → l.find x ≡ unit_named x p.units) where
    call_leads : (k : Call) → Contains (calls_in (context_of r) s.act) k → LeadsToUnit p.units l k.name (uses.many k.actuals)
    call_leads k called =
        let named = call_named k called (unit_named k.name p.units) refl in
        let there = unit_there k.name p.units named.0 named.1 in
        (named.0, finds k.name ∙ named.1, (there.0, there.1, call_counted k called named.0 there.0 named.1 there.1 ∙ same_count k.actuals))

    -- all calls of the statement do
    pub calls_linked : AllByRecursion (IsLinked p.units l) (mentions_in (context_of r) s.act)
    calls_linked =
        each_call (λ x es. LeadsToUnit p.units l x (uses.many es)) (IsLinked p.units l) (λ b x es h. h) (λ x. tt) (λ x. tt) (mentions_in (context_of r) s.act) call_leads
