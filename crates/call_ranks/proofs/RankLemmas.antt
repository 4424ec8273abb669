-- The rank of a unit is how many units its calls come to, one call behind the other.
use Rattle.std.proofs.Common.{◌≡◌, ◌<◌, ◌⊎◌, ◌∙◌, ◌∷◌, [], inl, inr, ℕ, zero, suc, Bool, true, false, List, length, get_or, Option, None, Some, refl, sym, ap, subst, arith}
use Rattle.std.proofs.lemmas.Bool.{eq-eqb, eqb-true, false_from_ne_true}
use Rattle.std.proofs.lemmas.List.Folds.{list_any_at}
use Rattle.std.specs.Prelude.{◌||◌, if◌then◌else◌}
use Rattle.std.specs.List.{Contains, list_any, slice_get}
use Rattle.rule_table.specs.Words.{is_number, is_some_and}
use Rattle.f66_tree.specs.Syntax.{Line, Routine}
use Rattle.f66_program.specs.Mentions.{context_of}
use Rattle.f66_program.specs.Calls.{Call, calls_in, is_called, unit_named, one_further, Leads, Reaches, at_once, further}
use Rattle.f66_program.specs.Linking.{Program, at_part, IsWhole}
use Rattle.ground.specs.declared.fault.FaultKind.TheVariants.{Recursion}
use Rattle.call_ranks.specs.Ranks.{HaveRanks, HaveNoCycle}
use Rattle.call_ranks.proofs.WayLemmas.{way, edge_way, joined, way_holds}
use Rattle.call_ranks.proofs.CountLemmas.{count, count_less, count_all}

any_one : {X : Type 0} (test : X → Bool) (xs : List X) → list_any test xs ≡ true → (x : X) × Contains xs x × (test x ≡ true)
any_one test [] e = absurd (cc)
any_one {X} test (x ∷ xs) e = at (test x) refl (any_one test xs) e
  where
    at : (b : Bool) → test x ≡ b → (list_any test xs ≡ true → (y : X) × Contains xs y × (test y ≡ true)) → (b || list_any test xs) ≡ true → (y : X) × Contains (x ∷ xs) y × (test y ≡ true)
    at true t rest f = (x, (0, omega arith, refl), t)
    at false t rest f = (let h = rest f in (h.0, (suc h.1.0, (let lt = h.1.1 in omega (arith, lt)), h.1.2), h.2))

one_any : {X : Type 0} (test : X → Bool) (xs : List X) (x : X) → Contains xs x → test x ≡ true → list_any test xs ≡ true
one_any test xs x c t = list_any_at test xs c.0 x c.1 (ap test c.2 ∙ t)

some_passes : {X : Type 0} (test : X → Bool) (o : Option X) → is_some_and test o ≡ true → (x : X) × (o ≡ Some x) × (test x ≡ true)
some_passes test None e = absurd (cc)
some_passes test (Some x) e = (x, refl, e)

numbered : (n : ℕ) (o : Option ℕ) → is_number n o ≡ true → o ≡ Some n
numbered n None e = absurd (cc)
numbered n (Some m) e = ap Some (eqb-true m n e)

is_numbered : (n : ℕ) (o : Option ℕ) → o ≡ Some n → is_number n o ≡ true
is_numbered n o e = ap (is_number n) e ∙ eq-eqb n n refl

-- a call in the one unit leads to the other

module _ (rs : List Routine) where
  abbrev call_leads : ℕ → Call → Bool
  call_leads v k = is_number v (unit_named k.name rs)

  abbrev line_leads : Routine → ℕ → Line → Bool
  line_leads r v s = list_any (call_leads v) (calls_in (context_of r) s.act)

  abbrev unit_leads : ℕ → Routine → Bool
  unit_leads v r = list_any (line_leads r v) r.lines

  abbrev leads : ℕ → ℕ → Bool
  leads u v = is_some_and (unit_leads v) (slice_get rs u)

  leads_sound : (u v : ℕ) → leads u v ≡ true → Leads rs u v
  leads_sound u v e =
      let r = some_passes (unit_leads v) (slice_get rs u) e in
      let s = any_one (line_leads r.0 v) r.0.lines r.2 in
      let k = any_one (call_leads v) (calls_in (context_of r.0) s.0.act) s.2 in
      record { unit = r.0; line = s.0; call = k.0; here = r.1; stands = s.1; called = k.1; to = numbered v (unit_named k.0.name rs) k.2 }

  leads_whole : (u v : ℕ) → Leads rs u v → leads u v ≡ true
  leads_whole u v l =
      let k = one_any (call_leads v) (calls_in (context_of l.unit) l.line.act) l.call l.called (is_numbered v (unit_named l.call.name rs) l.to) in
      ap (is_some_and (unit_leads v)) l.here ∙ one_any (line_leads l.unit v) l.unit.lines l.line l.stands k

  reached : {u w v : ℕ} → Reaches rs u w → Reaches rs w v → Reaches rs u v
  reached (at_once l) k = further l k
  reached (further l h) k = further l (reached h k)

named_below : (rs : List Routine) (x : List ℕ) (v : ℕ) → unit_named x rs ≡ Some v → v < length rs
named_below [] x v e = absurd (cc)
named_below (r ∷ rs) x v e = at (is_called x r.header) (unit_named x rs) (named_below rs x) e
  where
    at : (b : Bool) (o : Option ℕ) → ((w : ℕ) → o ≡ Some w → w < length rs) → (if b then Some zero else one_further o) ≡ Some v → v < suc (length rs)
    at true o rest g = (let h : Some 0 ≡ Some v = g in let same : 0 ≡ v = cc in omega (arith, same))
    at false None rest g = absurd (cc)
    at false (Some w) rest g = (let lt = rest w refl in let h : Some (suc w) ≡ Some v = g in let same : suc w ≡ v = cc in omega (arith, lt, same))

module _ (rs : List Routine) (none : HaveNoCycle rs) where
  -- a call leads from the one unit to the other, or several do one behind the other
  comes : ℕ → ℕ → Bool
  comes = way (leads rs) (length rs)

  rank : ℕ → ℕ
  rank u = count (length rs) (comes u)

  comes_sound : (u v : ℕ) → comes u v ≡ true → Reaches rs u v
  unfolding comes
  comes_sound u v e = way_holds (leads rs) (Reaches rs) (λ u v e. at_once (leads_sound rs u v e)) (λ u w v h k. reached rs h k) (length rs) u v e

  not_back : (u : ℕ) → comes u u ≡ false
  not_back u = false_from_ne_true (comes u u) (λ e. none u (comes_sound u u e))

  falls : (u v : ℕ) → Leads rs u v → rank v < rank u
  unfolding rank comes
  falls u v l =
      let v_in = named_below rs l.call.name v l.to in
      let at = edge_way (leads rs) (length rs) u v (leads_whole rs u v l) in
      count_less (length rs) (comes v) (comes u) (λ i lt e. joined (leads rs) (length rs) v u i v_in at e) v v_in (not_back v) at

  below : (u : ℕ) → u < length rs → rank u < length rs
  unfolding rank
  below u lt = subst (λ n. count (length rs) (comes u) < n) (count_all (length rs)) (count_less (length rs) (comes u) (λ i. true) (λ i l e. refl) u lt (not_back u) refl)

  pub have_ranks : HaveRanks rs
  have_ranks = (rank, falls, below)

got_contained : {X : Type 0} (xs : List X) (i : ℕ) (x : X) → i < length xs → get_or xs i x ≡ x → slice_get xs i ≡ Some x
got_contained [] i x lt e = absurd (omega (arith, lt))
got_contained (y ∷ xs) zero x lt e = ap Some e
got_contained (y ∷ xs) (suc i) x lt e = got_contained xs i x (omega (arith, lt)) e

slice_get_here : {X : Type 0} (xs : List X) (i : ℕ) → i < length xs → (x : X) × (slice_get xs i ≡ Some x)
slice_get_here [] i lt = absurd (omega (arith, lt))
slice_get_here (y ∷ xs) zero lt = (y, refl)
slice_get_here (y ∷ xs) (suc i) lt = slice_get_here xs i (omega (arith, lt))

named_unit : (rs : List Routine) (x : List ℕ) (v : ℕ) → unit_named x rs ≡ Some v → (r : Routine) × (slice_get rs v ≡ Some r)
named_unit rs x v e = slice_get_here rs v (named_below rs x v e)

-- a whole program has no cycle

module _ (p : Program) (w : IsWhole p) where
  no_call : (u v : ℕ) → Leads p.units u v → ¬ ((v ≡ u) ⊎ Reaches p.units v u)
  no_call u v l back =
      let i = l.stands in
      let r = named_unit p.units l.call.name v l.to in
      w.clean Recursion (at_part u (suc i.0)) (record {
        at = record { unit = l.unit; index = i.0; line = l.line; here = l.here; number = refl; stands = got_contained l.unit.lines i.0 l.line i.1 i.2 };
        call = l.call;
        called = l.called;
        holds = record { number = v; unit = r.0; to = l.to; here = r.1; holds = back };
      })

  no_back : {u v : ℕ} → Reaches p.units u v → ¬ (u ≡ v)
  no_back {u} {v} (at_once l) e = no_call u v l (inl (sym e))
  no_back {u} {v} (further {v = x} l h) e = no_call u x l (inr (subst (Reaches p.units x) (sym e) h))

  pub whole_ranks : HaveRanks p.units
  whole_ranks = have_ranks p.units (λ u h. no_back h refl)
