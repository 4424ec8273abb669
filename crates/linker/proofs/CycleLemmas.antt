-- Edges between units and calls of the program say the same, and the first edge on a cycle is the first call on one.
use Rattle.std.proofs.Common.{◌≡◌, ◌<◌, ◌⊎◌, inl, inr, ◌∙◌, ◌∷◌, [], ℕ, zero, suc, Bool, true, false, not, cond, List, length, map, get_or, filter, Option, None, Some, unwrap_or, refl, sym, ap, subst, arith}
use Rattle.std.specs.Prelude.{if◌then◌else◌}
use Rattle.std.proofs.lemmas.Bool.{cases_lt}
use Rattle.std.proofs.lemmas.List.{get_or-map, length-map}
use Rattle.std.proofs.lemmas.List.Elements.{All-nil, All-cons, All-map, All-filter, All-contains, All-contains_itself}
use Rattle.std.proofs.lemmas.List.Kept.{AllPairs-cons, AllPairs-filter}
use Rattle.std.specs.List.{All, AllPairs, Contains, slice_get}
use Rattle.ground.specs.declared.fault.Fault.{Fault}
use Rattle.ground.specs.declared.fault.FaultKind.TheVariants.{Recursion}
use Rattle.f66_tree.specs.Syntax.{NoFormula, Routine}
use Rattle.f66_tree.specs.Units.{Context}
use Rattle.f66_program.specs.Mentions.{context_of}
use Rattle.f66_program.specs.Calls.{Call, unit_named, is_called, one_further, Leads, Reaches, at_once, further}
use Rattle.f66_program.specs.Linking.{Program, LeadsTo}
use Rattle.call_cycles.specs.declared.edge.Edge.{Edge}
use Rattle.call_cycles.specs.Cycles as cycles
use Rattle.linker.specs.Rules.{IsFirstBroken, IsKept}
use Rattle.linker.specs.CallRules.{is_nothing}
use Rattle.linker.specs.Cycles.{leads, edge_of, led_sites}
use Rattle.linker.specs.Sites.{Site, site_at, sites_of, IsNotBefore}
use Rattle.linker.proofs.PartLemmas.{contains_got, got_contained, got_inside}
use Rattle.linker.proofs.SiteLemmas.{Contains-map, IsOrdered, sites_ordered, site_in, call_listed, broken_at, kept_by}

-- the calls of units that are there

passing : {X : Type 0} (test : X → Bool) (xs : List X) (x : X) → Contains xs x → test x ≡ true → Contains (filter test xs) x
passing test [] x m t = absurd (let l = m.1 in omega (arith, l))
passing test (y ∷ xs) x (zero, l, e) t = kept_here (test y) (ap test e ∙ t)
  where
    kept_here : (b : Bool) → b ≡ true → Contains (cond b (y ∷ filter test xs) (filter test xs)) x
    kept_here true s = (0, omega arith, e)
    kept_here false s = absurd (cc)
passing test (y ∷ xs) x (suc i, l, e) t = behind (test y) (filter test xs) (passing test xs x (i, omega (arith, l), e) t)
  where
    behind : (b : Bool) (ys : List _) → Contains ys x → Contains (cond b (y ∷ ys) ys) x
    behind true ys m = (suc m.0, (let l = m.1 in omega (arith, l)), m.2)
    behind false ys m = m

all_pass : {X : Type 0} (test : X → Bool) (xs : List X) → All (λ x. test x ≡ true) (filter test xs)
all_pass test [] = All-nil (λ x. test x ≡ true)
all_pass test (x ∷ xs) = at (test x) refl (all_pass test xs)
  where
    at : (b : Bool) → test x ≡ b → All (λ x. test x ≡ true) (filter test xs) → All (λ x. test x ≡ true) (cond b (x ∷ filter test xs) (filter test xs))
    at true e a = All-cons (λ x. test x ≡ true) x (filter test xs) e a
    at false e a = a

ordered_pairs : (xs : List Site) → IsOrdered xs → AllPairs IsNotBefore xs
ordered_pairs [] o = λ i j d lt l. absurd (omega (arith, l))
ordered_pairs (x ∷ xs) o = AllPairs-cons IsNotBefore x xs o.0 (ordered_pairs xs o.1)

pub some_number : (o : Option ℕ) → not (is_nothing o) ≡ true → (v : ℕ) × (o ≡ Some v)
some_number None e = absurd (cc)
some_number (Some v) e = (v, refl)

further_found : (o : Option ℕ) (v : ℕ) → one_further o ≡ Some v → (w : ℕ) × (o ≡ Some w) × (v ≡ suc w)
further_found None v e = absurd (cc)
further_found (Some w) v e = (w, refl, (let f : Some (suc w) ≡ Some v = e in cc))

named_unit : (rs : List Routine) (x : List ℕ) (v : ℕ) → unit_named x rs ≡ Some v → (r : Routine) × (slice_get rs v ≡ Some r)
named_unit [] x v e = absurd (cc)
named_unit (r ∷ rs) x v e = at (is_called x r.header) e (named_unit rs x)
  where
    at : (b : Bool) → (if b then Some zero else one_further (unit_named x rs)) ≡ Some v → ((w : ℕ) → unit_named x rs ≡ Some w → (s : Routine) × (slice_get rs w ≡ Some s)) → (s : Routine) × (slice_get (r ∷ rs) v ≡ Some s)
    at true e g = (r, (let f : Some zero ≡ Some v = e in let z : 0 ≡ v = cc in subst (λ w. slice_get (r ∷ rs) w ≡ Some r) z refl))
    at false e g = (let h = further_found (unit_named x rs) v e in let s = g h.0 h.1 in (s.0, subst (λ w. slice_get (r ∷ rs) w ≡ Some s.0) (sym h.2) s.1))

no_site : Site
no_site = record { unit = 0; line = 0; place = record { file = 0; line = 0 }; call = record { by_call = false; name = []; actuals = NoFormula } }

module _ (p : Program) where
  abbrev pub rs : List Routine
  rs = p.units

  abbrev pub led : List Site
  led = led_sites rs

  abbrev pub edges : List Edge
  edges = map (edge_of rs) led

  abbrev Holds : ℕ → Context → Call → Type 0
  Holds u c k = LeadsTo p k (λ v r. (v ≡ u) ⊎ Reaches rs v u)

  record IsLed (s : Site) : Type 0 where
    listed : Contains (sites_of rs) s
    to : ℕ
    named : unit_named s.call.name rs ≡ Some to

  led_is : (s : Site) → Contains (sites_of rs) s → leads rs s ≡ true → IsLed s
  led_is s m l = (let v = some_number (unit_named s.call.name rs) l in record { listed = m; to = v.0; named = v.1 })

  all_led : All IsLed led
  all_led = λ i d lt.
      let s = get_or led i d in
      led_is s (All-filter (leads rs) (Contains (sites_of rs)) (sites_of rs) (All-contains_itself (sites_of rs)) i d lt) (all_pass (leads rs) (sites_of rs) i d lt)

  edge_leads : (s : Site) → IsLed s → Leads rs (edge_of rs s).from (edge_of rs s).to
  edge_leads s l =
      let m = site_in rs s l.listed in
      record { unit = m.unit; line = m.line; call = s.call; here = m.here; stands = contains_got m.unit.lines s.line m.line m.stands; called = m.called; to = l.named ∙ ap Some (sym (ap (λ o. unwrap_or o 0) l.named)) }

  edges_lead : All (λ (e : Edge). Leads rs e.from e.to) edges
  edges_lead = All-map (λ (e : Edge). Leads rs e.from e.to) (edge_of rs) led (λ i d lt. edge_leads (get_or led i d) (all_led i d lt))

  leading : (u v : ℕ) → Leads rs u v → Contains edges (record { from = u; to = v })
  leading u v l =
      let c = l.stands in
      let s = site_at u c.0 l.line.place l.call in
      let listed = call_listed rs u l.unit c.0 l.line l.call l.here (got_contained l.unit.lines c.0 l.line c.1 c.2) l.called in
      let leads_is : leads rs s ≡ true = ap (λ o. not (is_nothing o)) l.to in
      let e : edge_of rs s ≡ record { from = u; to = v } = ap (λ n. record { from = u; to = n }) (ap (λ o. unwrap_or o 0) l.to) in
      subst (Contains edges) e (Contains-map (edge_of rs) led s (passing (leads rs) (sites_of rs) s listed leads_is))

  reached : {x y : ℕ} → cycles.Reaches edges x y → Reaches rs x y
  reached (cycles.at_once e c) = at_once (All-contains (λ (e : Edge). Leads rs e.from e.to) edges e edges_lead c)
  reached (cycles.further e c h) = further (All-contains (λ (e : Edge). Leads rs e.from e.to) edges e edges_lead c) (reached h)

  reaching : {u v : ℕ} → Reaches rs u v → cycles.Reaches edges u v
  reaching {u} {v} (at_once l) = cycles.at_once (record { from = u; to = v }) (leading u v l)
  reaching {u} {v} (further {v = w} l h) = cycles.further (record { from = u; to = w }) (leading u w l) (reaching h)

  comes : (u v : ℕ) → (v ≡ u) ⊎ Reaches rs v u → cycles.Comes edges v u
  comes u v (inl e) = inl e
  comes u v (inr h) = inr (reaching h)

  come : (u v : ℕ) → cycles.Comes edges v u → (v ≡ u) ⊎ Reaches rs v u
  come u v (inl e) = inl e
  come u v (inr h) = inr (reached h)

  same_got : (xs : List Site) (i : ℕ) (d e : Site) → i < length xs → get_or xs i d ≡ get_or xs i e
  same_got [] i d e lt = absurd (omega (arith, lt))
  same_got (x ∷ xs) zero d e lt = refl
  same_got (x ∷ xs) (suc i) d e lt = same_got xs i d e (omega (arith, lt))

  behind : (i : ℕ) (d : Site) → i < length led → (t : Site) (c : Contains led t) → (c.0 < i → ⊥) → IsNotBefore (get_or led i d) t
  behind i d lt t c apart = elim (cases_lt i c.0) [
    | inl l ↦ subst (λ s. IsNotBefore s t) (same_got led i t d lt) (subst (IsNotBefore (get_or led i t)) c.2 (AllPairs-filter IsNotBefore (leads rs) (sites_of rs) (ordered_pairs (sites_of rs) (sites_ordered 0 rs)) i c.0 t l c.1))
    | inr l ↦ elim (cases_lt c.0 i) [
      | inl k ↦ absurd (apart k)
      | inr k ↦
          let e : i ≡ c.0 = omega (arith, l, k) in
          let same : get_or led i d ≡ t = same_got led i d t lt ∙ ap (λ j. get_or led j t) e ∙ c.2 in
          subst (λ s. IsNotBefore s t) (sym same) (inr (refl, omega arith))
    ]
  ]

  on_holds : (s : Site) → IsLed s → cycles.IsOnCycle edges (edge_of rs s) → (c : Context) → Holds s.unit c s.call
  on_holds s l on c =
      let u = named_unit rs s.call.name l.to l.named in
      let e : (edge_of rs s).to ≡ l.to = ap (λ o. unwrap_or o 0) l.named in
      record { number = l.to; unit = u.0; to = l.named; here = u.1; holds = come s.unit l.to (subst (λ n. cycles.Comes edges n s.unit) e on) }

  holds_on : (s : Site) (c : Context) → Holds s.unit c s.call → cycles.IsOnCycle edges (edge_of rs s)
  holds_on s c h =
      let e : (edge_of rs s).to ≡ h.number = ap (λ o. unwrap_or o 0) h.to in
      subst (λ n. cycles.Comes edges n s.unit) (sym e) (comes s.unit h.number h.holds)

  holds_led : (s : Site) (c : Context) → Contains (sites_of rs) s → Holds s.unit c s.call → Contains led s
  holds_led s c m h = passing (leads rs) (sites_of rs) s m (ap (λ o. not (is_nothing o)) h.to)

  many_edges : length edges ≡ length led
  many_edges = length-map led (edge_of rs)

  edge_is : (i : ℕ) (d : Site) → i < length led → cycles.edge_at edges i ≡ edge_of rs (get_or led i d)
  edge_is i d lt = get_or-map (edge_of rs) led i d cycles.no_edge lt

  pub within : cycles.AreWithin (length rs) edges
  within i lt =
      let i_in : i < length led = (let n = many_edges in omega (arith, lt, n)) in
      let s = get_or led i no_site in
      let l = all_led i no_site i_in in
      let m = site_in rs s l.listed in
      let u = named_unit rs s.call.name l.to l.named in
      let e : (edge_of rs s).to ≡ l.to = ap (λ o. unwrap_or o 0) l.named in
      rw (edge_is i no_site i_in) (got_inside rs s.unit m.unit m.here, rw e (got_inside rs l.to u.0 u.1))

  pub none_on : cycles.HasNoCycle edges → IsKept Recursion p
  none_on n = kept_by Recursion p Holds (λ q b. b) (λ q h. h) (λ s r m here h.
      let c = holds_led s (context_of r) m h in
      let at : cycles.edge_at edges c.0 ≡ edge_of rs s = edge_is c.0 s c.1 ∙ ap (edge_of rs) c.2 in
      n c.0 (let k = many_edges in let lt = c.1 in omega (arith, k, lt)) (subst (cycles.IsOnCycle edges) (sym at) (holds_on s (context_of r) h)))

  pub first_on : (i : ℕ) (d : Site) → cycles.IsFirstOnCycle edges i → (f : Fault) → f.kind ≡ Recursion → f.number ≡ 0 → f.place ≡ (get_or led i d).place → IsFirstBroken Recursion p f
  first_on i d h f k n place =
      let i_in : i < length led = (let m = many_edges in let lt = h.inside in omega (arith, m, lt)) in
      let s = get_or led i d in
      let l = all_led i d i_in in
      let on : cycles.IsOnCycle edges (edge_of rs s) = subst (cycles.IsOnCycle edges) (edge_is i d i_in) h.on in
      broken_at Recursion p Holds (λ q b. b) (λ q h. h) s l.listed (λ r here. on_holds s l on (context_of r))
      (λ t r m here holds.
      let c = holds_led t (context_of r) m holds in
      let at : cycles.edge_at edges c.0 ≡ edge_of rs t = edge_is c.0 t c.1 ∙ ap (edge_of rs) c.2 in
      behind i d i_in t c (λ lt. h.earlier c.0 lt (subst (cycles.IsOnCycle edges) (sym at) (holds_on t (context_of r) holds))))
      f k n place
