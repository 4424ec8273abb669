-- The edges of a program are its calls.
use Rattle.std.proofs.Common.{◌≡◌, ◌<◌, ℕ, zero, suc, Bool, true, false, not, cond, List, [], ◌∷◌, length, map, get_or, filter, Some, unwrap_or, refl, sym, ap, subst, ◌∙◌, arith}
use Rattle.std.proofs.lemmas.List.Elements.{All-map, All-filter, All-contains_itself}
use Rattle.std.specs.List.{All, Contains}
use Rattle.f66_tree.specs.Syntax.{Routine}
use Rattle.f66_program.specs.Calls.{unit_named, Leads}
use Rattle.call_cycles.specs.declared.edge.Edge.{Edge}
use Rattle.call_cycles.specs.Cycles.{edge_at, no_edge, Fall}
use Rattle.call_ranks.specs.Ranks.{HaveRanks}
use Rattle.linker.specs.CallRules.{is_nothing}
use Rattle.linker.specs.Cycles.{leads, edge_of, led_sites}
use Rattle.linker.specs.Sites.{Site, site_at, sites_of}
use Rattle.linker.proofs.PartLemmas.{contains_got, got_contained}
use Rattle.linker.proofs.CycleLemmas.{some_number}
use Rattle.linker.proofs.SiteLemmas.{Contains-map, site_in, call_listed}
use Rattle.code_layout.specs.Ranks.{CanFall}

passing : {X : Type 0} (test : X → Bool) (xs : List X) (x : X) → Contains xs x → test x ≡ true → Contains (filter test xs) x
passing test [] x m t = absurd (let l = m.1 in omega (arith, l))
passing test (y ∷ xs) x (zero, l, e) t = kept_here (test y) (ap test e ∙ t)
  where
    kept_here : (b : Bool) → b ≡ true → Contains (cond b (y ∷ filter test xs) (filter test xs)) x
    kept_here true s = (0, omega arith, e)
    kept_here false s = absurd (cc)
passing test (y ∷ xs) x (suc i, l, e) t = behind (test y) (filter test xs) (passing test xs x (i, omega (arith, l), e) t)
  where
    behind : (b : Bool) (ys : List _) → Contains ys x → Contains (cond b (y ∷ ys) ys) x
    behind true ys m = (suc m.0, (let l = m.1 in omega (arith, l)), m.2)
    behind false ys m = m

all_pass : {X : Type 0} (test : X → Bool) (xs : List X) (i : ℕ) (d : X) → i < length (filter test xs) → test (get_or (filter test xs) i d) ≡ true
all_pass test [] i d lt = absurd (omega (arith, lt))
all_pass test (x ∷ xs) i d lt = at (test x) refl (all_pass test xs) i lt
  where
    at : (b : Bool) → test x ≡ b → ((i : ℕ) (d : _) → i < length (filter test xs) → test (get_or (filter test xs) i d) ≡ true) → (i : ℕ) → i < length (cond b (x ∷ filter test xs) (filter test xs)) → test (get_or (cond b (x ∷ filter test xs) (filter test xs)) i d) ≡ true
    at true e a zero l = e
    at true e a (suc i) l = a i d (omega (arith, l))
    at false e a i l = a i d l

module _ (rs : List Routine) where
  abbrev pub call_edges : List Edge
  call_edges = map (edge_of rs) (led_sites rs)

  edge_leads : (s : Site) → Contains (sites_of rs) s → leads rs s ≡ true → Leads rs (edge_of rs s).from (edge_of rs s).to
  edge_leads s listed l =
      let v = some_number (unit_named s.call.name rs) l in
      let m = site_in rs s listed in
      record { unit = m.unit; line = m.line; call = s.call; here = m.here; stands = contains_got m.unit.lines s.line m.line m.stands; called = m.called; to = v.1 ∙ ap Some (sym (ap (λ o. unwrap_or o 0) v.1)) }

  edges_lead : All (λ (e : Edge). Leads rs e.from e.to) call_edges
  edges_lead = All-map (λ (e : Edge). Leads rs e.from e.to) (edge_of rs) (led_sites rs) (λ i d lt.
      edge_leads (get_or (led_sites rs) i d) (All-filter (leads rs) (Contains (sites_of rs)) (sites_of rs) (All-contains_itself (sites_of rs)) i d lt) (all_pass (leads rs) (sites_of rs) i d lt))

  -- ranks of the units are numbers that fall along the edges
  pub can_fall : HaveRanks rs → CanFall (length rs) call_edges
  can_fall h = record { rank = h.0; falls = λ j lt. h.1 (edge_at call_edges j).from (edge_at call_edges j).to (edges_lead j no_edge lt); small = h.2 }

  leading : (u v : ℕ) → Leads rs u v → Contains call_edges (record { from = u; to = v })
  leading u v l =
      let c = l.stands in
      let s = site_at u c.0 l.line.place l.call in
      let listed = call_listed rs u l.unit c.0 l.line l.call l.here (got_contained l.unit.lines c.0 l.line c.1 c.2) l.called in
      let leads_is : leads rs s ≡ true = ap (λ o. not (is_nothing o)) l.to in
      let e : edge_of rs s ≡ record { from = u; to = v } = ap (λ n. record { from = u; to = n }) (ap (λ o. unwrap_or o 0) l.to) in
      subst (Contains call_edges) e (Contains-map (edge_of rs) (led_sites rs) s (passing (leads rs) (sites_of rs) s listed leads_is))

  same_got : (xs : List Edge) (i : ℕ) (d e : Edge) → i < length xs → get_or xs i d ≡ get_or xs i e
  same_got [] i d e lt = absurd (omega (arith, lt))
  same_got (x ∷ xs) zero d e lt = refl
  same_got (x ∷ xs) (suc i) d e lt = same_got xs i d e (omega (arith, lt))

  -- numbers that fall along the edges fall along each call
  pub falls_along : (ranks : List ℕ) → Fall ranks call_edges → (u w : ℕ) → Leads rs u w → get_or ranks w 0 < get_or ranks u 0
  falls_along ranks fall u w l =
      let c = leading u w l in
      let f = fall c.0 c.1 in
      let at : edge_at call_edges c.0 ≡ record { from = u; to = w } = same_got call_edges c.0 no_edge (record { from = u; to = w }) c.1 ∙ c.2 in
      subst (λ (e : Edge). get_or ranks e.to 0 < get_or ranks e.from 0) at f
