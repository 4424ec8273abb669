-- The edges are those of the calls, and the first one on a cycle is that of the first call on one.
use Rattle.std.proofs.Common.{◌≡◌, ◌<◌, ◌∙◌, length, map, get_or, subst, sym, ap, false, []}
use Rattle.std.proofs.lemmas.List.{get_or-map, length-map}
use Rattle.f66_tree.specs.Syntax.{NoFormula}
use Rattle.f66_tree.specs.Views.{routine_of}
use Rattle.call_cycles.specs.Cycles as cycles
use Rattle.linker.specs.declared.site.Site as memory
use Rattle.linker.specs.CallViews.{units_in}
use Rattle.linker.specs.Cycles.{edge_of}
use Rattle.linker.specs.Rules.{program_of}
use Rattle.linker.specs.SiteViews.{site_of}
use Rattle.linker.specs.Sites.{Site}
use Rattle.linker.proofs.CycleLemmas.{edges, led, within, none_on, first_on}
use Rattle.linker.proofs.recursion.first_recursion.Goals as goal

pub first_on_cycle-requires : goal.first_on_cycle-requires
first_on_cycle-requires c =
    let units = c.args.calls.now.units.now in
    let rs = units_in c.args.calls.now in
    let p = program_of units (record { file = 0; line = 0 }) in
    let are : c.deref-2.result.now ≡ edges p =
    c.deref-2.ensures.value ∙ c.in_ok-edges.ensures ∙ ap (λ xs. map (edge_of rs) (map site_of xs)) c.deref.ensures.value ∙ ap (map (edge_of rs)) c.in_ok-led.ensures in
    let w : cycles.AreWithin (length units) c.deref-2.result.now =
    subst (cycles.AreWithin (length units)) (sym are) (subst (λ n. cycles.AreWithin n (edges p)) (length-map units routine_of) (within p)) in
    w

pub returns-in-Some : goal.returns-in-Some
returns-in-Some c = λ finish.
    let units = c.args.calls.now.units.now in
    let rs = units_in c.args.calls.now in
    let p = program_of units finish in
    let are : c.deref-2.result.now ≡ edges p =
    c.deref-2.ensures.value ∙ c.in_ok-edges.ensures ∙ ap (λ xs. map (edge_of rs) (map site_of xs)) c.deref.ensures.value ∙ ap (map (edge_of rs)) c.in_ok-led.ensures in
    let i = c.in-Some.index in
    let h : cycles.IsFirstOnCycle c.deref-2.result.now i = rw c.in-Some.is at c.in_ok-index.ensures in
    let d : Site = record { unit = 0; line = 0; place = record { file = 0; line = 0 }; call = record { by_call = false; name = []; actuals = NoFormula } } in
    let sites = c.in_ok-led.led.items in
    let site = c.index.result.now in
    let inside : i < length sites =
    subst (λ n. i < n) (ap length are ∙ length-map (led p) (edge_of rs) ∙ ap length (sym c.in_ok-led.ensures) ∙ length-map sites site_of) h.inside in
    let place : c.fault_at.result.place ≡ (get_or (led p) i d).place =
    c.fault_at.ensures.place ∙ ap (λ (s : memory.Site). s.place) c.index.ensures
    ∙ sym (ap (λ (s : Site). s.place) (ap (λ xs. get_or xs i d) (sym c.in_ok-led.ensures) ∙ get_or-map site_of sites i site d inside)) in
    first_on p i d (subst (λ es. cycles.IsFirstOnCycle es i) are h) c.fault_at.result c.fault_at.ensures.kind c.fault_at.ensures.number place

pub returns : goal.returns
returns c = λ finish.
    let units = c.args.calls.now.units.now in
    let rs = units_in c.args.calls.now in
    let p = program_of units finish in
    let are : c.deref-2.result.now ≡ edges p =
    c.deref-2.ensures.value ∙ c.in_ok-edges.ensures ∙ ap (λ xs. map (edge_of rs) (map site_of xs)) c.deref.ensures.value ∙ ap (map (edge_of rs)) c.in_ok-led.ensures in
    let h : cycles.HasNoCycle c.deref-2.result.now = rw c.in-None.is at c.in_ok-index.ensures in
    none_on p (subst cycles.HasNoCycle are h)
