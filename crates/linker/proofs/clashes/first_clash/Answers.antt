-- The first call that does not agree with its unit, or one more that does.
use Rattle.std.proofs.Common.{◌∙◌, find, option_map, ap, sym}
use Rattle.linker.specs.CallRules.{is_clashing}
use Rattle.linker.specs.CallViews.{units_in}
use Rattle.linker.specs.SiteViews.{site_of}
use Rattle.linker.specs.Sites.{Site}
use Rattle.linker.proofs.FindLemmas.{find_here, find_past}
use Rattle.linker.proofs.clashes.first_clash.Goals as goal

pub returns-then-is_clashing : goal.returns-then-is_clashing
returns-then-is_clashing c =
    let test = is_clashing (units_in c.args.calls.now) in
    let xs = c.args.calls.now.sites.items in
    let found = find_here test site_of xs c.loop-site.site-index c.site-item.result (rw c.deref-site-items.ensures.value at c.loop-site-test.true) (rw c.deref-site-items.ensures.value at c.site-item.is)
    c.loop-site.invariant (sym c.is_clashing.ensures ∙ c.if-is_clashing.true) in
    sym (ap (option_map (λ (s : Site). s.place)) (ap (find test) (sym c.requires.calls.sites) ∙ found))

pub loop-site-preserved : goal.loop-site-preserved
loop-site-preserved c =
    let test = is_clashing (units_in c.args.calls.now) in
    let xs = c.args.calls.now.sites.items in
    find_past test site_of xs c.loop-site.site-index c.site-item.result (rw c.deref-site-items.ensures.value at c.loop-site-test.true) (rw c.deref-site-items.ensures.value at c.site-item.is)
    c.loop-site.invariant (sym c.is_clashing.ensures ∙ c.if-is_clashing.false)
