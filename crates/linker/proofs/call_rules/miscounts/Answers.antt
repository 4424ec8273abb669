-- The lengths are those of the lists.
use Rattle.std.proofs.Common.{not, ap, sym, nat_eq, length, ◌∙◌}
use Rattle.f66_tree.specs.Units.{dummies_of}
use Rattle.f66_tree.specs.Views.{header_of}
use Rattle.linker.proofs.FindLemmas.{many_listed}
use Rattle.linker.proofs.call_rules.miscounts.Goals as goal

pub returns : goal.returns
returns c =
    ap (λ n. not (nat_eq (length c.args.site.now.actuals.now) n)) c.dummy_count.ensures
    ∙ ap (λ n. not (nat_eq n (length (dummies_of (header_of c.args.unit.now.header))))) (sym (many_listed c.args.site.now.actuals.now))
