-- Why `list_units` keeps its clauses.
use Rattle.std.proofs.Common.{List, ℕ, sym, subst}
use Rattle.f66_tree.specs.declared.unit.Unit.{Unit as AUnit}
use Rattle.linker.specs.Rules.{program_of}
use Rattle.machine.specs.Runs.{IsSoundProgram}
use Rattle.machine.specs.Listings.{IsListingOf}
use Rattle.eft_top.specs.Story.{Prints, HasPut, HasBroken}
use Rattle.eft_top.proofs.answer.list_units.Goals as goal

pub listing-requires : goal.listing-requires
listing-requires g c = subst (λ (us : List AUnit). IsSoundProgram (program_of us c.args.finish)) (sym c.deref.ensures.value) c.requires

pub returns-clause-prints : goal.returns-clause-prints
returns-clause-prints g c = (
  c.in_ok-text.text.items,
  subst (λ (us : List AUnit). IsListingOf (program_of us c.args.finish) c.in_ok-text.text.items) c.deref.ensures.value c.in_ok-text.ensures,
  subst (λ (text : List ℕ). Prints text (HasPut g.K.Sink.puts g.K.Sink.faults c.args.out.now c.print.new.out) (HasBroken g.K.Sink.puts g.K.Sink.faults c.args.out.now c.print.new.out) c.print.result) c.deref-2.ensures.value c.print.ensures,
)
