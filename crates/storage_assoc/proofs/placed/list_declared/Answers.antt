-- The names that one statement more declares are listed.
use Rattle.std.proofs.Common.{not}
use Rattle.std.specs.HashMap.{get_by}
use Rattle.std.specs.Str.{bytes_eq}
use Rattle.f66_tree.specs.Views.{header_of}
use Rattle.f66_program.specs.Mentions.{is_dummy}
use Rattle.storage_assoc.specs.Listings.{has_name}
use Rattle.storage_assoc.specs.Placing.{is_none}
use Rattle.storage_assoc.proofs.PlacingLemmas.{declared_more}
use Rattle.storage_assoc.proofs.placed.list_declared.Goals as goal

pub loop-statement-preserved : goal.loop-statement-preserved
loop-statement-preserved c = (
  c.in_ok-list_uncalled.ensures.listing,
  λ q.
      declared_more q (has_name c.list_uncalled.new.listing q) (has_name c.loop-statement.listing q) (has_name c.args.listing.now q)
      (not (is_dummy q (header_of c.args.names.now.unit.now.header))) (is_none (get_by (λ k. bytes_eq q k.now) c.args.called.now))
      c.args.names.now.unit.now.statements.items c.loop-statement.statement-index c.statement-item.result c.declared_in.result.now
      (rw c.deref-statement-items.ensures.value at c.loop-statement-test.true) (rw c.deref-statement-items.ensures.value at c.statement-item.is) c.declared_in.ensures (c.in_ok-list_uncalled.ensures.listed q) (c.loop-statement.invariant.1 q),
)
