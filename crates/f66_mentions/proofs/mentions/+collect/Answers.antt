-- A name with a list behind it.
use Rattle.std.proofs.Common.{map}
use Rattle.f66_program.specs.Mentions.{mentions_of}
use Rattle.f66_mentions.specs.UnitViews.{context_in, mention_of}
use Rattle.f66_mentions.proofs.FormLemmas.{item_added}
use Rattle.f66_mentions.proofs.mentions.+collect.Goals as goal

pub collect-returns-in-Item : goal.collect-returns-in-Item
collect-returns-in-Item t c =
    item_added (mentions_of (context_in c.args.names.now)) c.collect_item.result (map mention_of c.args.mentions.now.items) (map mention_of c.collect_item.new.mentions.items)
    c.args.e.now c.in-Item.item c.deref.result.now c.deref-in-Item.result.now c.in-Item.is c.deref.ensures c.deref-in-Item.ensures.value c.collect_item.ensures
