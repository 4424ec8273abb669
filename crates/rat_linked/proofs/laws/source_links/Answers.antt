-- The law is a lemma.
use Rattle.rat_linked.proofs.Sources.{source_links}
use Rattle.rat_linked.proofs.laws.source_links.Goals as goal

pub returns : goal.returns
returns c = source_links
