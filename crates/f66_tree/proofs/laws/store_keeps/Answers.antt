-- The law is a lemma of Stores.
use Rattle.f66_tree.proofs.Stores as stores
use Rattle.f66_tree.proofs.laws.store_keeps.Goals as goal

pub returns : goal.returns
returns c = stores.store_keeps
