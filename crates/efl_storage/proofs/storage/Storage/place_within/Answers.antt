-- The place has its number among the variables.
use Rattle.efl_storage.proofs.PlaceLemmas.{place_made}
use Rattle.efl_storage.proofs.storage.Storage.place_within.Goals as goal

pub returns : goal.returns
returns c = place_made c.args.self.now c.place_within.new.self c.args.step c.args.outside c.place_within.result c.place_within.ensures.known c.place_within.ensures.numbered c.place_within.ensures.kept
