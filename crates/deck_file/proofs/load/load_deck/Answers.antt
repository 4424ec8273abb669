-- What is answered is so by what the fetch gave.
use Rattle.std.proofs.Common.{Ok, Err, sym, subst}
use Rattle.ports.specs.Held.{fetched as bytes_of}
use Rattle.deck_file.specs.Loaded.{IsLoaded}
use Rattle.deck_file.specs.Answers.{IsAnswered}
use Rattle.deck_file.proofs.FetchLemmas.{fetched, some_known, named_answer}
use Rattle.deck_file.proofs.load.load_deck.Goals as goal

pub returns-in-Err-Failed-clause-deck : goal.returns-in-Err-Failed-clause-deck
returns-in-Err-Failed-clause-deck g c = let k = some_known _ in record { known = k.0; of = k.1; gives = tt }

pub returns-in-Err-Memory-clause-deck : goal.returns-in-Err-Memory-clause-deck
returns-in-Err-Memory-clause-deck g c = let k = some_known _ in record { known = k.0; of = k.1; gives = tt }

pub returns-in-Ok-deck_of-clause-deck : goal.returns-in-Ok-deck_of-clause-deck
returns-in-Ok-deck_of-clause-deck g c =
    let f = fetched (g.L.Library.files c.args.library.now) c.args.name.now (bytes_of c.in-Ok.bytes) c.in-Ok.ensures.bytes in
    record { known = f.known; of = f.of; gives = subst (λ o. IsAnswered c.args.name.now (IsLoaded o) (Ok c.in-Ok-deck_of.deck)) (sym f.gave) c.in-Ok-deck_of.ensures }

pub returns-in-Err-clause-deck : goal.returns-in-Err-clause-deck
returns-in-Err-clause-deck g c =
    let f = fetched (g.L.Library.files c.args.library.now) c.args.name.now (bytes_of c.in-Ok.bytes) c.in-Ok.ensures.bytes in
    let named = named_answer c.args.name.now (IsLoaded (bytes_of c.in-Ok.bytes)) c.in-Err.refusal c.named.result c.in-Err.ensures c.named.ensures in
    record { known = f.known; of = f.of; gives = subst (λ o. IsAnswered c.args.name.now (IsLoaded o) (Err c.named.result)) (sym f.gave) named }
