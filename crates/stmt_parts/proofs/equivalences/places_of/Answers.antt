-- A group has two places or more.
use Rattle.std.proofs.Common.{◌<◌, length, arith}
use Rattle.stmt_parts.proofs.TreeLemmas.{few_places}
use Rattle.stmt_parts.proofs.equivalences.places_of.Goals as goal

pub returns-then-len-lt2 : goal.returns-then-len-lt2
returns-then-len-lt2 c =
    let few : length c.args.list.items < 2 = grind arith in
    few_places c.args.name c.args.list.items few
