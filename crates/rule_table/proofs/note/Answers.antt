-- The value stays under the name unless one was there.
use Rattle.std.proofs.Common.{arith, ◌∙◌}
use Rattle.std.proofs.lemmas.Map.Text.{hash_map_updates_str}
use Rattle.rule_table.proofs.WordLemmas.{note_once}
use Rattle.rule_table.proofs.note.Goals as goal
use Rattle.std.specs.HashMap.{get_by}
use Rattle.std.specs.Str.{bytes_eq}

pub returns : goal.returns
returns g c = λ q.
    hash_map_updates_str c.args.name.now c.args.table.now c.insert.new.self _ c.in_ok-insert.ensures.updates q
    ∙ note_once (λ p. get_by (λ k. bytes_eq p k.now) c.args.table.now) c.args.name.now q c.args.value (grind (arith, c.contains_key.ensures, c.if-contains_key.false))
