-- The name's kind is noted.
use Rattle.std.specs.HashMap.{get_by}
use Rattle.std.specs.Str.{bytes_eq}
use Rattle.std.proofs.lemmas.Map.Text.{hash_map_updates_str}
use Rattle.efl_scope.proofs.TableLemmas.{variable_added}
use Rattle.efl_scope.proofs.blocks.Kinds.hide.Goals as goal

pub returns : goal.returns
returns c = λ known.
    variable_added (λ q. get_by (λ k. bytes_eq q k.now) c.args.self.now.table) (λ q. get_by (λ k. bytes_eq q k.now) c.insert.new.self) c.args.name.now known
    (hash_map_updates_str c.args.name.now c.args.self.now.table c.insert.new.self _ c.in_ok-insert.ensures.updates)
