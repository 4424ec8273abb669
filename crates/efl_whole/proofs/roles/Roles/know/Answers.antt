-- The structure is noted.
use Rattle.std.specs.HashMap.{get_by}
use Rattle.std.specs.Str.{bytes_eq}
use Rattle.std.proofs.lemmas.Map.Text.{hash_map_updates_str}
use Rattle.efl_whole.specs.RoleViews.{roles_of}
use Rattle.efl_whole.proofs.NumberLemmas.{structure_noted}
use Rattle.efl_whole.proofs.roles.Roles.know.Goals as goal

pub returns : goal.returns
returns c =
    structure_noted (roles_of c.args.self.now) (λ q. get_by (λ k. bytes_eq q k.now) c.insert.new.self) c.args.name.now
    (hash_map_updates_str c.args.name.now c.args.self.now.table c.insert.new.self _ c.in_ok-insert.ensures.updates)
