-- The dummies before are noted.
use Rattle.std.proofs.Common.{◌≡◌, ℕ, List, take}
use Rattle.std.specs.HashMap.{get_by}
use Rattle.std.specs.Option.{option_or}
use Rattle.std.specs.Str.{bytes_eq}
use Rattle.unit_rules.specs.Roles.{role_listed}
use Rattle.unit_rules.proofs.roles.note_dummies.Given as goal

abbrev pub invariant-loop-dummy : goal.invariant-loop-dummy
invariant-loop-dummy l = (q : List ℕ) → get_by (λ k. bytes_eq q k.now) l.table ≡ option_or (get_by (λ k. bytes_eq q k.now) l.initial.table) (role_listed q (take l.dummy-index l.list))
