-- The table has the classes of the header's names, and those that the statements before use names in.
use Rattle.std.proofs.Common.{◌≡◌, ℕ, List, take}
use Rattle.std.specs.HashMap.{get_by}
use Rattle.std.specs.Str.{bytes_eq}
use Rattle.f66_names.specs.ActViews.{acts_of}
use Rattle.f66_names.specs.DeclarationViews.{context_in}
use Rattle.unit_rules.specs.Roles.{role_of}
use Rattle.unit_rules.proofs.roles.role_table.Given as goal

abbrev pub invariant-loop-saying : goal.invariant-loop-saying
invariant-loop-saying l = (q : List ℕ) → get_by (λ k. bytes_eq q k.now) l.table ≡ role_of (context_in l.declarations) (acts_of (take l.saying-index l.declarations.sayings.now)) q
