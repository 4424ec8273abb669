-- The classes of the uses before are noted.
use Rattle.std.proofs.Common.{◌≡◌, ℕ, List, take, map}
use Rattle.std.specs.HashMap.{get_by}
use Rattle.std.specs.Option.{option_or}
use Rattle.std.specs.Str.{bytes_eq}
use Rattle.rule_table.specs.Words.{find_map}
use Rattle.f66_names.specs.UseViews.{use_of}
use Rattle.f66_names.specs.DeclarationViews.{context_in}
use Rattle.unit_rules.specs.Roles.{role_given}
use Rattle.unit_rules.proofs.roles.note_used.Given as goal

abbrev pub invariant-loop-used : goal.invariant-loop-used
invariant-loop-used l = (q : List ℕ) → get_by (λ k. bytes_eq q k.now) l.table ≡ option_or (get_by (λ k. bytes_eq q k.now) l.initial.table) (find_map (role_given (context_in l.declarations) q) (map use_of (take l.used-index l.uses)))
