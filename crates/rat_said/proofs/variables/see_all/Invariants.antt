-- The variables among the uses before are seen.
use Rattle.std.proofs.Common.{◌≡◌, ◌||◌, ℕ, List, take}
use Rattle.std.specs.List.{list_any}
use Rattle.f66_names.specs.UseViews.{use_of}
use Rattle.f66_mentions.specs.UnitViews.{context_in}
use Rattle.rat_said.specs.Brief.{is_name, variable_used}
use Rattle.rat_said.specs.Seen.{has}
use Rattle.rat_said.proofs.variables.see_all.Given as goal

abbrev pub invariant-loop-one : goal.invariant-loop-one
invariant-loop-one l = (q : List ℕ) → has l.seen q ≡ (has l.initial.seen q || list_any (λ u. is_name (variable_used (context_in l.names) (use_of u)) q) (take l.one-index l.uses))
