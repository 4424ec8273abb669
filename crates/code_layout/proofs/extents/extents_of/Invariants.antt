-- The dimensions that the statements before give are noted.
use Rattle.std.proofs.Common.{◌≡◌, ℕ, List, take, map, option_map}
use Rattle.std.specs.HashMap.{get_by}
use Rattle.std.specs.Str.{bytes_eq}
use Rattle.rule_table.specs.Words.{find_map}
use Rattle.f66_tree.specs.Views.{act_of, par_of}
use Rattle.f66_mentions.specs.Dimensions.{dims_in}
use Rattle.code_layout.proofs.extents.extents_of.Given as goal

abbrev pub invariant-loop-statement : goal.invariant-loop-statement
invariant-loop-statement l = (q : List ℕ) → option_map (λ e. map par_of e.sizes.now) (get_by (λ k. bytes_eq q k.now) l.extents)
    ≡ find_map (dims_in q) (map (λ s. act_of s.kind) (take l.statement-index l.statements))
