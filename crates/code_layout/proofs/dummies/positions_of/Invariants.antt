-- The names before have their places.
use Rattle.std.proofs.Common.{◌≡◌, ℕ, List, take}
use Rattle.std.specs.HashMap.{get_by}
use Rattle.std.specs.Str.{bytes_eq}
use Rattle.rule_table.specs.Words.{first_place}
use Rattle.code_layout.proofs.dummies.positions_of.Given as goal

abbrev pub invariant-loop-name : goal.invariant-loop-name
invariant-loop-name l = record {
  count : l.number ≡ l.name-index;
  noted : (q : List ℕ) → get_by (λ k. bytes_eq q k.now) l.table ≡ first_place (bytes_eq q) (take l.name-index l.list);
}
