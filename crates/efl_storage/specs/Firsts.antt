-- The first procedure of each common area, in memory.
use Rattle.std.specs.Prelude.{◌≡◌, ℕ, Bool, List, Option, Some, None, if◌then◌else◌}
use Rattle.std.specs.HashMap.{get_by}
use Rattle.std.specs.Str.{bytes_eq}
use Rattle.rule_table.specs.Words.{first_place}
use Rattle.efl_tree.specs.Syntax.{Text, EflProcedure}
use Rattle.efl_scope.specs.ScopeRules.{has_area}
use Rattle.efl_storage.specs.declared.firsts.Firsts.{Firsts}

abbrev pub first_in : Firsts → Text → Option ℕ
first_in firsts q = get_by (λ k. bytes_eq q k.now) firsts.table

-- a procedure, where it has the area
abbrev pub first_if : Bool → ℕ → Option ℕ
first_if has n = if has then Some n else None

abbrev pub AreFirsts : List EflProcedure → Firsts → Type 0
AreFirsts us firsts = (q : Text) → first_in firsts q ≡ first_place (has_area q) us
