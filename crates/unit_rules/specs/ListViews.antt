-- What a statement in memory lists.
use Rattle.std.specs.Prelude.{◌≡◌, map}
use Rattle.f66_tree.specs.Syntax.{Act}
use Rattle.f66_tree.specs.Views.{formula_of, declared_of}
use Rattle.unit_rules.specs.declared.listed.Lists.{Lists}
use Rattle.unit_rules.specs.Listed.{common_in, equated_in, preset_in}

-- these are the lists of the statement
pub record AreLists (l : Lists) (a : Act) : Type 0 where
  pub common : map (λ d. declared_of d.now) l.common.items ≡ common_in a
  pub equated : map (λ e. formula_of e.now) l.equated.items ≡ equated_in a
  pub preset : map (λ e. formula_of e.now) l.preset.items ≡ preset_in a
