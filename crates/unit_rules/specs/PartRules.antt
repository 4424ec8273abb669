-- What a part of a statement breaks that only uses names: a condition, a value, the words of a DO, or the value of a function.
use Rattle.std.specs.Prelude.{Bool, false, List}
use Rattle.std.specs.List.{list_any}
use Rattle.rule_table.specs.declared.rule.Rule.{Rule}
use Rattle.rule_table.specs.declared.rule.Rule.TheVariants.{Syntax, NameTooLong, OutOfProfileType, TypeClash, WrongCount, DuplicateName, NotAssignable}
use Rattle.f66_tree.specs.Syntax.{Act}
use Rattle.f66_tree.specs.Units.{Context}
use Rattle.f66_names.specs.Sorts.{is_real_by_letter}
use Rattle.f66_names.specs.Uses.{Usage}
use Rattle.f66_names.specs.NameRules.{is_long, miscounts}
use Rattle.unit_rules.specs.Roles.{misuses}

-- These are the names that it uses; it has another form or another type than it is to have, or stores where it may not.
abbrev pub breaks_used : Context → List Act → List Usage → Bool → Bool → Bool → Rule → Bool
breaks_used c acts us misformed clashing stored Syntax = misformed
breaks_used c acts us misformed clashing stored NameTooLong = list_any (λ u. is_long u.name) us
breaks_used c acts us misformed clashing stored OutOfProfileType = list_any (λ u. is_real_by_letter c u.name) us
breaks_used c acts us misformed clashing stored TypeClash = clashing
breaks_used c acts us misformed clashing stored WrongCount = list_any (miscounts c) us
breaks_used c acts us misformed clashing stored DuplicateName = list_any (misuses c acts) us
breaks_used c acts us misformed clashing stored NotAssignable = stored
breaks_used c acts us misformed clashing stored _ = false
