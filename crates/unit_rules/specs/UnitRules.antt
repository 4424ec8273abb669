-- The rules of names, types, counts, constants and stores for units of every kind, one row for each fault.
use Rattle.std.specs.Prelude.{ℕ, Bool, false, not, ◌||◌, List}
use Rattle.rule_table.specs.declared.rule.Rule.{Rule}
use Rattle.rule_table.specs.declared.rule.Rule.TheVariants.{Syntax, NameTooLong, OutOfProfileType, TypeClash, WrongCount, DuplicateName, BadConstant, BadFormat, NotAssignable, LargeArray}
use Rattle.std.specs.List.{list_any}
use Rattle.rule_table.specs.Words.{is_some_and}
use Rattle.f66_tree.specs.Syntax.{Act}
use Rattle.f66_tree.specs.Units.{Context}
use Rattle.f66_names.specs.Sorts.{is_real_by_letter}
use Rattle.f66_names.specs.NameRules.{has_name, is_long, has_other_type, has_wrong_sizes, miscounts, redeclares}
use Rattle.f66_names.specs.StoreRules.{has_bad_constant, has_bad_format, stores_wrong, is_large, has_large_array}
use Rattle.unit_rules.specs.Called.{called_in}
use Rattle.unit_rules.specs.Listed.{common_in, more_names, any_use}
use Rattle.unit_rules.specs.Forms.{has_form}
use Rattle.unit_rules.specs.Types.{clashes}
use Rattle.unit_rules.specs.Roles.{mixes_roles}
use Rattle.unit_rules.specs.Heads.{declares_own}
use Rattle.unit_rules.specs.Storage.{any_block, lists_odd, lists_miscounted, lists_again, lists_bad_constant, presets_wrong}

abbrev pub has_long_name : Act → Bool
has_long_name a = has_name is_long a || (is_some_and is_long (called_in a) || (any_block is_long a || list_any (λ u. is_long u.name) (more_names a)))

abbrev pub has_foreign_name : Context → Act → Bool
has_foreign_name c a = has_other_type c a || list_any (λ u. is_real_by_letter c u.name) (more_names a)

abbrev pub counts_wrong : Context → Act → Bool
counts_wrong c a = has_wrong_sizes a || (any_use c (miscounts c) a || lists_miscounted c a)

abbrev pub is_duplicate : Context → List Act → ℕ → Act → Bool
is_duplicate c acts i a = redeclares acts i a || (lists_again c acts i a || (declares_own c.header a || mixes_roles c acts a))

-- what the statement a with the number i breaks, of a unit with these statements
abbrev pub breaks_rule : Context → List Act → ℕ → Act → Rule → Bool
breaks_rule c acts i a Syntax = not (has_form a)
breaks_rule c acts i a NameTooLong = has_long_name a
breaks_rule c acts i a OutOfProfileType = has_foreign_name c a
breaks_rule c acts i a TypeClash = clashes c a || lists_odd c a
breaks_rule c acts i a WrongCount = counts_wrong c a
breaks_rule c acts i a DuplicateName = is_duplicate c acts i a
breaks_rule c acts i a BadConstant = has_bad_constant c a || lists_bad_constant c a
breaks_rule c acts i a BadFormat = has_bad_format a
breaks_rule c acts i a NotAssignable = stores_wrong c a || presets_wrong c acts a
breaks_rule c acts i a LargeArray = has_large_array a || list_any is_large (common_in a)
breaks_rule c acts i a _ = false
