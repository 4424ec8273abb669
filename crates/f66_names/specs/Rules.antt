-- The rules of names, types, counts, constants and stores, one row for each fault.
use Rattle.std.specs.Prelude.{ℕ, Bool, false, not, List}
use Rattle.rule_table.specs.declared.rule.Rule.{Rule}
use Rattle.rule_table.specs.declared.rule.Rule.TheVariants.{Syntax, NameTooLong, OutOfProfileType, TypeClash, WrongCount, DuplicateName, BadConstant, BadFormat, NotAssignable, LargeArray}
use Rattle.f66_tree.specs.Syntax.{Act}
use Rattle.f66_tree.specs.Units.{Context}
use Rattle.f66_names.specs.Shapes.{has_shape}
use Rattle.f66_names.specs.Kinds.{clashes}
use Rattle.f66_names.specs.NameRules.{has_name, is_long, has_other_type, has_wrong_count, is_duplicate}
use Rattle.f66_names.specs.StoreRules.{has_bad_constant, has_bad_format, stores_wrong, has_large_array}

-- what the statement a with the number i breaks, of a unit with these statements
abbrev pub breaks_name : Context → List Act → ℕ → Act → Rule → Bool
breaks_name c acts i a Syntax = not (has_shape a)
breaks_name c acts i a NameTooLong = has_name is_long a
breaks_name c acts i a OutOfProfileType = has_other_type c a
breaks_name c acts i a TypeClash = clashes c a
breaks_name c acts i a WrongCount = has_wrong_count c a
breaks_name c acts i a DuplicateName = is_duplicate c acts i a
breaks_name c acts i a BadConstant = has_bad_constant c a
breaks_name c acts i a BadFormat = has_bad_format a
breaks_name c acts i a NotAssignable = stores_wrong c a
breaks_name c acts i a LargeArray = has_large_array a
breaks_name c acts i a _ = false
