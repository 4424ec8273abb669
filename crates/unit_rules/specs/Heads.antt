-- The rules of headers (X3.9-1966, sections 8.3.1, 8.4.1 and 8.5), and of the names that a header gives.
use Rattle.std.specs.Prelude.{Bool, true, false, not, ◌&&◌, ◌||◌, List, [], ◌∷◌, Some}
use Rattle.std.specs.List.{list_any, list_all}
use Rattle.std.specs.Str.{bytes_eq}
use Rattle.rule_table.specs.Words.{repeats}
use Rattle.rule_table.specs.declared.rule.Rule.{Rule}
use Rattle.rule_table.specs.declared.rule.Rule.TheVariants.{Syntax, NameTooLong, OutOfProfileType, DuplicateName}
use Rattle.f66_tree.specs.Syntax.{Text, Header, SubUnit, FuncUnit, Act}
use Rattle.f66_tree.specs.Units.{Context}
use Rattle.f66_names.specs.Declaring.{typed_in, sized_in}
use Rattle.f66_names.specs.NameRules.{is_long}
use Rattle.f66_names.specs.Shapes.{is_name}
use Rattle.f66_names.specs.Sorts.{is_other, is_real_by_letter}

-- a function has one dummy or more, a subroutine any number
abbrev pub has_dummies : Header → Bool
has_dummies (FuncUnit t x []) = false
has_dummies _ = true

-- the unit's own name, and its dummies
abbrev pub header_names : Header → List Text
header_names (SubUnit x ds) = x ∷ ds
header_names (FuncUnit t x ds) = x ∷ ds
header_names _ = []

-- those of them that have values
abbrev pub header_values : Header → List Text
header_values (SubUnit x ds) = ds
header_values (FuncUnit t x ds) = x ∷ ds
header_values _ = []

-- a function's type is outside the profile
abbrev pub gives_other : Header → Bool
gives_other (FuncUnit (Some t) x ds) = is_other t
gives_other _ = false

-- what the header breaks
abbrev pub breaks_header : Context → Rule → Bool
breaks_header c Syntax = not (has_dummies c.header && list_all is_name (header_names c.header))
breaks_header c NameTooLong = list_any is_long (header_names c.header)
breaks_header c OutOfProfileType = gives_other c.header || list_any (is_real_by_letter c) (header_values c.header)
breaks_header c DuplicateName = repeats (header_names c.header)
breaks_header c _ = false

-- the unit's own name
abbrev pub is_own : Header → Text → Bool
is_own (SubUnit x ds) q = bytes_eq q x
is_own (FuncUnit t x ds) q = bytes_eq q x
is_own _ q = false

-- A name to which no type statement gives a type: a subroutine's own, and that of a function whose header gives it.
abbrev pub is_settled : Header → Text → Bool
is_settled (SubUnit x ds) q = bytes_eq q x
is_settled (FuncUnit (Some t) x ds) q = bytes_eq q x
is_settled _ q = false

-- the statement gives such a name a type, or the unit's own name dimensions
abbrev pub declares_own : Header → Act → Bool
declares_own h a = list_any (λ d. is_settled h d.name) (typed_in a) || list_any (λ d. is_own h d.name) (sized_in a)
