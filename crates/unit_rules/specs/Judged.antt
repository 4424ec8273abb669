-- The uses of names that have classes and counts (X3.9-1966, sections 5.1.3 and 10.1).
use Rattle.std.specs.Prelude.{List, [], ◌++◌, if◌then◌else◌}
use Rattle.f66_tree.specs.Syntax.{Formula, Item, Entry, One, Many, Entries, NoEntry, AndEntry, Act, Assign, When, Read, Write}
use Rattle.f66_tree.specs.Units.{Context}
use Rattle.f66_names.specs.Sorts.{is_array_name}
use Rattle.f66_names.specs.Uses.{Usage, uses_of, uses_of_target, uses_of_par, uses_of_counting, uses_in}

-- A target or an item with parentheses that is no array's element is at fault itself: no name in it has a class or a count.
abbrev pub judged_of_target : Context → Formula → List Usage
judged_of_target c (Item x es) = if is_array_name c x then uses_of_target (Item x es) else []
judged_of_target c e = uses_of_target e

abbrev mutual
  pub judged_of_entry : Context → Entry → List Usage
  judged_of_entry c (One e) = judged_of_target c e
  judged_of_entry c (Many es x p q r) = judged_of_entries c es ++ uses_of_counting x p q r

  pub judged_of_entries : Context → Entries → List Usage
  judged_of_entries c NoEntry = []
  judged_of_entries c (AndEntry e es) = judged_of_entry c e ++ judged_of_entries c es

-- those of a statement; COMMON, EQUIVALENCE, DATA and the arguments of a CALL have more
abbrev pub judged_uses : Context → Act → List Usage
judged_uses c (Assign x e) = judged_of_target c x ++ uses_of e
judged_uses c (When e a) = uses_of e ++ judged_uses c a
judged_uses c (Read u l es) = uses_of_par u ++ judged_of_entries c es
judged_uses c (Write u l es) = uses_of_par u ++ judged_of_entries c es
judged_uses c a = uses_in a
