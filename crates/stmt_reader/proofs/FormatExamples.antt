-- Formats that are computed.
use Rattle.std.proofs.Common.{◌≡◌, Some, None, refl}
use Rattle.std.specs.Prelude.{codes}
use Rattle.f66_tree.specs.declared.editing.EditKind.TheVariants as edits
use Rattle.f66_tree.specs.Fields.{NoField, Single, Group, Takes, Blanks, Chars, Slash}
use Rattle.f66_tree.specs.Syntax.{Format}
use Rattle.stmt_reader.specs.Lexing.{tokens_of}
use Rattle.stmt_reader.specs.Formats.{format_of}

whole : format_of (tokens_of (codes "(2I5/1HX)")) ≡ Some (Format (Single 2 (Takes edits.Whole 5) (Single 1 Slash (Single 1 (Chars (codes "X")) NoField))))
whole = refl

comma_beside_slash : format_of (tokens_of (codes "(2I05,/,X)")) ≡ Some (Format (Single 2 (Takes edits.Whole 5) (Single 1 Slash (Single 1 (Blanks 1) NoField))))
comma_beside_slash = refl

group : format_of (tokens_of (codes "(1(L2),3X)")) ≡ Some (Format (Group 1 (Single 1 (Takes edits.Truth 2) NoField) (Single 1 (Blanks 3) NoField)))
group = refl

empty : format_of (tokens_of (codes "()")) ≡ Some (Format NoField)
empty = refl

no_comma : format_of (tokens_of (codes "(1HX2HAB)")) ≡ None
no_comma = refl

two_commas : format_of (tokens_of (codes "(I5,,I5)")) ≡ None
two_commas = refl

long_letter : format_of (tokens_of (codes "(A12)")) ≡ None
long_letter = refl
