-- The laws that the names chosen for an accepted program are apart, and that its units have room for their temporaries.
use Rattle.std.specs.Prelude.{◌≡◌, true, None}
use Rattle.efl_tree.specs.Syntax.{EflProgram}
use Rattle.efl_scope.specs.FirstFault as scopes
use Rattle.efl_types.specs.Whole.{TellsWhole}
use Rattle.efl_lowered.specs.Grammatical.{IsGrammatical}
use Rattle.efl_lowered.specs.Names.{AreNames}
use Rattle.efl_lowered.specs.Needs.{HasRoom}
use Rattle.efl_naming.specs.Choice.{naming_of, is_small}

-- a program whose scopes and procedures have no fault, of the shape that the grammar gives
abbrev pub NamesAreApart : Type 0
NamesAreApart = (p : EflProgram) → scopes.first_fault p ≡ None → TellsWhole p None → IsGrammatical p → is_small p ≡ true → AreNames p (naming_of p)

abbrev pub NamingHasRoom : Type 0
NamingHasRoom = (p : EflProgram) → HasRoom p (naming_of p)
