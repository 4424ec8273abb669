-- The laws that an accepted program of EFL, whose forms are built, has the shape that its lowering asks for.
use Rattle.std.specs.Prelude.{◌≡◌, None}
use Rattle.efl_tree.specs.Syntax.{EflProgram}
use Rattle.efl_scope.specs.FirstFault as scopes
use Rattle.efl_types.specs.TypeRules as types
use Rattle.rat_grammar.specs.Tokens.{Tokens}
use Rattle.efl_grammar.specs.Programs.{Program}
use Rattle.efl_lowered.specs.Facts.{IsOverScalars}
use Rattle.efl_lowered.specs.Grammatical.{IsGrammatical}
use Rattle.efl_built.specs.Unbuilt.{first_unbuilt}

-- a program without a fault whose forms are built is one over scalars
abbrev pub BuiltIsOverScalars : Type 0
BuiltIsOverScalars = (p : EflProgram) → scopes.first_fault p ≡ None → types.first_fault p ≡ None → first_unbuilt p ≡ None → IsOverScalars p

-- a program that the grammar derives has the shape that the grammar gives
abbrev pub GrammarIsShaped : Type 0
GrammarIsShaped = (a : Tokens) (p : EflProgram) → Program a p → IsGrammatical p
