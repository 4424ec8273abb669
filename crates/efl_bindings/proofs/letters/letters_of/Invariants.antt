-- The rules before have come.
use Rattle.std.proofs.Common.{drop}
use Rattle.efl_tree.specs.Views.{decls_of}
use Rattle.efl_bindings.proofs.LetterLemmas.{RulesLeft}
use Rattle.efl_bindings.proofs.letters.letters_of.Given as goal

abbrev pub invariant-loop-declaration : goal.invariant-loop-declaration
invariant-loop-declaration l = RulesLeft (decls_of l.declarations) l.letters (decls_of (drop l.declaration-index l.declarations))
