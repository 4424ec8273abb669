-- All tokens of a statement that can be read back are known.
use Rattle.std.proofs.Common.{cond, [], ◌∷◌, refl, ap, ◌∙◌, codes}
use Rattle.std.specs.List.{list_all}
use Rattle.f66_tree.specs.declared.declaration.TypeWord.TheVariants.{Integer, Logical, Other}
use Rattle.f66_tree.specs.Syntax.{Act}
use Rattle.stmt_text.specs.Texts.{is_one, statement_text}
use Rattle.stmt_reader.specs.declared.token.Token.TheVariants as t
use Rattle.stmt_reader.specs.Lexing.{tokens_of}
use Rattle.deck.specs.ReadableStatements.{IsReadableAct, branch, conditional, loop, format, typed, dimension, common, equivalence, preset}
use Rattle.deck.proofs.KnownTokens.{is_known, AreKnown, spell_known, par_known, step_known}
use Rattle.deck.proofs.BranchesRead.{par_token, loop_lexed}
use Rattle.deck.proofs.ConditionalsRead.{conditional_lexed}
use Rattle.deck.proofs.FormatsRead.{format_known}
use Rattle.deck.proofs.CommonsRead.{common_known}
use Rattle.deck.proofs.EquivalencesRead.{equivalence_known}
use Rattle.deck.proofs.PresetsRead.{preset_known}
use Rattle.deck.proofs.TypesRead.{names_all_known}
use Rattle.deck.proofs.ActsRead.{branch_reads, names_readable}

pub act_known : (a : Act) → IsReadableAct a → AreKnown (tokens_of (statement_text a))
act_known a (branch b readable) = let r = branch_reads b readable in ap (list_all is_known) r.tokens ∙ r.known
act_known a (conditional e b fine readable) =
    let r = branch_reads b readable in
    ap (list_all is_known) (conditional_lexed e b fine r) ∙ spell_known e (t.Close ∷ t.Word r.word ∷ r.others) r.known
act_known a (loop l x first last step small name ra rb rc) =
    ap (list_all is_known) (loop_lexed l x first last step small name ra rb rc)
    ∙ par_known first (t.Comma ∷ par_token last ∷ cond (is_one step) [] (t.Comma ∷ par_token step ∷ [])) ra (par_known last (cond (is_one step) [] (t.Comma ∷ par_token step ∷ [])) rb (step_known step (is_one step) [] rc refl))
act_known a (format fs all) = format_known fs all
act_known a (typed Integer d ds first others) = names_all_known (codes "INTEGER") d ds first.readable (names_readable ds others)
act_known a (typed Logical d ds first others) = names_all_known (codes "LOGICAL") d ds first.readable (names_readable ds others)
act_known a (typed Other d ds first others) = names_all_known (codes "REAL") d ds first.readable (names_readable ds others)
act_known a (dimension d ds first others) = names_all_known (codes "DIMENSION") d ds first.readable (names_readable ds others)
act_known a (common areas fine) = common_known areas fine
act_known a (equivalence groups fine) = equivalence_known groups fine
act_known a (preset parts fine) = preset_known parts fine
